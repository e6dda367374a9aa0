-- The text of the owner that was written last, in code.
use Rattle.std.specs.Prelude.{ℕ, List, Option, Some, None}
use Rattle.std.proofs.Common.{Bor}
use Rattle.dsec_spec.specs.Names.{Labels}
use Rattle.dsec_name.specs.NameDisplay.{name_text}

-- the text of an owner, where there is one, and else this one
abbrev pub text_or : Option (Bor Labels) → List ℕ → List ℕ
text_or (Some name) text = name_text name.now
text_or None text = text
