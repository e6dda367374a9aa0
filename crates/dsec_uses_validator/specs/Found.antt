-- What the program finds of a reply that it judges.
use Rattle.std.specs.Prelude.{◌≡◌, ℕ, List, codes, Option, Some, None, Result, Ok, Err}
use Rattle.std.specs.Io.KnownBytes.{Appends}
use Rattle.dsec_spec.specs.Outside.{Table}
use Rattle.dsec_word.specs.Words.{hex_in}
use Rattle.dsec_nodes.specs.World.{World}
use Rattle.dsec_nodes.specs.Outcomes.{State, secure}
use Rattle.dsec_found.specs.declared.error.Error.{Error}
use Rattle.dsec_context.specs.Verdicts.{Verdict}
use Rattle.dsec_context.specs.Outside.{Outside}
use Rattle.dsec_context.specs.Promised.{HandsOnMessage}

-- a verdict, where its state is Secure (RFC 4033 5)
abbrev pub in_state : Verdict → State → Option Verdict
in_state v secure = Some v
in_state v _ = None

abbrev pub only_secure : Verdict → Option Verdict
only_secure v = in_state v v.outcome.state

-- A reply was judged, and is left for whoever it is handed on to: what was found is its verdict, where that is Secure, and nothing where it is
-- another; or it was refused
abbrev pub Finds : World → ℕ → List ℕ → Option Table → Outside → Outside → Result (Option Verdict) Error → List ℕ → Type 0
Finds w most message table before after (Ok found) left = (v : Verdict) × HandsOnMessage w most message table before after (Ok v) left × (found ≡ only_secure v)
Finds w most message table before after (Err e) left = HandsOnMessage w most message table before after (Err e) left

-- what is written of a reply: whether it is Secure, or that it isn't judged
abbrev pub found_line : Result (Option Verdict) Error → List ℕ
found_line (Ok (Some v)) = codes "secure: true\n"
found_line (Ok None) = codes "secure: false\n"
found_line (Err e) = codes "refused\n"

-- a reply was judged, and what was found of it went out as a line
abbrev pub Tells : World → ℕ → List ℕ → Option Table → Outside → Outside → Option (List ℕ) → Option (List ℕ) → List ℕ → Type 0
Tells w most message table before after written now left =
    (found : Result (Option Verdict) Error) × Finds w most message table before after found left × Appends written now (found_line found)

-- so of the reply that a line writes in hex
abbrev pub TellsLine : World → ℕ → List ℕ → Option Table → Outside → Outside → Option (List ℕ) → Option (List ℕ) → Type 0
TellsLine w most line table before after written now =
    (message left : List ℕ) × (hex_in line ≡ Some message) × Tells w most message table before after written now left
