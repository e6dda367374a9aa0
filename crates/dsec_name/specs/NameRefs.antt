-- Names that are borrowed from octets.
use Rattle.std.specs.Prelude.{ℕ, List}
use Rattle.std.specs.Borrow.{Bor}
use Rattle.dsec_spec.specs.Names.{Labels}
use Rattle.dsec_name.specs.Keys.{labels_of}
use Rattle.dsec_name.specs.declared.name_ref.NameRef.{NameRef}

-- the labels of a borrowed name, the leftmost first and without the root's
abbrev pub name_view : NameRef → Labels
name_view it = labels_of it.octets.now

-- a borrowed name, and the octets after it
abbrev pub prefix_view : NameRef × Bor (List ℕ) → Labels × List ℕ
prefix_view it = (name_view it.0, it.1.now)
