-- The heads of names, as the code has them.
use Rattle.std.specs.Prelude.{ℕ, ◌+◌, ◌<◌, ◌≤◌}
use Rattle.dsec_spec.specs.WireNames as names
use Rattle.dsec_wire.specs.declared.numbers.Head.{Head}
use Rattle.dsec_wire.specs.declared.numbers.Head.TheVariants.{Root, Label, Pointer}

-- a head of the code
abbrev pub head_view : Head → names.Head
head_view Root = names.root
head_view (Label size) = names.label size
head_view (Pointer target) = names.pointer target

-- the head and its octets lie within so many octets
abbrev pub StandsWithin : ℕ → ℕ → Head → Type 0
StandsWithin at length Root = at < length
StandsWithin at length (Label size) = at + 1 + size ≤ length
StandsWithin at length (Pointer target) = (at + 2 ≤ length) × (target < at)
