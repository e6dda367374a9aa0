-- What structs of the code say.
use Rattle.std.specs.Prelude.{Bool}
use Rattle.dsec_rewrite.specs.Cutting.{Bounded, is_changed}
use Rattle.dsec_rewrite.specs.declared.bounded.BoundedGroup.{BoundedGroup}

-- a group and its bound, as the code has them
abbrev pub bounded_view : BoundedGroup → Bounded
bounded_view it = record { group = it.group.now; bound = it.adjust_ttl }

-- whether the group's records differ from those that came
abbrev pub is_different : BoundedGroup → Bool
is_different it = is_changed (bounded_view it)
