use Rattle.std.proofs.Common.{◌≡◌, ◌≤◌, take}
use Rattle.std.specs.Prelude.{count_by}
use Rattle.dsec_spec.specs.Redirection.{is_bare}
use Rattle.dsec_group.proofs.settle.bare_count.Given as goal

abbrev pub invariant-loop-group : goal.invariant-loop-group
invariant-loop-group l = (l.count ≡ count_by is_bare (take l.group-index l.groups)) × (l.count ≤ l.group-index)
