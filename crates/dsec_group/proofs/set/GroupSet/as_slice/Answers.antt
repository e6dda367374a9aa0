use Rattle.std.proofs.Common.{ap, subst}
use Rattle.dsec_group.specs.Keys.{AreDistinct}
use Rattle.dsec_group.specs.Places.{SeededGroups}
use Rattle.dsec_group.proofs.SetLaws.{distinct_groups}
use Rattle.dsec_group.proofs.set.GroupSet.as_slice.Goals as goal

pub returns-clause-distinct : goal.returns-clause-distinct
returns-clause-distinct c = let apart = c.self.invariant.0 in subst AreDistinct (ap (λ (v : SeededGroups). v.groups) c.self.view_is) (distinct_groups apart.0 c.self.inside.groups.items apart.2 apart.1)
