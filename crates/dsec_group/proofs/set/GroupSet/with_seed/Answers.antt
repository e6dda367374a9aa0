use Rattle.std.proofs.Common.{◌∙◌, sym}
use Rattle.dsec_group.proofs.GroupLaws.{groups_of_none}
use Rattle.dsec_group.proofs.PlaceLaws.{kept_none}
use Rattle.dsec_group.proofs.set.GroupSet.with_seed.Goals as goal

pub invariant_of-result : goal.invariant_of-result
invariant_of-result c = kept_none c.new-2.result c.new.result.items c.new.ensures.items c.new-2.ensures.unmade

pub returns-clause-groups : goal.returns-clause-groups
returns-clause-groups c = c.new.ensures.items ∙ sym groups_of_none
