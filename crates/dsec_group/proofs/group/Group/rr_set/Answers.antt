use Rattle.std.proofs.Common.{sym}
use Rattle.dsec_group.proofs.TogetherLaws.{records_stand}
use Rattle.dsec_group.proofs.group.Group.rr_set.Goals as goal

pub returns-clause-together : goal.returns-clause-together
returns-clause-together c = rw (c.as_slice.ensures, sym c.self.view_is) (records_stand c.self.inside.records c.self.inside.signatures c.self.invariant)
