use Rattle.std.proofs.Common.{sym}
use Rattle.dsec_group.proofs.TogetherLaws.{signatures_cover, signatures_stand}
use Rattle.dsec_group.proofs.group.Group.sig_set.Goals as goal

pub returns-clause-together : goal.returns-clause-together
returns-clause-together c = rw (c.as_slice.ensures, sym c.self.view_is) (signatures_stand c.self.inside.records c.self.inside.signatures c.self.invariant)

pub returns-clause-covering : goal.returns-clause-covering
returns-clause-covering c = rw (c.as_slice.ensures, sym c.self.view_is) (signatures_cover c.self.inside.records c.self.inside.signatures c.self.invariant)
