use Rattle.std.proofs.Common.{sym, ◌∙◌}
use Rattle.dsec_spec.specs.Numbers.{NSEC3}
use Rattle.dsec_spec.specs.RecordViews.{nsec3_of}
use Rattle.dsec_spec.proofs.RecordViewLemmas.{nsec3_of-readable}
use Rattle.dsec_wire.specs.DataViews.{nsec3_view}
use Rattle.dsec_wire.proofs.ViewsFound.{found}
use Rattle.dsec_wire.proofs.data.Data.nsec3.Goals as goal

pub returns-clause-found : goal.returns-clause-found
returns-clause-found c =
    rw (← c.self.view_is)
    (found nsec3_view nsec3_of NSEC3 nsec3_of-readable c.self.inside.rtype c.self.inside.octets c.as_slice.result.now c.read_nsec3.result
    (sym c.ne.ensures ∙ c.if-ne.false) c.self.invariant c.as_slice.ensures c.read_nsec3.ensures)
