use Rattle.std.proofs.Common.{sym, ◌∙◌}
use Rattle.dsec_spec.specs.Numbers.{NSEC}
use Rattle.dsec_spec.specs.RecordViews.{nsec_of}
use Rattle.dsec_spec.proofs.RecordViewLemmas.{nsec_of-readable}
use Rattle.dsec_wire.specs.DataViews.{nsec_view}
use Rattle.dsec_wire.proofs.ViewsFound.{found}
use Rattle.dsec_wire.proofs.data.Data.nsec.Goals as goal

pub returns-clause-found : goal.returns-clause-found
returns-clause-found c =
    rw (← c.self.view_is)
    (found nsec_view nsec_of NSEC nsec_of-readable c.self.inside.rtype c.self.inside.octets c.as_slice.result.now c.read_nsec.result
    (sym c.ne.ensures ∙ c.if-ne.false) c.self.invariant c.as_slice.ensures c.read_nsec.ensures)
