use Rattle.std.proofs.Common.{sym, ◌∙◌}
use Rattle.dsec_spec.specs.Numbers.{NSEC3PARAM}
use Rattle.dsec_spec.specs.RecordViews.{nsec3param_of}
use Rattle.dsec_spec.proofs.RecordViewLemmas.{nsec3param_of-readable}
use Rattle.dsec_wire.specs.DataViews.{hashing_view}
use Rattle.dsec_wire.proofs.ViewsFound.{found}
use Rattle.dsec_wire.proofs.data.Data.nsec3param.Goals as goal

pub returns-clause-found : goal.returns-clause-found
returns-clause-found c =
    rw (← c.self.view_is)
    (found hashing_view nsec3param_of NSEC3PARAM nsec3param_of-readable c.self.inside.rtype c.self.inside.octets c.as_slice.result.now c.read_nsec3param.result
    (sym c.ne.ensures ∙ c.if-ne.false) c.self.invariant c.as_slice.ensures c.read_nsec3param.ensures)
