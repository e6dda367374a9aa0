use Rattle.std.proofs.Common.{sym, ◌∙◌}
use Rattle.dsec_spec.specs.Numbers.{CNAME}
use Rattle.dsec_spec.specs.RecordViews.{target_of}
use Rattle.dsec_spec.proofs.RecordViewLemmas.{target_of-cname}
use Rattle.dsec_wire.specs.DataViews.{cname_view}
use Rattle.dsec_wire.proofs.ViewsFound.{found}
use Rattle.dsec_wire.proofs.data.Data.cname.Goals as goal

pub returns-clause-found : goal.returns-clause-found
returns-clause-found c =
    rw (← c.self.view_is)
    (found cname_view target_of CNAME target_of-cname c.self.inside.rtype c.self.inside.octets c.as_slice.result.now c.read_cname.result
    (sym c.ne.ensures ∙ c.if-ne.false) c.self.invariant c.as_slice.ensures c.read_cname.ensures)
