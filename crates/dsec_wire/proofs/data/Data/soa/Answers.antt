use Rattle.std.proofs.Common.{sym, ◌∙◌}
use Rattle.dsec_spec.specs.Numbers.{SOA}
use Rattle.dsec_spec.specs.RecordViews.{soa_of}
use Rattle.dsec_spec.proofs.RecordViewLemmas.{soa_of-readable}
use Rattle.dsec_wire.specs.DataViews.{soa_view}
use Rattle.dsec_wire.proofs.ViewsFound.{found}
use Rattle.dsec_wire.proofs.data.Data.soa.Goals as goal

pub returns-clause-found : goal.returns-clause-found
returns-clause-found c =
    rw (← c.self.view_is)
    (found soa_view soa_of SOA soa_of-readable c.self.inside.rtype c.self.inside.octets c.as_slice.result.now c.read_soa.result
    (sym c.ne.ensures ∙ c.if-ne.false) c.self.invariant c.as_slice.ensures c.read_soa.ensures)
