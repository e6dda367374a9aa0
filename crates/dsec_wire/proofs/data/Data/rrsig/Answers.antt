use Rattle.std.proofs.Common.{sym, ◌∙◌}
use Rattle.dsec_spec.specs.Numbers.{RRSIG}
use Rattle.dsec_spec.specs.Records.{rrsig_of}
use Rattle.dsec_wire.specs.Views.{rrsig_view}
use Rattle.dsec_wire.proofs.RrsigReading.{rrsig_from_readable}
use Rattle.dsec_wire.proofs.ViewsFound.{found}
use Rattle.dsec_wire.proofs.data.Data.rrsig.Goals as goal

pub returns-clause-found : goal.returns-clause-found
returns-clause-found c =
    rw (← c.self.view_is)
    (found rrsig_view rrsig_of RRSIG rrsig_from_readable c.self.inside.rtype c.self.inside.octets c.as_slice.result.now c.read_rrsig.result
    (sym c.ne.ensures ∙ c.if-ne.false) c.self.invariant c.as_slice.ensures c.read_rrsig.ensures)
