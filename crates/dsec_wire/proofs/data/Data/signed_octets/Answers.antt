use Rattle.std.proofs.Common.{◌∙◌, refl}
use Rattle.dsec_spec.proofs.RecordDataLemmas.{parts_of-readable}
use Rattle.dsec_wire.proofs.data.Data.signed_octets.Goals as goal

pub returns : goal.returns
returns c =
    rw (← c.self.view_is)
    (c.new.ensures ∙ rw (c.layout.ensures, c.as_slice.ensures, parts_of-readable c.self.inside.rtype c.self.inside.octets c.self.invariant) refl)
