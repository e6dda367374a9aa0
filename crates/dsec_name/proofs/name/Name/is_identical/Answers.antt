use Rattle.std.proofs.Common.{sym, ap, ◌∙◌}
use Rattle.std.proofs.lemmas.Slice.Eq.{bytes_eq-Decides}
use Rattle.dsec_name.specs.Keys.{labels_octets, labels_of}
use Rattle.dsec_name.proofs.NameParts.{labels_of-octets}
use Rattle.dsec_name.proofs.name.Name.is_identical.Goals as goal

-- the octets are of one name, which they are read back as
pub returns : goal.returns
returns c =
    let own = c.octets.ensures.octets in
    let others = c.octets-2.ensures.octets in
    let told = bytes_eq-Decides c.octets.result.now c.octets-2.result.now in (
      λ t. sym (labels_of-octets c.args.self.now) ∙ (ap labels_of (sym own ∙ (told.0 (sym c.eq.ensures ∙ t) ∙ others)) ∙ labels_of-octets c.args.other.now),
      λ e. c.eq.ensures ∙ told.1 (own ∙ (ap labels_octets e ∙ sym others)),
    )
