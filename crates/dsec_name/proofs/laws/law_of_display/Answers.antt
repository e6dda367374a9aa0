use Rattle.std.proofs.Common.{ℕ, ◌<◌, All, ◌∙◌, ap}
use Rattle.dsec_name.specs.Keys.{labels_octets}
use Rattle.dsec_name.specs.Errors.{name_of_read}
use Rattle.dsec_name.specs.NameDisplay.{name_text}
use Rattle.dsec_name.proofs.DisplayLaw.{name_shown, name_shown_in, octets_fit}
use Rattle.dsec_name.proofs.NameReading.{name_of_labels-named}
use Rattle.dsec_name.proofs.NameTexts.{name_in_read, name_read}
use Rattle.dsec_name.proofs.laws.law_of_display.Goals as goal

pub returns : goal.returns
returns c =
    let name = c.args.name.now in
    let octets : All (λ (x : ℕ). x < 256) (labels_octets name) = rw (← c.octets.ensures.octets) c.in_range.ensures in
    let name_is = c.octets.ensures.name in
    let shown = name_shown name name_is.labels octets in
    record {
      writes = shown;
      back = ap name_of_read (name_read name (name_text name) shown) ∙ name_of_labels-named name name_is;
      in_zone = λ origin. ap name_of_read (name_in_read origin name (name_text name) (name_shown_in origin name name_is.labels octets)) ∙ name_of_labels-named name name_is;
      octets = octets_fit name octets;
    }
