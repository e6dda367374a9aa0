use Rattle.std.proofs.Common.{◌∙◌, ap}
use Rattle.dsec_spec.specs.Names.{Labels}
use Rattle.dsec_name.specs.Keys.{labels_of}
use Rattle.dsec_name.specs.NameText.{WritesNameIn}
use Rattle.dsec_name.specs.TextReading.{text_labels_in}
use Rattle.dsec_name.proofs.NameParts.{IsWhole-octets, labels_of-octets}
use Rattle.dsec_name.proofs.NameReading.{answers, IsName-some}
use Rattle.dsec_name.proofs.NameTexts.{name_in_written, name_in_read}
use Rattle.dsec_name.proofs.name.Name.parse_in.Goals as goal

pub read_text-requires : goal.read_text-requires
read_text-requires c = rw c.octets.ensures.octets (IsWhole-octets c.args.origin.now c.octets.ensures.name)

pub returns-clause-exact : goal.returns-clause-exact
returns-clause-exact c =
    let same = ap labels_of c.octets.ensures.octets ∙ labels_of-octets c.args.origin.now in
    rw (← same) c.read_text.ensures

pub returns-clause-meaning : goal.returns-clause-meaning
returns-clause-meaning c =
    let text = c.args.text.now in
    let origin = c.args.origin.now in
    let same = ap labels_of c.octets.ensures.octets ∙ labels_of-octets origin in
    let some = IsName-some origin c.octets.ensures.name.labels in
    answers (λ (labels : Labels). WritesNameIn origin labels text) (text_labels_in origin text)
    (λ labels e. name_in_written origin text labels some e)
    (λ labels w. name_in_read origin labels text w)
    c.read_text.result (rw (← same) c.read_text.ensures)
