use Rattle.dsec_spec.specs.Names.{Labels}
use Rattle.dsec_name.specs.NameText.{WritesName}
use Rattle.dsec_name.specs.TextReading.{text_labels}
use Rattle.dsec_name.proofs.NameReading.{answers}
use Rattle.dsec_name.proofs.NameTexts.{name_written, name_read}
use Rattle.dsec_name.proofs.name.Name.parse.Goals as goal

pub returns-clause-meaning : goal.returns-clause-meaning
returns-clause-meaning c =
    let text = c.args.text.now in
    answers (λ (labels : Labels). WritesName labels text) (text_labels text)
    (λ labels e. name_written text labels e)
    (λ labels w. name_read labels text w)
    c.read_text.result (rw (← c.as_bytes.ensures.value) c.read_text.ensures)
