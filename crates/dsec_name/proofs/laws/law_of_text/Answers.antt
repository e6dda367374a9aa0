use Rattle.dsec_name.proofs.NameTexts.{name_written, name_read}
use Rattle.dsec_name.proofs.laws.law_of_text.Goals as goal

pub returns : goal.returns
returns c = λ text labels. (λ e. (name_written text labels e).0, λ w. name_read labels text w)
