use Rattle.dsec_number.proofs.WordsBack.{classes_read_back}
use Rattle.dsec_number.proofs.laws.law_of_classes.Goals as goal

pub returns : goal.returns
returns c = classes_read_back
