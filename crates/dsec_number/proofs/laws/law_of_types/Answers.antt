use Rattle.dsec_number.proofs.WordsBack.{types_read_back}
use Rattle.dsec_number.proofs.laws.law_of_types.Goals as goal

pub returns : goal.returns
returns c = types_read_back
