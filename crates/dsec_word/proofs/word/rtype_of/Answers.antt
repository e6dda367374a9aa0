use Rattle.std.specs.Prelude.{codes}
use Rattle.dsec_number.specs.Words.{type_words}
use Rattle.dsec_word.proofs.WordLemmas.{number_found}
use Rattle.dsec_word.proofs.word.rtype_of.Goals as goal

pub returns : goal.returns
returns c = number_found type_words (codes "TYPE") c.args.text.now c.parse_rtype.result c.parse_rtype.ensures
