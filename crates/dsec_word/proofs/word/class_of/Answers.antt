use Rattle.std.specs.Prelude.{codes}
use Rattle.dsec_number.specs.Words.{class_words}
use Rattle.dsec_word.proofs.WordLemmas.{number_found}
use Rattle.dsec_word.proofs.word.class_of.Goals as goal

pub returns : goal.returns
returns c = number_found class_words (codes "CLASS") c.args.text.now c.parse_class.result c.parse_class.ensures
