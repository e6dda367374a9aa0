use Rattle.dsec_word.proofs.NumberLemmas.{number_missing, number_within}
use Rattle.dsec_word.proofs.digits.number.Goals as goal

pub returns-in-None-clause-value : goal.returns-in-None-clause-value
returns-in-None-clause-value c = number_missing c.args.word.now c.args.most c.ranges.most.fits c.in-None.ensures

pub returns-else-number-most-clause-value : goal.returns-else-number-most-clause-value
returns-else-number-most-clause-value c = number_within c.args.word.now c.in-Some.number c.args.most c.in-Some.ensures c.if-number-most.false
