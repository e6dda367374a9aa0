use Rattle.std.proofs.Common.{◌∙◌}
use Rattle.dsec_number.proofs.RowLemmas.{word_by_number}
use Rattle.dsec_number.proofs.word.word.Goals as goal

pub returns : goal.returns
returns c = c.word_in.ensures ∙ word_by_number c.args.rows.now c.args.number
