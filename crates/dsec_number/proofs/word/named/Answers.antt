use Rattle.std.proofs.Common.{◌∙◌}
use Rattle.dsec_number.proofs.RowLemmas.{number_by_word}
use Rattle.dsec_number.proofs.word.named.Goals as goal

pub returns : goal.returns
returns c = c.number_in.ensures ∙ number_by_word c.args.rows.now c.args.word.now
