use Rattle.std.proofs.Common.{sym, string_bytes, ◌∙◌, ap, ◌∷◌, []}
use Rattle.dsec_answer.proofs.Top.{one_word, is_word}
use Rattle.dsec_answer.proofs.command.is_validate.Goals as goal

pub returns-in-len1 : goal.returns-in-len1
returns-in-len1 c =
    let ws = one_word (λ w. string_bytes w) c.args.words.now c.word-item.result c.in-len1.len_at_least c.in-len1.len_below in
    is_word _ _ _ c.eq.result (ws ∙ ap (λ w. string_bytes w ∷ []) (sym c.word-item.is)) (rw (sym c.as_str.ensures.value) c.eq.ensures)
