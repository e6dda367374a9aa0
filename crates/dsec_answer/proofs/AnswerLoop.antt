-- Texts of outcomes, one after the other.
use Rattle.std.proofs.Common.{◌≡◌, ℕ, suc, List, [], ◌∷◌, ◌++◌, ◌+◌, length, refl, sym, ap, ◌∙◌, append_assoc, append-nil, arith}
use Rattle.dsec_answer.specs.Told.{Outcome}
use Rattle.dsec_answer.specs.Texts.{outcome_text}
use Rattle.dsec_answer.specs.Outcomes.{texts_from}

pub texts_append : (index : ℕ) (xs ys : List Outcome) → texts_from index (xs ++ ys) ≡ texts_from index xs ++ texts_from (index + length xs) ys
unfolding texts_from
texts_append index [] ys =
    let n : index ≡ index + 0 = omega arith in
    ap (λ k. texts_from k ys) n
texts_append index (x ∷ xs) ys =
    let n : index + 1 + length xs ≡ index + suc (length xs) = omega arith in
    ap (λ t. outcome_text index x ++ t) (texts_append (index + 1) xs ys)
    ∙ (sym (append_assoc (outcome_text index x) (texts_from (index + 1) xs) _)
    ∙ ap (λ k. (outcome_text index x ++ texts_from (index + 1) xs) ++ texts_from k ys) n)

pub one_text : (index : ℕ) (x : Outcome) → texts_from index (x ∷ []) ≡ outcome_text index x
unfolding texts_from
one_text index x = append-nil (outcome_text index x)

-- of no outcomes there is no text
pub no_texts : texts_from 0 [] ≡ []
unfolding texts_from
no_texts = refl
