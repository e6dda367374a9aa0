-- The sum of a key's words.
use Rattle.std.proofs.Common.{◌≡◌, ℕ, suc, ◌+◌, ◌-◌, ◌*◌, ◌<◌, ◌≤◌, List, [], ◌∷◌, length, get_or, drop, refl, ap, ◌∙◌, arith}
use Rattle.std.specs.Prelude.{reverse}
use Rattle.std.proofs.lemmas.List.{get_or-reverse, length-reverse}
use Rattle.dsec_spec.specs.KeyTag.{word_sum, modulus_tag}

-- each word is below 2 ^ 16
pub word_sum_bound : (x : List ℕ) → ((i : ℕ) → get_or x i 0 < 256) → 2 * word_sum x ≤ 65535 * (length x + 1)
word_sum_bound [] small = omega arith
word_sum_bound (high ∷ []) small = let h : high < 256 = small 0 in omega arith
word_sum_bound (high ∷ low ∷ x) small =
    let h : high < 256 = small 0 in
    let l : low < 256 = small 1 in
    let others = word_sum_bound x (λ i. small (suc (suc i))) in
    omega arith

pub two_words : (x : List ℕ) → 2 ≤ length x → word_sum x ≡ get_or x 0 0 * 256 + get_or x 1 0 + word_sum (drop 2 x)
two_words [] long = absurd (omega arith)
two_words (high ∷ []) long = absurd (omega arith)
two_words (high ∷ low ∷ x) long = refl

pub one_word : (x : List ℕ) → length x ≡ 1 → word_sum x ≡ get_or x 0 0 * 256
one_word [] long = absurd (omega arith)
one_word (high ∷ []) long = refl
one_word (high ∷ low ∷ x) long = absurd (omega arith)

from_the_last : (x : List ℕ) → 3 ≤ length x → modulus_tag x ≡ get_or x 2 0 * 256 + get_or x 1 0
from_the_last [] long = absurd (omega arith)
from_the_last (last ∷ []) long = absurd (omega arith)
from_the_last (last ∷ second ∷ []) long = absurd (omega arith)
from_the_last (last ∷ second ∷ third ∷ x) long = refl

-- the octets of the modulus, counted from the first
pub modulus_octets : (x : List ℕ) → 3 ≤ length x → modulus_tag (reverse x) ≡ get_or x (length x - 3) 0 * 256 + get_or x (length x - 2) 0
modulus_octets x long =
    let n = length-reverse x in
    let third : get_or (reverse x) 2 0 ≡ get_or x (length x - 3) 0 = get_or-reverse x 2 0 (omega arith) ∙ ap (λ (i : ℕ). get_or x i 0) (omega arith) in
    let second : get_or (reverse x) 1 0 ≡ get_or x (length x - 2) 0 = get_or-reverse x 1 0 (omega arith) ∙ ap (λ (i : ℕ). get_or x i 0) (omega arith) in
    rw (from_the_last (reverse x) (omega arith), third, second) refl
