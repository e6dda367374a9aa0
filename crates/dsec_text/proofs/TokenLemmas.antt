-- Tokens of zone text, one after the other.
use Rattle.std.proofs.Common.{◌≡◌, ℕ, zero, suc, ◌+◌, ◌<◌, ◌≤◌, List, [], ◌∷◌, length, take, drop, refl, sym, ap, arith}
use Rattle.std.specs.Prelude.{Bool, true, false, nat_lt, Option, Some, None, ◌==◌, if◌then◌else◌}
use Rattle.std.specs.List.{position, position_or_len}
use Rattle.std.specs.Option.{unwrap_or}
use Rattle.std.proofs.lemmas.Bool.Decides.{nat_tests}
use Rattle.std.proofs.Math.Bool.{not}
use Rattle.std.proofs.lemmas.List.{length-drop}
use Rattle.std.proofs.lemmas.List.Sums.{prefix_len-le-length}
use Rattle.dsec_text.specs.Escapes.{is_blank, is_line_end, is_between, front}
use Rattle.dsec_text.specs.Tokens.{Token, ends_word, ends_quote, word_at, quoted_at, token_at, tokens_within, tokens_of}
use Rattle.dsec_text.specs.declared.token.Kind.{Kind}
use Rattle.dsec_text.specs.Words.{with_word, word_in, words_in, words_of}
use Rattle.dsec_text.proofs.FrontText.{front_within-length}

-- what holds of both holds of the chosen one
pub choose : {A : Type 0} (P : A → Type 0) (t : Bool) (x y : A) → (t ≡ true → P x) → (t ≡ false → P y) → P (if t then x else y)
choose P true x y first second = first refl
choose P false x y first second = second refl

-- a token has one octet at least, and no more than there are
pub record IsSized (text : List ℕ) (token : Kind × ℕ) : Type 0 where
  pub some : 0 < token.1
  pub within : token.1 ≤ length text

line_within : (text : List ℕ) → position_or_len is_line_end text ≤ length text
line_within text = prefix_len-le-length (λ (x : ℕ). not (is_line_end x)) text

pub no_end : (c : ℕ) (text : List ℕ) (n : ℕ) → is_between c ≡ false → ends_word (drop n (c ∷ text)) ≡ true → 0 < n
no_end c text zero e h = absurd cc
no_end c text (suc n) e h = omega arith

word_sized : (c : ℕ) (text : List ℕ) → is_between c ≡ false → IsSized (c ∷ text) (word_at (c ∷ text))
word_sized c text e =
    choose (IsSized (c ∷ text)) (ends_word (drop (front false (c ∷ text)).1 (c ∷ text))) _ _
    (λ h. record { some = no_end c text (front false (c ∷ text)).1 e h; within = front_within-length false (c ∷ text) })
    (λ h. record { some = omega arith; within = omega arith })

some_quote : (text : List ℕ) (n : ℕ) → n ≤ length text → ends_quote (drop n text) ≡ true → n + 1 ≤ length text
some_quote [] zero l h = absurd cc
some_quote [] (suc n) l h = absurd (omega arith)
some_quote (c ∷ text) zero l h = omega arith
some_quote (c ∷ text) (suc n) l h = let next = some_quote text n (omega arith) h in omega arith

quoted_sized : (c : ℕ) (text : List ℕ) → IsSized (c ∷ text) (quoted_at text)
quoted_sized c text =
    choose (IsSized (c ∷ text)) (ends_quote (drop (front true text).1 text)) _ _
    (λ h. let s = some_quote text (front true text).1 (front_within-length true text) h in record { some = omega arith; within = omega arith })
    (λ h. record { some = omega arith; within = omega arith })

pub token_sized : (c : ℕ) (text : List ℕ) → IsSized (c ∷ text) (token_at (c ∷ text))
token_sized c text =
    let P : Kind × ℕ → Type 0 = IsSized (c ∷ text) in
    choose P (is_blank c) _ _ (λ e. record { some = omega arith; within = omega arith })
    (λ a. choose P (is_line_end c) _ _ (λ e. record { some = omega arith; within = omega arith })
    (λ b. choose P (c == 40) _ _ (λ e. record { some = omega arith; within = omega arith })
    (λ d. choose P (c == 41) _ _ (λ e. record { some = omega arith; within = omega arith })
    (λ f. choose P (c == 59) _ _ (λ e. let l = line_within text in record { some = omega arith; within = omega arith })
    (λ g. choose P (c == 34) _ _ (λ e. quoted_sized c text)
    (λ h. word_sized c text (rw (a, b, d, f, g) refl)))))))

pub shorter : (n : ℕ) (text : List ℕ) (k : ℕ) → length text ≤ n + 1 → 0 < k → length (drop k text) ≤ n
shorter n text k l s = omega (arith, length-drop k text)

room : (n m : ℕ) (text : List ℕ) → length text ≤ n → length text ≤ m → tokens_within n text ≡ tokens_within m text
room zero zero text a b = refl
room zero (suc m) [] a b = refl
room zero (suc m) (c ∷ text) a b = absurd (omega arith)
room (suc n) zero [] a b = refl
room (suc n) zero (c ∷ text) a b = absurd (omega arith)
room (suc n) (suc m) [] a b = refl
room (suc n) (suc m) (c ∷ text) a b =
    let s = token_sized c text in
    let k = (token_at (c ∷ text)).1 in
    ap (λ (x : List Token). record { kind = (token_at (c ∷ text)).0; octets = take k (c ∷ text) } ∷ x)
    (room n m (drop k (c ∷ text)) (shorter n (c ∷ text) k (omega arith) s.some) (shorter m (c ∷ text) k (omega arith) s.some))

-- a token, and the others
pub tokens_step : (text : List ℕ) → 0 < length text → tokens_of text ≡ record { kind = (token_at text).0; octets = take (token_at text).1 text } ∷ tokens_of (drop (token_at text).1 text)
tokens_step [] some = absurd (omega arith)
tokens_step (c ∷ text) some =
    let s = token_sized c text in
    let k = (token_at (c ∷ text)).1 in
    ap (λ (x : List Token). record { kind = (token_at (c ∷ text)).0; octets = take k (c ∷ text) } ∷ x)
    (room (length text) (length (drop k (c ∷ text))) (drop k (c ∷ text)) (shorter (length text) (c ∷ text) k (omega arith) s.some) (omega arith))

-- ---- steps of the code

no_less : (a b : ℕ) → a ≤ b → nat_lt a b ≡ false → a ≡ b
no_less a b l e = grind (arith, nat_tests)

-- the first LF, or the end
pub line_or_end : (text : List ℕ) → unwrap_or (position is_line_end text) (length text) ≡ position_or_len is_line_end text
line_or_end text =
    let P : Option ℕ → Type 0 = λ (found : Option ℕ). unwrap_or found (length text) ≡ position_or_len is_line_end text in
    choose P (nat_lt (position_or_len is_line_end text) (length text)) (Some (position_or_len is_line_end text)) None
    (λ e. refl)
    (λ e. sym (no_less (position_or_len is_line_end text) (length text) (line_within text) e))

pub token_some : (text : List ℕ) → 0 < length text → 0 < (token_at text).1
token_some [] some = absurd (omega arith)
token_some (c ∷ text) some = (token_sized c text).some

pub token_within : (text : List ℕ) → 0 < length text → (token_at text).1 ≤ length text
token_within [] some = absurd (omega arith)
token_within (c ∷ text) some = (token_sized c text).within

-- a text that isn't empty
pub some_left : (n : ℕ) {b : Bool} → b ≡ false → b ≡ (n == 0) → 0 < n
some_left n e f = grind (arith, nat_tests)

pub none_left : (n : ℕ) {b : Bool} → b ≡ true → b ≡ (n == 0) → n ≤ 0
none_left n e f = grind (arith, nat_tests)

-- the words from a token on
pub words_step : (rest octets after : List ℕ) (token : Kind × ℕ) → 0 < length rest → token ≡ token_at rest → octets ≡ take token.1 rest → after ≡ drop token.1 rest → words_of rest ≡ with_word (word_in token.0 octets) (words_of after)
words_step rest octets after token some e f g =
    rw (f, g, e) (ap words_in (tokens_step rest some))
