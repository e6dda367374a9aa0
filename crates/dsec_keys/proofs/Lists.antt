-- Keys with their tags, one after the other, and as signatures name them.
use Rattle.std.proofs.Common.{◌≡◌, ℕ, ◌+◌, ◌*◌, ◌^◌, ◌<◌, ◌==◌, ◌&&◌, Bool, true, false, List, [], ◌∷◌, ◌++◌, map, take, length, Option, Some, None, refl, sym, ap, subst, ◌∙◌, arith}
use Rattle.std.specs.Prelude.{slice_get}
use Rattle.std.specs.Option.{option_map}
use Rattle.std.proofs.lemmas.Bool.{eq-eqb, eqb-true, eqb-false}
use Rattle.std.proofs.lemmas.List.{length-map, length-take, map_push, take_more}
use Rattle.std.proofs.lemmas.List.Elements.{All-push}
use Rattle.std.proofs.lemmas.Option.{get_or_from_slice_get, same_Some, slice_get-map, slice_get_within}
use Rattle.dsec_spec.specs.KeyTag.{key_tag}
use Rattle.dsec_spec.specs.Records.{Key}
use Rattle.dsec_keys.specs.Indexes.{HaveTags, IsNextBy, NonePasses, code_of, entries_of, entry_of, is_code, is_named}
use Rattle.dsec_keys.proofs.Entries.{entry_more}

module _ (keys : List Key) (i : ℕ) (x : Key) (there : slice_get keys i ≡ Some x) where
  more : take (i + 1) keys ≡ take i keys ++ x ∷ []
  more = take_more keys i x (slice_get_within keys i x there) ∙ ap (λ y. take i keys ++ y ∷ []) (get_or_from_slice_get keys i x x there)

  pub entries_more : (es : List ℕ) (e : ℕ) → es ≡ entries_of (map code_of (take i keys)) → e ≡ entry_of (code_of x) i
      → es ++ e ∷ [] ≡ entries_of (map code_of (take (i + 1) keys))
  entries_more es e so_far one =
      let cs = map code_of (take i keys) in
      let size = length-map (take i keys) code_of ∙ length-take i keys in
      let below = slice_get_within keys i x there in
      let at : 0 + length cs ≡ i = omega (arith, size, below) in
      let codes : map code_of (take (i + 1) keys) ≡ cs ++ code_of x ∷ [] = ap (map code_of) more ∙ map_push code_of (take i keys) x in
      ap (λ s. s ++ e ∷ []) so_far ∙ (ap (λ n. entries_of cs ++ n ∷ []) (one ∙ ap (entry_of (code_of x)) (sym at))
      ∙ (sym (entry_more cs 0 (code_of x)) ∙ ap entries_of (sym codes)))

  pub tags_more : HaveTags (take i keys) → key_tag x < 2 ^ 16 → HaveTags (take (i + 1) keys)
  tags_more so_far short = subst HaveTags (sym more) (All-push (λ key. key_tag key < 2 ^ 16) (take i keys) x so_far short)

-- codes are the same where algorithms and tags are
module _ (algorithm tag : ℕ) (short : tag < 2 ^ 16) (key : Key) (fits : key_tag key < 2 ^ 16) where
  pub code_names : is_code (algorithm * 2 ^ 16 + tag) (code_of key) ≡ is_named algorithm tag key
  code_names = by (algorithm == key.algorithm) (tag == key_tag key) refl refl
    where
      unlike : (m n : ℕ) → (m ≡ n → ⊥) → (m == n) ≡ false
      unlike m n h = go (m == n) refl where
        go : (b : Bool) → (m == n) ≡ b → (m == n) ≡ false
        go true e = absurd (h (eqb-true m n e))
        go false e = e

      by : (a t : Bool) → (algorithm == key.algorithm) ≡ a → (tag == key_tag key) ≡ t → is_code (algorithm * 2 ^ 16 + tag) (code_of key) ≡ (a && t)
      by true true e f = let x = eqb-true algorithm key.algorithm e in let y = eqb-true tag (key_tag key) f in eq-eqb _ _ (omega (arith, x, y))
      by true false e f = let x = eqb-true algorithm key.algorithm e in let y = eqb-false tag (key_tag key) f in unlike _ _ (λ same. y (omega (arith, same, x)))
      by false t e f = let x = eqb-false algorithm key.algorithm e in unlike _ _ (λ same. x (omega (arith, same, short, fits)))

module _ (algorithm tag from : ℕ) (short : tag < 2 ^ 16) (keys : List Key) (fit : HaveTags keys) where
  names_at : (i : ℕ) (key : Key) → slice_get keys i ≡ Some key → is_code (algorithm * 2 ^ 16 + tag) (code_of key) ≡ is_named algorithm tag key
  names_at i key there = code_names algorithm tag short key (subst (λ k. key_tag k < 2 ^ 16) (get_or_from_slice_get keys i key key there) (fit i key (slice_get_within keys i key there)))

  code_at : (i : ℕ) (key : Key) → slice_get keys i ≡ Some key → slice_get (map code_of keys) i ≡ Some (code_of key)
  code_at i key there = slice_get-map code_of keys i ∙ ap (option_map code_of) there

  none_named : (to : ℕ) → NonePasses (is_code (algorithm * 2 ^ 16 + tag)) from to (map code_of keys) → NonePasses (is_named algorithm tag) from to keys
  none_named to none i key on below there = sym (names_at i key there) ∙ none i (code_of key) on below (code_at i key there)

  pub next_named : (found : Option ℕ) → IsNextBy (is_code (algorithm * 2 ^ 16 + tag)) from (map code_of keys) found → IsNextBy (is_named algorithm tag) from keys found
  next_named None none = subst (λ n. NonePasses (is_named algorithm tag) from n keys) (length-map keys code_of) (none_named (length (map code_of keys)) none)
  next_named (Some at) h = by (slice_get keys at) refl
    where
      by : (o : Option Key) → slice_get keys at ≡ o → IsNextBy (is_named algorithm tag) from keys (Some at)
      by None e = absurd (no_code (sym (ap (option_map code_of) e) ∙ (sym (slice_get-map code_of keys at) ∙ h.1.1)))
        where
          no_code : None ≡ Some h.1.0 → ⊥
          no_code = λ e. absurd cc
      by (Some key) e =
          let same : h.1.0 ≡ code_of key = same_Some h.1.0 (code_of key) (sym h.1.1 ∙ code_at at key e) in
          (h.0, (key, e, sym (names_at at key e) ∙ (ap (is_code (algorithm * 2 ^ 16 + tag)) (sym same) ∙ h.1.2)), none_named at h.2)
