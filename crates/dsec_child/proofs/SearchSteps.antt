-- The search for a DS record's key: what comes of a key, and how many digests are taken from an index on.
use Rattle.std.proofs.Common.{◌≡◌, ℕ, zero, suc, ◌+◌, ◌-◌, ◌<◌, ◌≤◌, Bool, true, false, cond, List, [], ◌∷◌, ◌++◌, map, length, take, drop, get_or, Bor, refl, sym, ap, ◌∙◌, arith}
use Rattle.std.specs.Prelude.{Option, Some, None, IfSome, ◌||◌, ◌==◌, filter, slice_get}
use Rattle.std.specs.List.{list_any, position_or_len}
use Rattle.std.specs.Option.{option_map}
use Rattle.std.proofs.Math.Bool.{not}
use Rattle.std.proofs.lemmas.List.{drop_all}
use Rattle.std.proofs.lemmas.Option.{slice_get-map, slice_get_read}
use Rattle.dsec_spec.specs.Names.{Labels, canonical_octets}
use Rattle.dsec_spec.specs.KeyTag.{key_tag}
use Rattle.dsec_spec.specs.Records.{Record, Key, key_octets, key_of, Ds}
use Rattle.dsec_spec.specs.DelegationSigner.{has_digest, is_digest}
use Rattle.dsec_spec.specs.Digests.{digest_by, is_supported_digest}
use Rattle.dsec_spec.specs.KeySearch.{is_named, is_spoken_of}
use Rattle.dsec_spec.proofs.ListLemmas.{drop_here}
use Rattle.dsec_node.specs.KeyTags.{AreTags}
use Rattle.dsec_node.proofs.KeyTagLaws.{tag_there}
use Rattle.dsec_child.specs.Searches.{tested, digests_of, digests_for}

-- where there are tags, the tag of a key stands where its record does
pub tags_there : (tags : Option (Bor (List ℕ))) (keys : List Record) (i : ℕ) (one : Record) (key : Key) → IfSome tags (λ all. AreTags all.now (map (λ r. r.rdata) keys))
    → i < length keys → one ≡ get_or keys i one → Some key ≡ key_of one.rdata → IfSome tags (λ all. slice_get all.now i ≡ Some (key_tag key))
tags_there None keys i one key are below is says = are
tags_there (Some all) keys i one key are below is says = tag_there all.now (map (λ (r : Record). r.rdata) keys) i one.rdata key are (slice_get-map (λ (r : Record). r.rdata) keys i ∙ ap (option_map (λ (r : Record). r.rdata)) (slice_get_read keys (length keys) i one refl below is)) says

-- a digest type that isn't supported has no digest
no_digest : (n : ℕ) (message : List ℕ) → is_supported_digest n ≡ false → digest_by n message ≡ None
no_digest n message e = by (n == 1) (n == 2) (n == 4) refl refl refl e
  where
    by : (a b c : Bool) → (n == 1) ≡ a → (n == 2) ≡ b → (n == 4) ≡ c → (a || (b || (c || false))) ≡ false → digest_by n message ≡ None
    by true b c one two four f = absurd cc
    by false true c one two four f = absurd cc
    by false false true one two four f = absurd cc
    by false false false one two four f = rw (one, two, four) refl

pub not_supported : (ds : Ds) (owner : Labels) (key : Key) → is_supported_digest ds.digest_type ≡ false → false ≡ has_digest ds owner key
not_supported ds owner key e = sym (ap (is_digest ds.digest) (no_digest ds.digest_type (canonical_octets owner ++ key_octets key) e))

module _ {A : Type 0} (p q : A → Bool) where
  abbrev pub tests_in : ℕ → List A → ℕ
  tests_in n xs = tested q (take n (filter p xs))

  pub tests_none : (n : ℕ) → tests_in n [] ≡ 0
  tests_none zero = refl
  tests_none (suc n) = refl

  pub tests_past : (n : ℕ) (x : A) (xs : List A) → p x ≡ false → tests_in n (x ∷ xs) ≡ tests_in n xs
  tests_past n x xs e = ap (λ (b : Bool). tested q (take n (cond b (x ∷ filter p xs) (filter p xs)))) e

  pub tests_good : (n : ℕ) (x : A) (xs : List A) → p x ≡ true → q x ≡ true → tests_in (suc n) (x ∷ xs) ≡ 1
  tests_good n x xs e f =
      let one : 1 + 0 ≡ 1 = omega arith in
      ap (λ (b : Bool). tested q (take (suc n) (cond b (x ∷ filter p xs) (filter p xs)))) e
      ∙ (ap (λ (b : Bool). cond (b || list_any q (take n (filter p xs))) (1 + cond (not b) (1 + position_or_len q (take n (filter p xs))) 0) (suc (length (take n (filter p xs))))) f
      ∙ one)

  one_more : (b : Bool) (k m : ℕ) → cond b (1 + (1 + k)) (suc m) ≡ 1 + cond b (1 + k) m
  one_more true k m = refl
  one_more false k m = let s : suc m ≡ 1 + m = omega arith in s

  pub tests_bad : (n : ℕ) (x : A) (xs : List A) → p x ≡ true → q x ≡ false → tests_in (suc n) (x ∷ xs) ≡ 1 + tests_in n xs
  tests_bad n x xs e f =
      ap (λ (b : Bool). tested q (take (suc n) (cond b (x ∷ filter p xs) (filter p xs)))) e
      ∙ (ap (λ (b : Bool). cond (b || list_any q (take n (filter p xs))) (1 + cond (not b) (1 + position_or_len q (take n (filter p xs))) 0) (suc (length (take n (filter p xs))))) f
      ∙ one_more (list_any q (take n (filter p xs))) (position_or_len q (take n (filter p xs))) (length (take n (filter p xs))))

  pub tests_over : (xs : List A) → tests_in 0 xs ≡ 0
  tests_over xs = refl

-- the digests that are taken from an index on
abbrev pub digests_from : Ds → Labels → ℕ → List Record → ℕ → ℕ
digests_from ds owner left keys i = digests_for ds owner left (map (λ (r : Record). r.rdata) (drop i keys))

module _ (ds : Ds) (owner : Labels) where
  no_tests : (b : Bool) (z : ℕ) → cond b z z ≡ z
  no_tests true z = refl
  no_tests false z = refl

  pub at_most_one : digests_of ds 1 ≤ 1
  at_most_one = by (is_supported_digest ds.digest_type)
    where
      by : (b : Bool) → cond b 1 0 ≤ 1
      by true = omega arith
      by false = omega arith

  both : (n : ℕ) → digests_of ds (1 + n) ≡ digests_of ds 1 + digests_of ds n
  both n = by (is_supported_digest ds.digest_type)
    where
      by : (b : Bool) → cond b (1 + n) 0 ≡ cond b 1 0 + cond b n 0
      by true = refl
      by false = omega arith

  module _ (left : ℕ) (keys : List Record) (i : ℕ) (one : Record) (below : i < length keys) (is : one ≡ get_or keys i one) where
    here : digests_from ds owner left keys i ≡ digests_for ds owner left (one.rdata ∷ map (λ (r : Record). r.rdata) (drop (i + 1) keys))
    here =
        let next : suc i ≡ i + 1 = omega arith in
        ap (λ (rest : List Record). digests_for ds owner left (map (λ (r : Record). r.rdata) rest)) (drop_here keys i one below is)
        ∙ ap (λ (k : ℕ). digests_for ds owner left (one.rdata ∷ map (λ (r : Record). r.rdata) (drop k keys))) next

    pub digests_past : is_named ds one.rdata ≡ false → digests_from ds owner left keys i ≡ digests_from ds owner left keys (i + 1)
    digests_past other = here ∙ ap (digests_of ds) (tests_past (is_named ds) (is_spoken_of ds owner) left one.rdata (map (λ (r : Record). r.rdata) (drop (i + 1) keys)) other)

    pub digests_good : 0 < left → is_named ds one.rdata ≡ true → is_spoken_of ds owner one.rdata ≡ true → digests_from ds owner left keys i ≡ digests_of ds 1
    digests_good some named spoken =
        let more : left ≡ suc (left - 1) = omega (arith, some) in
        here ∙ (ap (λ (n : ℕ). digests_for ds owner n (one.rdata ∷ map (λ (r : Record). r.rdata) (drop (i + 1) keys))) more
        ∙ ap (digests_of ds) (tests_good (is_named ds) (is_spoken_of ds owner) (left - 1) one.rdata (map (λ (r : Record). r.rdata) (drop (i + 1) keys)) named spoken))

    pub digests_bad : 0 < left → is_named ds one.rdata ≡ true → is_spoken_of ds owner one.rdata ≡ false → digests_from ds owner left keys i ≡ digests_of ds 1 + digests_from ds owner (left - 1) keys (i + 1)
    digests_bad some named unspoken =
        let more : left ≡ suc (left - 1) = omega (arith, some) in
        here ∙ (ap (λ (n : ℕ). digests_for ds owner n (one.rdata ∷ map (λ (r : Record). r.rdata) (drop (i + 1) keys))) more
        ∙ (ap (digests_of ds) (tests_bad (is_named ds) (is_spoken_of ds owner) (left - 1) one.rdata (map (λ (r : Record). r.rdata) (drop (i + 1) keys)) named unspoken)
        ∙ both (tests_in (is_named ds) (is_spoken_of ds owner) (left - 1) (map (λ (r : Record). r.rdata) (drop (i + 1) keys)))))

  pub digests_over : (left : ℕ) (keys : List Record) (i : ℕ) → left ≡ 0 → digests_from ds owner left keys i ≡ 0
  digests_over left keys i z = ap (λ (n : ℕ). digests_from ds owner n keys i) z ∙ no_tests (is_supported_digest ds.digest_type) 0

  pub digests_none : (left : ℕ) (keys : List Record) (i : ℕ) → length keys ≤ i → digests_from ds owner left keys i ≡ 0
  digests_none left keys i past =
      ap (λ (rest : List Record). digests_for ds owner left (map (λ (r : Record). r.rdata) rest)) (drop_all i keys past)
      ∙ (ap (digests_of ds) (tests_none (is_named ds) (is_spoken_of ds owner) left) ∙ no_tests (is_supported_digest ds.digest_type) 0)
