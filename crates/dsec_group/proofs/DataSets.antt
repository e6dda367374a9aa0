-- The set of the canonical data of records, and one more of them.
use Rattle.std.proofs.Common.{◌≡◌, ℕ, Bool, true, false, ◌||◌, cond, List, [], ◌∷◌, ◌++◌, length, ◌≤◌, Some, refl, sym, ap, ◌∙◌, arith}
use Rattle.std.specs.Prelude.{slice_get}
use Rattle.std.specs.Option.{is_some}
use Rattle.std.proofs.lemmas.Option.{same_Some}
use Rattle.std.specs.Str.{bytes_eq}
use Rattle.std.specs.Ordering.{nat_cmp, is_eq}
use Rattle.std.specs.Cmp.Lexicographic.{slice_cmp, texts_ties}
use Rattle.dsec_spec.specs.Records.{Record}
use Rattle.dsec_group.specs.Adding.{canonical_of, has_data}

-- octets are equal where the order ties them
pub tied : (a b : List ℕ) → is_eq (slice_cmp nat_cmp a b) ≡ bytes_eq a b
tied a b = sym (texts_ties a b)

or_as_cond : (b c : Bool) → (b || c) ≡ cond b true c
or_as_cond true c = refl
or_as_cond false c = refl

or_swapped : (b t y : Bool) → (b || cond t true y) ≡ cond t true (b || y)
or_swapped true true y = refl
or_swapped true false y = refl
or_swapped false t y = refl

-- with one more record its data are there, and the others as before
pub data_more : (r : Record) (rs : List Record) (o : List ℕ) → has_data o (rs ++ r ∷ []) ≡ cond (is_eq (slice_cmp nat_cmp (canonical_of r) o)) true (has_data o rs)
data_more r [] o = or_as_cond (bytes_eq (canonical_of r) o) false ∙ ap (λ b. cond b true false) (sym (tied (canonical_of r) o))
data_more r (x ∷ rs) o =
    ap (λ b. bytes_eq (canonical_of x) o || b) (data_more r rs o)
    ∙ or_swapped (bytes_eq (canonical_of x) o) (is_eq (slice_cmp nat_cmp (canonical_of r) o)) (has_data o rs)

-- the same, where the set's answers for octets and the records came by steps
pub data_kept : (r : Record) (rs with_room more : List Record) (key o : List ℕ) (was is : Bool)
    → is ≡ cond (is_eq (slice_cmp nat_cmp key o)) true was → key ≡ canonical_of r → was ≡ has_data o rs → with_room ≡ rs → more ≡ with_room ++ r ∷ []
    → is ≡ has_data o more
data_kept r rs with_room more key o was is said keyed known room pushed =
    said
    ∙ ap (λ k. cond (is_eq (slice_cmp nat_cmp k o)) true was) keyed
    ∙ ap (λ b. cond (is_eq (slice_cmp nat_cmp (canonical_of r) o)) true b) known
    ∙ sym (data_more r rs o)
    ∙ ap (λ xs. has_data o (xs ++ r ∷ [])) (sym room)
    ∙ ap (has_data o) (sym pushed)

-- the canonical data of a record that is there alone
pub data_first : (r : Record) (rs : List Record) (key o : List ℕ) (was is : Bool) → Some r ≡ slice_get rs 0 → length rs ≤ 1 → is ≡ cond (is_eq (slice_cmp nat_cmp key o)) true was → key ≡ canonical_of r → was ≡ false → is ≡ has_data o rs
data_first r [] key o was is there one said keyed none = absurd (let n = ap is_some there in cc)
data_first r (x ∷ []) key o was is there one said keyed none =
    data_kept r [] [] (x ∷ []) key o was is said keyed none refl (ap (λ y. y ∷ []) (sym (same_Some r x there)))
data_first r (x ∷ y ∷ rs) key o was is there one said keyed none = absurd (omega (arith, one))
