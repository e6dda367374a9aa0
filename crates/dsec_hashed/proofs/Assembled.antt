-- The names that the zone hashes, in the order of their hashes; whether two of them have one hash, neighbours say.
use Rattle.std.proofs.Common.{◌≡◌, ℕ, zero, suc, ◌+◌, ◌<◌, Bool, true, false, ◌||◌, List, [], ◌∷◌, length, get_or, map, IsPermutation, refl, sym, ap, ◌∙◌, subst, arith}
use Rattle.std.specs.Prelude.{AllPairs, All, Contains, filter}
use Rattle.std.specs.Str.{bytes_eq}
use Rattle.std.specs.FinMap.{nat_cmp-IsAntisymmetric, slice_cmp-IsAntisymmetric}
use Rattle.std.specs.Cmp.Lexicographic.{slice_cmp}
use Rattle.std.specs.Ordering.{nat_cmp, is_lt, ordering_reverse}
use Rattle.std.specs.declared.cmp.Ordering.{Ordering}
use Rattle.std.specs.declared.cmp.Ordering.TheVariants.{Less, Equal, Greater}
use Rattle.std.proofs.lemmas.Bool.{true≢false, false≢true, or_parts}
use Rattle.std.proofs.lemmas.Cmp.{nat_list_cmp_total}
use Rattle.std.proofs.lemmas.Slice.Eq.{bytes_eq-Decides}
use Rattle.std.proofs.lemmas.List.{length-map}
use Rattle.std.proofs.lemmas.List.Elements.{Contains-get_or}
use Rattle.std.proofs.lemmas.List.Kept.{AllPairs-cons}
use Rattle.std.proofs.lemmas.List.Sorted.{IsPermutation-map, IsPermutation-sym, Contains-permutation}
use Rattle.dsec_spec.specs.Names.{Place}
use Rattle.dsec_spec.specs.Records.{Record}
use Rattle.dsec_spec.specs.RecordViews.{Hashing}
use Rattle.dsec_spec.specs.DenyingRecords.{hash_by, HashBefore}
use Rattle.dsec_spec.specs.ZonesOfRecords.{zone_of, soas_at}
use Rattle.dsec_spec.specs.OwnersInside.{Inside, AreInside}
use Rattle.dsec_spec.specs.HashedNames.{has_opt_out, HasCollision}
use Rattle.dsec_spec.proofs.HashCircle.{hash_trans, one_name}
use Rattle.dsec_spec.proofs.Choosing.{pairs_map}
use Rattle.dsec_hashed.specs.HashedList.{is_kept, names_of}
use Rattle.dsec_hashed.specs.HashedTypes.{Standing, hashed_as}
use Rattle.dsec_hashed.specs.Hashed.{place_of, AreHashed, begins_with, has_twins}
use Rattle.dsec_hashed.proofs.NamesLaws.{names_apart, apart_index}
use Rattle.dsec_hashed.proofs.OwnersHashed.{owing_rise, listed_hashed, hashed_listed}
use Rattle.dsec_hashed.proofs.TypesHashed.{types_are}
use Rattle.dsec_hashed.proofs.Permuted.{pulled, distinct_permuted}

-- ---- all names

pub assembled : (how : Hashing) (apex : Place) (records : List Record) (all : List Inside) → AreInside apex records all → (soa : Record) → soas_at apex records ≡ soa ∷ []
    → (standing : List Standing) → IsPermutation (map (hashed_as how) (names_of apex apex (filter (λ (o : Inside). is_kept (has_opt_out how) o.cut o.records) all))) standing
    → AllPairs (λ (a b : Standing). is_lt (slice_cmp nat_cmp b.hash a.hash) ≡ false) standing → AreHashed how apex records standing
assembled how apex records all are soa one standing moved rise =
    let opt_out = has_opt_out how in
    let first = names_of apex apex (filter (λ (o : Inside). is_kept opt_out o.cut o.records) all) in
    let p = pulled (hashed_as how) first standing moved in
    let places : IsPermutation (map place_of first) (map place_of p.0) = IsPermutation-map place_of first p.0 p.1 in
    record {
      named = p.0;
      is = sym p.2;
      are = λ n. (
        λ h. listed_hashed apex records all are opt_out soa one n (Contains-permutation (map place_of p.0) (map place_of first) n (IsPermutation-sym (map place_of first) (map place_of p.0) places) h),
        λ h. Contains-permutation (map place_of first) (map place_of p.0) n places (hashed_listed apex records all are opt_out soa one n h),
      );
      once = distinct_permuted (map place_of first) (map place_of p.0) places (apart_index (map place_of first) (names_apart apex apex (filter (λ (o : Inside). is_kept opt_out o.cut o.records) all) (owing_rise apex records all are opt_out)));
      types = λ k d lt. types_are apex records all are opt_out soa one how (get_or p.0 k d)
          (Contains-permutation p.0 first (get_or p.0 k d) (IsPermutation-sym first p.0 p.1) (Contains-get_or p.0 k d lt));
      rise = rise;
    }

-- ---- neighbours with one hash

-- a hash that isn't before another, and isn't that one, comes after it
comes_after : (a b : List ℕ) → is_lt (slice_cmp nat_cmp b a) ≡ false → (a ≡ b → ⊥) → HashBefore a b
comes_after a b low apart = nat_list_cmp_total.antisymm a b ∙ by (slice_cmp nat_cmp b a) refl low
  where
    by : (r : Ordering) → slice_cmp nat_cmp b a ≡ r → is_lt r ≡ false → ordering_reverse r ≡ Less
    by Less e h = absurd (true≢false h)
    by Equal e h = absurd (apart (sym (slice_cmp-IsAntisymmetric nat_cmp-IsAntisymmetric b a e)))
    by Greater e h = refl

hashes_same : (a b : List ℕ) → bytes_eq a b ≡ false → a ≡ b → ⊥
hashes_same a b e same = false≢true (sym e ∙ (bytes_eq-Decides a b).1 same)

Rising : List Standing → Type 0
Rising standing = AllPairs (λ (a b : Standing). HashBefore a.hash b.hash) standing

-- where no neighbours have one hash, each is before the later ones
pub rising : (standing : List Standing) → AllPairs (λ (a b : Standing). is_lt (slice_cmp nat_cmp b.hash a.hash) ≡ false) standing → has_twins standing ≡ false → AllPairs (λ (a b : Standing). HashBefore a.hash b.hash) standing
unfolding has_twins
rising [] rise none = λ i j d lt lj. absurd (omega arith)
rising (one ∷ []) rise none = λ i j d lt lj. absurd (omega arith)
rising (one ∷ two ∷ standing) rise none =
    let parts = or_parts (bytes_eq one.hash two.hash) (has_twins (two ∷ standing)) none in
    let others = rising (two ∷ standing) (λ i j d lt lj. rise (suc i) (suc j) d (omega arith) (omega arith)) parts.1 in
    let next : HashBefore one.hash two.hash = comes_after one.hash two.hash (rise 0 1 one (omega arith) (omega arith)) (hashes_same one.hash two.hash parts.0) in
    AllPairs-cons (λ (a b : Standing). HashBefore a.hash b.hash) one (two ∷ standing) (each next others) others
  where
    each : HashBefore one.hash two.hash → AllPairs (λ (a b : Standing). HashBefore a.hash b.hash) (two ∷ standing) → All (λ (b : Standing). HashBefore one.hash b.hash) (two ∷ standing)
    each next others zero d lt = next
    each next others (suc k) d lt = hash_trans one.hash two.hash (get_or standing k d).hash next (others 0 (suc k) d (omega arith) (omega arith))

-- where some have, these are two
pub twins : (standing : List Standing) → has_twins standing ≡ true → (k : ℕ) × (k + 1 < length standing) × ((d : Standing) → (get_or standing k d).hash ≡ (get_or standing (k + 1) d).hash)
unfolding has_twins
twins [] some = absurd (false≢true some)
twins (one ∷ standing) some = by standing (begins_with one.hash standing) refl some (twins standing)
  where
    shift : (rest : List Standing) → ((k : ℕ) × (k + 1 < length rest) × ((d : Standing) → (get_or rest k d).hash ≡ (get_or rest (k + 1) d).hash))
        → (k : ℕ) × (k + 1 < length (one ∷ rest)) × ((d : Standing) → (get_or (one ∷ rest) k d).hash ≡ (get_or (one ∷ rest) (k + 1) d).hash)
    shift rest t =
        let e : suc (t.0 + 1) ≡ suc t.0 + 1 = omega arith in
        (suc t.0, (let lt = t.1 in omega arith), λ d. t.2 d ∙ ap (λ (k : ℕ). (get_or (one ∷ rest) k d).hash) e)

    by : (rest : List Standing) (b : Bool) → begins_with one.hash rest ≡ b → (b || has_twins rest) ≡ true
        → (has_twins rest ≡ true → (k : ℕ) × (k + 1 < length rest) × ((d : Standing) → (get_or rest k d).hash ≡ (get_or rest (k + 1) d).hash))
        → (k : ℕ) × (k + 1 < length (one ∷ rest)) × ((d : Standing) → (get_or (one ∷ rest) k d).hash ≡ (get_or (one ∷ rest) (k + 1) d).hash)
    by [] true e h others = absurd (false≢true e)
    by (two ∷ rest) true e h others = (0, omega arith, λ d. (bytes_eq-Decides one.hash two.hash).0 e)
    by rest false e h others = shift rest (others h)

module _ (how : Hashing) (apex : Place) (records : List Record) (standing : List Standing) (are : AreHashed how apex records standing) where
  -- names with one hash side by side are a collision
  pub twins_collide : has_twins standing ≡ true → HasCollision how (zone_of apex records)
  twins_collide some =
      let t = twins standing some in
      let size : length standing ≡ length are.named = ap length are.is ∙ length-map are.named (hashed_as how) in
      let count : length (map place_of are.named) ≡ length are.named = length-map are.named place_of in
      let lt = t.1 in
      by are.named refl (omega (arith, size)) count (λ d. of are.named t.0 d ∙ (sym (ap (λ (xs : List Standing). (get_or xs t.0 (hashed_as how d)).hash) are.is) ∙ (t.2 (hashed_as how d) ∙ (ap (λ (xs : List Standing). (get_or xs (t.0 + 1) (hashed_as how d)).hash) are.is ∙ sym (of are.named (t.0 + 1) d)))))
    where
      of : (xs : List Inside) (k : ℕ) (d : Inside) → hash_by how (place_of (get_or xs k d)) ≡ (get_or (map (hashed_as how) xs) k (hashed_as how d)).hash
      of [] k d = refl
      of (x ∷ xs) zero d = refl
      of (x ∷ xs) (suc k) d = of xs k d

      by : (xs : List Inside) → are.named ≡ xs → (twins standing some).0 + 1 < length are.named → length (map place_of are.named) ≡ length are.named
          → ((d : Inside) → hash_by how (place_of (get_or are.named (twins standing some).0 d)) ≡ hash_by how (place_of (get_or are.named ((twins standing some).0 + 1) d))) → HasCollision how (zone_of apex records)
      by [] e lt count alike = absurd (let l = ap length e in omega (arith, l))
      by (d ∷ xs) e lt count alike =
          let k = (twins standing some).0 in
          let at : (j : ℕ) → j < length are.named → Contains (map place_of are.named) (place_of (get_or are.named j d)) = λ j lj. subst (λ (n : Place). Contains (map place_of are.named) n) (placed are.named j d) (Contains-get_or (map place_of are.named) j (place_of d) (omega (arith, count))) in
          record {
            first = place_of (get_or are.named k d);
            second = place_of (get_or are.named (k + 1) d);
            hashes_first = (are.are (place_of (get_or are.named k d))).0 (at k (omega arith));
            hashes_second = (are.are (place_of (get_or are.named (k + 1) d))).0 (at (k + 1) lt);
            differ = λ same. let i = are.once k (k + 1) (place_of d) (omega (arith, count)) (omega (arith, count)) (placed are.named k d ∙ (same ∙ sym (placed are.named (k + 1) d))) in absurd (omega (arith, i));
            alike = alike d;
          }
        where
          placed : (xs : List Inside) (j : ℕ) (d : Inside) → get_or (map place_of xs) j (place_of d) ≡ place_of (get_or xs j d)
          placed [] j d = refl
          placed (x ∷ xs) zero d = refl
          placed (x ∷ xs) (suc j) d = placed xs j d

  -- where there are none, the names' hashes rise
  pub names_rise : has_twins standing ≡ false → AllPairs (λ m n. HashBefore (hash_by how m) (hash_by how n)) (map place_of are.named)
  names_rise none =
      let up = subst (λ (xs : List Standing). AllPairs (λ (a b : Standing). HashBefore a.hash b.hash) xs) are.is (rising standing are.rise none) in
      pairs_map (λ (m n : Place). HashBefore (hash_by how m) (hash_by how n)) place_of are.named (back are.named up)
    where
      of : (xs : List Inside) (k : ℕ) (d : Inside) → get_or (map (hashed_as how) xs) k (hashed_as how d) ≡ hashed_as how (get_or xs k d)
      of [] k d = refl
      of (x ∷ xs) zero d = refl
      of (x ∷ xs) (suc k) d = of xs k d

      back : (xs : List Inside) → AllPairs (λ (a b : Standing). HashBefore a.hash b.hash) (map (hashed_as how) xs) → AllPairs (λ (x y : Inside). HashBefore (hash_by how (place_of x)) (hash_by how (place_of y))) xs
      back xs up i j d lt lj =
          let size = length-map xs (hashed_as how) in
          let h = up i j (hashed_as how d) lt (omega (arith, size)) in
          subst (λ (a : Standing). HashBefore a.hash (hash_by how (place_of (get_or xs j d)))) (of xs i d) (subst (λ (b : Standing). HashBefore (get_or (map (hashed_as how) xs) i (hashed_as how d)).hash b.hash) (of xs j d) h)

  -- and there is no collision
  pub no_collision : has_twins standing ≡ false → HasCollision how (zone_of apex records) → ⊥
  no_collision none c = c.differ (one_name (hash_by how) (map place_of are.named) (names_rise none) apex c.first c.second ((are.are c.first).1 c.hashes_first) ((are.are c.second).1 c.hashes_second) c.alike)
