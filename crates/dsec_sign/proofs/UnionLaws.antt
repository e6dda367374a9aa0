-- Records that are added to others, in canonical order and without duplicates.
use Rattle.std.proofs.Common.{◌≡◌, ◌≢◌, ℕ, zero, suc, ◌<◌, ◌≤◌, Bool, true, false, cond, ◌&&◌, ◌==◌, List, [], ◌∷◌, ◌++◌, length, get_or, Option, Some, None, refl, sym, ap, ◌∙◌, subst, inl, inr, arith, append_assoc, eqb-true, eq-eqb}
use Rattle.std.specs.Prelude.{All, Contains, find, sum_by, IsPermutation, IsSorted}
use Rattle.std.specs.List.{list_any}
use Rattle.std.proofs.lemmas.List.Elements.{All-contains}
use Rattle.std.specs.Ordering.{is_lt, ordering_reverse}
use Rattle.std.specs.Str.{bytes_eq}
use Rattle.std.specs.declared.cmp.Ordering.{Ordering}
use Rattle.std.specs.declared.cmp.Ordering.TheVariants.{Less, Equal, Greater}
use Rattle.std.proofs.lemmas.Bool.{cases_lt, true≢false}
use Rattle.std.proofs.lemmas.Cmp.{tied_itself}
use Rattle.std.proofs.lemmas.List.{get_or_default}
use Rattle.std.proofs.lemmas.List.Sorted.{Contains-permutation, IsPermutation-sym, ranks_by, sorted_far, sum_by-IsPermutation}
use Rattle.std.proofs.lemmas.List.Sums.{sum_by-append, sum_by-cons}
use Rattle.std.proofs.lemmas.Slice.Eq.{bytes_eq-Decides}
use Rattle.dsec_spec.specs.Names.{place, same_place}
use Rattle.dsec_spec.specs.Numbers.{RRSIG}
use Rattle.dsec_spec.specs.RecordData.{canonical_data}
use Rattle.dsec_spec.specs.Records.{Record}
use Rattle.dsec_spec.specs.Groups.{are_duplicates}
use Rattle.dsec_spec.specs.CanonicalRecords.{AreOfOneClass, IsCanonical, IsFirst, record_cmp}
use Rattle.dsec_spec.specs.SignedZones.{IsUnion}
use Rattle.dsec_spec.proofs.CanonicalNames.{same_place_decides}
use Rattle.dsec_spec.proofs.CanonicalOrder.{duplicates_tie, record_cmp_total}
use Rattle.dsec_spec.proofs.Choosing.{both}
use Rattle.dsec_spec.proofs.Members.{first_in, later_in, in_either, none_passes, from_find, from_no_find}
use Rattle.dsec_sorted.proofs.Merged.{find_alike}

-- ---- duplicates

dup_self : (r : Record) → are_duplicates r r ≡ true
dup_self r = (duplicates_tie r r).1 (tied_itself record_cmp_total r)

dup_parts : (r s : Record) → are_duplicates r s ≡ true → (place r.owner ≡ place s.owner) × (r.class ≡ s.class) × (r.rtype ≡ s.rtype) × (canonical_data r.rtype r.rdata ≡ canonical_data s.rtype s.rdata)
dup_parts r s h =
    let p = both ((same_place (place r.owner) (place s.owner) && (r.class == s.class)) && (r.rtype == s.rtype)) (bytes_eq (canonical_data r.rtype r.rdata) (canonical_data s.rtype s.rdata)) h in
    let q = both (same_place (place r.owner) (place s.owner) && (r.class == s.class)) (r.rtype == s.rtype) p.0 in
    let o = both (same_place (place r.owner) (place s.owner)) (r.class == s.class) q.0 in (
      (same_place_decides (place r.owner) (place s.owner)).0 o.0,
      eqb-true r.class s.class o.1,
      eqb-true r.rtype s.rtype q.1,
      (bytes_eq-Decides (canonical_data r.rtype r.rdata) (canonical_data s.rtype s.rdata)).0 p.1,
    )

dup_like : (r s q : Record) → are_duplicates r s ≡ true → are_duplicates r q ≡ are_duplicates s q
dup_like r s q h = let p = dup_parts r s h in rw (p.3, p.0, p.1, p.2) refl

dup_back : (r s : Record) → are_duplicates r s ≡ true → are_duplicates s r ≡ true
dup_back r s h = sym (dup_like r s r h) ∙ dup_self r

never_less : (r s : Record) → are_duplicates r s ≡ true → record_cmp r s ≡ Less → ⊥
never_less r s h less = absurd (let e = sym less ∙ (duplicates_tie r s).0 h in cc)

-- ---- lists in canonical order

less_between : (xs : List Record) (i j : ℕ) (r s : Record) → IsCanonical xs → i < j → j < length xs → get_or xs i s ≡ r → get_or xs j s ≡ s → record_cmp r s ≡ Less
less_between xs i j r s canonical low lj ei ej =
    subst (λ (x : Record). record_cmp x s ≡ Less) ei (subst (λ (y : Record). record_cmp (get_or xs i s) y ≡ Less) ej (canonical i j s low lj))

-- no two records of a list in canonical order are duplicates
only_one : (xs : List Record) (r s : Record) → IsCanonical xs → Contains xs r → Contains xs s → are_duplicates r s ≡ true → r ≡ s
only_one xs r s canonical (i, li, ei) (j, lj, ej) h =
    elim (cases_lt i j) [
      | inl low ↦ absurd (never_less r s h (less_between xs i j r s canonical low lj (sym (get_or_default xs i r s li) ∙ ei) ej))
      | inr high ↦ elim (cases_lt j i) [
        | inl lower ↦ absurd (never_less s r (dup_back r s h) (less_between xs j i s r canonical lower li (sym (get_or_default xs j s r lj) ∙ ej) ei))
        | inr same ↦
            let e : i ≡ j = omega (arith, high, same) in
            sym ei ∙ (ap (λ (n : ℕ). get_or xs n r) e ∙ (get_or_default xs j r s lj ∙ ej))
      ]
    ]

found_in : (xs : List Record) (r : Record) → Contains xs r → (s : Record) × (find (are_duplicates r) xs ≡ Some s) × (are_duplicates r s ≡ true) × Contains xs s
found_in xs r h = by (find (are_duplicates r) xs) refl
  where
    by : (o : Option Record) → find (are_duplicates r) xs ≡ o → (s : Record) × (find (are_duplicates r) xs ≡ Some s) × (are_duplicates r s ≡ true) × Contains xs s
    by (Some s) e = let f = from_find (are_duplicates r) xs s e in (s, e, f.0, f.1)
    by None e = absurd (true≢false (sym (dup_self r) ∙ from_no_find (are_duplicates r) xs e r h))

pub first_there : (xs : List Record) (r : Record) → IsFirst xs r → Contains xs r
first_there xs r h = (from_find (are_duplicates r) xs r h).1

pub canonical_first : (xs : List Record) (r : Record) → IsCanonical xs → Contains xs r → IsFirst xs r
canonical_first xs r canonical h =
    let f = found_in xs r h in
    f.1 ∙ ap Some (sym (only_one xs r f.0 canonical h f.3 f.2))

-- ---- records added twice

find_front : (p : Record → Bool) (xs ys : List Record) (s : Record) → find p xs ≡ Some s → find p (xs ++ ys) ≡ Some s
find_front p [] ys s e = absurd cc
find_front p (x ∷ xs) ys s e = by (find_front p xs ys s) (p x) e
  where
    by : (find p xs ≡ Some s → find p (xs ++ ys) ≡ Some s) → (b : Bool) → cond b (Some x) (find p xs) ≡ Some s → cond b (Some x) (find p (xs ++ ys)) ≡ Some s
    by others true f = f
    by others false f = others f

find_behind : (p : Record → Bool) (xs ys : List Record) → find p xs ≡ None → find p (xs ++ ys) ≡ find p ys
find_behind p [] ys e = refl
find_behind p (x ∷ xs) ys e = by (find_behind p xs ys) (p x) e
  where
    by : (find p xs ≡ None → find p (xs ++ ys) ≡ find p ys) → (b : Bool) → cond b (Some x) (find p xs) ≡ None → cond b (Some x) (find p (xs ++ ys)) ≡ find p ys
    by others true f = absurd cc
    by others false f = others f

-- what is found of the union is what is found of both
found_alike : (old added new : List Record) (r : Record) → IsUnion old added new → find (are_duplicates r) new ≡ find (are_duplicates r) (old ++ added)
found_alike old added new r union = by (find (are_duplicates r) new) refl (find (are_duplicates r) (old ++ added)) refl
  where
    both_sides : List Record
    both_sides = old ++ added

    by : (o : Option Record) → find (are_duplicates r) new ≡ o → (q : Option Record) → find (are_duplicates r) (old ++ added) ≡ q → find (are_duplicates r) new ≡ find (are_duplicates r) (old ++ added)
    by (Some s) e q f =
        let there = from_find (are_duplicates r) new s e in
        let first : find (are_duplicates s) (old ++ added) ≡ Some s = (union.all s).0 there.1 in
        e ∙ sym (find_alike (are_duplicates r) (are_duplicates s) (old ++ added) (λ x. dup_like r s x there.0) ∙ first)
    by None e None f = e ∙ sym f
    by None e (Some s) f =
        let there = from_find (are_duplicates r) (old ++ added) s f in
        let first : find (are_duplicates s) (old ++ added) ≡ Some s = sym (find_alike (are_duplicates r) (are_duplicates s) (old ++ added) (λ x. dup_like r s x there.0)) ∙ f in
        absurd (true≢false (sym there.0 ∙ from_no_find (are_duplicates r) new e s ((union.all s).1 first)))

find_same : (xs ys zs : List Record) (r : Record) → find (are_duplicates r) xs ≡ find (are_duplicates r) ys → find (are_duplicates r) (xs ++ zs) ≡ find (are_duplicates r) (ys ++ zs)
find_same xs ys zs r e = by (find (are_duplicates r) xs) refl
  where
    by : (o : Option Record) → find (are_duplicates r) xs ≡ o → find (are_duplicates r) (xs ++ zs) ≡ find (are_duplicates r) (ys ++ zs)
    by (Some s) f = find_front (are_duplicates r) xs zs s f ∙ sym (find_front (are_duplicates r) ys zs s (sym e ∙ f))
    by None f = find_behind (are_duplicates r) xs zs f ∙ sym (find_behind (are_duplicates r) ys zs (sym e ∙ f))

-- records that are added to a union are added with what was added before
pub union_twice : (old one two mid new : List Record) → IsUnion old one mid → IsUnion mid two new → IsUnion old (one ++ two) new
union_twice old one two mid new first second = record {
  canonical = second.canonical;
  all = λ r.
      let same = find_same mid (old ++ one) two r (found_alike old one mid r first) ∙ ap (find (are_duplicates r)) (append_assoc old one two) in
      (λ h. sym same ∙ (second.all r).0 h, λ h. (second.all r).1 (same ∙ h));
}

-- the records of a union are of one class, where those that were added are of classes of the old ones
pub union_class : (old added new : List Record) → AreOfOneClass old → IsUnion old added new → ((r : Record) → Contains added r → (s : Record) × Contains old s × (r.class ≡ s.class)) → AreOfOneClass new
union_class old added new class union theirs i j d lt lj =
    let r = get_or new i d in
    let s = get_or new j d in
    let li : i < length new = omega (arith, lt, lj) in
    let p = origin r (i, li, get_or_default new i r d li) in
    let q = origin s (j, lj, get_or_default new j s d lj) in
    p.2 ∙ (one p.0 q.0 p.1 q.1 ∙ sym q.2)
  where
    origin : (r : Record) → Contains new r → (s : Record) × Contains old s × (r.class ≡ s.class)
    origin r h = elim (in_either r old added (first_there (old ++ added) r ((union.all r).0 h))) [
      | inl mine ↦ (r, mine, refl)
      | inr more ↦ theirs r more
    ]

    one : (r s : Record) → Contains old r → Contains old s → r.class ≡ s.class
    one r s (k, lk, ek) (l, ll, el) = elim (cases_lt k l) [
      | inl low ↦ ap (λ (x : Record). x.class) (sym ek ∙ get_or_default old k r s lk) ∙ (class k l s low ll ∙ ap (λ (x : Record). x.class) el)
      | inr high ↦ elim (cases_lt l k) [
        | inl lower ↦ sym (ap (λ (x : Record). x.class) (sym el ∙ get_or_default old l s r ll) ∙ (class l k r lower lk ∙ ap (λ (x : Record). x.class) ek))
        | inr same ↦
            let e : k ≡ l = omega (arith, high, same) in
            ap (λ (x : Record). x.class) (sym ek ∙ (ap (λ (n : ℕ). get_or old n r) e ∙ (get_or_default old l r s ll ∙ el)))
      ]
    ]

-- ---- signatures behind a zone without any

-- one for a duplicate
abbrev occurs : Record → Record → ℕ
occurs v x = cond (are_duplicates v x) 1 0

none_counted : (v : Record) (xs : List Record) → ((x : Record) → Contains xs x → are_duplicates v x ≡ false) → sum_by (occurs v) xs ≡ 0
none_counted v [] apart = refl
none_counted v (x ∷ xs) apart =
    let here : occurs v x ≡ 0 = ap (λ (b : Bool). cond b 1 0) (apart x (first_in x xs)) in
    let others = none_counted v xs (λ y h. apart y (later_in x y xs h)) in
    sum_by-cons (occurs v) x xs ∙ omega (arith, here, others)

counted_at : (v : Record) (xs : List Record) (k : ℕ) (d : Record) → k < length xs → are_duplicates v (get_or xs k d) ≡ true → 1 ≤ sum_by (occurs v) xs
counted_at v [] k d lt h = absurd (omega (arith, lt))
counted_at v (x ∷ xs) zero d lt h = let here : occurs v x ≡ 1 = ap (λ (b : Bool). cond b 1 0) h in omega (arith, sum_by-cons (occurs v) x xs, here)
counted_at v (x ∷ xs) (suc k) d lt h = let others = counted_at v xs k d (omega (arith, lt)) h in omega (arith, sum_by-cons (occurs v) x xs, others)

counted_twice : (v : Record) (xs : List Record) (i j : ℕ) (d : Record) → i < j → j < length xs → are_duplicates v (get_or xs i d) ≡ true → are_duplicates v (get_or xs j d) ≡ true → 2 ≤ sum_by (occurs v) xs
counted_twice v [] i j d lt lj h g = absurd (omega (arith, lj))
counted_twice v (x ∷ xs) i zero d lt lj h g = absurd (omega (arith, lt))
counted_twice v (x ∷ xs) zero (suc j) d lt lj h g =
    let here : occurs v x ≡ 1 = ap (λ (b : Bool). cond b 1 0) h in
    let other = counted_at v xs j d (omega (arith, lj)) g in
    omega (arith, sum_by-cons (occurs v) x xs, here, other)
counted_twice v (x ∷ xs) (suc i) (suc j) d lt lj h g =
    let others = counted_twice v xs i j d (omega (arith, lt)) (omega (arith, lj)) h g in
    omega (arith, sum_by-cons (occurs v) x xs, others)

canonical_tail : (x : Record) (xs : List Record) → IsCanonical (x ∷ xs) → IsCanonical xs
canonical_tail x xs canonical i j d lt lj = canonical (suc i) (suc j) d (omega (arith, lt)) (omega (arith, lj))

-- a list in canonical order has one duplicate of a record at most
counted_once : (v : Record) (xs : List Record) → IsCanonical xs → sum_by (occurs v) xs ≤ 1
counted_once v [] canonical = omega arith
counted_once v (x ∷ xs) canonical = by (counted_once v xs (canonical_tail x xs canonical)) (are_duplicates v x) refl
  where
    apart : are_duplicates v x ≡ true → (y : Record) → Contains xs y → are_duplicates v y ≡ false
    apart h y (k, lt, e) = no_other (are_duplicates v y) refl
      where
        no_other : (b : Bool) → are_duplicates v y ≡ b → b ≡ false
        no_other false g = refl
        no_other true g =
            absurd (never_less x y (sym (dup_like v x y h) ∙ g) (subst (λ (z : Record). record_cmp x z ≡ Less) e (canonical 0 (suc k) y (omega arith) (omega (arith, lt)))))

    by : sum_by (occurs v) xs ≤ 1 → (b : Bool) → are_duplicates v x ≡ b → sum_by (occurs v) (x ∷ xs) ≤ 1
    by others true h =
        let here : occurs v x ≡ 1 = ap (λ (b : Bool). cond b 1 0) h in
        let none = none_counted v xs (apart h) in
        omega (arith, sum_by-cons (occurs v) x xs, here, none)
    by others false h =
        let here : occurs v x ≡ 0 = ap (λ (b : Bool). cond b 1 0) h in
        omega (arith, sum_by-cons (occurs v) x xs, here, others)

-- so have such a list without signatures, and another of signatures alone behind it
counted_once_of_both : (v : Record) (front added : List Record) → IsCanonical front → IsCanonical added → ((x : Record) → Contains front x → x.rtype ≢ RRSIG) → ((x : Record) → Contains added x → x.rtype ≡ RRSIG) → sum_by (occurs v) (front ++ added) ≤ 1
counted_once_of_both v front added cf ca plain signatures = by (v.rtype == RRSIG) refl
  where
    not_dup : (x : Record) → (v.rtype ≡ x.rtype → ⊥) → are_duplicates v x ≡ false
    not_dup x other = no_dup (are_duplicates v x) refl
      where
        no_dup : (b : Bool) → are_duplicates v x ≡ b → b ≡ false
        no_dup false e = refl
        no_dup true e = absurd (other (dup_parts v x e).2)

    by : (b : Bool) → (v.rtype == RRSIG) ≡ b → sum_by (occurs v) (front ++ added) ≤ 1
    by true e =
        let is : v.rtype ≡ RRSIG = eqb-true v.rtype RRSIG e in
        let none = none_counted v front (λ x h. not_dup x (λ s. plain x h (sym s ∙ is))) in
        let some = counted_once v added ca in
        omega (arith, sum_by-append (occurs v) front added, none, some)
    by false e =
        let none = none_counted v added (λ x h. not_dup x (λ s. true≢false (sym (eq-eqb v.rtype RRSIG (s ∙ signatures x h)) ∙ e))) in
        let some = counted_once v front cf in
        omega (arith, sum_by-append (occurs v) front added, none, some)

-- a permutation that rises is in canonical order, where there are no duplicates
sorted_canonical : (xs ys : List Record) → ((v : Record) → sum_by (occurs v) xs ≤ 1) → IsPermutation xs ys → IsSorted record_cmp ys → IsCanonical ys
sorted_canonical xs ys once permuted sorted i j d lt lj = by (record_cmp (get_or ys i d) (get_or ys j d)) refl
  where
    low : is_lt (record_cmp (get_or ys j d) (get_or ys i d)) ≡ false
    low = sorted_far (λ a b. is_lt (record_cmp a b)) (ranks_by record_cmp_total (λ (r : Record). r)) ys sorted i j d (omega (arith, lt)) lj

    by : (o : Ordering) → record_cmp (get_or ys i d) (get_or ys j d) ≡ o → o ≡ Less
    by Less e = refl
    by Equal e =
        let v = get_or ys i d in
        let two = counted_twice v ys i j d lt lj (dup_self v) ((duplicates_tie v (get_or ys j d)).1 e) in
        let one = once v in
        absurd (omega (arith, two, one, sum_by-IsPermutation (occurs v) xs ys permuted))
    by Greater e = absurd (true≢false (sym (ap is_lt (record_cmp_total.antisymm (get_or ys j d) (get_or ys i d) ∙ ap ordering_reverse e)) ∙ low))

-- signatures in canonical order, put behind a zone without any and sorted, are added to it
pub sorted_union : (front added new : List Record) → IsCanonical front → IsCanonical added → ((x : Record) → Contains front x → x.rtype ≢ RRSIG) → ((x : Record) → Contains added x → x.rtype ≡ RRSIG)
    → IsPermutation (front ++ added) new → IsSorted record_cmp new → IsUnion front added new
sorted_union front added new cf ca plain signatures permuted sorted = record { canonical = canonical; all = λ r. (there r, back r) }
  where
    canonical : IsCanonical new
    canonical = sorted_canonical (front ++ added) new (λ v. counted_once_of_both v front added cf ca plain signatures) permuted sorted

    there : (r : Record) → Contains new r → IsFirst (front ++ added) r
    there r h =
        let here = Contains-permutation new (front ++ added) r (IsPermutation-sym (front ++ added) new permuted) h in
        let f = found_in (front ++ added) r here in
        f.1 ∙ ap Some (sym (only_one new r f.0 canonical h (Contains-permutation (front ++ added) new f.0 permuted f.3) f.2))

    back : (r : Record) → IsFirst (front ++ added) r → Contains new r
    back r h = Contains-permutation (front ++ added) new r permuted (first_there (front ++ added) r h)

pub plain_front : (front : List Record) → list_any (λ r. r.rtype == RRSIG) front ≡ false → (x : Record) → Contains front x → x.rtype ≢ RRSIG
plain_front front none x h is = true≢false (sym (eq-eqb x.rtype RRSIG is) ∙ none_passes (λ (r : Record). r.rtype == RRSIG) front none x h)

pub signature_behind : (behind : List Record) → All (λ r. r.rtype ≡ RRSIG) behind → (x : Record) → Contains behind x → x.rtype ≡ RRSIG
signature_behind behind all x h = All-contains (λ (r : Record). r.rtype ≡ RRSIG) behind x all h
