-- The island and the target of a set are what the definitions ask.
use Rattle.std.proofs.Common.{◌≡◌, ℕ, suc, ◌-◌, ◌≤◌, ◌==◌, List, [], ◌∷◌, ◌++◌, length, take, map, Option, Some, None, refl, sym, ap, ◌∙◌, subst, arith, inl, inr, ◌⊎◌, length-append}
use Rattle.std.specs.Prelude.{Contains, filter, nat_lt, ◌≢◌}
use Rattle.std.proofs.lemmas.Bool.{eqb-true, eqb-false, eq-eqb, ne_eqb, cond-true, cond-false, cases_Bool, ltb-true, ltb-false}
use Rattle.std.proofs.lemmas.Option.{same_Some}
use Rattle.std.proofs.lemmas.List.{take_at}
use Rattle.dsec_spec.specs.Names.{Place, place, is_below, IsAtOrBelow}
use Rattle.dsec_spec.specs.Numbers.{DS}
use Rattle.dsec_spec.specs.Records.{Record}
use Rattle.dsec_spec.specs.Islands.{looked_for_at, longer, longest, island}
use Rattle.dsec_spec.specs.AtQuestion.{IsLookedForAt, IsIsland}
use Rattle.dsec_spec.proofs.Members.{first_in, later_in, in_more, from_filter, in_filter, from_map, in_map, not_in_none}
use Rattle.dsec_spec.proofs.NamesBelow.{ancestors_comparable, below_antisymm}
use Rattle.dsec_spec.proofs.SignedTests.{below_decides}

-- a list that isn't empty ends by a label
last_of : (k : List ℕ) (n : Place) → (last : List ℕ) × (k ∷ n ≡ take (length (k ∷ n) - 1) (k ∷ n) ++ last ∷ [])
last_of k [] = (k, refl)
last_of k (l ∷ n) =
    let rest = last_of l n in
    let one : length (k ∷ l ∷ n) - 1 ≡ suc (length (l ∷ n) - 1) = omega arith in
    let more : take (length (k ∷ l ∷ n) - 1) (k ∷ l ∷ n) ≡ k ∷ take (length (l ∷ n) - 1) (l ∷ n) = ap (λ (m : ℕ). take m (k ∷ l ∷ n)) one in
    (rest.0, ap (λ (x : Place). k ∷ x) rest.1 ∙ ap (λ (x : Place). x ++ rest.0 ∷ []) (sym more))

-- where a set is looked for
pub looked_for_is : (name : Place) (rtype : ℕ) → IsLookedForAt name rtype (looked_for_at name rtype)
looked_for_is name rtype = record { above_for_ds = for_ds name; itself_for_others = for_others }
  where
    for_ds : (n : Place) → rtype ≡ DS → n ≢ [] → (last : List ℕ) × (n ≡ looked_for_at n rtype ++ last ∷ [])
    for_ds [] is other = absurd (other refl)
    for_ds (k ∷ n) is other =
        let last = last_of k n in
        (last.0, last.1 ∙ ap (λ (x : Place). x ++ last.0 ∷ []) (sym (cond-true (rtype == DS) (take (length (k ∷ n) - 1) (k ∷ n)) (k ∷ n) (eq-eqb rtype DS is))))

    at_root : name ≡ [] → looked_for_at name rtype ≡ name
    at_root root = elim (cases_Bool (rtype == DS)) [
      | inl t ↦ cond-true (rtype == DS) (take (length name - 1) name) name t ∙ (ap (λ (n : Place). take (length n - 1) n) root ∙ sym root)
      | inr f ↦ cond-false (rtype == DS) (take (length name - 1) name) name f
    ]

    for_others : (rtype ≢ DS) ⊎ (name ≡ []) → looked_for_at name rtype ≡ name
    for_others (inl other) = cond-false (rtype == DS) (take (length name - 1) name) name (ne_eqb rtype DS other)
    for_others (inr root) = at_root root

-- and it is there alone
pub one_looked_for : (name : Place) (rtype : ℕ) (from : Place) → IsLookedForAt name rtype from → from ≡ looked_for_at name rtype
one_looked_for name rtype from is = elim (cases_Bool (rtype == DS)) [
  | inl t ↦ for_ds name is.above_for_ds is.itself_for_others (eqb-true rtype DS t)
  | inr f ↦ is.itself_for_others (inl (eqb-false rtype DS f)) ∙ sym (cond-false (rtype == DS) (take (length name - 1) name) name f)
]
  where
    front : (p : Place) (last : List ℕ) → take (length (p ++ last ∷ []) - 1) (p ++ last ∷ []) ≡ p
    front p last = let l : length (p ++ last ∷ []) - 1 ≡ length p = omega (arith, length-append p (last ∷ [])) in ap (λ (n : ℕ). take n (p ++ last ∷ [])) l ∙ take_at p (last ∷ []) (length p) refl

    for_ds : (n : Place) → (rtype ≡ DS → n ≢ [] → (last : List ℕ) × (n ≡ from ++ last ∷ [])) → ((rtype ≢ DS) ⊎ (n ≡ []) → from ≡ n) → rtype ≡ DS → from ≡ looked_for_at n rtype
    for_ds [] above others ds = others (inr refl) ∙ sym (cond-true (rtype == DS) (take (length {A = List ℕ} [] - 1) []) [] (eq-eqb rtype DS ds))
    for_ds (k ∷ n) above others ds =
        let parent = above ds (λ e. cc) in
        sym (front from parent.0) ∙ (ap (λ (p : Place). take (length p - 1) p) (sym parent.1) ∙ sym (cond-true (rtype == DS) (take (length (k ∷ n) - 1) (k ∷ n)) (k ∷ n) (eq-eqb rtype DS ds)))

-- the longest of places is one of them, and none of them is longer
pub record IsLongest (ps : List Place) (p : Place) : Type 0 where
  pub one : Contains ps p
  pub most : (q : Place) → Contains ps q → length q ≤ length p

none_longest : (rs : List Place) → longest rs ≡ None → (x : Place) → Contains rs x → ⊥
unfolding longest
none_longest [] g x h = not_in_none x h
none_longest (r ∷ rs) g x h = absurd cc

pub from_longest : (ps : List Place) (p : Place) → longest ps ≡ Some p → IsLongest ps p
unfolding longest
from_longest [] p e = absurd cc
from_longest (q ∷ qs) p e = by (from_longest qs) (longest qs) refl
  where
    same : (o : Option Place) → longest qs ≡ o → longer q o ≡ p
    same o f = ap (longer q) (sym f) ∙ same_Some (longer q (longest qs)) p e

    by : ((r : Place) → longest qs ≡ Some r → IsLongest qs r) → (o : Option Place) → longest qs ≡ o → IsLongest (q ∷ qs) p
    by others None f = let e : q ≡ p = same None f in subst (IsLongest (q ∷ qs)) e (record {
      one = first_in q qs;
      most = λ x h. elim (in_more q x qs h) [
        | inl is ↦ let l : length q ≡ length x = ap length is in omega (arith, l)
        | inr later ↦ absurd (none_longest qs f x later)
      ];
    })
    by others (Some r) f =
        let rest = others r f in
        elim (cases_Bool (nat_lt (length q) (length r))) [
          | inl t ↦ let is : r ≡ p = sym (cond-true (nat_lt (length q) (length r)) r q t) ∙ same (Some r) f in
              let lt = ltb-true (length q) (length r) t in
              subst (IsLongest (q ∷ qs)) is (record {
                one = later_in q r qs rest.one;
                most = λ x h. elim (in_more q x qs h) [
                  | inl e ↦ let l : length q ≡ length x = ap length e in omega (arith, l, lt)
                  | inr later ↦ rest.most x later
                ];
              })
          | inr t ↦ let is : q ≡ p = sym (cond-false (nat_lt (length q) (length r)) r q t) ∙ same (Some r) f in
              let ge = ltb-false (length q) (length r) t in
              subst (IsLongest (q ∷ qs)) is (record {
                one = first_in q qs;
                most = λ x h. elim (in_more q x qs h) [
                  | inl e ↦ let l : length q ≡ length x = ap length e in omega (arith, l)
                  | inr later ↦ let m = rest.most x later in omega (arith, m, ge)
                ];
              })
        ]

-- the island that the function gives is the island
pub island_is : (anchors : List Record) (name : Place) (rtype : ℕ) (top : Place) → island anchors name rtype ≡ Some top → IsIsland anchors name rtype top
island_is anchors name rtype top e =
    let from : Place = looked_for_at name rtype in
    let places : List Place = map (λ (anchor : Record). place anchor.owner) anchors in
    let best = from_longest (filter (is_below from) places) top e in
    let one = from_filter (is_below from) places top best.one in
    let anchor = from_map (λ (anchor : Record). place anchor.owner) anchors top one.1 in
    let above = (below_decides from top).0 one.0 in
    record {
      from = from;
      looked_for = looked_for_is name rtype;
      anchor = anchor.0;
      listed = anchor.1;
      stands_at = anchor.2;
      above = above;
      longest = λ other listed higher.
          let it : Contains (filter (is_below from) places) (place other.owner) =
          in_filter (is_below from) places (place other.owner) (in_map (λ (anchor : Record). place anchor.owner) anchors other listed) ((below_decides from (place other.owner)).1 higher) in
          let most = best.most (place other.owner) it in
          elim (ancestors_comparable from top (place other.owner) above higher) [
            | inl below ↦ below
            | inr below ↦ absurd (let l : length (place other.owner) ≡ length (top ++ below.next ∷ below.under) = ap length below.is in omega (arith, most, l, length-append top (below.next ∷ below.under)))
          ];
    }

-- what is an island by the relation is it by the function
pub island_told : (anchors : List Record) (name : Place) (rtype : ℕ) (top : Place) → IsIsland anchors name rtype top → island anchors name rtype ≡ Some top
island_told anchors name rtype top i = by (island anchors name rtype) refl
  where
    from_is : i.from ≡ looked_for_at name rtype
    from_is = one_looked_for name rtype i.from i.looked_for

    places : List Place
    places = map (λ (anchor : Record). place anchor.owner) anchors

    there : Contains (filter (is_below (looked_for_at name rtype)) places) (place i.anchor.owner)
    there = in_filter (is_below (looked_for_at name rtype)) places (place i.anchor.owner) (in_map (λ (anchor : Record). place anchor.owner) anchors i.anchor i.listed)
        ((below_decides (looked_for_at name rtype) (place i.anchor.owner)).1 (subst (IsAtOrBelow (looked_for_at name rtype)) (sym i.stands_at) (subst (λ (p : Place). IsAtOrBelow p top) from_is i.above)))

    same : (other : Place) → IsIsland anchors name rtype other → other ≡ top
    same other j =
        let both : j.from ≡ i.from = one_looked_for name rtype j.from j.looked_for ∙ sym from_is in
        let higher = subst (λ (p : Place). IsAtOrBelow p other) both j.above in
        let lower = subst (λ (p : Place). IsAtOrBelow p top) (sym both) i.above in
        below_antisymm other top
        (subst (IsAtOrBelow other) i.stands_at (j.longest i.anchor i.listed (subst (IsAtOrBelow j.from) (sym i.stands_at) lower)))
        (subst (IsAtOrBelow top) j.stands_at (i.longest j.anchor j.listed (subst (IsAtOrBelow i.from) (sym j.stands_at) higher)))

    by : (o : Option Place) → island anchors name rtype ≡ o → o ≡ Some top
    by None e = absurd (none_longest (filter (is_below (looked_for_at name rtype)) places) e (place i.anchor.owner) there)
    by (Some other) e = ap (λ (p : Place). Some p) (same other (island_is anchors name rtype other e))
