-- The anchors of an owner, and of an island.
use Rattle.std.proofs.Common.{◌≡◌, ℕ, ◌+◌, ◌<◌, Bool, true, List, [], ◌∷◌, ◌++◌, length, refl, sym, ap, ◌∙◌, subst, arith, append_assoc, length-append, inl, inr, ◌⊎◌, ◌&&◌, nat_lt}
use Rattle.std.specs.Prelude.{Contains, filter, find, Option, Some, None, ◌≢◌}
use Rattle.std.specs.Bool.{one_answer}
use Rattle.std.specs.Option.{option_map}
use Rattle.std.proofs.lemmas.Bool.{cases_Bool, cond-true, cond-false}
use Rattle.std.proofs.lemmas.Bool.Decides.{Decides-and, Decides-like, Decides-ltb}
use Rattle.std.proofs.lemmas.Option.{same_Some}
use Rattle.dsec_spec.specs.Names.{Place, place, same_place, is_below, IsAtOrBelow}
use Rattle.dsec_spec.specs.Numbers.{DS}
use Rattle.dsec_spec.specs.Records.{Record}
use Rattle.dsec_spec.specs.Islands.{island, looked_for_at}
use Rattle.dsec_spec.proofs.CanonicalNames.{same_place_decides}
use Rattle.dsec_spec.proofs.IslandLemmas.{island_is, looked_for_is}
use Rattle.dsec_spec.proofs.Members.{first_in, from_filter, in_filter, not_in_none}
use Rattle.dsec_spec.proofs.NamesBelow.{ancestors_comparable}
use Rattle.dsec_spec.proofs.SignedTests.{below_decides}
use Rattle.dsec_anchors.specs.Anchors.{OwnersAnchors, anchor_view, records_at, with_owner, anchors_at}
use Rattle.dsec_anchors.specs.declared.anchors.TrustAnchor.{TrustAnchor}

-- the first that passes is the first of those that pass
abbrev first_of : List Record → Option Record
first_of [] = None
first_of (first ∷ others) = Some first

find_first : (test : Record → Bool) (anchors : List Record) → find test anchors ≡ first_of (filter test anchors)
find_first test [] = refl
find_first test (a ∷ anchors) = elim (cases_Bool (test a)) [
  | inl t ↦ cond-true (test a) (Some a) (find test anchors) t ∙ sym (ap first_of (cond-true (test a) (a ∷ filter test anchors) (filter test anchors) t))
  | inr f ↦ cond-false (test a) (Some a) (find test anchors) f ∙ (find_first test anchors ∙ sym (ap first_of (cond-false (test a) (a ∷ filter test anchors) (filter test anchors) f)))
]

owned : (rs : List Record) (first : Record) → first_of rs ≡ Some first → with_owner rs ≡ Some (record { owner = first.owner; records = rs })
owned [] first e = absurd cc
owned (r ∷ rs) first e = let same : r ≡ first = same_Some r first e in ap (λ (one : Record). Some (record { owner = one.owner; records = r ∷ rs })) same

unowned : (rs : List Record) → first_of rs ≡ None → None ≡ with_owner rs
unowned [] e = refl
unowned (r ∷ rs) e = absurd cc

passes : (test : Record → Bool) (anchors : List Record) (one : Record) → find test anchors ≡ Some one → test one ≡ true
passes test [] one e = absurd cc
passes test (a ∷ anchors) one e = elim (cases_Bool (test a)) [
  | inl t ↦ let same : a ≡ one = same_Some a one (sym (cond-true (test a) (Some a) (find test anchors) t) ∙ e) in subst (λ (r : Record). test r ≡ true) same t
  | inr f ↦ passes test anchors one (sym (cond-false (test a) (Some a) (find test anchors) f) ∙ e)
]

-- the anchors at a place are those at the place of the first of them
pub anchors_by_first : (anchors : List Record) (p : Place) (first : Record) → find (λ one. same_place (place one.owner) p) anchors ≡ Some first
    → Some (record { owner = first.owner; records = records_at anchors (place first.owner) }) ≡ anchors_at anchors p
anchors_by_first anchors p first found =
    let test = λ (one : Record). same_place (place one.owner) p in
    let at : place first.owner ≡ p = (same_place_decides (place first.owner) p).0 (passes test anchors first found) in
    ap (λ (q : Place). Some (record { owner = first.owner; records = records_at anchors q })) at
    ∙ sym (owned (filter test anchors) first (sym (find_first test anchors) ∙ found))

pub no_anchors : (anchors : List Record) (p : Place) → find (λ one. same_place (place one.owner) p) anchors ≡ None → None ≡ anchors_at anchors p
no_anchors anchors p none =
    let test = λ (one : Record). same_place (place one.owner) p in
    unowned (filter test anchors) (sym (find_first test anchors) ∙ none)

-- at or above the parent is above the name
pub above_parent : (p q : Place) → p ≢ [] → is_below (looked_for_at p DS) q ≡ (nat_lt (length q) (length p) && is_below p q)
above_parent p q under =
    let parent = looked_for_at p DS in
    let last = (looked_for_is p DS).above_for_ds refl under in
    let long : length p ≡ length parent + 1 = ap length last.1 ∙ length-append parent (last.0 ∷ []) in
    one_answer (is_below parent q) (nat_lt (length q) (length p) && is_below p q) (below_decides parent q)
    (Decides-like {P = (length q < length p) × IsAtOrBelow p q} (nat_lt (length q) (length p) && is_below p q)
    (λ both. elim (ancestors_comparable p parent q (record { under = last.0 ∷ []; is = last.1 }) both.1) [
      | inl at ↦ at
      | inr below ↦ absurd (let l : length q ≡ length (parent ++ below.next ∷ below.under) = ap length below.is in let s = both.0 in omega (arith, l, long, s, length-append parent (below.next ∷ below.under)))
    ])
    (λ at. (
      let l : length parent ≡ length (q ++ at.under) = ap length at.is in omega (arith, l, long, length-append q at.under),
      record { under = at.under ++ last.0 ∷ []; is = last.1 ∙ (ap (λ (x : Place). x ++ last.0 ∷ []) at.is ∙ append_assoc q at.under (last.0 ∷ [])) },
    ))
    (Decides-and _ _ (Decides-ltb (length q) (length p)) (below_decides p q)))

-- at the root, and for other types, a set is looked for at the name itself
pub at_the_name : (p : Place) (rtype : ℕ) → ((rtype ≡ DS → ⊥) ⊎ (p ≡ [])) → looked_for_at p rtype ≡ p
at_the_name p rtype h = (looked_for_is p rtype).itself_for_others h

owner_at : (rs : List Record) (p : Place) → ((r : Record) → Contains rs r → place r.owner ≡ p) → (r : Record) → Contains rs r
    → option_map (λ (o : OwnersAnchors). place o.owner) (with_owner rs) ≡ Some p
owner_at [] p all r there = absurd (not_in_none r there)
owner_at (q ∷ rs) p all r there = ap (λ (x : Place). Some x) (all q (first_in q rs))

-- there are anchors at an island
pub anchors_at_island : (anchors : List Record) (name : Place) (rtype : ℕ) (p : Place) → island anchors name rtype ≡ Some p
    → option_map (λ (o : OwnersAnchors). place o.owner) (anchors_at anchors p) ≡ Some p
anchors_at_island anchors name rtype p e =
    let test = λ (one : Record). same_place (place one.owner) p in
    let is = island_is anchors name rtype p e in
    owner_at (filter test anchors) p (λ r there. (same_place_decides (place r.owner) p).0 (from_filter test anchors r there).0)
    is.anchor (in_filter test anchors is.anchor is.listed ((same_place_decides (place is.anchor.owner) p).1 is.stands_at))

pub view_place : (o : Option TrustAnchor) → option_map (λ (it : TrustAnchor). place (anchor_view it).owner) o ≡ option_map (λ (a : OwnersAnchors). place a.owner) (option_map anchor_view o)
view_place None = refl
view_place (Some it) = refl
