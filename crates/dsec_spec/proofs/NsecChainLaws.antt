-- Each NSEC record of a chain is true of the zone, and each name of the zone has one.
use Rattle.std.proofs.Common.{◌≡◌, ℕ, zero, suc, ◌+◌, ◌<◌, ◌≤◌, nat_eq, List, [], ◌∷◌, length, get_or, refl, sym, ap, ◌∙◌, subst, inl, inr, ◌⊎◌, arith, Some}
use Rattle.std.specs.Prelude.{AllPairs, All, Any, Contains}
use Rattle.std.specs.List.{flat_map, list_any}
use Rattle.std.specs.Cmp.{nat_eq_equiv}
use Rattle.std.proofs.lemmas.Bool.{cases_lt, eqb-true}
use Rattle.std.proofs.lemmas.List.{get_or_default}
use Rattle.std.proofs.lemmas.Map.Views.{list_any-from_Contains, Contains-from_any}
use Rattle.dsec_spec.specs.Names.{Labels, Place, place, Before}
use Rattle.dsec_spec.specs.Numbers.{RRSIG, NSEC}
use Rattle.dsec_spec.specs.Records.{Record}
use Rattle.dsec_spec.specs.RecordViews.{Nsec, nsec_of}
use Rattle.dsec_spec.specs.TypeBitmaps.{has_type}
use Rattle.dsec_spec.specs.Zones.{Zone, Owns, Stands, each_type, with_types}
use Rattle.dsec_spec.specs.DenialTruth.{IsTrueNsec}
use Rattle.dsec_spec.specs.OwnersInside.{Owner, owner_place, owner_sets, AreOwners}
use Rattle.dsec_spec.specs.ZonesOfRecords.{zone_of}
use Rattle.dsec_spec.specs.NsecChains.{signed_types, IsNsecOf, next_name, AreNsecsOf, IsNsecChain, signed_zone}
use Rattle.dsec_spec.proofs.Members.{first_in, later_in, in_more, in_front, in_back, in_either, not_in_none, in_map, from_map}
use Rattle.dsec_spec.proofs.NameOrder.{before_trans, not_before_itself}
use Rattle.dsec_spec.proofs.BitmapLaws.{reads_back}
use Rattle.dsec_spec.proofs.ZoneOfLaws.{apex_stands}

-- what stands at a name with its types
in_each : (types : List ℕ) (n : Place) (t : ℕ) → Contains types t → Contains (each_type types n) (n, t)
in_each types n t h = in_map (λ (u : ℕ). (n, u)) types t h

from_each : (types : List ℕ) (n m : Place) (t : ℕ) → Contains (each_type types n) (m, t) → (n ≡ m) × Contains types t
from_each types n m t h =
    let r = from_map (λ (u : ℕ). (n, u)) types (m, t) h in
    (ap (λ (p : Place × ℕ). p.0) r.2, subst (λ (u : ℕ). Contains types u) (ap (λ (p : Place × ℕ). p.1) r.2) r.1)

-- what stands in the sets of owners stands at one of them
stands_at : (owners : List Owner) (m : Place) (t : ℕ) → Contains (flat_map owner_sets owners) (m, t) → (j : ℕ) × (j < length owners) × ((d : Owner) → owner_place (get_or owners j d) ≡ m) × ((d : Owner) → Contains (get_or owners j d).types t)
stands_at [] m t h = absurd (not_in_none (m, t) h)
stands_at (o ∷ owners) m t h =
    elim (in_either (m, t) (owner_sets o) (flat_map owner_sets owners) h) [
      | inl g ↦ let r = from_each o.types (owner_place o) m t g in (0, omega arith, (λ _. r.0), (λ _. r.1))
      | inr g ↦ let r = stands_at owners m t g in (suc r.0, let below = r.1 in omega arith, r.2, r.3)
    ]

at_stands : (owners : List Owner) (j : ℕ) (d : Owner) (t : ℕ) → j < length owners → Contains (get_or owners j d).types t → Contains (flat_map owner_sets owners) (owner_place (get_or owners j d), t)
at_stands [] j d t lt h = absurd (omega arith)
at_stands (o ∷ owners) zero d t lt h = in_front (owner_place o, t) (owner_sets o) (flat_map owner_sets owners) (in_each o.types (owner_place o) t h)
at_stands (o ∷ owners) (suc j) d t lt h = in_back (owner_place (get_or owners j d), t) (owner_sets o) (flat_map owner_sets owners) (at_stands owners j d t (omega arith) h)

-- with types added, what stands stood before, or is added at a name
module _ (types : List ℕ) where
  adds : Place × ℕ → List (Place × ℕ)
  adds s = each_type types s.0

  from_adds : (sets : List (Place × ℕ)) (n : Place) (t : ℕ) → Contains (flat_map (λ (s : Place × ℕ). each_type types s.0) sets) (n, t) → ((u : ℕ) × Contains sets (n, u)) × Contains types t
  from_adds [] n t h = absurd (not_in_none (n, t) h)
  from_adds (s ∷ sets) n t h =
      elim (in_either (n, t) (each_type types s.0) (flat_map (λ (s : Place × ℕ). each_type types s.0) sets) h) [
        | inl g ↦ let r = from_each types s.0 n t g in
            ((s.1, subst (λ (p : Place). Contains (s ∷ sets) (p, s.1)) r.0 (first_in s sets)), r.1)
        | inr g ↦ let r = from_adds sets n t g in ((r.0.0, later_in s (n, r.0.0) sets r.0.1), r.1)
      ]

  in_adds : (sets : List (Place × ℕ)) (n : Place) (t u : ℕ) → Contains sets (n, u) → Contains types t → Contains (flat_map (λ (s : Place × ℕ). each_type types s.0) sets) (n, t)
  in_adds [] n t u h g = absurd (not_in_none (n, u) h)
  in_adds (s ∷ sets) n t u h g =
      elim (in_more s (n, u) sets h) [
        | inl e ↦ in_front (n, t) (each_type types s.0) (flat_map (λ (s : Place × ℕ). each_type types s.0) sets)
            (subst (λ (p : Place × ℕ). Contains (each_type types p.0) (n, t)) (sym e) (in_each types n t g))
        | inr later ↦ in_back (n, t) (each_type types s.0) (flat_map (λ (s : Place × ℕ). each_type types s.0) sets) (in_adds sets n t u later g)
      ]

  from_with : (z : Zone) (n : Place) (t : ℕ) → Owns (with_types types z) n t → Owns z n t ⊎ (Stands z n × Contains types t)
  from_with z n t h =
      elim (in_either (n, t) z.sets (flat_map (λ (s : Place × ℕ). each_type types s.0) z.sets) h) [
        | inl g ↦ inl g
        | inr g ↦ inr (from_adds z.sets n t g)
      ]

  with_old : (z : Zone) (n : Place) (t : ℕ) → Owns z n t → Owns (with_types types z) n t
  with_old z n t h = in_front (n, t) z.sets (flat_map (λ (s : Place × ℕ). each_type types s.0) z.sets) h

  with_new : (z : Zone) (n : Place) (t : ℕ) → Stands z n → Contains types t → Owns (with_types types z) n t
  with_new z n t s g = in_back (n, t) z.sets (flat_map (λ (s : Place × ℕ). each_type types s.0) z.sets) (in_adds z.sets n t s.0 s.1 g)

  -- no name is added
  stood : (z : Zone) (n : Place) → Stands (with_types types z) n → Stands z n
  stood z n s = elim (from_with z n s.0 s.1) [ inl old ↦ (s.0, old) | inr new ↦ new.0 ]

-- owners that rise differ, and places say which
rising_index : (owners : List Owner) → AllPairs (λ o p. Before (owner_place o) (owner_place p)) owners → (i j : ℕ) (d : Owner) → i < length owners → j < length owners → Before (owner_place (get_or owners i d)) (owner_place (get_or owners j d)) → i < j
rising_index owners up i j d li lj b =
    elim (cases_lt i j) [
      | inl h ↦ h
      | inr h ↦ elim (cases_lt j i) [
        | inl g ↦ absurd (not_before_itself (owner_place (get_or owners i d)) (before_trans (owner_place (get_or owners i d)) (owner_place (get_or owners j d)) (owner_place (get_or owners i d)) b (up j i d g li)))
        | inr g ↦ absurd (let e : i ≡ j = omega arith in not_before_itself (owner_place (get_or owners j d)) (subst (λ (x : ℕ). Before (owner_place (get_or owners x d)) (owner_place (get_or owners j d))) e b))
      ]
    ]

one_index : (owners : List Owner) → AllPairs (λ o p. Before (owner_place o) (owner_place p)) owners → (i j : ℕ) (d : Owner) → i < length owners → j < length owners → owner_place (get_or owners i d) ≡ owner_place (get_or owners j d) → i ≡ j
one_index owners up i j d li lj e =
    elim (cases_lt i j) [
      | inl h ↦ absurd (not_before_itself (owner_place (get_or owners j d)) (subst (λ (p : Place). Before p (owner_place (get_or owners j d))) e (up i j d h lj)))
      | inr h ↦ elim (cases_lt j i) [
        | inl g ↦ absurd (not_before_itself (owner_place (get_or owners j d)) (subst (λ (p : Place). Before (owner_place (get_or owners j d)) p) e (up j i d g li)))
        | inr g ↦ omega arith
      ]
    ]

-- the record is that of owner k
record IsLink (z : Zone) (owners : List Owner) (k : ℕ) (r : Record) : Type 0 where
  pub owner : (d : Owner) → place r.owner ≡ owner_place (get_or owners k d)
  pub rtype : r.rtype ≡ NSEC
  pub nsec : Nsec
  pub says : nsec_of r.rdata ≡ Some nsec
  pub next : k + 1 < length owners → (d : Owner) → place nsec.next_name ≡ owner_place (get_or owners (k + 1) d)
  pub last : length owners ≤ k + 1 → place nsec.next_name ≡ z.apex
  pub types : (d : Owner) (t : ℕ) → t < 65536 → has_type nsec.types t ≡ list_any (nat_eq t) (signed_types (get_or owners k d).types)

module _ (z : Zone) (apex : Labels) (top : place apex ≡ z.apex) (class ttl : ℕ) where
  -- there is one record of each owner
  same_count : (owners : List Owner) (nsecs : List Record) → AreNsecsOf apex class ttl owners nsecs → length nsecs ≡ length owners
  same_count [] [] h = refl
  same_count [] (r ∷ nsecs) h = absurd h
  same_count (o ∷ owners) [] h = absurd h
  same_count (o ∷ owners) (r ∷ nsecs) h = ap (λ (n : ℕ). suc n) (same_count owners nsecs h.1)

  link_of : (o : Owner) (owners : List Owner) (r : Record) → IsNsecOf o (next_name apex owners) class ttl r → IsLink z (o ∷ owners) 0 r
  link_of o owners r it = record {
    owner = λ d. ap (λ (s : Record). place s.owner) it.is;
    rtype = ap (λ (s : Record). s.rtype) it.is;
    nsec = it.nsec;
    says = ap (λ (s : Record). nsec_of s.rdata) it.is ∙ it.says;
    next = λ more d. ap place it.next_is ∙ follows owners d (omega (arith, more));
    last = λ none. ap place it.next_is ∙ ends owners (omega (arith, none));
    types = λ d t small. reads_back (signed_types o.types) it.nsec.types it.types t small;
  }
    where
      follows : (owners : List Owner) (d : Owner) → 0 < length owners → place (next_name apex owners) ≡ owner_place (get_or owners 0 d)
      follows [] d lt = absurd (omega arith)
      follows (p ∷ owners) d lt = refl

      ends : (owners : List Owner) → length owners ≤ 0 → place (next_name apex owners) ≡ z.apex
      ends [] none = top
      ends (p ∷ owners) none = absurd (omega arith)

  link_after : (o : Owner) (owners : List Owner) (k : ℕ) (r : Record) → IsLink z owners k r → IsLink z (o ∷ owners) (suc k) r
  link_after o owners k r l = record {
    owner = l.owner;
    rtype = l.rtype;
    nsec = l.nsec;
    says = l.says;
    next = λ more d.
        let e : suc (k + 1) ≡ suc k + 1 = omega arith in
        subst (λ (j : ℕ). place l.nsec.next_name ≡ owner_place (get_or (o ∷ owners) j d)) e (l.next (omega arith) d);
    last = λ none. l.last (omega arith);
    types = l.types;
  }

  links : (owners : List Owner) (nsecs : List Record) → AreNsecsOf apex class ttl owners nsecs → (k : ℕ) (d : Record) → k < length owners → IsLink z owners k (get_or nsecs k d)
  links [] nsecs h k d lt = absurd (omega arith)
  links (o ∷ owners) [] h k d lt = absurd h
  links (o ∷ owners) (r ∷ nsecs) h zero d lt = link_of o owners r h.0
  links (o ∷ owners) (r ∷ nsecs) h (suc k) d lt = link_after o owners k (get_or nsecs k d) (links owners nsecs h.1 k d (omega arith))

module _ (z : Zone) (owners : List Owner) (are : AreOwners z owners) (d : Owner) where
  -- each owner stands in the zone
  owner_stands : (k : ℕ) → k < length owners → Stands z (owner_place (get_or owners k d))
  owner_stands k lt = by ((get_or owners k d).types) refl
    where
      by : (types : List ℕ) → (get_or owners k d).types ≡ types → Stands z (owner_place (get_or owners k d))
      by [] e = absurd (are.typed k d lt e)
      by (t ∷ types) e = (
        t,
        subst (λ (sets : List (Place × ℕ)). Contains sets (owner_place (get_or owners k d), t)) (sym are.sets)
            (at_stands owners k d t lt (subst (λ (ts : List ℕ). Contains ts t) (sym e) (first_in t types))),
      )

  -- and each name that stands is an owner
  owner_of : (m : Place) (t : ℕ) → Owns z m t → (j : ℕ) × (j < length owners) × ((d : Owner) → owner_place (get_or owners j d) ≡ m) × ((d : Owner) → Contains (get_or owners j d).types t)
  owner_of m t h = stands_at owners m t (subst (λ (sets : List (Place × ℕ)). Contains sets (m, t)) are.sets h)

  link_true : (k : ℕ) (r : Record) → Stands z z.apex → k < length owners → IsLink z owners k r → IsTrueNsec (signed_zone z) r
  link_true k r top lt l =
      let mine : place r.owner ≡ owner_place (get_or owners k d) = l.owner d in
      let here : Stands z (place r.owner) = subst (λ (p : Place). Stands z p) (sym mine) (owner_stands k lt) in
      let there : Stands z (place l.nsec.next_name) = elim (cases_lt (k + 1) (length owners)) [
        | inl more ↦ subst (λ (p : Place). Stands z p) (sym (l.next more d)) (owner_stands (k + 1) more)
        | inr last ↦ subst (λ (p : Place). Stands z p) (sym (l.last last)) top
      ] in
      record {
        rtype = l.rtype;
        nsec = l.nsec;
        says = l.says;
        holds = record {
          owner = (NSEC, with_new (RRSIG ∷ NSEC ∷ []) z (place r.owner) NSEC here (1, omega arith, refl));
          types = λ t small. (
            λ set.
                let listed : Contains (signed_types (get_or owners k d).types) t = Contains-from_any eqb-true t (signed_types (get_or owners k d).types) (sym (l.types d t small) ∙ set) in
                elim (in_either t ((get_or owners k d).types) (RRSIG ∷ NSEC ∷ []) listed) [
                  | inl old ↦ with_old (RRSIG ∷ NSEC ∷ []) z (place r.owner) t
                      (subst (λ (p : Place). Owns z p t) (sym mine) (subst (λ (sets : List (Place × ℕ)). Contains sets (owner_place (get_or owners k d), t)) (sym are.sets) (at_stands owners k d t lt old)))
                  | inr new ↦ with_new (RRSIG ∷ NSEC ∷ []) z (place r.owner) t here new
                ],
            λ owns.
                let listed : Contains (signed_types (get_or owners k d).types) t =
                elim (from_with (RRSIG ∷ NSEC ∷ []) z (place r.owner) t owns) [
                  | inl old ↦
                      let s = owner_of (place r.owner) t old in
                      let e : s.0 ≡ k = one_index owners are.rise s.0 k d s.1 lt (s.2 d ∙ mine) in
                      in_front t ((get_or owners k d).types) (RRSIG ∷ NSEC ∷ []) (subst (λ (j : ℕ). Contains (get_or owners j d).types t) e (s.3 d))
                  | inr new ↦ in_back t ((get_or owners k d).types) (RRSIG ∷ NSEC ∷ []) new.1
                ] in
                l.types d t small ∙ list_any-from_Contains nat_eq_equiv t (signed_types (get_or owners k d).types) listed,
          );
          next = (NSEC, with_new (RRSIG ∷ NSEC ∷ []) z (place l.nsec.next_name) NSEC there (1, omega arith, refl));
          gap = elim (cases_lt (k + 1) (length owners)) [
            | inl more ↦
                let next : place l.nsec.next_name ≡ owner_place (get_or owners (k + 1) d) = l.next more d in
                inl (
                  rw (mine, next) (are.rise k (k + 1) d (omega arith) more),
                  λ m s b e.
                      let old = stood (RRSIG ∷ NSEC ∷ []) z m s in
                      let at = owner_of m old.0 old.1 in
                      let low : k < at.0 = rising_index owners are.rise k at.0 d lt at.1 (rw (← mine, at.2 d) b) in
                      let high : at.0 < k + 1 = rising_index owners are.rise at.0 (k + 1) d at.1 more (rw (← next, at.2 d) e) in
                      absurd (omega arith),
                )
            | inr last ↦
                inr (
                  l.last last,
                  λ m s b.
                      let old = stood (RRSIG ∷ NSEC ∷ []) z m s in
                      let at = owner_of m old.0 old.1 in
                      let low : k < at.0 = rising_index owners are.rise k at.0 d lt at.1 (rw (← mine, at.2 d) b) in
                      let high = at.1 in
                      absurd (omega arith),
                )
          ];
        };
      }

-- the same, with no default
each_link_true : (z : Zone) (owners : List Owner) → AreOwners z owners → (k : ℕ) (r : Record) → Stands z z.apex → k < length owners → IsLink z owners k r → IsTrueNsec (signed_zone z) r
each_link_true z [] are k r top lt l = absurd (omega arith)
each_link_true z (o ∷ owners) are k r top lt l = link_true z (o ∷ owners) are o k r top lt l

-- each record of the chain is true of the zone that the input makes, once NSEC and RRSIG stand at each of its names
pub chain_true : (apex : Labels) (records nsecs : List Record) → IsNsecChain apex records nsecs → All (IsTrueNsec (signed_zone (zone_of (place apex) records))) nsecs
chain_true apex records nsecs chain k d lt =
    let z = zone_of (place apex) records in
    let count = same_count z apex refl _ _ chain.owners nsecs chain.each in
    let below : k < length chain.owners = omega (arith, count) in
    each_link_true z chain.owners chain.are k (get_or nsecs k d) (apex_stands (place apex) records chain.soa chain.one) below (links z apex refl _ _ chain.owners nsecs chain.each k d below)

-- and each of its names has one
pub chain_whole : (apex : Labels) (records nsecs : List Record) → IsNsecChain apex records nsecs → (n : Place) → Stands (zone_of (place apex) records) n → Any (λ r. place r.owner ≡ n) nsecs
chain_whole apex records nsecs chain n s =
    let z = zone_of (place apex) records in
    let at = stands_at chain.owners n s.0 (subst (λ (sets : List (Place × ℕ)). Contains sets (n, s.0)) chain.are.sets s.1) in
    let count = same_count z apex refl _ _ chain.owners nsecs chain.each in
    let below : at.0 < length nsecs = let lt = at.1 in omega (arith, count) in
    some_at nsecs at.0 below (λ r. (links z apex refl _ _ chain.owners nsecs chain.each at.0 r at.1).owner none ∙ at.2 none)
  where
    none : Owner
    none = record { name = []; types = [] }

    some_at : (xs : List Record) (k : ℕ) → k < length xs → ((r : Record) → place (get_or xs k r).owner ≡ n) → Any (λ r. place r.owner ≡ n) xs
    some_at [] k lt h = absurd (omega arith)
    some_at (x ∷ xs) k lt h = (k, get_or (x ∷ xs) k x, lt, get_or_default (x ∷ xs) k (get_or (x ∷ xs) k x) x lt, h x)
