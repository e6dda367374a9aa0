-- The owners that owe NSEC3 records, and the empty non-terminals above them, are the names that the zone hashes.
use Rattle.std.proofs.Common.{◌≡◌, ℕ, ◌==◌, Bool, true, false, ◌&&◌, List, [], ◌∷◌, get_or, map, refl, sym, ap, ◌∙◌, subst, inl, inr, arith, eqb-true, eq-eqb}
use Rattle.std.specs.Prelude.{AllPairs, Contains, filter}
use Rattle.std.specs.List.{list_any, flat_map}
use Rattle.std.proofs.Math.Bool.{not}
use Rattle.std.proofs.lemmas.Bool.{cases_lt, true≢false}
use Rattle.std.proofs.lemmas.List.{get_or_default}
use Rattle.std.proofs.lemmas.List.Elements.{All-contains}
use Rattle.std.proofs.lemmas.List.Kept.{AllPairs-filter}
use Rattle.dsec_spec.specs.Names.{Place, place, same_place, is_strictly_below, Before, IsAtOrBelow, IsStrictlyBelow}
use Rattle.dsec_spec.specs.Numbers.{NS, DS}
use Rattle.dsec_spec.specs.Records.{Record}
use Rattle.dsec_spec.specs.Zones.{Owns, IsDelegation, IsInsecureDelegation}
use Rattle.dsec_spec.specs.ZonesOfRecords.{is_cut, is_delegation, is_inside, is_own, is_of_zone, set_key, zone_of, soas_at}
use Rattle.dsec_spec.specs.OwnersInside.{Inside, AreInside}
use Rattle.dsec_spec.specs.HashedNames.{IsHashed}
use Rattle.dsec_spec.proofs.CanonicalNames.{same_place_decides}
use Rattle.dsec_spec.proofs.SignedTests.{strictly_below_decides}
use Rattle.dsec_spec.proofs.NameOrder.{not_before_itself}
use Rattle.dsec_spec.proofs.NamesBelow.{below_itself, at_or_below, same_or_below, not_strictly_itself, not_both_below}
use Rattle.dsec_spec.proofs.Members.{first_in, later_in, in_more, in_front, in_back, in_either, not_in_none, in_map, from_map, in_filter, from_filter, some_passes}
use Rattle.dsec_spec.proofs.Choosing.{both, passes}
use Rattle.dsec_spec.proofs.ZoneOfLaws.{zone_within, apex_stands}
use Rattle.dsec_hashed.specs.HashedList.{is_kept, names_of}
use Rattle.dsec_hashed.specs.Hashed.{place_of}
use Rattle.dsec_hashed.proofs.NamesLaws.{comes_from, owner_there, above_there}

module _ {A B : Type 0} (f : A → List B) where
  pub in_flat : (xs : List A) (x : A) (y : B) → Contains xs x → Contains (f x) y → Contains (flat_map f xs) y
  in_flat [] x y h g = absurd (not_in_none x h)
  in_flat (z ∷ xs) x y h g = elim (in_more z x xs h) [
    | inl same ↦ in_front y (f z) (flat_map f xs) (subst (λ (w : A). Contains (f w) y) (sym same) g)
    | inr later ↦ in_back y (f z) (flat_map f xs) (in_flat xs x y later g)
  ]

  pub from_flat : (xs : List A) (y : B) → Contains (flat_map f xs) y → (x : A) × Contains xs x × Contains (f x) y
  from_flat [] y h = absurd (not_in_none y h)
  from_flat (z ∷ xs) y h = elim (in_either y (f z) (flat_map f xs) h) [
    | inl front ↦ (z, first_in z xs, front)
    | inr back ↦ let r = from_flat xs y back in (r.0, later_in z r.0 xs r.1, r.2)
  ]

own_ns : (cut : Bool) (r : Record) → r.rtype ≡ NS → is_own cut r ≡ true
own_ns true r e = rw e refl
own_ns false r e = rw e refl

own_ds : (cut : Bool) (r : Record) → r.rtype ≡ DS → is_own cut r ≡ true
own_ds true r e = rw e refl
own_ds false r e = rw e refl

module _ (apex : Place) (records : List Record) (all : List Inside) (are : AreInside apex records all) where
  pub each_of : (o : Inside) → Contains all o → (o.cut ≡ is_delegation apex records (place o.name)) × ((r : Record) → Contains o.records r → place r.owner ≡ place o.name)
  each_of o h = All-contains (λ (o : Inside). (o.cut ≡ is_delegation apex records (place o.name)) × ((r : Record) → Contains o.records r → place r.owner ≡ place o.name)) all o are.each h

  -- a record of an owner is one of the records inside
  pub inside_record : (o : Inside) → Contains all o → (r : Record) → Contains o.records r → (is_inside apex records (place r.owner) ≡ true) × Contains records r
  inside_record o h r g =
      from_filter (λ r. is_inside apex records (place r.owner)) records r (subst (λ (xs : List Record). Contains xs r) (sym are.kept) (in_flat (λ (o : Inside). o.records) all o r h g))

  -- and each record inside is an owner's
  pub of_owner : (r : Record) → Contains records r → is_inside apex records (place r.owner) ≡ true → (o : Inside) × Contains all o × Contains o.records r
  of_owner r h inside =
      from_flat (λ (o : Inside). o.records) all r (subst (λ (xs : List Record). Contains xs r) are.kept (in_filter (λ r. is_inside apex records (place r.owner)) records r h inside))

  -- owners at one place are one
  pub one_owner : (o p : Inside) → Contains all o → Contains all p → place o.name ≡ place p.name → o ≡ p
  one_owner o p a b e =
      let at_a : get_or all a.0 o ≡ o = a.2 in
      let at_b : get_or all b.0 o ≡ p = get_or_default all b.0 o p b.1 ∙ b.2 in
      let same : place (get_or all a.0 o).name ≡ place (get_or all b.0 o).name = ap place_of at_a ∙ (e ∙ sym (ap place_of at_b)) in
      elim (cases_lt a.0 b.0) [
        | inl h ↦ absurd (not_before_itself (place (get_or all b.0 o).name) (subst (λ (n : Place). Before n (place (get_or all b.0 o).name)) same (are.rise a.0 b.0 o h b.1)))
        | inr h ↦ elim (cases_lt b.0 a.0) [
          | inl g ↦ absurd (not_before_itself (place (get_or all b.0 o).name) (subst (λ (n : Place). Before (place (get_or all b.0 o).name) n) same (are.rise b.0 a.0 o g a.1)))
          | inr g ↦ let at : a.0 ≡ b.0 = omega arith in sym at_a ∙ (ap (λ (k : ℕ). get_or all k o) at ∙ at_b)
        ]
      ]

  -- what stands in the zone stands at an owner
  pub stands_owner : (n : Place) (t : ℕ) → Owns (zone_of apex records) n t → (o : Inside) × Contains all o × (place o.name ≡ n) × ((r : Record) × Contains o.records r × (is_own o.cut r ≡ true) × (r.rtype ≡ t))
  stands_owner n t h =
      let m = from_map set_key (filter (is_of_zone apex records) records) (n, t) h in
      let r = m.0 in
      let f = from_filter (is_of_zone apex records) records r m.1 in
      let b = both (is_inside apex records (place r.owner)) (is_own (is_delegation apex records (place r.owner)) r) f.0 in
      let o = of_owner r f.1 b.0 in
      let mine : place r.owner ≡ place o.0.name = (each_of o.0 o.1).1 r o.2 in
      let cut : is_delegation apex records (place r.owner) ≡ o.0.cut = ap (is_delegation apex records) mine ∙ sym (each_of o.0 o.1).0 in
      (o.0, o.1, sym mine ∙ ap (λ (s : Place × ℕ). s.0) m.2, (r, o.2, ap (λ (c : Bool). is_own c r) (sym cut) ∙ b.1, ap (λ (s : Place × ℕ). s.1) m.2))

  -- and what stands at an owner stands in the zone
  pub of_zone : (o : Inside) → Contains all o → (r : Record) → Contains o.records r → is_own o.cut r ≡ true → is_of_zone apex records r ≡ true
  of_zone o h r g own =
      let inside = inside_record o h r g in
      let mine : place r.owner ≡ place o.name = (each_of o h).1 r g in
      let cut : is_delegation apex records (place r.owner) ≡ o.cut = ap (is_delegation apex records) mine ∙ sym (each_of o h).0 in
      rw (inside.0) (ap (λ (c : Bool). is_own c r) cut ∙ own)

  pub owner_stands : (o : Inside) → Contains all o → (r : Record) → Contains o.records r → is_own o.cut r ≡ true → Owns (zone_of apex records) (place o.name) r.rtype
  owner_stands o h r g own =
      subst (λ (n : Place). Owns (zone_of apex records) n r.rtype) ((each_of o h).1 r g)
      (in_map set_key (filter (is_of_zone apex records) records) r (in_filter (is_of_zone apex records) records r (inside_record o h r g).1 (of_zone o h r g own)))

  -- a cut is a delegation
  pub cut_delegates : (o : Inside) → Contains all o → (x : Record) → Contains o.records x → o.cut ≡ true → IsDelegation (zone_of apex records) (place o.name)
  cut_delegates o h x gx cut =
      let f = some_passes (λ r. is_cut apex r && same_place (place r.owner) (place o.name)) records (sym (each_of o h).0 ∙ cut) in
      let r = f.0 in
      let b = both (is_cut apex r) (same_place (place r.owner) (place o.name)) f.2 in
      let c = both (r.rtype == NS) (is_strictly_below (place r.owner) apex) b.0 in
      let at : place r.owner ≡ place o.name = (same_place_decides (place r.owner) (place o.name)).0 b.1 in
      let inside : is_inside apex records (place r.owner) ≡ true = ap (is_inside apex records) (at ∙ sym ((each_of o h).1 x gx)) ∙ (inside_record o h x gx).0 in
      let p = of_owner r f.1 inside in
      let same : p.0 ≡ o = one_owner p.0 o p.1 h (sym ((each_of p.0 p.1).1 r p.2) ∙ at) in
      let kind : r.rtype ≡ NS = eqb-true r.rtype NS c.0 in
      record {
        ns = subst (λ (t : ℕ). Owns (zone_of apex records) (place o.name) t) kind (owner_stands o h r (subst (λ (q : Inside). Contains q.records r) same p.2) (own_ns o.cut r kind));
        below = λ top. not_strictly_itself apex (subst (λ (n : Place). IsStrictlyBelow n apex) (at ∙ top) ((strictly_below_decides (place r.owner) apex).0 c.1));
      }

  pub delegation_cuts : (o : Inside) → Contains all o → IsDelegation (zone_of apex records) (place o.name) → o.cut ≡ true
  delegation_cuts o h d =
      let s = stands_owner (place o.name) NS d.ns in
      let r = s.3.0 in
      let mine : place r.owner ≡ place o.name = (each_of s.0 s.1).1 r s.3.1 ∙ s.2 in
      let inside = inside_record s.0 s.1 r s.3.1 in
      let below : IsStrictlyBelow (place r.owner) apex = elim (same_or_below (place o.name) apex (zone_within apex records (place o.name) NS d.ns)) [
        | inl top ↦ absurd (d.below top)
        | inr strictly ↦ subst (λ (n : Place). IsStrictlyBelow n apex) (sym mine) strictly
      ] in
      (each_of o h).0 ∙ passes (λ r. is_cut apex r && same_place (place r.owner) (place o.name)) records r inside.1
      (rw (eq-eqb r.rtype NS s.3.3, (strictly_below_decides (place r.owner) apex).1 below) ((same_place_decides (place r.owner) (place o.name)).1 mine))

  -- an owner has DS where a record of its is DS
  pub ds_there : (o : Inside) → Contains all o → Owns (zone_of apex records) (place o.name) DS → list_any (λ r. r.rtype == DS) o.records ≡ true
  ds_there o h ds =
      let s = stands_owner (place o.name) DS ds in
      let same : s.0 ≡ o = one_owner s.0 o s.1 h s.2 in
      passes (λ r. r.rtype == DS) o.records s.3.0 (subst (λ (q : Inside). Contains q.records s.3.0) same s.3.1) (eq-eqb s.3.0.rtype DS s.3.3)

  pub there_ds : (o : Inside) → Contains all o → list_any (λ r. r.rtype == DS) o.records ≡ true → Owns (zone_of apex records) (place o.name) DS
  there_ds o h e =
      let f = some_passes (λ r. r.rtype == DS) o.records e in
      let kind : f.0.rtype ≡ DS = eqb-true f.0.rtype DS f.2 in
      subst (λ (t : ℕ). Owns (zone_of apex records) (place o.name) t) kind (owner_stands o h f.0 f.1 (own_ds o.cut f.0 kind))

  -- ---- which owners owe a record

  kept_parts : (opt_out cut ds : Bool) → not ((opt_out && cut) && not ds) ≡ true → opt_out ≡ true → cut ≡ true → ds ≡ true
  kept_parts true true true h a b = refl
  kept_parts true true false h a b = absurd (true≢false (sym h))
  kept_parts true false ds h a b = absurd (true≢false (sym b))
  kept_parts false cut ds h a b = absurd (true≢false (sym a))

  parts_kept : (opt_out cut ds : Bool) → (opt_out ≡ true → cut ≡ true → ds ≡ true) → not ((opt_out && cut) && not ds) ≡ true
  parts_kept true true true h = refl
  parts_kept true true false h = h refl refl
  parts_kept true false ds h = refl
  parts_kept false cut ds h = refl

  pub kept_owes : (opt_out : Bool) (o : Inside) → Contains all o → is_kept opt_out o.cut o.records ≡ true → opt_out ≡ true → IsInsecureDelegation (zone_of apex records) (place o.name) → ⊥
  kept_owes opt_out o h kept out insecure =
      let b = both (list_any (is_own o.cut) o.records) (not ((opt_out && o.cut) && not (list_any (λ r. r.rtype == DS) o.records))) kept in
      insecure.1 (there_ds o h (kept_parts opt_out o.cut (list_any (λ r. r.rtype == DS) o.records) b.1 out (delegation_cuts o h insecure.0)))

  pub owes_kept : (opt_out : Bool) (o : Inside) → Contains all o → (x : Record) → Contains o.records x → is_own o.cut x ≡ true → (opt_out ≡ true → IsInsecureDelegation (zone_of apex records) (place o.name) → ⊥) → is_kept opt_out o.cut o.records ≡ true
  owes_kept opt_out o h x g own owes =
      rw (passes (is_own o.cut) o.records x g own) (parts_kept opt_out o.cut (list_any (λ r. r.rtype == DS) o.records) (λ out cut. by (list_any (λ r. r.rtype == DS) o.records) refl out cut))
    where
      by : (b : Bool) → list_any (λ r. r.rtype == DS) o.records ≡ b → opt_out ≡ true → o.cut ≡ true → b ≡ true
      by true e out cut = refl
      by false e out cut = absurd (owes out (cut_delegates o h x g cut, λ ds. true≢false (sym (ds_there o h ds) ∙ e)))

  abbrev pub owing : Bool → List Inside
  owing opt_out = filter (λ (o : Inside). is_kept opt_out o.cut o.records) all

  pub owing_rise : (opt_out : Bool) → AllPairs (λ (o p : Inside). Before (place o.name) (place p.name)) (filter (λ (o : Inside). is_kept opt_out o.cut o.records) all)
  owing_rise opt_out = AllPairs-filter (λ (o p : Inside). Before (place o.name) (place p.name)) (λ (o : Inside). is_kept opt_out o.cut o.records) all are.rise

  -- an owner that owes has a record
  pub owing_has : (opt_out : Bool) (o : Inside) → is_kept opt_out o.cut o.records ≡ true → (x : Record) × Contains o.records x × (is_own o.cut x ≡ true)
  owing_has opt_out o kept =
      some_passes (is_own o.cut) o.records (both (list_any (is_own o.cut) o.records) (not ((opt_out && o.cut) && not (list_any (λ r. r.rtype == DS) o.records))) kept).0

  module _ (opt_out : Bool) (soa : Record) (one : soas_at apex records ≡ soa ∷ []) where
    -- whatever stands and owes is an owner that owes
    owner_of : (n : Place) (t : ℕ) → Owns (zone_of apex records) n t → (opt_out ≡ true → IsInsecureDelegation (zone_of apex records) n → ⊥) → (o : Inside) × Contains (filter (λ (o : Inside). is_kept opt_out o.cut o.records) all) o × (place o.name ≡ n)
    owner_of n t h owes =
        let s = stands_owner n t h in (
          s.0,
          in_filter (λ (o : Inside). is_kept opt_out o.cut o.records) all s.0 s.1
              (owes_kept opt_out s.0 s.1 s.3.0 s.3.1 s.3.2 (λ out insecure. owes out (subst (λ (m : Place). IsInsecureDelegation (zone_of apex records) m) s.2 insecure))),
          s.2,
        )

    pub listed_hashed : (n : Place) → Contains (map place_of (names_of apex apex (filter (λ (o : Inside). is_kept opt_out o.cut o.records) all))) n → IsHashed opt_out (zone_of apex records) n
    listed_hashed n h =
        let c = comes_from apex apex (owing opt_out) (owing_rise opt_out) n h in
        let p = c.0 in
        let f = from_filter (λ (o : Inside). is_kept opt_out o.cut o.records) all p c.1 in
        let x = owing_has opt_out p f.0 in
        let stands = owner_stands p f.1 x.0 x.1 x.2 in
        record {
          within = elim (c.2) [
            | inl same ↦ subst (λ (m : Place). IsAtOrBelow m apex) (sym same) (zone_within apex records (place p.name) x.0.rtype stands)
            | inr above ↦ at_or_below n apex above.1
          ];
          owner = place p.name;
          stands = (x.0.rtype, stands);
          owes = kept_owes opt_out p f.1 f.0;
          at_or_below = elim (c.2) [
            | inl same ↦ subst (λ (m : Place). IsAtOrBelow (place p.name) m) (sym same) (below_itself (place p.name))
            | inr above ↦ at_or_below (place p.name) n above.0
          ];
        }

    pub hashed_listed : (n : Place) → IsHashed opt_out (zone_of apex records) n → Contains (map place_of (names_of apex apex (filter (λ (o : Inside). is_kept opt_out o.cut o.records) all))) n
    hashed_listed n h =
        elim (same_or_below n apex h.within) [
          | inl top ↦
              let s = apex_stands apex records soa one in
              let o = owner_of apex s.0 s.1 (λ out insecure. insecure.0.below refl) in
              subst (λ (m : Place). Contains (map place_of (names_of apex apex (owing opt_out))) m) (o.2 ∙ sym top)
              (in_map place_of (names_of apex apex (owing opt_out)) o.0 (owner_there apex apex (owing opt_out) o.0 o.1))
          | inr below ↦
              let o = owner_of h.owner h.stands.0 h.stands.1 h.owes in
              above_there apex apex (owing opt_out) n below (not_both_below n apex below) o.0 o.1 (subst (λ (m : Place). IsAtOrBelow m n) (sym o.2) h.at_or_below)
        ]
