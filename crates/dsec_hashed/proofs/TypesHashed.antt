-- The types that the NSEC3 record of a hashed name has are those of the zone at the name, with what is added for the hashes.
use Rattle.std.proofs.Common.{◌≡◌, ℕ, zero, suc, ◌<◌, ◌==◌, nat_eq, Bool, true, false, ◌&&◌, List, [], ◌∷◌, ◌++◌, length, get_or, map, refl, sym, ap, ◌∙◌, subst, inl, inr, arith, eqb-true}
use Rattle.std.specs.Prelude.{AllPairs, Contains, filter, if◌then◌else◌}
use Rattle.std.specs.List.{list_any}
use Rattle.std.proofs.Math.Bool.{not}
use Rattle.std.specs.Cmp.{nat_eq_equiv}
use Rattle.std.proofs.lemmas.Bool.{true≢false, false≢true}
use Rattle.std.proofs.lemmas.List.{get_or_default, length-map}
use Rattle.std.proofs.lemmas.Map.Views.{list_any-from_Contains, Contains-from_any}
use Rattle.dsec_spec.specs.Names.{Labels, Place, place, same_place, is_below, is_strictly_below, IsStrictlyBelow}
use Rattle.dsec_spec.specs.Numbers.{DS, RRSIG, NSEC3PARAM}
use Rattle.dsec_spec.specs.Records.{Record}
use Rattle.dsec_spec.specs.RecordViews.{Hashing}
use Rattle.dsec_spec.specs.Zones.{Owns, Stands}
use Rattle.dsec_spec.specs.ZonesOfRecords.{is_cut, is_delegation, is_cut_off, is_inside, is_own, is_of_zone, zone_of, soas_at}
use Rattle.dsec_spec.specs.OwnersInside.{Inside, AreInside}
use Rattle.dsec_spec.specs.SetsToSign.{is_signed, is_to_sign, to_sign}
use Rattle.dsec_spec.specs.HashedNames.{types_at, signature_key, hashed_zone}
use Rattle.dsec_spec.proofs.CanonicalNames.{same_place_decides}
use Rattle.dsec_spec.proofs.SignedTests.{strictly_below_decides}
use Rattle.dsec_spec.proofs.Members.{first_in, later_in, in_front, in_back, in_either, not_in_none, in_map, from_map, in_filter, from_filter, some_passes}
use Rattle.dsec_spec.proofs.Choosing.{both, passes, same_bool}
use Rattle.dsec_spec.proofs.HashedNameLaws.{types_at_owned, owned_types_at, stands_still, stood_or_added, stood}
use Rattle.dsec_hashed.specs.HashedList.{is_kept, empty_at, names_of}
use Rattle.dsec_hashed.specs.HashedTypes.{own_types, has_signed, is_at, hashed_as, hashed_types}
use Rattle.dsec_hashed.specs.Hashed.{place_of}
use Rattle.dsec_hashed.proofs.NamesLaws.{names_apart, owner_there, owner_or_empty, comes_from, apart_index}
use Rattle.dsec_hashed.proofs.OwnersHashed.{each_of, inside_record, of_owner, one_owner, stands_owner, of_zone, owner_stands, owing_has, owing_rise}

-- what a test adds, where it passes
in_added : (b : Bool) (t u : ℕ) → Contains (if b then u ∷ [] else []) t → (b ≡ true) × (t ≡ u)
in_added true t u h = (refl, by t u h)
  where
    by : (t u : ℕ) → Contains (u ∷ []) t → t ≡ u
    by t u (zero, lt, is) = sym is
    by t u (suc k, lt, is) = absurd (omega arith)
in_added false t u h = absurd (not_in_none t h)

added_in : (b : Bool) (u : ℕ) → b ≡ true → Contains (if b then u ∷ [] else []) u
added_in true u e = first_in u []
added_in false u e = absurd (false≢true e)

-- things of a list whose places are apart are one where their places are
same_thing : (xs : List Inside) → AllPairs (λ (x y : Place). x ≡ y → ⊥) (map place_of xs) → (a b : Inside) → Contains xs a → Contains xs b → place a.name ≡ place b.name → a ≡ b
same_thing xs apart a b x y e =
    let at_a : get_or xs x.0 a ≡ a = x.2 in
    let at_b : get_or xs y.0 a ≡ b = get_or_default xs y.0 a b y.1 ∙ y.2 in
    let size = length-map xs place_of in
    let low : x.0 < length (map place_of xs) = let lt = x.1 in omega (arith, size) in
    let high : y.0 < length (map place_of xs) = let lt = y.1 in omega (arith, size) in
    let same : x.0 ≡ y.0 = apart_index (map place_of xs) apart x.0 y.0 (place_of a) low high (of xs x.0 a ∙ (ap place_of at_a ∙ (e ∙ (sym (ap place_of at_b) ∙ sym (of xs y.0 a))))) in
    sym at_a ∙ (ap (λ (k : ℕ). get_or xs k a) same ∙ at_b)
  where
    of : (xs : List Inside) (k : ℕ) (d : Inside) → get_or (map place_of xs) k (place_of d) ≡ place_of (get_or xs k d)
    of [] k d = refl
    of (x ∷ xs) zero d = refl
    of (x ∷ xs) (suc k) d = of xs k d

module _ (apex : Place) (records : List Record) (all : List Inside) (are : AreInside apex records all) where
  -- what is added stands
  signed_stands : (r : Record) → Contains (filter (is_of_zone apex records) (to_sign apex records)) r → Owns (hashed_zone apex records) (place r.owner) RRSIG
  signed_stands r h =
      in_back (place r.owner, RRSIG) (zone_of apex records).sets ((apex, NSEC3PARAM) ∷ map signature_key (filter (is_of_zone apex records) (to_sign apex records)))
      (later_in (apex, NSEC3PARAM) (place r.owner, RRSIG) (map signature_key (filter (is_of_zone apex records) (to_sign apex records)))
      (in_map signature_key (filter (is_of_zone apex records) (to_sign apex records)) r h))

  param_stands : Owns (hashed_zone apex records) apex NSEC3PARAM
  param_stands =
      in_back (apex, NSEC3PARAM) (zone_of apex records).sets ((apex, NSEC3PARAM) ∷ map signature_key (filter (is_of_zone apex records) (to_sign apex records)))
      (first_in (apex, NSEC3PARAM) (map signature_key (filter (is_of_zone apex records) (to_sign apex records))))

  module _ (o : Inside) (h : Contains all o) where
    -- a record of the owner is to be signed where its test passes
    to_sign_is : (r : Record) → Contains o.records r → is_to_sign apex records r ≡ is_signed apex o.cut r
    to_sign_is r g =
        let mine : place r.owner ≡ place o.name = (each_of apex records all are o h).1 r g in
        let cut : is_delegation apex records (place r.owner) ≡ o.cut = ap (is_delegation apex records) mine ∙ sym (each_of apex records all are o h).0 in
        rw ((inside_record apex records all are o h r g).0) (ap (λ (c : Bool). is_signed apex c r) cut)

    owner_types : (t : ℕ) → Contains ((own_types o.cut o.records ++ (if has_signed apex o.cut o.records then RRSIG ∷ [] else [])) ++ (if is_at apex o.records then NSEC3PARAM ∷ [] else [])) t → Owns (hashed_zone apex records) (place o.name) t
    owner_types t c = elim (in_either t (own_types o.cut o.records ++ (if has_signed apex o.cut o.records then RRSIG ∷ [] else [])) (if is_at apex o.records then NSEC3PARAM ∷ [] else []) c) [
      | inl types ↦ elim (in_either t (own_types o.cut o.records) (if has_signed apex o.cut o.records then RRSIG ∷ [] else []) types) [
        | inl own ↦
            let m = from_map (λ (r : Record). r.rtype) (filter (is_own o.cut) o.records) t own in
            let f = from_filter (is_own o.cut) o.records m.0 m.1 in
            stands_still apex records (place o.name) t (subst (λ (u : ℕ). Owns (zone_of apex records) (place o.name) u) m.2 (owner_stands apex records all are o h m.0 f.1 f.0))
        | inr sig ↦
            let a = in_added (has_signed apex o.cut o.records) t RRSIG sig in
            let f = some_passes (λ r. is_own o.cut r && is_signed apex o.cut r) o.records a.0 in
            let b = both (is_own o.cut f.0) (is_signed apex o.cut f.0) f.2 in
            let inside = inside_record apex records all are o h f.0 f.1 in
            let chosen = in_filter (is_of_zone apex records) (to_sign apex records) f.0
            (in_filter (is_to_sign apex records) records f.0 inside.1 (to_sign_is f.0 f.1 ∙ b.1)) (of_zone apex records all are o h f.0 f.1 b.0) in
            subst (λ (u : ℕ). Owns (hashed_zone apex records) (place o.name) u) (sym a.1)
            (subst (λ (n : Place). Owns (hashed_zone apex records) n RRSIG) ((each_of apex records all are o h).1 f.0 f.1) (signed_stands f.0 chosen))
      ]
      | inr param ↦
          let a = in_added (is_at apex o.records) t NSEC3PARAM param in
          subst (λ (u : ℕ). Owns (hashed_zone apex records) (place o.name) u) (sym a.1)
          (subst (λ (n : Place). Owns (hashed_zone apex records) n NSEC3PARAM) (sym (at_apex o.records (each_of apex records all are o h).1 a.0)) param_stands)
    ]
      where
        at_apex : (xs : List Record) → ((r : Record) → Contains xs r → place r.owner ≡ place o.name) → is_at apex xs ≡ true → place o.name ≡ apex
        at_apex [] mine e = absurd (false≢true e)
        at_apex (r ∷ xs) mine e = sym (mine r (first_in r xs)) ∙ (same_place_decides (place r.owner) apex).0 e

    types_owner : (x : Record) → Contains o.records x → (t : ℕ) → Owns (hashed_zone apex records) (place o.name) t → Contains ((own_types o.cut o.records ++ (if has_signed apex o.cut o.records then RRSIG ∷ [] else [])) ++ (if is_at apex o.records then NSEC3PARAM ∷ [] else [])) t
    types_owner x gx t owns = elim (stood_or_added apex records (place o.name) t owns) [
      | inl old ↦
          let s = stands_owner apex records all are (place o.name) t old in
          let same : s.0 ≡ o = one_owner apex records all are s.0 o s.1 h s.2 in
          let r = s.3.0 in
          in_front t (own_types o.cut o.records ++ (if has_signed apex o.cut o.records then RRSIG ∷ [] else [])) (if is_at apex o.records then NSEC3PARAM ∷ [] else [])
          (in_front t (own_types o.cut o.records) (if has_signed apex o.cut o.records then RRSIG ∷ [] else [])
          (subst (λ (u : ℕ). Contains (own_types o.cut o.records) u) s.3.3 (in_map (λ (r : Record). r.rtype) (filter (is_own o.cut) o.records) r
          (in_filter (is_own o.cut) o.records r (subst (λ (q : Inside). Contains q.records r) same s.3.1) (subst (λ (q : Inside). is_own q.cut r ≡ true) same s.3.2)))))
      | inr added ↦ elim added [
        | inl param ↦
            in_back t (own_types o.cut o.records ++ (if has_signed apex o.cut o.records then RRSIG ∷ [] else [])) (if is_at apex o.records then NSEC3PARAM ∷ [] else [])
            (subst (λ (u : ℕ). Contains (if is_at apex o.records then NSEC3PARAM ∷ [] else []) u) (sym param.1) (added_in (is_at apex o.records) NSEC3PARAM (at_apex o.records (each_of apex records all are o h).1 gx param.0)))
        | inr by_set ↦
            let r = by_set.1.0 in
            let f = from_filter (is_of_zone apex records) (to_sign apex records) r by_set.1.1 in
            let g = from_filter (is_to_sign apex records) records r f.1 in
            let b = both (is_inside apex records (place r.owner)) (is_own (is_delegation apex records (place r.owner)) r) f.0 in
            let s = both (is_inside apex records (place r.owner)) (is_signed apex (is_delegation apex records (place r.owner)) r) g.0 in
            let cut : is_delegation apex records (place r.owner) ≡ o.cut = ap (is_delegation apex records) by_set.1.2 ∙ sym (each_of apex records all are o h).0 in
            in_front t (own_types o.cut o.records ++ (if has_signed apex o.cut o.records then RRSIG ∷ [] else [])) (if is_at apex o.records then NSEC3PARAM ∷ [] else [])
            (in_back t (own_types o.cut o.records) (if has_signed apex o.cut o.records then RRSIG ∷ [] else [])
            (subst (λ (u : ℕ). Contains (if has_signed apex o.cut o.records then RRSIG ∷ [] else []) u) (sym by_set.0) (added_in (has_signed apex o.cut o.records) RRSIG
            (passes (λ r. is_own o.cut r && is_signed apex o.cut r) o.records r (here r g.1 b.0 by_set.1.2)
            (rw (subst (λ (c : Bool). is_own c r ≡ true) cut b.1) (subst (λ (c : Bool). is_signed apex c r ≡ true) cut s.1))))))
      ]
    ]
      where
        at_apex : (xs : List Record) → ((r : Record) → Contains xs r → place r.owner ≡ place o.name) → Contains xs x → place o.name ≡ apex → is_at apex xs ≡ true
        at_apex [] mine g e = absurd (not_in_none x g)
        at_apex (r ∷ xs) mine g e = (same_place_decides (place r.owner) apex).1 (mine r (first_in r xs) ∙ e)

        here : (r : Record) → Contains records r → is_inside apex records (place r.owner) ≡ true → place r.owner ≡ place o.name → Contains o.records r
        here r g inside at =
            let p = of_owner apex records all are r g inside in
            let same : p.0 ≡ o = one_owner apex records all are p.0 o p.1 h (sym ((each_of apex records all are p.0 p.1).1 r p.2) ∙ at) in
            subst (λ (q : Inside). Contains q.records r) same p.2

  module _ (opt_out : Bool) (soa : Record) (one : soas_at apex records ≡ soa ∷ []) where
    abbrev kept : Inside → Bool
    kept o = is_kept opt_out o.cut o.records

    abbrev owners : List Inside
    owners = filter (λ (o : Inside). is_kept opt_out o.cut o.records) all

    -- the delegation at a name cuts off what is below it
    cuts_off : (o p : Inside) → Contains all o → Contains all p → o.cut ≡ true → (x : Record) → Contains p.records x → IsStrictlyBelow (place p.name) (place o.name) → ⊥
    cuts_off o p ho hp cut x gx below =
        let f = some_passes (λ r. is_cut apex r && same_place (place r.owner) (place o.name)) records (sym (each_of apex records all are o ho).0 ∙ cut) in
        let r = f.0 in
        let b = both (is_cut apex r) (same_place (place r.owner) (place o.name)) f.2 in
        let at : place r.owner ≡ place o.name = (same_place_decides (place r.owner) (place o.name)).0 b.1 in
        let off : is_cut_off apex records (place p.name) ≡ true = passes (λ r. is_cut apex r && is_strictly_below (place p.name) (place r.owner)) records r f.1
        (rw (b.0) ((strictly_below_decides (place p.name) (place r.owner)).1 (subst (λ (n : Place). IsStrictlyBelow (place p.name) n) (sym at) below))) in
        let inside : is_inside apex records (place p.name) ≡ true = ap (is_inside apex records) (sym ((each_of apex records all are p hp).1 x gx)) ∙ (inside_record apex records all are p hp x gx).0 in
        not_both (is_below (place p.name) apex) (is_cut_off apex records (place p.name)) off inside
      where
        not_both : (a b : Bool) → b ≡ true → (a && not b) ≡ true → ⊥
        not_both true true e h = true≢false (sym h)
        not_both true false e h = true≢false (sym e)
        not_both false b e h = true≢false (sym h)

    -- an owner with a type that owes no record is a delegation
    left_cut : (cut ds own : Bool) → own ≡ true → (own && not ((opt_out && cut) && not ds)) ≡ false → cut ≡ true
    left_cut true ds own e h = refl
    left_cut false ds true e h = absurd (by opt_out h)
      where
        by : (b : Bool) → (true && not ((b && false) && not ds)) ≡ false → ⊥
        by true h = true≢false h
        by false h = true≢false h
    left_cut false ds false e h = absurd (true≢false (sym e))

    -- nothing stands at an empty non-terminal
    nothing_empty : (name : Labels) → Contains (names_of apex apex (filter (λ (o : Inside). is_kept opt_out o.cut o.records) all)) (empty_at name) → Stands (hashed_zone apex records) (place name) → ⊥
    nothing_empty name listed stands =
        let old = stood apex records soa one (place name) stands in
        let s = stands_owner apex records all are (place name) old.0 old.1 in
        by (is_kept opt_out s.0.cut s.0.records) s.0 refl s.1 s.2 s.3.0 s.3.1 s.3.2
      where
        by : (b : Bool) (o : Inside) → is_kept opt_out o.cut o.records ≡ b → Contains all o → place o.name ≡ place name → (r : Record) → Contains o.records r → is_own o.cut r ≡ true → ⊥
        by true o e h at r g own =
            let there = owner_there apex apex owners o (in_filter (λ (o : Inside). is_kept opt_out o.cut o.records) all o h e) in
            let same : o ≡ empty_at name = same_thing (names_of apex apex owners) (names_apart apex apex owners (owing_rise apex records all are opt_out)) o (empty_at name) there listed at in
            not_in_none r (subst (λ (q : Inside). Contains q.records r) same g)
        by false o e h at r g own =
            let c = comes_from apex apex owners (owing_rise apex records all are opt_out) (place name) (in_map place_of (names_of apex apex owners) (empty_at name) listed) in
            let p = c.0 in
            let f = from_filter (λ (o : Inside). is_kept opt_out o.cut o.records) all p c.1 in
            let x = owing_has apex records all are opt_out p f.0 in
            elim (c.2) [
              | inl same ↦
                  let one : o ≡ p = one_owner apex records all are o p h f.1 (at ∙ same) in
                  true≢false (sym (subst (λ (q : Inside). is_kept opt_out q.cut q.records ≡ true) (sym one) f.0) ∙ e)
              | inr above ↦
                  let cut : o.cut ≡ true = left_cut o.cut (list_any (λ r. r.rtype == DS) o.records) (list_any (is_own o.cut) o.records) (passes (is_own o.cut) o.records r g own) e in
                  cuts_off o p h f.1 cut x.0 x.1 (subst (λ (n : Place). IsStrictlyBelow (place p.name) n) (sym at) above.0)
            ]

    pub types_are : (how : Hashing) (x : Inside) → Contains (names_of apex apex (filter (λ (o : Inside). is_kept opt_out o.cut o.records) all)) x
        → (t : ℕ) → list_any (nat_eq t) (hashed_types apex (hashed_as how x)) ≡ list_any (nat_eq t) (types_at (hashed_zone apex records) (place x.name))
    types_are how x h t = elim (owner_or_empty apex apex (filter (λ (o : Inside). is_kept opt_out o.cut o.records) all) x h) [
      | inl owner ↦
          let f = from_filter (λ (o : Inside). is_kept opt_out o.cut o.records) all x owner in
          let r = owing_has apex records all are opt_out x f.0 in
          same_bool (list_any (nat_eq t) (hashed_types apex (hashed_as how x))) (list_any (nat_eq t) (types_at (hashed_zone apex records) (place x.name)))
          (λ e. list_any-from_Contains nat_eq_equiv t (types_at (hashed_zone apex records) (place x.name)) (owned_types_at (hashed_zone apex records) (place x.name) t
          (owner_types x f.1 t (Contains-from_any eqb-true t (hashed_types apex (hashed_as how x)) e))))
          (λ e. list_any-from_Contains nat_eq_equiv t (hashed_types apex (hashed_as how x)) (types_owner x f.1 r.0 r.1 t
          (types_at_owned (hashed_zone apex records) (place x.name) t (Contains-from_any eqb-true t (types_at (hashed_zone apex records) (place x.name)) e))))
      | inr empty ↦ subst (λ (y : Inside). list_any (nat_eq t) (hashed_types apex (hashed_as how y)) ≡ list_any (nat_eq t) (types_at (hashed_zone apex records) (place y.name))) (sym empty.1)
          (none (nothing_empty empty.0 (subst (λ (y : Inside). Contains (names_of apex apex (filter (λ (o : Inside). is_kept opt_out o.cut o.records) all)) y) empty.1 h)))
    ]
      where
        none : {n : Place} → (Stands (hashed_zone apex records) n → ⊥) → false ≡ list_any (nat_eq t) (types_at (hashed_zone apex records) n)
        none {n} out = by (list_any (nat_eq t) (types_at (hashed_zone apex records) n)) refl
          where
            by : (b : Bool) → list_any (nat_eq t) (types_at (hashed_zone apex records) n) ≡ b → false ≡ b
            by false e = refl
            by true e = absurd (out (t, types_at_owned (hashed_zone apex records) n t (Contains-from_any eqb-true t (types_at (hashed_zone apex records) n) e)))
