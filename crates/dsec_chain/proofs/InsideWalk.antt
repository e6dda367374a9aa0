-- Going over records in canonical order gives all owners inside the zone that they make, each with its records.
use Rattle.std.proofs.Common.{◌≡◌, ℕ, ◌<◌, Bool, true, false, cond, ◌&&◌, ◌==◌, List, [], ◌∷◌, ◌++◌, length, get_or, Option, Some, None, refl, sym, ap, ◌∙◌, subst, inl, inr, ◌⊎◌, arith, append_assoc, length-append}
use Rattle.std.specs.Prelude.{AllPairs, All, Contains, filter, find}
use Rattle.std.specs.List.{flat_map}
use Rattle.std.proofs.Math.Bool.{not}
use Rattle.std.proofs.lemmas.Bool.{cases_lt, true≢false}
use Rattle.std.proofs.lemmas.List.{append-nil, get_or_append_left}
use Rattle.std.proofs.Math.Seq.{get_or-append_seam}
use Rattle.std.proofs.lemmas.Option.{same_Some}
use Rattle.std.proofs.lemmas.List.Elements.{All-push, filter-append}
use Rattle.std.proofs.lemmas.List.Quantifiers.{all_pairs_push}
use Rattle.std.proofs.lemmas.Grind.{flat_map-append}
use Rattle.dsec_spec.specs.Names.{Labels, Place, place, same_place, Before, is_below, is_strictly_below, IsAtOrBelow, IsStrictlyBelow}
use Rattle.dsec_spec.specs.Numbers.{NS}
use Rattle.dsec_spec.specs.Records.{Record}
use Rattle.dsec_spec.specs.ZonesOfRecords.{is_cut, is_delegation, is_cut_off, is_inside}
use Rattle.dsec_spec.specs.OwnersInside.{IsWritten, Inside, AreInside}
use Rattle.dsec_spec.proofs.CanonicalNames.{same_place_decides}
use Rattle.dsec_spec.proofs.SignedTests.{below_decides, strictly_below_decides}
use Rattle.dsec_spec.proofs.Members.{first_in, later_in, in_front, in_back, in_either, not_in_none, some_passes}
use Rattle.dsec_spec.proofs.NameOrder.{before_trans, not_before_itself, below_not_before, after_all_below}
use Rattle.dsec_spec.proofs.NamesBelow.{below_itself, at_or_below, same_or_below, not_strictly_itself, strictly_below_trans}
use Rattle.dsec_spec.proofs.Choosing.{passes, filter_like, filter_none, filter_all, same_bool, both}
use Rattle.dsec_chain.specs.Walk.{is_under, is_open, cuts}

-- whether the record's owner is inside the zone
abbrev inside : Place → List Record → Record → Bool
inside apex records r = is_inside apex records (place r.owner)

-- what a test finds in none of the first is found in those after them
find_past : {A : Type 0} (test : A → Bool) (xs ys : List A) → ((x : A) → Contains xs x → test x ≡ false) → find test (xs ++ ys) ≡ find test ys
find_past test [] ys out = refl
find_past test (x ∷ xs) ys out = ap (λ (b : Bool). cond b (Some x) (find test (xs ++ ys))) (out x (first_in x xs)) ∙ find_past test xs ys (λ y h. out y (later_in x y xs h))

-- what the walk has met of the records, and what is left
pub record Entered (apex : Place) (records rest : List Record) (cut : Option Place) (owners : List Inside) : Type 0 where
  pub done : List Record
  pub split : records ≡ done ++ rest
  pub before : (x y : Record) → Contains done x → Contains rest y → Before (place x.owner) (place y.owner)
  pub kept : filter (λ r. is_inside apex records (place r.owner)) done ≡ flat_map (λ (o : Inside). o.records) owners
  pub rise : AllPairs (λ (o p : Inside). Before (place o.name) (place p.name)) owners
  pub each : All (λ (o : Inside). (o.cut ≡ is_delegation apex records (place o.name)) × ((r : Record) → Contains o.records r → place r.owner ≡ place o.name)) owners
  pub written : All (λ (o : Inside). IsWritten records o.name) owners
  pub met : (k : ℕ) (d : Inside) → k < length owners → (r : Record) × Contains done r × (place r.owner ≡ place (get_or owners k d).name)
  pub is_met : (c : Place) → cut ≡ Some c → (r : Record) × Contains done r × (is_cut apex r ≡ true) × (place r.owner ≡ c)
  pub hides : (r : Record) → Contains done r → is_cut apex r ≡ true → (n : Place) → ((x : Record) → Contains done x → Before (place x.owner) n) → IsStrictlyBelow n (place r.owner) → is_under n cut ≡ true

abbrev pub inside_owner : Labels → List Record → Bool → Inside
inside_owner name records cut = record { name = name; records = records; cut = cut }

module _ (apex : Place) (records run others : List Record) (cut : Option Place) (owners : List Inside) (name : Labels)
    (w : Entered apex records (run ++ others) cut owners)
    (mine : (r : Record) → Contains run r → place r.owner ≡ place name)
    (first : Record) (others_of : List Record) (head : run ≡ first ∷ others_of) (name_is : name ≡ first.owner)
    (after : (y : Record) → Contains others y → Before (place name) (place y.owner)) where
  first_is : Contains run first
  first_is = subst (λ (xs : List Record). Contains xs first) (sym head) (first_in first others_of)

  early : (x : Record) → Contains w.done x → Before (place x.owner) (place name)
  early x h = subst (λ (p : Place). Before (place x.owner) p) (mine first first_is) (w.before x first h (in_front first run others first_is))

  -- where a record of the list stands
  where_is : (r : Record) → Contains records r → Contains w.done r ⊎ (Contains run r ⊎ Contains others r)
  where_is r h = elim (in_either r w.done (run ++ others) (subst (λ (xs : List Record). Contains xs r) w.split h)) [
    | inl old ↦ inl old
    | inr new ↦ inr (in_either r run others new)
  ]

  is_there : (r : Record) → Contains w.done r ⊎ Contains run r → Contains records r
  is_there r h = subst (λ (xs : List Record). Contains xs r) (sym w.split) (elim h [
    | inl old ↦ in_front r w.done (run ++ others) old
    | inr new ↦ in_back r w.done (run ++ others) (in_front r run others new)
  ])

  -- the name is cut off by the last delegation alone
  cut_off_is : is_cut_off apex records (place name) ≡ is_under (place name) cut
  cut_off_is = same_bool (is_cut_off apex records (place name)) (is_under (place name) cut) there back
    where
      there : is_cut_off apex records (place name) ≡ true → is_under (place name) cut ≡ true
      there so =
          let f = some_passes (λ r. is_cut apex r && is_strictly_below (place name) (place r.owner)) records so in
          let h = both (is_cut apex f.0) (is_strictly_below (place name) (place f.0.owner)) f.2 in
          let below = (strictly_below_decides (place name) (place f.0.owner)).0 h.1 in
          elim (where_is f.0 f.1) [
            | inl old ↦ w.hides f.0 old h.0 (place name) early below
            | inr now ↦ elim now [
              | inl here ↦ absurd (not_strictly_itself (place name) (subst (λ (p : Place). IsStrictlyBelow (place name) p) (mine f.0 here) below))
              | inr late ↦ absurd (below_not_before (place name) (place f.0.owner) (at_or_below (place name) (place f.0.owner) below) (after f.0 late))
            ]
          ]

      back : is_under (place name) cut ≡ true → is_cut_off apex records (place name) ≡ true
      back so = by cut refl so
        where
          by : (c : Option Place) → cut ≡ c → is_under (place name) c ≡ true → is_cut_off apex records (place name) ≡ true
          by None e h = absurd (true≢false (sym h))
          by (Some c) e h =
              let m = w.is_met c e in
              passes (λ r. is_cut apex r && is_strictly_below (place name) (place r.owner)) records m.0 (is_there m.0 (inl m.1))
              (rw (m.2, m.3) h)

  -- the name is a delegation by its own records alone
  delegation_is : is_delegation apex records (place name) ≡ cuts apex run
  delegation_is = same_bool (is_delegation apex records (place name)) (cuts apex run) there back
    where
      there : is_delegation apex records (place name) ≡ true → cuts apex run ≡ true
      there so =
          let f = some_passes (λ r. is_cut apex r && same_place (place r.owner) (place name)) records so in
          let h = both (is_cut apex f.0) (same_place (place f.0.owner) (place name)) f.2 in
          let same = (same_place_decides (place f.0.owner) (place name)).0 h.1 in
          elim (where_is f.0 f.1) [
            | inl old ↦ absurd (not_before_itself (place name) (subst (λ (p : Place). Before p (place name)) same (early f.0 old)))
            | inr now ↦ elim now [
              | inl here ↦ passes (is_cut apex) run f.0 here h.0
              | inr late ↦ absurd (not_before_itself (place name) (subst (λ (p : Place). Before (place name) p) same (after f.0 late)))
            ]
          ]

      back : cuts apex run ≡ true → is_delegation apex records (place name) ≡ true
      back so =
          let f = some_passes (is_cut apex) run so in
          passes (λ r. is_cut apex r && same_place (place r.owner) (place name)) records f.0 (is_there f.0 (inr f.1))
          (rw (f.2) ((same_place_decides (place f.0.owner) (place name)).1 (mine f.0 f.1)))

  inside_is : is_inside apex records (place name) ≡ is_open apex cut (place name)
  inside_is = ap (λ (b : Bool). is_below (place name) apex && not b) cut_off_is

  -- an owner's records are inside together
  chosen : filter (inside apex records) run ≡ cond (is_open apex cut (place name)) run []
  chosen =
      filter_like (inside apex records) (λ _. is_open apex cut (place name)) run (λ r h. rw (mine r h, inside_is) refl)
      ∙ by (is_open apex cut (place name))
    where
      by : (b : Bool) → filter (λ _. b) run ≡ cond b run []
      by true = filter_all run
      by false = filter_none run

  done_before : (x y : Record) → Contains (w.done ++ run) x → Contains others y → Before (place x.owner) (place y.owner)
  done_before x y h g = elim (in_either x w.done run h) [
    | inl old ↦ w.before x y old (in_back y run others g)
    | inr new ↦ subst (λ (p : Place). Before p (place y.owner)) (sym (mine x new)) (after y g)
  ]

  split_on : records ≡ (w.done ++ run) ++ others
  split_on = w.split ∙ sym (append_assoc w.done run others)

  kept_on : filter (inside apex records) (w.done ++ run) ≡ flat_map (λ (o : Inside). o.records) owners ++ filter (inside apex records) run
  kept_on = filter-append (inside apex records) w.done run ∙ ap (λ (xs : List Record). xs ++ filter (inside apex records) run) w.kept

  -- an owner that isn't the zone's is passed over
  pub passed : is_open apex cut (place name) ≡ false → Entered apex records others cut owners
  passed closed = record {
    done = w.done ++ run;
    split = split_on;
    before = done_before;
    kept = kept_on ∙ (ap (λ (xs : List Record). flat_map (λ (o : Inside). o.records) owners ++ xs) (chosen ∙ ap (λ (b : Bool). cond b run []) closed) ∙ append-nil (flat_map (λ (o : Inside). o.records) owners));
    rise = w.rise;
    each = w.each;
    written = w.written;
    met = λ k d lt. let m = w.met k d lt in (m.0, in_front m.0 w.done run m.1, m.2);
    is_met = λ c e. let m = w.is_met c e in (m.0, in_front m.0 w.done run m.1, m.2, m.3);
    hides = λ r h so m up below. elim (in_either r w.done run h) [
      | inl old ↦ w.hides r old so m (λ x g. up x (in_front x w.done run g)) below
      | inr new ↦
          -- a delegation of this owner is below the apex, so that the owner is under the last one
          let r_below : IsStrictlyBelow (place r.owner) apex = (strictly_below_decides (place r.owner) apex).0 (both (r.rtype == NS) (is_strictly_below (place r.owner) apex) so).1 in
          let at_apex : is_below (place name) apex ≡ true = (below_decides (place name) apex).1 (at_or_below (place name) apex (subst (λ (p : Place). IsStrictlyBelow p apex) (mine r new) r_below)) in
          let under : is_under (place name) cut ≡ true = closed_under (is_below (place name) apex) (is_under (place name) cut) at_apex closed in
          under_too cut m (subst (λ (p : Place). IsStrictlyBelow m p) (mine r new) below) under
    ];
  }
    where
      closed_under : (a b : Bool) → a ≡ true → (a && not b) ≡ false → b ≡ true
      closed_under true true e h = refl
      closed_under true false e h = absurd (true≢false h)
      closed_under false b e h = absurd (true≢false (sym e))

      under_too : (c : Option Place) (m : Place) → IsStrictlyBelow m (place name) → is_under (place name) c ≡ true → is_under m c ≡ true
      under_too None m below h = absurd (true≢false (sym h))
      under_too (Some c) m below h = (strictly_below_decides m c).1
          (strictly_below_trans m (place name) c below (at_or_below (place name) c ((strictly_below_decides (place name) c).0 h)))

  met_before : (k : ℕ) (d : Inside) → k < length owners → Before (place (get_or owners k d).name) (place name)
  met_before k d lt = let m = w.met k d lt in subst (λ (p : Place). Before p (place name)) m.2 (early m.0 m.1)

  met_by : (o : Inside) → o.name ≡ name → (k : ℕ) (d : Inside) → k < length (owners ++ o ∷ []) → (r : Record) × Contains (w.done ++ run) r × (place r.owner ≡ place (get_or (owners ++ o ∷ []) k d).name)
  met_by o is k d lt =
      let len = length-append owners (o ∷ []) in
      elim (cases_lt k (length owners)) [
        | inl old ↦ let m = w.met k d old in (m.0, in_front m.0 w.done run m.1, m.2 ∙ ap (λ (x : Inside). place x.name) (sym (get_or_append_left owners (o ∷ []) d k old)))
        | inr new ↦
            let e : k ≡ length owners = omega (arith, len) in
            (first, in_back first w.done run first_is, mine first first_is ∙ (ap place (sym is) ∙ rw (e, get_or-append_seam owners o [] d) refl))
      ]

  -- no record that was met stands at the name, so that the first of its own is the first that does
  unlike : (x : Record) → Contains w.done x → same_place (place x.owner) (place name) ≡ false
  unlike x h = by (same_place (place x.owner) (place name)) refl
    where
      by : (b : Bool) → same_place (place x.owner) (place name) ≡ b → b ≡ false
      by true e = absurd (not_before_itself (place name) (subst (λ (p : Place). Before p (place name)) ((same_place_decides (place x.owner) (place name)).0 e) (early x h)))
      by false e = refl

  found_here : find (λ r. same_place (place r.owner) (place name)) records ≡ Some first
  found_here =
      ap (find (λ r. same_place (place r.owner) (place name))) (w.split ∙ ap (λ (xs : List Record). w.done ++ (xs ++ others)) head)
      ∙ (find_past (λ r. same_place (place r.owner) (place name)) w.done (first ∷ (others_of ++ others)) unlike
      ∙ ap (λ (b : Bool). cond b (Some first) (find (λ r. same_place (place r.owner) (place name)) (others_of ++ others))) ((same_place_decides (place first.owner) (place name)).1 (mine first first_is)))

  written_here : IsWritten records name
  written_here = record { first = first; found = found_here; is = name_is }

  -- an owner inside is added
  pub added : is_open apex cut (place name) ≡ true → Entered apex records others (cond (cuts apex run) (Some (place name)) cut) (owners ++ inside_owner name run (cuts apex run) ∷ [])
  added so =
      record {
        done = w.done ++ run;
        split = split_on;
        before = done_before;
        kept = kept_on ∙ (ap (λ (xs : List Record). flat_map (λ (o : Inside). o.records) owners ++ xs) (chosen ∙ (ap (λ (b : Bool). cond b run []) so ∙ sym (append-nil run)))
            ∙ sym (flat_map-append (λ (o : Inside). o.records) owners (inside_owner name run (cuts apex run) ∷ [])));
        rise = all_pairs_push (λ (o p : Inside). Before (place o.name) (place p.name)) owners (inside_owner name run (cuts apex run)) w.rise met_before;
        each = All-push (λ (o : Inside). (o.cut ≡ is_delegation apex records (place o.name)) × ((r : Record) → Contains o.records r → place r.owner ≡ place o.name)) owners (inside_owner name run (cuts apex run)) w.each (sym delegation_is, mine);
        written = All-push (λ (o : Inside). IsWritten records o.name) owners (inside_owner name run (cuts apex run)) w.written written_here;
        met = met_by (inside_owner name run (cuts apex run)) refl;
        is_met = is_met_by (cuts apex run) refl;
        hides = hides_by (cuts apex run) refl;
      }
    where
      is_met_by : (b : Bool) → cuts apex run ≡ b → (c : Place) → cond b (Some (place name)) cut ≡ Some c → (r : Record) × Contains (w.done ++ run) r × (is_cut apex r ≡ true) × (place r.owner ≡ c)
      is_met_by true e c h =
          let f = some_passes (is_cut apex) run e in
          (f.0, in_back f.0 w.done run f.1, f.2, mine f.0 f.1 ∙ same_Some (place name) c h)
      is_met_by false e c h = let m = w.is_met c h in (m.0, in_front m.0 w.done run m.1, m.2, m.3)

      hides_by : (b : Bool) → cuts apex run ≡ b → (r : Record) → Contains (w.done ++ run) r → is_cut apex r ≡ true → (m : Place) → ((x : Record) → Contains (w.done ++ run) x → Before (place x.owner) m) → IsStrictlyBelow m (place r.owner) → is_under m (cond b (Some (place name)) cut) ≡ true
      hides_by false e r h is m up below = elim (in_either r w.done run h) [
        | inl old ↦ w.hides r old is m (λ x g. up x (in_front x w.done run g)) below
        | inr new ↦ absurd (true≢false (sym (passes (is_cut apex) run r new is) ∙ e))
      ]
      hides_by true e r h is m up below = elim (in_either r w.done run h) [
        | inr new ↦ (strictly_below_decides m (place name)).1 (subst (λ (p : Place). IsStrictlyBelow m p) (mine r new) below)
        | inl old ↦ absurd (late cut refl (w.hides r old is m (λ x g. up x (in_front x w.done run g)) below))
      ]
        where
          not_open : (a b : Bool) → (a && not b) ≡ true → b ≡ true → ⊥
          not_open true true h g = true≢false (sym h)
          not_open true false h g = true≢false (sym g)
          not_open false b h g = true≢false (sym h)

          late : (c : Option Place) → cut ≡ c → is_under m c ≡ true → ⊥
          late None e2 u = absurd (true≢false (sym u))
          late (Some k) e2 u =
              let met = w.is_met k e2 in
              let first_before : Before k (place name) = subst (λ (p : Place). Before p (place name)) met.3 (early met.0 met.1) in
              let m_below = (strictly_below_decides m k).0 u in
              let apart : IsAtOrBelow (place name) k → ⊥ = λ b. elim (same_or_below (place name) k b) [
                | inl same ↦ not_before_itself k (subst (λ (p : Place). Before k p) same first_before)
                | inr strictly ↦ not_open (is_below (place name) apex) (is_under (place name) cut) so (subst (λ (o : Option Place). is_under (place name) o ≡ true) (sym e2) ((strictly_below_decides (place name) k).1 strictly))
              ] in
              let m_before : Before m (place name) = after_all_below k k m (place name) (below_itself k) (at_or_below m k m_below) apart first_before in
              let name_before : Before (place name) m = subst (λ (p : Place). Before p m) (mine first first_is) (up first (in_back first w.done run first_is)) in
              not_before_itself m (before_trans m (place name) m m_before name_before)

-- at first nothing is met
pub not_entered : (apex : Place) (records : List Record) → Entered apex records records None []
not_entered apex records = record {
  done = [];
  split = refl;
  before = λ x y h g. absurd (not_in_none x h);
  kept = refl;
  rise = λ i j d lt lj. absurd (omega arith);
  each = λ k d lt. absurd (omega arith);
  written = λ k d lt. absurd (omega arith);
  met = λ k d lt. absurd (omega arith);
  is_met = λ c e. absurd cc;
  hides = λ r h is n up below. absurd (not_in_none r h);
}

-- in the end these are all
pub all_entered : (apex : Place) (records : List Record) (cut : Option Place) (owners : List Inside) → Entered apex records [] cut owners → AreInside apex records owners
all_entered apex records cut owners w = record {
  kept = ap (filter (inside apex records)) (w.split ∙ append-nil w.done) ∙ w.kept;
  rise = w.rise;
  each = w.each;
  written = w.written;
}
