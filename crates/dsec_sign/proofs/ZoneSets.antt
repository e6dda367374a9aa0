-- The sets that are signed in a zone, found owner by owner.
use Rattle.std.proofs.Common.{◌≡◌, ◌≢◌, ℕ, zero, suc, ◌+◌, ◌<◌, ◌≤◌, Bool, true, false, cond, List, [], ◌∷◌, ◌++◌, length, take, drop, map, get_or, refl, sym, ap, ◌∙◌, subst, inl, inr, arith, append_assoc, length-append, length-drop}
use Rattle.std.specs.Prelude.{All, AllPairs, Contains, filter}
use Rattle.std.specs.List.{flat_map}
use Rattle.std.proofs.lemmas.Bool.{cases_lt}
use Rattle.std.proofs.lemmas.Cmp.{tied_itself, nat_cmp_total}
use Rattle.std.proofs.lemmas.Grind.{flat_map-append}
use Rattle.std.proofs.lemmas.List.{append-nil, get_or-drop, get_or-take, get_or_default, map-append, take-append-drop, take_more}
use Rattle.std.proofs.lemmas.List.Elements.{All-append, All-contains, All-push, filter-append}
use Rattle.std.proofs.lemmas.List.Quantifiers.{all_pairs_push}
use Rattle.std.specs.Cmp.{nat_cmp_is}
use Rattle.std.specs.Ordering.{nat_cmp}
use Rattle.std.specs.declared.cmp.Ordering.TheVariants.{Less, Equal, Greater}
use Rattle.dsec_spec.specs.Names.{Place, place, place_cmp, Before}
use Rattle.dsec_spec.specs.Records.{Record}
use Rattle.dsec_spec.specs.CanonicalRecords.{AreOfOneClass, IsCanonical, record_cmp}
use Rattle.dsec_spec.specs.OwnersInside.{AreInside, Inside}
use Rattle.dsec_spec.specs.SetsToSign.{is_signed}
use Rattle.dsec_spec.specs.SignedZones.{of_one_set, sets_of, sets_to_sign}
use Rattle.dsec_spec.proofs.Choosing.{filter_all, filter_like, filter_none}
use Rattle.dsec_spec.proofs.Members.{first_in, later_in, in_more, in_either, in_front, in_back, not_in_none, from_filter}
use Rattle.dsec_spec.proofs.NameOrder.{not_before_itself, place_cmp_total}
use Rattle.dsec_spec.proofs.SigningLaws.{signed_inside}
use Rattle.dsec_chain.specs.Views.{IsPlaced}
use Rattle.dsec_chain.specs.declared.owners.InsideOwner.{InsideOwner}
use Rattle.dsec_sign.specs.Places.{IsFound, set_at}
use Rattle.dsec_sign.specs.Pushing.{IsOwner, Pushed}
use Rattle.dsec_sign.specs.Runs.{AreApart, AreRuns, IsRun, joined}
use Rattle.dsec_sign.specs.declared.zone_sets.SetAt.{SetAt}
use Rattle.dsec_sign.proofs.SetRuns.{not_one_set, one_set_of_parts, one_set_parts, runs_are_sets}

-- ---- lists of runs

pub joined-append : (ss ts : List (List Record)) → joined (ss ++ ts) ≡ joined ss ++ joined ts
joined-append ss ts = flat_map-append (λ (run : List Record). run) ss ts

joined_one : (run : List Record) → joined (run ∷ []) ≡ run
joined_one run = append-nil run

in_joined : (runs : List (List Record)) (run : List Record) (r : Record) → Contains runs run → Contains run r → Contains (joined runs) r
in_joined [] run r h g = absurd (not_in_none run h)
in_joined (s ∷ runs) run r h g = elim (in_more s run runs h) [
  | inl e ↦ in_front r s (joined runs) (subst (λ (xs : List Record). Contains xs r) (sym e) g)
  | inr later ↦ in_back r s (joined runs) (in_joined runs run r later g)
]

-- a run more, apart from the others
pub runs_push : (runs : List (List Record)) (run : List Record) → AreRuns runs → IsRun run → ((r q : Record) → Contains (joined runs) r → Contains run q → of_one_set r q ≡ false) → AreRuns (runs ++ run ∷ [])
runs_push runs run are is apart = record {
  each = All-push IsRun runs run are.each is;
  apart = all_pairs_push AreApart runs run are.apart (λ k d lt r q h g. apart r q (in_joined runs (get_or runs k d) r (k, lt, get_or_default runs k (get_or runs k d) d lt) h) g);
}

-- runs, and others apart from them
runs_append : (ss ts : List (List Record)) → AreRuns ss → AreRuns ts → ((r q : Record) → Contains (joined ss) r → Contains (joined ts) q → of_one_set r q ≡ false) → AreRuns (ss ++ ts)
runs_append ss [] are more apart = subst AreRuns (sym (append-nil ss)) are
runs_append ss (t ∷ ts) are more apart =
    let pushed = runs_push ss t are (more.each 0 t (omega arith)) (λ r q h g. apart r q h (in_front q t (joined ts) g)) in
    let rest : AreRuns ts = record {
      each = λ k d lt. more.each (suc k) d (omega arith);
      apart = λ i j d lt lj. more.apart (suc i) (suc j) d (omega arith) (omega arith);
    } in
    subst AreRuns (append_assoc ss (t ∷ []) ts) (runs_append (ss ++ t ∷ []) ts pushed rest (λ r q h g.
    elim (in_either r (joined ss) t (subst (λ (xs : List Record). Contains xs r) (joined-append ss (t ∷ []) ∙ ap (λ (xs : List Record). joined ss ++ xs) (joined_one t)) h)) [
      | inl old ↦ apart r q old (in_back q t (joined ts) g)
      | inr new ↦ first_apart t ts more r q new g
    ]))
  where
    first_apart : (u : List Record) (us : List (List Record)) → AreRuns (u ∷ us) → (r q : Record) → Contains u r → Contains (joined us) q → of_one_set r q ≡ false
    first_apart u [] all r q h g = absurd (not_in_none q g)
    first_apart u (v ∷ us) all r q h g = elim (in_either q v (joined us) g) [
      | inl here ↦ all.apart 0 1 u (omega arith) (omega arith) r q h here
      | inr there ↦ first_apart u us (record {
        each = λ k d lt. skip_each u v us all k d lt;
        apart = λ i j d lt lj. skip_apart u v us all i j d lt lj;
      }) r q h there
    ]
      where
        skip_each : (a b : List Record) (cs : List (List Record)) → AreRuns (a ∷ b ∷ cs) → All IsRun (a ∷ cs)
        skip_each a b cs are zero d lt = are.each 0 d (omega arith)
        skip_each a b cs are (suc k) d lt = are.each (suc (suc k)) d (omega arith)

        skip_apart : (a b : List Record) (cs : List (List Record)) → AreRuns (a ∷ b ∷ cs) → AllPairs AreApart (a ∷ cs)
        skip_apart a b cs are zero zero d lt lj = absurd (omega arith)
        skip_apart a b cs are zero (suc j) d lt lj = are.apart 0 (suc (suc j)) d (omega arith) (omega arith)
        skip_apart a b cs are (suc i) zero d lt lj = absurd (omega arith)
        skip_apart a b cs are (suc i) (suc j) d lt lj = are.apart (suc (suc i)) (suc (suc j)) d (omega arith) (omega arith)

-- ---- the sets of an owner

chosen_of_run : (test : Record → Bool) (run : List Record) (b : Bool) → ((r : Record) → Contains run r → test r ≡ b) → filter test run ≡ cond b run []
chosen_of_run test run true same = filter_like test (λ _. true) run same ∙ filter_all run
chosen_of_run test run false same = filter_like test (λ _. false) run same ∙ filter_none run

module _ (records : List Record) (signed : Record → Bool) where
  pub none_pushed : (all : List Record) (old : List SetAt) → Pushed records signed [] all old old
  none_pushed all old = record {
    added = [];
    is = sym (append-nil old);
    flat = refl;
    runs = record { each = λ k d lt. absurd (omega arith); apart = λ i j d lt lj. absurd (omega arith) };
    found = λ k d lt. absurd (omega arith);
    later = λ r q h g. absurd (not_in_none r h);
  }

  later_still : (done run after : List Record) → ((r q : Record) → Contains done r → Contains (run ++ after) q → of_one_set r q ≡ false) → ((r q : Record) → Contains run r → Contains after q → of_one_set r q ≡ false)
      → (r q : Record) → Contains (done ++ run) r → Contains after q → of_one_set r q ≡ false
  later_still done run after old new r q h g = elim (in_either r done run h) [
    | inl early ↦ old r q early (in_back q run after g)
    | inr mine ↦ new r q mine g
  ]

  -- a set more, which isn't signed
  pub pass_set : (done run after : List Record) (old now : List SetAt) → Pushed records signed done (run ++ after) old now → ((r : Record) → Contains run r → signed r ≡ false)
      → ((r q : Record) → Contains run r → Contains after q → of_one_set r q ≡ false) → Pushed records signed (done ++ run) after old now
  pass_set done run after old now p none apart = record {
    added = p.added;
    is = p.is;
    flat = p.flat ∙ sym (filter-append signed done run ∙ (ap (λ (xs : List Record). filter signed done ++ xs) (chosen_of_run signed run false none) ∙ append-nil (filter signed done)));
    runs = p.runs;
    found = p.found;
    later = later_still done run after p.later apart;
  }

  -- a set more, which is
  pub push_set : (done run after : List Record) (old now : List SetAt) (it : SetAt) → Pushed records signed done (run ++ after) old now → set_at records it ≡ run → IsRun run → IsFound records it → ((r : Record) → Contains run r → signed r ≡ true)
      → ((r q : Record) → Contains run r → Contains after q → of_one_set r q ≡ false) → Pushed records signed (done ++ run) after old (now ++ it ∷ [])
  push_set done run after old now it p is one found all apart =
      let sets = map (set_at records) p.added in
      let more : map (set_at records) (p.added ++ it ∷ []) ≡ sets ++ run ∷ [] = map-append (set_at records) p.added (it ∷ []) ∙ ap (λ (s : List Record). sets ++ s ∷ []) is in
      record {
        added = p.added ++ it ∷ [];
        is = ap (λ (xs : List SetAt). xs ++ it ∷ []) p.is ∙ append_assoc old p.added (it ∷ []);
        flat =
            ap joined more ∙ (joined-append sets (run ∷ []) ∙ (ap (λ (xs : List Record). joined sets ++ xs) (joined_one run)
            ∙ (ap (λ (xs : List Record). xs ++ run) p.flat ∙ sym (filter-append signed done run ∙ ap (λ (xs : List Record). filter signed done ++ xs) (chosen_of_run signed run true all)))));
        runs = subst AreRuns (sym more) (runs_push sets run p.runs one (λ r q h g.
            p.later r q (from_filter signed done r (subst (λ (xs : List Record). Contains xs r) p.flat h)).1 (in_front q run after g)));
        found = All-push (IsFound records) p.added it p.found found;
        later = later_still done run after p.later apart;
      }

-- ---- one run of an owner's records

module _ (owner : List Record) (is : IsOwner owner) where
  -- the records of the type of the first of those that are left
  pub run_is : (done rest : List Record) (first : Record) (others : List Record) (size : ℕ) → owner ≡ done ++ rest → rest ≡ first ∷ others
      → All (λ r. r.rtype ≡ first.rtype) (take size rest) → ((d : Record) → size < length rest → (get_or rest size d).rtype ≢ first.rtype)
      → 0 < size × ((r : Record) → Contains (take size rest) r → of_one_set first r ≡ true) × ((r q : Record) → Contains (take size rest) r → Contains (drop size rest) q → of_one_set r q ≡ false)
  run_is done rest first others size split begins run next = (some size next, same, apart)
    where
      there : (r : Record) → Contains rest r → Contains owner r
      there r h = subst (λ (xs : List Record). Contains xs r) (sym split) (in_back r done rest h)

      first_there : Contains rest first
      first_there = subst (λ (xs : List Record). Contains xs first) (sym begins) (first_in first others)

      some : (n : ℕ) → ((d : Record) → n < length rest → (get_or rest n d).rtype ≢ first.rtype) → 0 < n
      some zero other = absurd (other first (omega (arith, ap length begins)) (ap (λ (xs : List Record). (get_or xs 0 first).rtype) begins))
      some (suc n) other = omega arith

      in_take : (n : ℕ) (xs : List Record) (r : Record) → Contains (take n xs) r → Contains xs r
      in_take n xs r h = subst (λ (ys : List Record). Contains ys r) (take-append-drop n xs) (in_front r (take n xs) (drop n xs) h)

      in_drop : (n : ℕ) (xs : List Record) (r : Record) → Contains (drop n xs) r → Contains xs r
      in_drop n xs r h = subst (λ (ys : List Record). Contains ys r) (take-append-drop n xs) (in_back r (take n xs) (drop n xs) h)

      same : (r : Record) → Contains (take size rest) r → of_one_set first r ≡ true
      same r h =
          let both = is.one first r (there first first_there) (there r (in_take size rest r h)) in
          one_set_of_parts first r both.0 both.1 (sym (All-contains (λ (x : Record). x.rtype ≡ first.rtype) (take size rest) r run h))

      rest_rise : (i j : ℕ) (d : Record) → i < j → j < length rest → (get_or rest i d).rtype ≤ (get_or rest j d).rtype
      rest_rise i j d lt lj =
          let long = length-append done rest in
          let so = is.rise (length done + i) (length done + j) d (omega arith) (omega (arith, ap length split, long)) in
          rw (split, behind done i d, behind done j d) at so
        where
          behind : (xs : List Record) (k : ℕ) (e : Record) → get_or (xs ++ rest) (length xs + k) e ≡ get_or rest k e
          behind [] k e = ap (λ (n : ℕ). get_or rest n e) (omega arith)
          behind (x ∷ xs) k e =
              let next : suc (length xs) + k ≡ suc (length xs + k) = omega arith in
              ap (λ (n : ℕ). get_or (x ∷ xs ++ rest) n e) next ∙ behind xs k e

      apart : (r q : Record) → Contains (take size rest) r → Contains (drop size rest) q → of_one_set r q ≡ false
      apart r q h g =
          let at = size + g.0 in
          let within : at < length rest = omega (arith, length-drop size rest, g.1) in
          let here : get_or rest at q ≡ q = sym (get_or-drop size rest g.0 q) ∙ g.2 in
          let low : (get_or rest size q).rtype ≤ q.rtype = by g.0 within here in
          let of_first : r.rtype ≡ first.rtype = All-contains (λ (x : Record). x.rtype ≡ first.rtype) (take size rest) r run h in
          let other : (get_or rest size q).rtype ≢ first.rtype = next q (omega (arith, within)) in
          let up : first.rtype ≤ (get_or rest size q).rtype = climb size (some size next) (omega (arith, within)) in
          not_one_set r q (λ s. let e = (one_set_parts r q s).2 in other (omega (arith, low, up, e, of_first)))
        where
          climb : (n : ℕ) → 0 < n → n < length rest → first.rtype ≤ (get_or rest n q).rtype
          climb n pos lt = subst (λ (x : Record). x.rtype ≤ (get_or rest n q).rtype) (ap (λ (xs : List Record). get_or xs 0 q) begins) (rest_rise 0 n q pos lt)

          by : (k : ℕ) → size + k < length rest → get_or rest (size + k) q ≡ q → (get_or rest size q).rtype ≤ q.rtype
          by zero lt e =
              let n : size + 0 ≡ size = omega arith in
              let f : get_or rest size q ≡ q = ap (λ (m : ℕ). get_or rest m q) (sym n) ∙ e in
              rw f (omega arith)
          by (suc k) lt e = subst (λ (x : Record). (get_or rest size q).rtype ≤ x.rtype) e (rest_rise size (size + suc k) q (omega arith) lt)

-- an owner's records stand in order of their types
rtype_rise : (r s : Record) → place r.owner ≡ place s.owner → r.class ≡ s.class → record_cmp r s ≡ Less → r.rtype ≤ s.rtype
rtype_rise r s owner class less =
    let c : nat_cmp r.class s.class ≡ Equal = rw class (tied_itself nat_cmp_total s.class) in
    let o : place_cmp (place r.owner) (place s.owner) ≡ Equal = rw owner (tied_itself place_cmp_total (place s.owner)) in
    elim (cases_lt s.rtype r.rtype) [
      | inl low ↦ absurd (let e = rw (c, o, sym (nat_cmp_is r.rtype s.rtype Greater low)) at less in cc)
      | inr high ↦ high
    ]

-- records of a zone that stand together are an owner's
pub owner_is : (records : List Record) (it : InsideOwner) → IsCanonical records → AreOfOneClass records → IsPlaced records it → ((r : Record) → Contains it.records.now r → place r.owner ≡ place it.name.now) → IsOwner it.records.now
owner_is records it canonical class placed named = record { one = one; rise = rise }
  where
    at : (k : ℕ) (d : Record) → k < length it.records.now → get_or it.records.now k d ≡ get_or records (it.start + k) d
    at k d lt =
        ap (λ (xs : List Record). get_or xs k d) placed.is
        ∙ (get_or-take (length it.records.now) (drop it.start records) k d lt ∙ get_or-drop it.start records k d)

    in_all : (k : ℕ) → k < length it.records.now → it.start + k < length records
    in_all k lt = let w = placed.within in omega (arith, lt, w)

    classes : (i j : ℕ) (d : Record) → i < length it.records.now → j < length it.records.now → (get_or it.records.now i d).class ≡ (get_or it.records.now j d).class
    classes i j d li lj = rw (at i d li, at j d lj) (same_class (it.start + i) (it.start + j) d (in_all i li) (in_all j lj))
      where
        same_class : (k l : ℕ) (e : Record) → k < length records → l < length records → (get_or records k e).class ≡ (get_or records l e).class
        same_class k l e lk ll = elim (cases_lt k l) [
          | inl low ↦ class k l e low ll
          | inr high ↦ elim (cases_lt l k) [
            | inl lower ↦ sym (class l k e lower lk)
            | inr same ↦ ap (λ (n : ℕ). (get_or records n e).class) (omega (arith, high, same))
          ]
        ]

    one : (r s : Record) → Contains it.records.now r → Contains it.records.now s → (place r.owner ≡ place s.owner) × (r.class ≡ s.class)
    one r s h g = (
      named r h ∙ sym (named s g),
      ap (λ (x : Record). x.class) (sym h.2) ∙ (classes_of h.0 g.0 r s h.1 g.1 ∙ ap (λ (x : Record). x.class) g.2),
    )
      where
        classes_of : (i j : ℕ) (d e : Record) → i < length it.records.now → j < length it.records.now → (get_or it.records.now i d).class ≡ (get_or it.records.now j e).class
        classes_of i j d e li lj = classes i j d li lj ∙ ap (λ (x : Record). x.class) (get_or_default it.records.now j d e lj)

    rise : AllPairs (λ (r s : Record). r.rtype ≤ s.rtype) it.records.now
    rise i j d lt lj =
        let li : i < length it.records.now = omega (arith, lt, lj) in
        let r = get_or it.records.now i d in
        let s = get_or it.records.now j d in
        let same = one r s (i, li, get_or_default it.records.now i r d li) (j, lj, get_or_default it.records.now j s d lj) in
        rtype_rise r s same.0 same.1 (rw (at i d li, at j d lj) (canonical (it.start + i) (it.start + j) d (omega (arith, lt)) (in_all j lj)))

-- a set of those that are left, by its place among all
pub set_there : (records : List Record) (it : InsideOwner) (done rest : List Record) (size : ℕ) → IsPlaced records it → it.records.now ≡ done ++ rest → size ≤ length rest
    → set_at records (record { start = it.start + length done; size = size }) ≡ take size rest
set_there records it done rest size placed split fits =
    let front : it.records.now ++ drop (length it.records.now) (drop it.start records) ≡ drop it.start records =
    ap (λ (xs : List Record). xs ++ drop (length it.records.now) (drop it.start records)) placed.is ∙ take-append-drop (length it.records.now) (drop it.start records) in
    ap (take size) (sym (drop_drop it.start (length done) records) ∙ ap (drop (length done)) (sym front))
    ∙ (rw (split, append_assoc done rest (drop (length (done ++ rest)) (drop it.start records))) (ap (take size) (past done (rest ++ drop (length (done ++ rest)) (drop it.start records)))
    ∙ short size rest (drop (length (done ++ rest)) (drop it.start records)) fits))
  where
    none : (k : ℕ) → drop {A = Record} k [] ≡ []
    none zero = refl
    none (suc k) = refl

    drop_drop : (m n : ℕ) (xs : List Record) → drop n (drop m xs) ≡ drop (m + n) xs
    drop_drop zero n xs = ap (λ (k : ℕ). drop k xs) (omega arith)
    drop_drop (suc m) n [] = none n ∙ sym (none (suc m + n))
    drop_drop (suc m) n (x ∷ xs) =
        let e : suc (m + n) ≡ suc m + n = omega arith in
        drop_drop m n xs ∙ ap (λ (k : ℕ). drop k (x ∷ xs)) e

    past : (xs ys : List Record) → drop (length xs) (xs ++ ys) ≡ ys
    past [] ys = refl
    past (x ∷ xs) ys = past xs ys

    short : (n : ℕ) (xs ys : List Record) → n ≤ length xs → take n (xs ++ ys) ≡ take n xs
    short zero xs ys le = refl
    short (suc n) [] ys le = absurd (omega (arith, le))
    short (suc n) (x ∷ xs) ys le = ap (λ (zs : List Record). x ∷ zs) (short n xs ys (omega (arith, le)))

-- the run of the first of the records that are left
first_run : (rest : List Record) (first : Record) (others : List Record) (size : ℕ) → rest ≡ first ∷ others → 0 < size → ((r : Record) → Contains (take size rest) r → of_one_set first r ≡ true) → IsRun (take size rest)
first_run rest first others zero begins some one = absurd (omega (arith, some))
first_run rest first others (suc n) begins some one = record { first = first; others = take n others; is = ap (take (suc n)) begins; one = one }

-- one set more of an owner
pub step_set : (records : List Record) (signed : Record → Bool) (it : InsideOwner) (done rest : List Record) (first : Record) (others : List Record) (start size : ℕ) (b : Bool) (old now new : List SetAt)
    → ((r s : Record) → place r.owner ≡ place s.owner → r.rtype ≡ s.rtype → signed r ≡ signed s) → IsOwner it.records.now → it.records.now ≡ done ++ rest → rest ≡ first ∷ others → size ≤ length rest
    → All (λ r. r.rtype ≡ first.rtype) (take size rest) → ((d : Record) → size < length rest → (get_or rest size d).rtype ≢ first.rtype) → start ≡ it.start + length done → b ≡ signed first
    → new ≡ cond b (now ++ record { start = start; size = size } ∷ []) now → IsPlaced records it → Pushed records signed done rest old now → Pushed records signed (done ++ take size rest) (drop size rest) old new
step_set records signed it done rest first others start size b old now new alike is split begins fits run next at so pushed placed before =
    subst (λ (xs : List SetAt). Pushed records signed (done ++ take size rest) (drop size rest) old xs) (sym pushed) (by b so)
  where
    facts : 0 < size × ((r : Record) → Contains (take size rest) r → of_one_set first r ≡ true) × ((r q : Record) → Contains (take size rest) r → Contains (drop size rest) q → of_one_set r q ≡ false)
    facts = run_is it.records.now is done rest first others size split begins run next

    here : Pushed records signed done (take size rest ++ drop size rest) old now
    here = subst (λ (xs : List Record). Pushed records signed done xs old now) (sym (take-append-drop size rest)) before

    all : (r : Record) → Contains (take size rest) r → signed r ≡ signed first
    all r h = let p = one_set_parts first r (facts.1 r h) in sym (alike first r p.0 p.2)

    set : SetAt
    set = record { start = start; size = size }

    found : IsFound records set
    found = record {
      some = facts.0;
      within = let w = placed.within in omega (arith, w, at, fits, ap length split, length-append done rest);
    }

    there : set_at records set ≡ take size rest
    there = ap (λ (n : ℕ). take size (drop n records)) at ∙ set_there records it done rest size placed split fits

    by : (c : Bool) → c ≡ signed first → Pushed records signed (done ++ take size rest) (drop size rest) old (cond c (now ++ set ∷ []) now)
    by true e =
        push_set records signed done (take size rest) (drop size rest) old now set here there (first_run rest first others size begins facts.0 facts.1) found (λ r h. all r h ∙ sym e) facts.2
    by false e = pass_set records signed done (take size rest) (drop size rest) old now here (λ r h. all r h ∙ sym e) facts.2

-- ---- owner by owner

-- of the owners that were met the sets that are signed were found
pub record Collected (apex : Place) (records : List Record) (met : List Inside) (sets : List SetAt) : Type 0 where
  pub flat : joined (map (set_at records) sets) ≡ flat_map (λ (o : Inside). filter (is_signed apex o.cut) o.records) met
  pub runs : AreRuns (map (set_at records) sets)
  pub found : All (IsFound records) sets

pub none_collected : (apex : Place) (records : List Record) → Collected apex records [] []
none_collected apex records = record {
  flat = refl;
  runs = record { each = λ k d lt. absurd (omega arith); apart = λ i j d lt lj. absurd (omega arith) };
  found = λ k d lt. absurd (omega arith);
}

in_owners : (test : Inside → Record → Bool) (owners : List Inside) (r : Record) → Contains (flat_map (λ (o : Inside). filter (test o) o.records) owners) r → (o : Inside) × Contains owners o × Contains o.records r
in_owners test [] r h = absurd (not_in_none r h)
in_owners test (o ∷ owners) r h = elim (in_either r (filter (test o) o.records) (flat_map (λ (p : Inside). filter (test p) p.records) owners) h) [
  | inl here ↦ (o, first_in o owners, (from_filter (test o) o.records r here).1)
  | inr there ↦ let rest = in_owners test owners r there in (rest.0, later_in o rest.0 owners rest.1, rest.2)
]

-- the sets of one owner more
pub collect : (apex : Place) (records : List Record) (met : List Inside) (o : Inside) (sets now : List SetAt) → Collected apex records met sets → Pushed records (is_signed apex o.cut) o.records [] sets now
    → ((p : Inside) → Contains met p → Before (place p.name) (place o.name)) → ((p : Inside) → Contains met p → (r : Record) → Contains p.records r → place r.owner ≡ place p.name)
    → ((r : Record) → Contains o.records r → place r.owner ≡ place o.name) → Collected apex records (met ++ o ∷ []) now
collect apex records met o sets now c p before theirs mine =
    let old = map (set_at records) sets in
    let new = map (set_at records) p.added in
    let more : map (set_at records) now ≡ old ++ new = ap (map (set_at records)) p.is ∙ map-append (set_at records) sets p.added in
    record {
      flat =
          ap joined more ∙ (joined-append old new ∙ (ap (λ (xs : List Record). xs ++ joined new) c.flat ∙ (ap (λ (xs : List Record). flat_map (λ (q : Inside). filter (is_signed apex q.cut) q.records) met ++ xs) p.flat
          ∙ sym (flat_map-append (λ (q : Inside). filter (is_signed apex q.cut) q.records) met (o ∷ [])
          ∙ ap (λ (xs : List Record). flat_map (λ (q : Inside). filter (is_signed apex q.cut) q.records) met ++ xs) (append-nil (filter (is_signed apex o.cut) o.records))))));
      runs = subst AreRuns (sym more) (runs_append old new c.runs p.runs (λ r q h g.
          let found = in_owners (λ (x : Inside). is_signed apex x.cut) met r (subst (λ (xs : List Record). Contains xs r) c.flat h) in
          let here = (from_filter (is_signed apex o.cut) o.records q (subst (λ (xs : List Record). Contains xs q) p.flat g)).1 in
          not_one_set r q (λ same.
          let places : place found.0.name ≡ place o.name = sym (theirs found.0 found.1 r found.2) ∙ ((one_set_parts r q same).0 ∙ mine q here) in
          not_before_itself (place o.name) (subst (λ (n : Place). Before n (place o.name)) places (before found.0 found.1)))));
      found = subst (All (IsFound records)) (sym p.is) (All-append (IsFound records) sets p.added c.found p.found);
    }

-- the sets that were found are those that are signed
pub collected_all : (apex : Place) (records : List Record) (owners : List Inside) (sets : List SetAt) → AreInside apex records owners → Collected apex records owners sets → map (set_at records) sets ≡ sets_to_sign apex records
collected_all apex records owners sets inside c =
    sym (ap (λ (xs : List Record). sets_of xs) (signed_inside apex records owners inside ∙ sym c.flat) ∙ runs_are_sets (map (set_at records) sets) c.runs)

in_take_before : (owners : List Inside) (i : ℕ) (p : Inside) → Contains (take i owners) p → (k : ℕ) × k < i × k < length owners × (get_or owners k p ≡ p)
in_take_before owners i p (k, lt, is) =
    let le = length-take-min i owners in
    let low : k < i = omega (arith, lt, le.0) in
    (k, low, omega (arith, lt, le.1), sym (get_or-take i owners k p low) ∙ is)
  where
    length-take-min : (n : ℕ) (xs : List Inside) → length (take n xs) ≤ n × length (take n xs) ≤ length xs
    length-take-min zero xs = (omega arith, omega arith)
    length-take-min (suc n) [] = (omega arith, omega arith)
    length-take-min (suc n) (x ∷ xs) = let h = length-take-min n xs in (omega (arith, h.0), omega (arith, h.1))

-- the sets of the next owner
pub collect_next : (apex : Place) (records : List Record) (owners : List Inside) (i : ℕ) (o : Inside) (sets now : List SetAt) → AreInside apex records owners → i < length owners → get_or owners i o ≡ o
    → Collected apex records (take i owners) sets → Pushed records (is_signed apex o.cut) o.records [] sets now → Collected apex records (take (i + 1) owners) now
collect_next apex records owners i o sets now inside lt at c p =
    let more : take (i + 1) owners ≡ take i owners ++ o ∷ [] = take_more owners i o lt ∙ ap (λ (x : Inside). take i owners ++ x ∷ []) at in
    subst (λ (met : List Inside). Collected apex records met now) (sym more) (collect apex records (take i owners) o sets now c p
    (λ q h. let m = in_take_before owners i q h in subst (λ (x : Inside). Before (place x.name) (place o.name)) (get_or_default owners m.0 o q m.2 ∙ m.3)
    (subst (λ (x : Inside). Before (place (get_or owners m.0 o).name) (place x.name)) at (inside.rise m.0 i o m.1 lt)))
    (λ q h r g. let m = in_take_before owners i q h in
    let each = (inside.each m.0 q m.2).1 in
    subst (λ (x : Inside). Contains x.records r → place r.owner ≡ place x.name) m.3 (each r) g)
    (λ r g. subst (λ (x : Inside). Contains x.records r → place r.owner ≡ place x.name) at ((inside.each i o lt).1 r) g))
