-- The names that owners and the empty non-terminals above them make: each once, and all that stand at or above an owner, below the apex.
use Rattle.std.proofs.Common.{◌≡◌, ℕ, suc, ◌<◌, true, List, [], ◌∷◌, ◌++◌, length, get_or, map, refl, sym, ap, ◌∙◌, subst, inl, inr, ◌⊎◌, arith}
use Rattle.std.specs.Prelude.{AllPairs, All, Contains}
use Rattle.std.proofs.lemmas.Bool.{cases_lt}
use Rattle.std.proofs.lemmas.List.{map-append, get_or_default}
use Rattle.std.proofs.lemmas.List.Kept.{AllPairs-cons}
use Rattle.dsec_spec.specs.Names.{Labels, Place, place, Before, IsAtOrBelow, IsStrictlyBelow}
use Rattle.dsec_spec.specs.OwnersInside.{Inside}
use Rattle.dsec_spec.proofs.NameOrder.{before_trans, not_before_itself, below_not_before, before_all_below}
use Rattle.dsec_spec.proofs.NamesBelow.{below_itself, at_or_below, below_or_not, same_or_below, not_strictly_itself}
use Rattle.dsec_spec.proofs.Members.{first_in, later_in, in_more, in_front, in_back, in_either, not_in_none, in_map, from_map}
use Rattle.dsec_spec.proofs.Choosing.{pairs_map}
use Rattle.dsec_hashed.specs.HashedList.{is_new, empty_at, new_above, names_of}
use Rattle.dsec_hashed.specs.Hashed.{place_of, AreDistinct}
use Rattle.dsec_hashed.proofs.NewNames.{new_says, says_new, new_are, new_there, new_once}

-- ---- lists without repetition

pub Apart : {X : Type 0} → List X → Type 0
Apart {X} xs = AllPairs (λ (x y : X). x ≡ y → ⊥) xs

module _ {X : Type 0} where
  pub apart_more : (x : X) (xs : List X) → (Contains xs x → ⊥) → AllPairs (λ (x y : X). x ≡ y → ⊥) xs → AllPairs (λ (x y : X). x ≡ y → ⊥) (x ∷ xs)
  apart_more x xs out apart = AllPairs-cons (λ (x y : X). x ≡ y → ⊥) x xs (λ k d lt same. out (k, lt, at xs k d lt same)) apart
    where
      at : (xs : List X) (k : ℕ) (d : X) → k < length xs → x ≡ get_or xs k d → get_or xs k x ≡ x
      at xs k d lt same = get_or_default xs k x d lt ∙ sym same

  pub apart_rest : (x : X) (xs : List X) → AllPairs (λ (x y : X). x ≡ y → ⊥) (x ∷ xs) → AllPairs (λ (x y : X). x ≡ y → ⊥) xs
  apart_rest x xs apart i j d lt lj = apart (suc i) (suc j) d (omega arith) (omega arith)

  apart_first : (x : X) (xs : List X) → AllPairs (λ (x y : X). x ≡ y → ⊥) (x ∷ xs) → Contains xs x → ⊥
  apart_first x xs apart h = apart 0 (suc h.0) x (omega arith) (let lt = h.1 in omega arith) (sym h.2)

  pub apart_append : (xs ys : List X) → AllPairs (λ (x y : X). x ≡ y → ⊥) xs → AllPairs (λ (x y : X). x ≡ y → ⊥) ys → ((x : X) → Contains xs x → Contains ys x → ⊥) → AllPairs (λ (x y : X). x ≡ y → ⊥) (xs ++ ys)
  apart_append [] ys a b cross = b
  apart_append (x ∷ xs) ys a b cross =
      apart_more x (xs ++ ys) (λ h. elim (in_either x xs ys h) [
        | inl front ↦ apart_first x xs a front
        | inr back ↦ cross x (first_in x xs) back
      ]) (apart_append xs ys (apart_rest x xs a) b (λ y front back. cross y (later_in x y xs front) back))

  -- so each stands at one index
  pub apart_index : (xs : List X) → AllPairs (λ (x y : X). x ≡ y → ⊥) xs → AreDistinct xs
  apart_index xs apart i j d li lj e = elim (cases_lt i j) [
    | inl h ↦ absurd (apart i j d h lj e)
    | inr h ↦ elim (cases_lt j i) [
      | inl g ↦ absurd (apart j i d g li (sym e))
      | inr g ↦ omega arith
    ]
  ]

-- ---- the names of owners

module _ (apex : Place) where
  block : Place → Inside → List Place
  block before o = place o.name ∷ map place (new_above apex before o.name)

  places_block : (before : Place) (o : Inside) → map place_of (o ∷ map empty_at (new_above apex before o.name)) ≡ place o.name ∷ map place (new_above apex before o.name)
  places_block before o = ap (λ (xs : List Place). place o.name ∷ xs) (by (new_above apex before o.name))
    where
      by : (names : List Labels) → map place_of (map empty_at names) ≡ map place names
      by [] = refl
      by (n ∷ names) = ap (λ (xs : List Place). place n ∷ xs) (by names)

  pub places_more : (before : Place) (o : Inside) (owners : List Inside) → map place_of (names_of apex before (o ∷ owners)) ≡ (place o.name ∷ map place (new_above apex before o.name)) ++ map place_of (names_of apex (place o.name) owners)
  unfolding names_of
  places_more before o owners =
      map-append place_of (o ∷ map empty_at (new_above apex before o.name)) (names_of apex (place o.name) owners)
      ∙ ap (λ (xs : List Place). xs ++ map place_of (names_of apex (place o.name) owners)) (places_block before o)

  -- what stands in an owner's part is the owner, or above it, and new
  in_block : (before : Place) (o : Inside) (k : Place) → Contains (place o.name ∷ map place (new_above apex before o.name)) k → (k ≡ place o.name) ⊎ (IsStrictlyBelow (place o.name) k × (is_new apex before k ≡ true))
  in_block before o k h = elim (in_more (place o.name) k (map place (new_above apex before o.name)) h) [
    | inl same ↦ inl (sym same)
    | inr later ↦
        let m = from_map place (new_above apex before o.name) k later in
        let are = new_are apex before o.name m.0 m.1 in
        inr (subst (λ (p : Place). IsStrictlyBelow (place o.name) p × (is_new apex before p ≡ true)) m.2 (are.1, are.0))
  ]

  After : Place → List Inside → Type 0
  After before owners = All (λ (p : Inside). Before before (place p.name)) owners

  tail_after : (o : Inside) (owners : List Inside) → AllPairs (λ (o p : Inside). Before (place o.name) (place p.name)) (o ∷ owners) → All (λ (p : Inside). Before (place o.name) (place p.name)) owners
  tail_after o owners rise k d lt = rise 0 (suc k) d (omega arith) (omega arith)

  tail_rise : (o : Inside) (owners : List Inside) → AllPairs (λ (o p : Inside). Before (place o.name) (place p.name)) (o ∷ owners) → AllPairs (λ (o p : Inside). Before (place o.name) (place p.name)) owners
  tail_rise o owners rise i j d lt lj = rise (suc i) (suc j) d (omega arith) (omega arith)

  -- where each name comes from: it is an owner's, or above one and below the apex, and not above the names before
  pub comes_from : (before : Place) (owners : List Inside) → AllPairs (λ (o p : Inside). Before (place o.name) (place p.name)) owners → (k : Place) → Contains (map place_of (names_of apex before owners)) k
      → (p : Inside) × Contains owners p × ((k ≡ place p.name) ⊎ (IsStrictlyBelow (place p.name) k × IsStrictlyBelow k apex))
  unfolding names_of
  comes_from before [] rise k h = absurd (not_in_none k h)
  comes_from before (o ∷ owners) rise k h =
      elim (in_either k (place o.name ∷ map place (new_above apex before o.name)) (map place_of (names_of apex (place o.name) owners)) (subst (λ (xs : List Place). Contains xs k) (places_more before o owners) h)) [
        | inl front ↦ (
          o,
          first_in o owners,
          elim (in_block before o k front) [
            | inl same ↦ inl same
            | inr above ↦ inr (above.0, (new_says apex before k above.1).0)
          ],
        )
        | inr back ↦ let r = comes_from (place o.name) owners (tail_rise o owners rise) k back in (r.0, later_in o r.0 owners r.1, r.2)
      ]

  later_apart : (before : Place) (owners : List Inside) → AllPairs (λ (o p : Inside). Before (place o.name) (place p.name)) owners → All (λ (p : Inside). Before before (place p.name)) owners
      → (k : Place) → Contains (map place_of (names_of apex before owners)) k → (o : Place) → (o ≡ before) ⊎ Before o before → IsAtOrBelow o k → ⊥
  unfolding names_of
  later_apart before [] rise after k h o early below = not_in_none k h
  later_apart before (p ∷ owners) rise after k h o early below =
      let front_of : Before before (place p.name) = after 0 p (omega arith) in
      elim (in_either k (place p.name ∷ map place (new_above apex before p.name)) (map place_of (names_of apex (place p.name) owners)) (subst (λ (xs : List Place). Contains xs k) (places_more before p owners) h)) [
        | inl front ↦ elim (in_block before p k front) [
          | inl same ↦
              let first : Before o (place p.name) = elim early [
                | inl e ↦ subst (λ (x : Place). Before x (place p.name)) (sym e) front_of
                | inr b ↦ before_trans o before (place p.name) b front_of
              ] in
              below_not_before o (place p.name) (subst (λ (x : Place). IsAtOrBelow o x) same below) first
          | inr above ↦
              let new = new_says apex before k above.1 in
              elim early [
                | inl e ↦ new.1 (subst (λ (x : Place). IsAtOrBelow x k) e below)
                | inr b ↦ not_before_itself before (before_trans before o before (before_all_below k (place p.name) o before (at_or_below (place p.name) k above.0) below new.1 front_of) b)
              ]
        ]
        | inr back ↦ later_apart (place p.name) owners (tail_rise p owners rise) (tail_after p owners rise) k back o (inr (elim early [
          | inl e ↦ subst (λ (x : Place). Before x (place p.name)) (sym e) front_of
          | inr b ↦ before_trans o before (place p.name) b front_of
        ])) below
      ]

  -- no name is there twice
  pub names_apart : (before : Place) (owners : List Inside) → AllPairs (λ (o p : Inside). Before (place o.name) (place p.name)) owners → AllPairs (λ (x y : Place). x ≡ y → ⊥) (map place_of (names_of apex before owners))
  unfolding names_of
  names_apart before [] rise = λ i j d lt lj. absurd (omega arith)
  names_apart before (o ∷ owners) rise =
      subst (λ (xs : List Place). AllPairs (λ (x y : Place). x ≡ y → ⊥) xs) (sym (places_more before o owners))
      (apart_append (place o.name ∷ map place (new_above apex before o.name)) (map place_of (names_of apex (place o.name) owners))
      (apart_more (place o.name) (map place (new_above apex before o.name)) (λ h. let m = from_map place (new_above apex before o.name) (place o.name) h in
      not_strictly_itself (place o.name) (subst (λ (p : Place). IsStrictlyBelow (place o.name) p) m.2 (new_are apex before o.name m.0 m.1).1))
      (pairs_map (λ (x y : Place). x ≡ y → ⊥) place (new_above apex before o.name) (new_once apex before o.name)))
      (names_apart (place o.name) owners (tail_rise o owners rise))
      (λ k front back. later_apart (place o.name) owners (tail_rise o owners rise) (tail_after o owners rise) k back (place o.name) (inl refl)
      (elim (in_block before o k front) [
        | inl same ↦ subst (λ (x : Place). IsAtOrBelow (place o.name) x) (sym same) (below_itself (place o.name))
        | inr above ↦ at_or_below (place o.name) k above.0
      ])))

  -- each owner is there
  pub owner_there : (before : Place) (owners : List Inside) (o : Inside) → Contains owners o → Contains (names_of apex before owners) o
  unfolding names_of
  owner_there before [] o h = absurd (not_in_none o h)
  owner_there before (p ∷ owners) o h = elim (in_more p o owners h) [
    | inl same ↦ subst (λ (x : Inside). Contains ((p ∷ map empty_at (new_above apex before p.name)) ++ names_of apex (place p.name) owners) x) same (first_in p _)
    | inr later ↦ in_back o (p ∷ map empty_at (new_above apex before p.name)) (names_of apex (place p.name) owners) (owner_there (place p.name) owners o later)
  ]

  -- and what isn't an owner is empty
  pub owner_or_empty : (before : Place) (owners : List Inside) (x : Inside) → Contains (names_of apex before owners) x → Contains owners x ⊎ ((name : Labels) × (x ≡ empty_at name))
  unfolding names_of
  owner_or_empty before [] x h = absurd (not_in_none x h)
  owner_or_empty before (o ∷ owners) x h = elim (in_either x (o ∷ map empty_at (new_above apex before o.name)) (names_of apex (place o.name) owners) h) [
    | inl front ↦ elim (in_more o x (map empty_at (new_above apex before o.name)) front) [
      | inl same ↦ inl (subst (λ (y : Inside). Contains (o ∷ owners) y) same (first_in o owners))
      | inr empty ↦ let m = from_map empty_at (new_above apex before o.name) x empty in inr (m.0, sym m.2)
    ]
    | inr back ↦ elim (owner_or_empty (place o.name) owners x back) [
      | inl later ↦ inl (later_in o x owners later)
      | inr empty ↦ inr empty
    ]
  ]

  -- each name at or above an owner and below the apex is there, but for those above the name before
  pub above_there : (before : Place) (owners : List Inside) (n : Place) → IsStrictlyBelow n apex → (IsAtOrBelow before n → ⊥) → (o : Inside) → Contains owners o → IsAtOrBelow (place o.name) n → Contains (map place_of (names_of apex before owners)) n
  unfolding names_of
  above_there before [] n below out o has at = absurd (not_in_none o has)
  above_there before (p ∷ owners) n below out o has at =
      subst (λ (xs : List Place). Contains xs n) (sym (places_more before p owners)) (elim (below_or_not (place p.name) n) [
        | inl here ↦ in_front n (place p.name ∷ map place (new_above apex before p.name)) (map place_of (names_of apex (place p.name) owners)) (elim (same_or_below (place p.name) n here) [
          | inl same ↦ subst (λ (x : Place). Contains (place p.name ∷ map place (new_above apex before p.name)) x) same (first_in (place p.name) (map place (new_above apex before p.name)))
          | inr strictly ↦
              let m = new_there apex before p.name n strictly (says_new apex before n below out) in
              later_in (place p.name) n (map place (new_above apex before p.name)) (subst (λ (x : Place). Contains (map place (new_above apex before p.name)) x) m.2 (in_map place (new_above apex before p.name) m.0 m.1))
        ])
        | inr not_here ↦ in_back n (place p.name ∷ map place (new_above apex before p.name)) (map place_of (names_of apex (place p.name) owners)) (elim (in_more p o owners has) [
          | inl same ↦ absurd (not_here (subst (λ (x : Inside). IsAtOrBelow (place x.name) n) (sym same) at))
          | inr later ↦ above_there (place p.name) owners n below not_here o later at
        ])
      ])
