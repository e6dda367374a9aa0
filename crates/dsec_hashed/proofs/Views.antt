-- The code's names, one by one.
use Rattle.std.proofs.Common.{◌≡◌, ℕ, ◌+◌, ◌<◌, ◌≤◌, Bool, true, false, ◌||◌, List, [], ◌∷◌, ◌++◌, length, drop, map, Some, refl, sym, ap, ◌∙◌, arith, append_assoc}
use Rattle.std.specs.Prelude.{slice_get}
use Rattle.std.proofs.lemmas.List.{append-nil, map-append, drop_more, drop_all}
use Rattle.std.proofs.lemmas.Option.{same_Some}
use Rattle.dsec_spec.specs.Names.{Labels, Place, place}
use Rattle.dsec_spec.specs.RecordViews.{Hashing}
use Rattle.dsec_spec.specs.OwnersInside.{Inside}
use Rattle.dsec_hashed.specs.HashedList.{empty_at, new_above, names_of}
use Rattle.dsec_hashed.specs.HashedTypes.{Standing, hashed_as}
use Rattle.dsec_hashed.specs.Hashed.{first_twins, has_twins}
use Rattle.dsec_hashed.specs.HashedViews.{hashed_view}
use Rattle.dsec_hashed.specs.Nsec3Made.{hash_after}
use Rattle.dsec_hashed.specs.declared.names.HashedName.{HashedName}

pub first_hash : (names : List HashedName) (first : HashedName) → slice_get names 0 ≡ Some first → hash_after [] (map hashed_view names) ≡ first.hash
first_hash [] first e = absurd cc
first_hash (one ∷ names) first e = ap (λ (h : HashedName). h.hash) (same_Some one first e)

-- a name more
pub pushed : (names more : List HashedName) (one : HashedName) (s : Standing) → more ≡ names ++ one ∷ [] → hashed_view one ≡ s → map hashed_view more ≡ map hashed_view names ++ s ∷ []
pushed names more one s is view = ap (map hashed_view) is ∙ (map-append hashed_view names (one ∷ []) ∙ ap (λ (x : Standing). map hashed_view names ++ x ∷ []) view)

module _ (how : Hashing) (apex before : Place) where
  -- an owner more, with the empty non-terminals above it
  pub owner_more : (o : Inside) (rest : List Inside) (old new last all : List Standing) → new ≡ old ++ hashed_as how o ∷ [] → last ≡ new ++ map (λ n. hashed_as how (empty_at n)) (new_above apex before o.name)
      → old ++ map (hashed_as how) (names_of apex before (o ∷ rest)) ≡ all → last ++ map (hashed_as how) (names_of apex (place o.name) rest) ≡ all
  unfolding names_of
  owner_more o rest old new last all is others so =
      let empty = map (λ n. hashed_as how (empty_at n)) (new_above apex before o.name) in
      let later = map (hashed_as how) (names_of apex (place o.name) rest) in
      ap (λ (xs : List Standing). xs ++ later) (others ∙ ap (λ (xs : List Standing). xs ++ empty) is)
      ∙ (append_assoc (old ++ hashed_as how o ∷ []) empty later
      ∙ (append_assoc old (hashed_as how o ∷ []) (empty ++ later)
      ∙ (ap (λ (xs : List Standing). old ++ (hashed_as how o ∷ xs)) (sym (parts (new_above apex before o.name) (names_of apex (place o.name) rest))) ∙ so)))
    where
      parts : (names : List Labels) (rest : List Inside) → map (hashed_as how) (map empty_at names ++ rest) ≡ map (λ n. hashed_as how (empty_at n)) names ++ map (hashed_as how) rest
      parts [] rest = refl
      parts (n ∷ names) rest = ap (λ (xs : List Standing). hashed_as how (empty_at n) ∷ xs) (parts names rest)

  pub owners_end : (owners : List Inside) (old all : List Standing) → owners ≡ [] → old ++ map (hashed_as how) (names_of apex before owners) ≡ all → old ≡ all
  unfolding names_of
  owners_end owners old all none so = sym (append-nil old) ∙ (sym (ap (λ (xs : List Inside). old ++ map (hashed_as how) (names_of apex before xs)) none) ∙ so)

-- ---- neighbours with one hash

or_assoc : (a b c : Bool) → (a || (b || c)) ≡ ((a || b) || c)
or_assoc true b c = refl
or_assoc false b c = refl

or_none : (a : Bool) → (a || false) ≡ a
or_none true = refl
or_none false = refl

twins_here : (names : List HashedName) (i : ℕ) (d : HashedName) → i < length names → has_twins (map hashed_view (drop i names)) ≡ (first_twins (map hashed_view (drop i names)) || has_twins (map hashed_view (drop (i + 1) names)))
unfolding has_twins
twins_here names i d lt =
    ap (λ (xs : List HashedName). has_twins (map hashed_view xs)) (drop_more names i d lt)
    ∙ ap (λ (xs : List HashedName). first_twins (map hashed_view xs) || has_twins (map hashed_view (drop (i + 1) names))) (sym (drop_more names i d lt))

pub twins_more : (names rest : List HashedName) (i : ℕ) (found twins all : Bool) → i < length names → rest ≡ drop i names → twins ≡ first_twins (map hashed_view rest)
    → all ≡ (found || has_twins (map hashed_view (drop i names))) → all ≡ ((found || twins) || has_twins (map hashed_view (drop (i + 1) names)))
twins_more [] rest i found twins all lt is now so = absurd (omega arith)
twins_more (d ∷ more) rest i found twins all lt is now so =
    let names : List HashedName = d ∷ more in
    so ∙ (ap (λ (b : Bool). found || b) (twins_here names i d lt) ∙ (or_assoc found (first_twins (map hashed_view (drop i names))) (has_twins (map hashed_view (drop (i + 1) names)))
    ∙ ap (λ (b : Bool). (found || b) || has_twins (map hashed_view (drop (i + 1) names))) (sym (now ∙ ap (λ (xs : List HashedName). first_twins (map hashed_view xs)) is))))

pub twins_end : (names : List HashedName) (i : ℕ) (found all : Bool) → length names ≤ i → all ≡ (found || has_twins (map hashed_view (drop i names))) → found ≡ all
unfolding has_twins
twins_end names i found all past so = sym (so ∙ (ap (λ (xs : List HashedName). found || has_twins (map hashed_view xs)) (drop_all i names past) ∙ or_none found))
