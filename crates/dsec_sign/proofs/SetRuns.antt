-- Records that fall into runs, each of one set and no two of the same, fall into these sets.
use Rattle.std.proofs.Common.{◌≡◌, suc, Bool, true, false, cond, ◌&&◌, ◌==◌, List, [], ◌∷◌, ◌++◌, map, refl, sym, ap, ◌∙◌, subst, inl, inr, ◌⊎◌, arith, eqb-true, eq-eqb}
use Rattle.std.specs.Prelude.{AllPairs, Contains, filter}
use Rattle.std.proofs.Math.Bool.{not}
use Rattle.std.proofs.lemmas.Bool.{true≢false}
use Rattle.std.proofs.lemmas.List.{append-nil}
use Rattle.std.proofs.lemmas.List.Elements.{filter-append, All-head, All-tail}
use Rattle.dsec_spec.specs.Groups.{firsts}
use Rattle.dsec_spec.specs.Names.{place, same_place}
use Rattle.dsec_spec.specs.Records.{Record}
use Rattle.dsec_spec.specs.SignedZones.{of_one_set, sets_of}
use Rattle.dsec_sign.specs.Runs.{AreApart, AreRuns, IsRun, joined}
use Rattle.dsec_spec.proofs.CanonicalNames.{same_place_decides}
use Rattle.dsec_spec.proofs.Choosing.{both, filter_all, filter_like, filter_none}
use Rattle.dsec_spec.proofs.Members.{first_in, later_in, in_more, in_either, not_in_none, from_filter}

-- ---- the first of the things that are alike, of a run and what is behind it

module _ {A : Type 0} (alike : A → A → Bool) (like : (x y z : A) → alike x y ≡ true → alike x z ≡ alike y z) where
  kept_all : (x : A) (xs : List A) → ((y : A) → Contains xs y → alike x y ≡ false) → filter (λ y. not (alike x y)) xs ≡ xs
  kept_all x xs apart = filter_like (λ y. not (alike x y)) (λ _. true) xs (λ y h. rw (apart y h) refl) ∙ filter_all xs

  twice : (p : A → Bool) (xs : List A) → filter p (filter p xs) ≡ filter p xs
  twice p [] = refl
  twice p (x ∷ xs) = by (twice p xs) (p x) refl
    where
      by : filter p (filter p xs) ≡ filter p xs → (b : Bool) → p x ≡ b → filter p (cond b (x ∷ filter p xs) (filter p xs)) ≡ cond b (x ∷ filter p xs) (filter p xs)
      by others true e = rw e (ap (λ (ys : List A). x ∷ ys) others)
      by others false e = others

  firsts_in : (xs : List A) (x : A) → Contains (firsts alike xs) x → Contains xs x
  unfolding firsts
  firsts_in [] x h = absurd (not_in_none x h)
  firsts_in (y ∷ ys) x h = elim (in_more y x (filter (λ z. not (alike y z)) (firsts alike ys)) h) [
    | inl same ↦ subst (λ z. Contains (z ∷ ys) x) (sym same) (first_in x ys)
    | inr later ↦ later_in y x ys (firsts_in ys x (from_filter (λ z. not (alike y z)) (firsts alike ys) x later).1)
  ]

  firsts-cons : (x : A) (xs : List A) → firsts alike (x ∷ xs) ≡ x ∷ filter (λ y. not (alike x y)) (firsts alike xs)
  unfolding firsts
  firsts-cons x xs = refl

  past_run : (first : A) (others rest : List A) → ((y : A) → Contains others y → alike first y ≡ true) → ((y : A) → Contains rest y → alike first y ≡ false)
      → filter (λ y. not (alike first y)) (firsts alike (others ++ rest)) ≡ firsts alike rest
  past_run first [] rest one apart = kept_all first (firsts alike rest) (λ y h. apart y (firsts_in rest y h))
  past_run first (o ∷ others) rest one apart =
      let same : alike first o ≡ true = one o (first_in o others) in
      let fewer : filter (λ y. not (alike o y)) (firsts alike (others ++ rest)) ≡ filter (λ y. not (alike first y)) (firsts alike (others ++ rest)) =
      filter_like (λ y. not (alike o y)) (λ y. not (alike first y)) (firsts alike (others ++ rest)) (λ y h. ap not (sym (like first o y same))) in
      ap (filter (λ y. not (alike first y))) (firsts-cons o (others ++ rest))
      ∙ (rw same (ap (filter (λ y. not (alike first y))) fewer ∙ twice (λ y. not (alike first y)) (firsts alike (others ++ rest)))
      ∙ past_run first others rest (λ y h. one y (later_in o y others h)) apart)

  pub firsts_of_run : (first : A) (others rest : List A) → ((y : A) → Contains others y → alike first y ≡ true) → ((y : A) → Contains rest y → alike first y ≡ false)
      → firsts alike (first ∷ others ++ rest) ≡ first ∷ firsts alike rest
  firsts_of_run first others rest one apart = firsts-cons first (others ++ rest) ∙ ap (λ (ys : List A). first ∷ ys) (past_run first others rest one apart)

map_like : {A B : Type 0} (f g : A → B) (xs : List A) → ((x : A) → Contains xs x → f x ≡ g x) → map f xs ≡ map g xs
map_like f g [] h = refl
map_like f g (x ∷ xs) h = rw (h x (first_in x xs), map_like f g xs (λ y m. h y (later_in x y xs m))) refl

chosen_none : {A : Type 0} (p : A → Bool) (xs : List A) → ((x : A) → Contains xs x → p x ≡ false) → filter p xs ≡ []
chosen_none p xs none = filter_like p (λ _. false) xs none ∙ filter_none xs

chosen_all : {A : Type 0} (p : A → Bool) (xs : List A) → ((x : A) → Contains xs x → p x ≡ true) → filter p xs ≡ xs
chosen_all p xs all = filter_like p (λ _. true) xs all ∙ filter_all xs

-- ---- records of one set

pub one_set_parts : (r s : Record) → of_one_set r s ≡ true → (place r.owner ≡ place s.owner) × (r.class ≡ s.class) × (r.rtype ≡ s.rtype)
one_set_parts r s h =
    let p = both (same_place (place r.owner) (place s.owner) && (r.class == s.class)) (r.rtype == s.rtype) h in
    let q = both (same_place (place r.owner) (place s.owner)) (r.class == s.class) p.0 in
    ((same_place_decides (place r.owner) (place s.owner)).0 q.0, eqb-true r.class s.class q.1, eqb-true r.rtype s.rtype p.1)

pub one_set_of_parts : (r s : Record) → place r.owner ≡ place s.owner → r.class ≡ s.class → r.rtype ≡ s.rtype → of_one_set r s ≡ true
one_set_of_parts r s owner class rtype =
    rw ((same_place_decides (place r.owner) (place s.owner)).1 owner, eq-eqb r.class s.class class, eq-eqb r.rtype s.rtype rtype) refl

pub one_set_like : (r s q : Record) → of_one_set r s ≡ true → of_one_set r q ≡ of_one_set s q
one_set_like r s q h = let p = one_set_parts r s h in rw (p.0, p.1, p.2) refl

pub one_set_back : (r s : Record) → of_one_set r s ≡ true → of_one_set s r ≡ true
one_set_back r s h = let p = one_set_parts r s h in one_set_of_parts s r (sym p.0) (sym p.1) (sym p.2)

pub not_one_set : (r s : Record) → (of_one_set r s ≡ true → ⊥) → of_one_set r s ≡ false
not_one_set r s apart = by (of_one_set r s) refl
  where
    by : (b : Bool) → of_one_set r s ≡ b → b ≡ false
    by true e = absurd (apart e)
    by false e = refl

-- ---- runs

tail_pairs : (run : List Record) (runs : List (List Record)) → AllPairs AreApart (run ∷ runs) → AllPairs AreApart runs
tail_pairs run runs apart i j d lt lj = apart (suc i) (suc j) d (omega arith) (omega arith)

from_joined : (ts : List (List Record)) (x : Record) → Contains (joined ts) x → (t : List Record) × Contains ts t × Contains t x
from_joined [] x m = absurd (not_in_none x m)
from_joined (t ∷ ts) x m = by (from_joined ts x) (in_either x t (joined ts) m)
  where
    by : (Contains (joined ts) x → (u : List Record) × Contains ts u × Contains u x) → Contains t x ⊎ Contains (joined ts) x → (u : List Record) × Contains (t ∷ ts) u × Contains u x
    by others (inl here) = (t, first_in t ts, here)
    by others (inr there) = let rest = others there in (rest.0, later_in t rest.0 ts rest.1, rest.2)

head_pairs : (run : List Record) (runs : List (List Record)) → AllPairs AreApart (run ∷ runs) → (r q : Record) → Contains run r → Contains (joined runs) q → of_one_set r q ≡ false
head_pairs run runs apart r q h g =
    let found = from_joined runs q g in
    apart 0 (suc found.1.0) found.0 (omega arith) (let below = found.1.1 in omega arith) r q h (subst (λ (s : List Record). Contains s q) (sym found.1.2) found.2)

sets_of_run : (run : List Record) (rest : List Record) → IsRun run → ((r q : Record) → Contains run r → Contains rest q → of_one_set r q ≡ false) → sets_of (run ++ rest) ≡ run ∷ sets_of rest
sets_of_run run rest is apart =
    let first = is.first in
    let others = is.others in
    let heads : firsts of_one_set (run ++ rest) ≡ first ∷ firsts of_one_set rest =
    ap (λ (xs : List Record). firsts of_one_set (xs ++ rest)) is.is
    ∙ firsts_of_run of_one_set one_set_like first others rest (λ y h. is.one y (subst (λ (xs : List Record). Contains xs y) (sym is.is) (later_in first y others h)))
    (λ y h. apart first y (subst (λ (xs : List Record). Contains xs first) (sym is.is) (first_in first others)) h) in
    let mine : filter (of_one_set first) (run ++ rest) ≡ run =
    filter-append (of_one_set first) run rest
    ∙ rw (chosen_all (of_one_set first) run is.one, chosen_none (of_one_set first) rest (λ y h. apart first y (subst (λ (xs : List Record). Contains xs first) (sym is.is) (first_in first others)) h)) (append-nil run) in
    let theirs : map (λ f. filter (of_one_set f) (run ++ rest)) (firsts of_one_set rest) ≡ map (λ f. filter (of_one_set f) rest) (firsts of_one_set rest) =
    map_like (λ f. filter (of_one_set f) (run ++ rest)) (λ f. filter (of_one_set f) rest) (firsts of_one_set rest) (λ f h.
    filter-append (of_one_set f) run rest
    ∙ rw (chosen_none (of_one_set f) run (λ r m. not_one_set f r (λ same. true≢false (sym (one_set_back f r same) ∙ apart r f m (firsts_in of_one_set one_set_like rest f h))))) refl) in
    ap (map (λ f. filter (of_one_set f) (run ++ rest))) heads ∙ rw (mine, theirs) refl

-- records that fall into runs fall into these sets
pub runs_are_sets : (runs : List (List Record)) → AreRuns runs → sets_of (joined runs) ≡ runs
unfolding firsts
runs_are_sets [] are = refl
runs_are_sets (run ∷ runs) are =
    sets_of_run run (joined runs) (All-head IsRun run runs are.each) (head_pairs run runs are.apart)
    ∙ ap (λ (ts : List (List Record)). run ∷ ts) (runs_are_sets runs (record { each = All-tail IsRun run runs are.each; apart = tail_pairs run runs are.apart }))
