-- What is signed once is found good by that signature.
use Rattle.std.proofs.Common.{◌≡◌, ℕ, zero, suc, ◌+◌, ◌<◌, ◌||◌, Bool, true, false, cond, List, [], ◌∷◌, length, take, map, Some, refl, sym, ap, ◌∙◌, subst, arith, inl, inr, append-nil}
use Rattle.std.specs.Prelude.{Contains, filter, find, slice_get}
use Rattle.std.specs.List.{list_any, position_or_len}
use Rattle.std.proofs.Math.Bool.{not}
use Rattle.std.proofs.lemmas.Bool.{false≢true, cond-true, or_right}
use Rattle.dsec_spec.specs.Names.{Place}
use Rattle.dsec_spec.specs.Records.{Record, Key, Rrsig, rrsig_of, beside}
use Rattle.dsec_spec.specs.Signed.{Signed, signs}
use Rattle.dsec_spec.specs.Groups.{Group, set_in}
use Rattle.dsec_spec.specs.Trying.{good, tried, first_or, none_good, pairs, of_signature, pair_signs, pair_matches}
use Rattle.dsec_spec.proofs.Members.{in_more, not_in_none}
use Rattle.dsec_spec.proofs.SignedTests.{signs_decides}
use Rattle.dsec_nodes.specs.World.{World, moment}
use Rattle.dsec_nodes.specs.Signing.{keys_of, under_keys}
use Rattle.dsec_plain.specs.PlainAnswers.{IsSignedOnce}

-- one candidate that is good comes out
pub tried_one : {P : Type 0} (is_good : P → Bool) (room : ℕ) (p : P) → 0 < room → is_good p ≡ true → tried is_good room (p ∷ []) ≡ good p
tried_one is_good zero p some e = absurd (omega (arith, some))
tried_one is_good (suc n) p some e = ap (first_or (none_good (suc n) 1)) (cond-true (is_good p) (Some p) (find is_good (take n [])) e)

filter_step : {A B : Type 0} (f : A → B) (x : A) (ys : List B) (zs : List A) → ys ≡ map f zs → (b : Bool)
    → cond b (f x ∷ ys) ys ≡ map f (cond b (x ∷ zs) zs)
filter_step f x ys zs e true = ap (λ us. f x ∷ us) e
filter_step f x ys zs e false = e

-- what a filter leaves of a mapped list
filter_of_map : {A B : Type 0} (test : B → Bool) (f : A → B) (xs : List A) → filter test (map f xs) ≡ map f (filter (λ x. test (f x)) xs)
filter_of_map test f [] = refl
filter_of_map test f (x ∷ xs) = filter_step f x (filter test (map f xs)) (filter (λ y. test (f y)) xs) (filter_of_map test f xs) (test (f x))

-- a signature that is Signed counts
pub signs_told : (w : World) (group : Group) (zone : Place) (signature : Record) (sig : Rrsig) (key : Key) → rrsig_of signature.rdata ≡ Some sig
    → Signed w.accepts (set_in group) (beside (set_in group) sig) key zone (moment w)
    → pair_signs w.accepts (set_in group) zone (moment w) (signature, key) ≡ true
signs_told w group zone signature sig key reads signed =
    ap (of_signature (λ s. signs w.accepts (set_in group) zone (moment w) s key)) reads
    ∙ (signs_decides w.accepts (set_in group) zone (moment w) sig key).1 signed

-- a group that is signed once by a zone's keys is found so
pub found_once : (w : World) (group : Group) (zone : Place) (datas : List (List ℕ)) (s : IsSignedOnce w group zone (keys_of datas))
    → 0 < w.bounds.room → under_keys w zone datas group ≡ good (s.signature, s.public_key)
found_once w group zone datas s some =
    let candidates : filter (pair_matches zone) (pairs group.signatures (keys_of datas)) ≡ (s.signature, s.public_key) ∷ [] =
    ap (λ (ss : List Record). filter (pair_matches zone) (pairs ss (keys_of datas))) s.one
    ∙ (ap (filter (pair_matches zone)) (append-nil (map (λ (k : Key). (s.signature, k)) (keys_of datas)))
    ∙ (filter_of_map (pair_matches zone) (λ (k : Key). (s.signature, k)) (keys_of datas) ∙ ap (map (λ (k : Key). (s.signature, k))) s.matches_one)) in
    ap (tried (pair_signs w.accepts (set_in group) zone (moment w)) w.bounds.room) candidates
    ∙ tried_one (pair_signs w.accepts (set_in group) zone (moment w)) w.bounds.room (s.signature, s.public_key) some
    (signs_told w group zone s.signature s.rrsig s.public_key s.reads s.signed)

-- one thing that a filter leaves of one is that, and passes
pub one_passes : {A : Type 0} (test : A → Bool) (x y : A) → filter test (x ∷ []) ≡ y ∷ [] → (test x ≡ true) × (x ≡ y)
one_passes test x y e = by (test x) refl e
  where
    by : (b : Bool) → test x ≡ b → cond b (x ∷ []) [] ≡ y ∷ [] → (test x ≡ true) × (x ≡ y)
    by true t f = (t, cc)
    by false t f = absurd cc

-- a test passes somewhere in a list where it passes at a thing in it
pub passes_at : {A : Type 0} (test : A → Bool) (xs : List A) (x : A) → Contains xs x → test x ≡ true → list_any test xs ≡ true
passes_at test [] x h t = absurd (not_in_none x h)
passes_at test (y ∷ ys) x h t = elim (in_more y x ys h) [
  | inl same ↦ ap (λ (b : Bool). b || list_any test ys) (subst (λ z. test z ≡ true) (sym same) t)
  | inr later ↦ or_right (test y) (list_any test ys) (passes_at test ys x later t)
]

-- what stands at the first index at which a test passes
pub record IsFirst {A : Type 0} (test : A → Bool) (xs : List A) : Type 0 where
  pub below : position_or_len test xs < length xs
  pub one : A
  pub stands : slice_get xs (position_or_len test xs) ≡ Some one
  pub passes : test one ≡ true

-- where a test passes somewhere in a list, something stands at the first index at which it does
pub first_passing : {A : Type 0} (test : A → Bool) (xs : List A) → list_any test xs ≡ true → IsFirst test xs
first_passing test [] e = absurd (false≢true e)
first_passing {A} test (x ∷ xs) e = by (first_passing test xs) (test x) refl e
  where
    at : Bool → ℕ
    at b = cond (not b) (1 + position_or_len test xs) 0

    with : (b : Bool) → test x ≡ b → (one : A) → at b < length (x ∷ xs) → slice_get (x ∷ xs) (at b) ≡ Some one → test one ≡ true
        → IsFirst test (x ∷ xs)
    with b t one below stands passes = record {
      below = subst (λ (c : Bool). at c < length (x ∷ xs)) (sym t) below;
      one = one;
      stands = subst (λ (c : Bool). slice_get (x ∷ xs) (at c) ≡ Some one) (sym t) stands;
      passes = passes;
    }

    by : (list_any test xs ≡ true → IsFirst test xs) → (b : Bool) → test x ≡ b → (b || list_any test xs) ≡ true → IsFirst test (x ∷ xs)
    by others true t f = with true t x (omega arith) refl t
    by others false t f =
        let rest = others f in
        let next : 1 + position_or_len test xs ≡ suc (position_or_len test xs) = omega arith in
        with false t rest.one (let l = rest.below in omega (arith, l)) (ap (slice_get (x ∷ xs)) next ∙ rest.stands) rest.passes
