-- What is sorted by a key that is a list of octets.
use Rattle.std.proofs.Common.{◌≡◌, ℕ, zero, suc, ◌+◌, ◌<◌, List, [], ◌∷◌, Bool, get_or, length, map, refl, arith}
use Rattle.std.specs.Prelude.{IsPermutation, IsSorted}
use Rattle.std.specs.List.Sorted.{IsSortedBy}
use Rattle.std.specs.Ordering.{nat_cmp, is_lt}
use Rattle.std.specs.Cmp.Lexicographic.{slice_cmp}
use Rattle.std.proofs.lemmas.List.{length-map}
use Rattle.std.proofs.lemmas.List.Sorted.{IsPermutation-map}
use Rattle.dsec_spec.specs.SignedBytes.{ascending}
use Rattle.dsec_spec.proofs.AscendingOrder.{ascending_is}

-- whether one comes before another by their keys
abbrev pub before_by : {X : Type 0} (key : X → List ℕ) → X → X → Bool
before_by key a b = is_lt (slice_cmp nat_cmp (key a) (key b))

at_key : {X : Type 0} (key : X → List ℕ) (all : List X) (k : ℕ) (d : X) (x : List ℕ) → k < length all → get_or (map key all) k x ≡ key (get_or all k d)
at_key key [] k d x below = absurd (omega (arith, below))
at_key key (one ∷ all) zero d x below = refl
at_key key (one ∷ all) (suc k) d x below = at_key key all k d x (omega (arith, below))

keys_sorted : {X : Type 0} (key : X → List ℕ) (all : List X) (d : X) → IsSortedBy (before_by key) all → IsSorted (slice_cmp nat_cmp) (map key all)
keys_sorted key all d sorted k x low below =
    let within : k + 1 < length all = omega (arith, length-map all key, below) in
    rw (at_key key all (k + 1) d x within, at_key key all k d x (omega (arith, within))) (sorted k d low within)

none_sorted : {X : Type 0} (key : X → List ℕ) (all : List X) → IsSortedBy (before_by key) all → IsSorted (slice_cmp nat_cmp) (map key all)
none_sorted key [] sorted = λ k x low below. absurd (omega (arith, below))
none_sorted key (one ∷ all) sorted = keys_sorted key (one ∷ all) one sorted

-- their keys are in ascending order
pub keys_ascending : {X : Type 0} (key : X → List ℕ) (before after : List X) → IsPermutation before after → IsSortedBy (before_by key) after → map key after ≡ ascending (map key before)
keys_ascending key before after same sorted = ascending_is (map key before) (map key after) (IsPermutation-map key before after same) (none_sorted key after sorted)
