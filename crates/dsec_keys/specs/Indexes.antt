-- Keys found by algorithm and tag (RFC 4034 3.1.2, 3.1.6, B).
use Rattle.std.specs.Prelude.{◌≡◌, ℕ, ◌+◌, ◌*◌, ◌^◌, ◌<◌, ◌≤◌, ◌==◌, ◌&&◌, List, [], ◌∷◌, length, All, slice_get, Bool, true, false, Option, Some, None}
use Rattle.std.specs.List.{Contains}
use Rattle.std.specs.List.Sorted.{IsNonDecreasing}
use Rattle.dsec_spec.specs.KeyTag.{key_tag}
use Rattle.dsec_spec.specs.Records.{Key}

-- of the elements from one index to another, none passes a test
abbrev pub NonePasses : {A : Type 0} → (A → Bool) → ℕ → ℕ → List A → Type 0
NonePasses {A} test from to all = (i : ℕ) (one : A) → from ≤ i → i < to → slice_get all i ≡ Some one → test one ≡ false

-- the first index, from one on, whose element passes a test, where there is one
abbrev pub IsNextBy : {A : Type 0} → (A → Bool) → ℕ → List A → Option ℕ → Type 0
IsNextBy {A} test from all (Some at) = (from ≤ at) × ((one : A) × (slice_get all at ≡ Some one) × (test one ≡ true)) × NonePasses test from at all
IsNextBy test from all None = NonePasses test from (length all) all

-- whether a key has this algorithm and tag
abbrev pub is_named : ℕ → ℕ → Key → Bool
is_named algorithm tag key = (algorithm == key.algorithm) && (tag == key_tag key)

-- a key's algorithm and tag as one number
abbrev pub code_of : Key → ℕ
code_of key = key.algorithm * 2 ^ 16 + key_tag key

-- whether this is the number
abbrev pub is_code : ℕ → ℕ → Bool
is_code code other = code == other

-- a number and the index where it stands, as one number: the first decides, and then the second
abbrev pub entry_of : ℕ → ℕ → ℕ
entry_of code index = code * 2 ^ 64 + index

-- the entries of numbers, whose first stands at this index
abbrev pub entries_from : ℕ → List ℕ → List ℕ
entries_from index [] = []
entries_from index (code ∷ codes) = entry_of code index ∷ entries_from (index + 1) codes

abbrev pub entries_of : List ℕ → List ℕ
entries_of codes = entries_from 0 codes

-- an entry is that of a number where it stands
abbrev pub IsEntry : List ℕ → ℕ → Type 0
IsEntry codes entry = (index : ℕ) × (code : ℕ) × (slice_get codes index ≡ Some code) × (index < 2 ^ 64) × (entry ≡ entry_of code index)

-- the entries of these numbers, in order
pub record IsIndexOf (codes entries : List ℕ) : Type 0 where
  pub few : length codes < 2 ^ 64
  pub rises : IsNonDecreasing entries
  pub each : All (IsEntry codes) entries
  pub all : (index code : ℕ) → slice_get codes index ≡ Some code → Contains entries (entry_of code index)

-- tags are numbers of 16 bits
abbrev pub HaveTags : List Key → Type 0
HaveTags keys = All (λ key. key_tag key < 2 ^ 16) keys
