-- Which of a set's keys a DS record speaks of, where only so many are tried (RFC 4035 5.2).
use Rattle.std.specs.Prelude.{ℕ, nat_lt, List, length, take, filter, Bool, false, Option, Some, None, if◌then◌else◌}
use Rattle.std.specs.List.{list_any, position_or_len}
use Rattle.dsec_spec.specs.Names.{Labels}
use Rattle.dsec_spec.specs.Records.{Key, key_of, Ds}
use Rattle.dsec_spec.specs.DelegationSigner.{names, speaks_of}

-- what comes of a search for the key of a DS record
pub data KeySearch : Type 0 where
  -- it is the key at this index
  found_at : ℕ → KeySearch
  -- it isn't among the keys
  not_found : KeySearch
  -- it isn't among the keys that may be tried, and there are more that would have to be
  too_many : KeySearch

-- The first of a list that passes a test, where so many of those that call for the test may be tried
abbrev pub search_in : {A : Type 0} → (A → Bool) → (A → Bool) → ℕ → List A → KeySearch
search_in is_candidate is_it most all =
    if list_any is_it (take most (filter is_candidate all)) then found_at (position_or_len is_it all) else
    if nat_lt most (length (filter is_candidate all)) then too_many else not_found

-- a test of a key, where DNSKEY data say one
abbrev pub of_key : (Key → Bool) → Option Key → Bool
of_key test (Some key) = test key
of_key test None = false

-- whether DNSKEY data say a key that a DS record names, by algorithm and tag
abbrev pub is_named : Ds → List ℕ → Bool
is_named ds x = of_key (names ds) (key_of x)

-- whether DNSKEY data say a key of the owner that a DS record speaks of
abbrev pub is_spoken_of : Ds → Labels → List ℕ → Bool
is_spoken_of ds owner x = of_key (speaks_of ds owner) (key_of x)

-- The first key of the owner that a DS record speaks of, among DNSKEY data in order, where so many of those that it names are
-- tried (RFC 4035 5.2). Keys can be made to have one tag, and each that is tried costs a digest.
abbrev pub first_key : Ds → Labels → ℕ → List (List ℕ) → KeySearch
first_key ds owner most datas = search_in (is_named ds) (is_spoken_of ds owner) most datas
