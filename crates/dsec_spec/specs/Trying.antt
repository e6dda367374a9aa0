-- Signatures and keys tried in order until one is good (RFC 4035 5.3.1, 5.3.3).
use Rattle.std.specs.Prelude.{ℕ, zero, suc, nat_lt, List, length, take, map, filter, find, flat_map, Bool, false, Option, Some, None, if◌then◌else◌}
use Rattle.dsec_spec.specs.Names.{Place}
use Rattle.dsec_spec.specs.Records.{Record, RecordSet, Key, Rrsig, rrsig_of}
use Rattle.dsec_spec.specs.Accepts.{Accepts}
use Rattle.dsec_spec.specs.Signed.{names_key, signs}
use Rattle.dsec_spec.specs.Groups.{Group, set_in}

-- what trying comes to
pub data Tried (P : Type 0) : Type 0 where
  -- this is the first that is good
  good : P → Tried P
  -- there is none to be tried
  nothing : Tried P
  -- all were tried, and none is good
  all_bad : Tried P
  -- there are as many as may be tried or more, and none of the first so many is good
  too_many_bad : Tried P

-- what it comes to where none of those tried is good: so many may be tried, and so many there are
abbrev pub none_good : {P : Type 0} → ℕ → ℕ → Tried P
none_good room zero = nothing
none_good room (suc others) = if nat_lt (suc others) room then all_bad else too_many_bad

-- the first that is good, of those found
abbrev pub first_or : {P : Type 0} → Tried P → Option P → Tried P
first_or otherwise (Some p) = good p
first_or otherwise None = otherwise

-- the first so many of a list, tried in order
abbrev pub tried : {P : Type 0} → (P → Bool) → ℕ → List P → Tried P
tried is_good room candidates = first_or (none_good room (length candidates)) (find is_good (take room candidates))

-- each of the first with each of the second, in order
abbrev pub pairs : {A B : Type 0} → List A → List B → List (A × B)
pairs xs ys = flat_map (λ x. map (λ y. (x, y)) ys) xs

-- a test of a signature, where a record's data say one
abbrev pub of_signature : (Rrsig → Bool) → Option Rrsig → Bool
of_signature test (Some sig) = test sig
of_signature test None = false

-- whether a signature record names the zone and the key
abbrev pub pair_matches : Place → Record × Key → Bool
pair_matches zone p = of_signature (λ sig. names_key zone sig p.1) (rrsig_of p.0.rdata)

-- whether a signature record beside the set counts as the key's
abbrev pub pair_signs : Accepts → RecordSet → Place → ℕ → Record × Key → Bool
pair_signs accepts set zone t p = of_signature (λ sig. signs accepts set zone t sig p.1) (rrsig_of p.0.rdata)

-- the signatures of a group under the keys of a zone: by signature, then by key, of those that match the first so many
abbrev pub checked : Accepts → Group → Place → List Key → ℕ → ℕ → Tried (Record × Key)
checked accepts group zone keys room t =
    tried (pair_signs accepts (set_in group) zone t) room (filter (pair_matches zone) (pairs group.signatures keys))
