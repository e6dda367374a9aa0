-- The search for the key of a DS record: what it answers, and how many digests it takes (RFC 4035 5.2).
use Rattle.std.specs.Prelude.{ℕ, ◌+◌, Bool, List, length, take, filter, Option, Some, None, if◌then◌else◌}
use Rattle.std.specs.List.{list_any, position_or_len}
use Rattle.dsec_spec.specs.Digests.{is_supported_digest}
use Rattle.dsec_spec.specs.KeySearch.{KeySearch, found_at, not_found, too_many, is_named, is_spoken_of}
use Rattle.dsec_spec.specs.Names.{Labels}
use Rattle.dsec_spec.specs.Records.{Ds}
use Rattle.dsec_cause.specs.declared.cause.Cause.{Cause}
use Rattle.dsec_cause.specs.declared.cause.Cause.TheVariants.{TooManyDnskeysForDs}
use Rattle.dsec_link.specs.declared.key_search.KeyTrial.{KeyTrial}
use Rattle.dsec_link.specs.declared.key_search.KeyTrial.TheVariants.{Match, Mismatch, Other, Excess}

-- the key's index, or the cause that there are too many keys
abbrev pub answer_of : KeySearch → Option ℕ × Option Cause
answer_of (found_at index) = (Some index, None)
answer_of not_found = (None, None)
answer_of too_many = (None, Some TooManyDnskeysForDs)

-- how many of a list are tested, one after the other: all up to the first that passes
abbrev pub tested : {A : Type 0} → (A → Bool) → List A → ℕ
tested is_it xs = if list_any is_it xs then 1 + position_or_len is_it xs else length xs

-- how many digests so many tests take: none, where there is no digest of the record's type (RFC 4034 A.2)
abbrev pub digests_of : Ds → ℕ → ℕ
digests_of ds tests = if is_supported_digest ds.digest_type then tests else 0

-- How many digests the search for a DS record's key takes: one for each key that is tested, of the first so many that the record names by
-- algorithm and tag
abbrev pub digests_for : Ds → Labels → ℕ → List (List ℕ) → ℕ
digests_for ds owner most datas = digests_of ds (tested (is_spoken_of ds owner) (take most (filter (is_named ds) datas)))

-- how many digests the trial of a key takes, by what comes of it
abbrev pub digests_by : Ds → KeyTrial → ℕ
digests_by ds Match = digests_of ds 1
digests_by ds Mismatch = digests_of ds 1
digests_by ds Other = 0
digests_by ds Excess = 0
