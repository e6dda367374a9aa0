-- Candidates tried in order, and how many more may be tried after them.
use Rattle.std.specs.Prelude.{◌≡◌, ℕ, ◌+◌, ◌-◌, ◌<◌, ◌==◌, List, length, take, find, filter, map, slice_get, Bool, Option, Some, None, if◌then◌else◌}
use Rattle.dsec_spec.specs.Records.{Record, Key}
use Rattle.dsec_spec.specs.Accepts.{Accepts}
use Rattle.dsec_spec.specs.Groups.{Group, set_in}
use Rattle.dsec_spec.specs.Names.{Place}
use Rattle.dsec_spec.specs.Trying.{Tried, good, nothing, all_bad, too_many_bad, pairs, pair_matches, pair_signs}
use Rattle.dsec_group.specs.declared.tries.Tries.{Tries}
use Rattle.dsec_group.specs.declared.tries.KeyTries.{KeyTries}

-- the first that is good, or how many more may be tried
pub data Trial (P : Type 0) : Type 0 where
  found : P → Trial P
  left : ℕ → Trial P

abbrev pub found_or : {P : Type 0} → ℕ → Option P → Trial P
found_or more (Some p) = found p
found_or more None = left more

-- candidates, of which so many may be tried; with no room left none is, and none may be after them
abbrev pub trial : {P : Type 0} → (P → Bool) → ℕ → List P → Trial P
trial is_good room candidates = found_or (room - length candidates) (find is_good (take room candidates))

-- a signature with keys, of which so many that it names may be tried
abbrev pub key_trial : Accepts → Group → Place → ℕ → ℕ → Record → List Key → Trial (Record × Key)
key_trial accepts g zone t room r keys = trial (pair_signs accepts (set_in g) zone t) room (filter (pair_matches zone) (map (λ key. (r, key)) keys))

-- signatures with keys, of which so many pairs that match may be tried
abbrev pub pair_trial : Accepts → Group → Place → ℕ → ℕ → List Record → List Key → Trial (Record × Key)
pair_trial accepts g zone t room signatures keys = trial (pair_signs accepts (set_in g) zone t) room (filter (pair_matches zone) (pairs signatures keys))

-- what it comes to, where so many may be tried in all
abbrev pub comes_to : {P : Type 0} → ℕ → Trial P → Tried P
comes_to room (found p) = good p
comes_to room (left more) = if more == room then nothing else if more == 0 then too_many_bad else all_bad

-- a signature with keys: the first key that is good stands at this index
abbrev pub AreKeyTries : Record → List Key → KeyTries → Trial (Record × Key) → Type 0
AreKeyTries r keys (KeyTries.Good j) trial = (key : Key) × (slice_get keys j ≡ Some key) × (trial ≡ found (r, key))
AreKeyTries r keys (KeyTries.Left more) trial = trial ≡ left more

-- signatures with keys: the first pair that is good stands at these indexes
abbrev pub AreTries : List Record → List Key → Tries → Trial (Record × Key) → Type 0
AreTries signatures keys (Tries.Good i j) trial = (r : Record) × (key : Key) × (slice_get signatures i ≡ Some r) × (slice_get keys j ≡ Some key) × (trial ≡ found (r, key))
AreTries signatures keys (Tries.Left more) trial = trial ≡ left more

-- The steps that trying a signature with keys took, where so many were there to be taken: one at least where it was a key's, and
-- else all but those that are left.
abbrev pub KeysSpend : ℕ → ℕ → ℕ → KeyTries → Type 0
KeysSpend before now room (KeyTries.Good j) = before < now
KeysSpend before now room (KeyTries.Left more) = now + more ≡ before + room

-- the same of all signatures
abbrev pub TriesSpend : ℕ → ℕ → ℕ → Tries → Type 0
TriesSpend before now room (Tries.Good i j) = before < now
TriesSpend before now room (Tries.Left more) = now + more ≡ before + room

-- The steps that trying pairs took, where so many were there to be taken: one at least where a pair is good; none where there was no
-- pair; one at least, and not all, where each pair was tried; and all where there are as many pairs or more.
abbrev pub TriedSpends : {P : Type 0} → ℕ → ℕ → ℕ → Tried P → Type 0
TriedSpends before now room (good p) = before < now
TriedSpends before now room nothing = now ≡ before
TriedSpends before now room all_bad = (before < now) × (now < before + room)
TriedSpends before now room too_many_bad = now ≡ before + room
