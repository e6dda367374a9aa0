-- The walk from the signer down to a name, for the name's closest encloser (RFC 5155 8.3).
use Rattle.std.specs.Prelude.{ℕ, zero, suc, ◌+◌, ◌-◌, ◌==◌, List, [], ◌∷◌, length, take, Bool, Option, Some, None, if◌then◌else◌}
use Rattle.std.proofs.Math.Bool.{not}
use Rattle.dsec_spec.specs.Names.{Place}
use Rattle.dsec_spec.specs.Numbers.{DNAME}
use Rattle.dsec_spec.specs.DenyingRecords.{Nsec3At, has_hashed, opts_out}
use Rattle.dsec_absence.specs.Answers.{Source}
use Rattle.dsec_nsec3.specs.Counting.{HashLimits, End, HashedSighting, ignored, stops, hashed, hashed_sightings}
use Rattle.dsec_nsec3.specs.Tests.{matches_hash, covers_hash, is_plain}

-- what groups show of one name: by the group at an index, with how many hashes may still be made
pub data Look : Type 0 where
  -- its record matches the name, and lets names below be denied
  matched : (index left : ℕ) → Look
  -- its record covers the name, with Opt-Out or without
  covered : (index left : ℕ) (opt_out : Bool) → Look
  -- none matches or covers it
  unseen : (left : ℕ) → Look
  -- a DNAME or a delegation stands there, or above, of which names below are none of this zone's (RFC 6840 4.1)
  bars : Look
  -- the group ends the call
  halts : (index : ℕ) → End → Look
  -- a record needs a hash, and no more are made
  exhausts : Look

-- by the record that matches the name (RFC 5155 8.3, RFC 6840 4.1)
abbrev pub look_matched : ℕ → ℕ → Nsec3At → Look
look_matched i left r = if is_plain r then matched i left else bars

-- by the record that covers the name. Of the name next to the signer, one with DNAME says nothing where it is the signer's own, for which
-- one more hash is made (RFC 6840 4.1)
abbrev pub look_covered : Option Place → ℕ → ℕ → Nsec3At → Look
look_covered None i left r = covered i left (opts_out r)
look_covered (Some signer) i left r =
    if not (has_hashed r DNAME) then covered i left (opts_out r) else
    if left == 0 then exhausts else
    if matches_hash r signer then bars else covered i (left - 1) (opts_out r)

-- by a record that was hashed for, or else by the groups after it
abbrev pub look_by : Option Place → Place → ℕ → ℕ → Nsec3At → Look → Look
look_by top n i left r later =
    if matches_hash r n then look_matched i left r else
    if covers_hash r n then look_covered top i left r else later

-- what the groups from an index on show of a name, where so many hashes may be made: the first record that matches or covers it decides
-- (RFC 5155 8.3)
unfoldable pub look_from : Option Place → Place → ℕ → ℕ → List HashedSighting → Look
look_from top n i room [] = unseen room
look_from top n i room (ignored ∷ gs) = look_from top n (i + 1) room gs
look_from top n i room (stops why ∷ gs) = halts i why
look_from top n i room (hashed r ∷ gs) =
    if room == 0 then exhausts else look_by top n i (room - 1) r (look_from top n (i + 1) (room - 1) gs)

-- by what the name before the one looked at may be the closest encloser: not at all, as the signer, or by the record of the group at an index
pub data Candidate : Type 0 where
  no_candidate : Candidate
  is_signer : Candidate
  matched_by : (index : ℕ) → Candidate

-- what a walk comes to
pub data Walk : Type 0 where
  -- the name is missing: its closest encloser, the index of the group whose record matches this, unless it is the signer, and of the one whose
  -- record covers the next closer name, with Opt-Out or without
  gone : (encloser : Place) (at_encloser : Option ℕ) (around : ℕ) (opt_out : Bool) → Walk
  -- a DNAME or a delegation stands above the name, or at it
  barred : Walk
  -- the group at an index ends the call
  halted : (index : ℕ) → End → Walk
  -- a record needs a hash, and no more are made
  exhausted : Walk
  -- no candidate has a covered name next to it
  unfound : Walk

-- at a covered name: it is missing where the name before it is a candidate, and otherwise the walk goes on
abbrev pub at_covered : Place → Candidate → ℕ → Bool → Walk → Walk
at_covered c no_candidate i opt_out later = later
at_covered c is_signer i opt_out later = gone c None i opt_out
at_covered c (matched_by j) i opt_out later = gone c (Some j) i opt_out

-- by what groups show of the name next to c, with the candidate so far; later with the next one and the hashes that may be made
abbrev pub step : Look → Place → Candidate → (Candidate → ℕ → Walk) → Walk
step (matched i left) c above later = later (matched_by i) left
step (covered i left opt_out) c above later = at_covered c above i opt_out (later no_candidate left)
step (unseen left) c above later = later no_candidate left
step bars c above later = barred
step (halts i why) c above later = halted i why
step exhausts c above later = exhausted

-- the signer, where it is the candidate
abbrev pub top_by : Place → Candidate → Option Place
top_by signer no_candidate = None
top_by signer is_signer = Some signer
top_by signer (matched_by j) = None

-- the walk over the names that n is under, or is, with one label more than `depth` first, over so many
unfoldable pub walk_from : List HashedSighting → Place → Place → ℕ → Candidate → ℕ → ℕ → Walk
walk_from gs signer n room above depth zero = unfound
walk_from gs signer n room above depth (suc more) =
    step (look_from (top_by signer above) (take (suc depth) n) 0 room gs) (take depth n) above
    (λ next left. walk_from gs signer n left next (suc depth) more)

-- whether a name below the signer exists, by its closest encloser: from the signer, the first candidate, down to the name (RFC 5155 8.3)
abbrev pub nsec3_for_not_exists : HashLimits → Source → Place → Walk
nsec3_for_not_exists limits s n =
    walk_from (hashed_sightings limits s) s.signer n limits.most_hashes is_signer (length s.signer) (length n - length s.signer)
