-- By what a reply leaves open whether a name or a type exists: its answer is insecure (RFC 5155 6, 8, RFC 9276 3.2).
use Rattle.std.specs.Prelude.{◌≡◌, ◌<◌, ◌≤◌, ℕ, List, [], ◌∷◌, ◌++◌, slice_get, true, Option, Some, None}
use Rattle.dsec_cause.specs.declared.cause.Cause.{Cause}
use Rattle.dsec_cause.specs.declared.cause.Cause.TheVariants.{Nsec3OptOut, Nsec3IterationsInsecure}
use Rattle.dsec_spec.specs.Names.{Place, IsAtOrBelow, IsStrictlyBelow}
use Rattle.dsec_spec.specs.RecordViews.{Nsec3}
use Rattle.dsec_spec.specs.Zones.{wildcard}
use Rattle.dsec_spec.specs.DenyingRecords.{Nsec3At, opts_out, CoversHash}
use Rattle.dsec_absence.specs.Evidence.{Evidence}
use Rattle.dsec_nsec3.specs.Counting.{HashLimits, IsNsec3Of, Counts}
use Rattle.dsec_nsec3.specs.HashedDenials.{IsNoOwnDname}

-- by the NSEC3 record of the group at an index: with more iterations than are followed, and not so many that it is bogus (RFC 9276 3.2); or with
-- Opt-Out, covering this name (RFC 5155 6)
pub data Opening : Type 0 where
  by_iterations : (index : ℕ) → Opening
  by_opt_out : (index : ℕ) (name : Place) → Opening

abbrev pub opening_index : Opening → ℕ
opening_index (by_iterations index) = index
opening_index (by_opt_out index name) = index

-- a name that is left open with another, where it is covered by Opt-Out: the name itself, one above it, or the wildcard under one above it,
-- which is at or below the zone's apex (RFC 5155 6, RFC 4592 3.3.1)
pub data LeavesOpen (signer n : Place) : Place → Type 0 where
  at_or_above : {m : Place} → IsAtOrBelow n m → IsAtOrBelow m signer → LeavesOpen signer n m
  at_wildcard : {c : Place} → IsStrictlyBelow n c → IsAtOrBelow c signer → LeavesOpen signer n (wildcard c)

-- a record may leave open what it covers: right below the signer, unless it is one with DNAME that is the signer's own, which redirects what is there
-- (RFC 6840 4.1)
abbrev pub MayLeaveOpen : Place → Nsec3At → Place → Type 0
MayLeaveOpen signer r m = (label : List ℕ) → m ≡ signer ++ label ∷ [] → IsNoOwnDname signer r

-- the group leaves the name open: it is an NSEC3 record of the zone with more iterations than are followed, and not so many that it is bogus; or
-- it counts, as one with Opt-Out that covers a name which is left open with this one (RFC 5155 6, RFC 9276 3.2)
pub data Opens (limits : HashLimits) (class : ℕ) (signer n : Place) (e : Evidence) : Type 0 where
  iterates : {says : Nsec3} → IsNsec3Of class signer e says → limits.iterations_insecure < says.hashing.iterations
      → says.hashing.iterations ≤ limits.iterations_bogus → Opens limits class signer n e
  opts_out_of : {r : Nsec3At} {m : Place} → Counts limits class signer e r → opts_out r ≡ true → CoversHash r m → MayLeaveOpen signer r m → LeavesOpen signer n m
      → Opens limits class signer n e

-- the cause of what leaves a name open: iterations that aren't followed, or Opt-Out (RFC 8914 4)
abbrev pub IsCauseOf : {limits : HashLimits} {class : ℕ} {signer n : Place} {e : Evidence} → Opens limits class signer n e → Cause → Type 0
IsCauseOf (iterates is_nsec3 many few) cause = cause ≡ Nsec3IterationsInsecure
IsCauseOf (opts_out_of counts flag covers may leaves) cause = cause ≡ Nsec3OptOut

-- what may be told of it: its own cause, or none
abbrev pub MayTell : {limits : HashLimits} {class : ℕ} {signer n : Place} {e : Evidence} → Opens limits class signer n e → Option Cause → Type 0
MayTell opens None = Unit {0}
MayTell opens (Some cause) = IsCauseOf opens cause

-- the group leaves the name open, and what is told may be told of it
abbrev pub OpensTold : HashLimits → ℕ → Place → Option Cause → Place → Evidence → Type 0
OpensTold limits class signer cause n e = (opens : Opens limits class signer n e) × MayTell opens cause

-- the group at the index does
pub record OpensAt (limits : HashLimits) (class : ℕ) (signer : Place) (groups : List Evidence) (n : Place) (cause : Option Cause) (index : ℕ) : Type 0 where
  pub evidence : Evidence
  pub stands : slice_get groups index ≡ Some evidence
  pub opens : OpensTold limits class signer cause n evidence
