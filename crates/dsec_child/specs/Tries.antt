-- The signatures of a key set, tried with the keys that ways admit: what the code answers (RFC 4035 5.2, 5.3.1).
use Rattle.std.specs.Prelude.{◌≡◌, ℕ, ◌<◌, List, Option, Some, None, slice_get, unwrap_or, nat_lt, if◌then◌else◌}
use Rattle.dsec_spec.specs.Reading.{◌>>=◌}
use Rattle.dsec_spec.specs.Records.{Record, Key, key_of}
use Rattle.dsec_spec.specs.Accepts.{Accepts}
use Rattle.dsec_spec.specs.KeySearch.{KeySearch}
use Rattle.dsec_spec.specs.Groups.{Group}
use Rattle.dsec_group.specs.Trials.{Trial, found, left}
use Rattle.dsec_nodes.specs.Causes.{Cause, NoSignature}
use Rattle.dsec_nodes.specs.Admission.{Admitted, admitted_at, matching, cause_by, cause_among}
use Rattle.dsec_child.specs.Ways.{pairs_trial}
use Rattle.dsec_child.specs.declared.tries.WayTry.{WayTry}
use Rattle.dsec_child.specs.declared.tries.WayTry.TheVariants as one
use Rattle.dsec_child.specs.declared.tries.WayTries.{WayTries}
use Rattle.dsec_child.specs.declared.tries.WayTries.TheVariants as all

-- the key that the record at an index of the set says
abbrev pub key_in : Group → ℕ → Option Key
key_in group index = slice_get group.records index >>= λ one. key_of one.rdata

-- the pair that was found: the signature at the one index, and the key at the other, which the way admits
pub record IsPairAt {A : Type 0} (group : Group) (signature key : ℕ) (way : A) (p : Record × Admitted A) : Type 0 where
  pub by_way : p.1.way ≡ way
  pub signature_stands : slice_get group.signatures signature ≡ Some p.0
  pub key_record : Record
  pub key_stands : slice_get group.records key ≡ Some key_record
  pub says : p.1.rdata ≡ key_record.rdata

-- a trial that found a pair at these indexes
pub record FoundAt {A : Type 0} (group : Group) (signature key : ℕ) (way : A) (t : Trial (Record × Admitted A)) : Type 0 where
  pub pair : Record × Admitted A
  pub is_found : t ≡ found pair
  pub is_pair : IsPairAt group signature key way pair

-- what trying with what one way admits comes to
abbrev pub IsWayTry : {A : Type 0} → Accepts → Group → Cause → ℕ → ℕ → A → KeySearch → WayTry → Type 0
IsWayTry accepts group bad t room way picked (one.Good signature key) =
    FoundAt group signature key way (pairs_trial accepts group t room (matching group (admitted_at group way picked)))
IsWayTry accepts group bad t room way picked (one.Left more cause) =
    (pairs_trial accepts group t room (matching group (admitted_at group way picked)) ≡ left more)
    × (0 < more → cause ≡ cause_by bad picked (matching group (admitted_at group way picked)))

-- what trying with ways comes to
abbrev pub AreWayTries : {A : Type 0} → Cause → (A → KeySearch) → List A → Group → Trial (Record × Admitted A) → WayTries → Type 0
AreWayTries {A} bad search ways group t (all.Good signature index key) =
    (way : A) × (slice_get ways index ≡ Some way) × FoundAt group signature key way t
AreWayTries {A} bad search ways group t (all.Left more cause) =
    (t ≡ left more) × (0 < more → cause_among bad group search ways ≡ unwrap_or cause NoSignature)

-- where no signature was good, what holds of how many more may be tried
abbrev pub TryLeaves : WayTry → (ℕ → Type 0) → Type 0
TryLeaves (one.Good signature key) P = Unit {0}
TryLeaves (one.Left more cause) P = P more

-- the first of two causes that may be there
abbrev pub earlier : Option Cause → Option Cause → Option Cause
earlier None next = next
earlier (Some cause) next = Some cause

-- why a key shows no key set, where of so many pairs so many more may be tried
abbrev pub cause_of_key : Cause → ℕ → ℕ → Option Cause
cause_of_key bad room more = if nat_lt more room then Some bad else None
