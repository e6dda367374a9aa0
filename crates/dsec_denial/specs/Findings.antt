-- What the code finds of NSEC and NSEC3 records, in the words of nodes (RFC 4035 5.2, RFC 5155 8.9).
use Rattle.std.specs.Prelude.{◌≡◌, ℕ, ◌==◌, List, length, filter, slice_get, Result, Ok, Err, Option, Some}
use Rattle.std.specs.Option.{option_or}
use Rattle.dsec_spec.specs.Accepts.{Accepts}
use Rattle.dsec_spec.specs.Groups.{Group}
use Rattle.dsec_spec.specs.Names.{Place}
use Rattle.dsec_spec.specs.Records.{Record, Key}
use Rattle.dsec_spec.specs.Trying.{Tried, good}
use Rattle.dsec_nodes.specs.MissingDs.{Looked, decided, passed, bogus_at, within_by, insecure_by}
use Rattle.dsec_nodes.specs.Nodes.{Node}
use Rattle.dsec_nodes.specs.Signing.{keys_of}
use Rattle.dsec_nodes.specs.World.{World, moment}
use Rattle.dsec_node.specs.Views.{ground_view}
use Rattle.dsec_cause.specs.declared.cause.Cause.{Cause}
use Rattle.dsec_group.specs.Checks.{cause_of}
use Rattle.dsec_denial.specs.declared.finding.DsFinding.{DsFinding}
use Rattle.dsec_denial.specs.declared.finding.DsFinding.TheVariants as found
use Rattle.dsec_denial.specs.declared.finding.SignedAt.{SignedAt}
use Rattle.dsec_denial.specs.declared.pair.Pair.{Pair}

-- at these indexes stand the group, its signature, and the key
pub record StandsAt (groups : List Group) (keys : List Key) (at : SignedAt) (group : Group) (p : Record × Key) : Type 0 where
  pub group_there : slice_get groups at.group ≡ Some group
  pub signature_there : slice_get group.signatures at.signature ≡ Some p.0
  pub key_there : slice_get keys at.key ≡ Some p.1

-- there are a group, its signature, and a key at the indexes of what was found
abbrev pub AreThere : List Group → List Key → DsFinding → Type 0
AreThere groups keys (found.Within at) = (group : Group) × (p : Record × Key) × StandsAt groups keys at group p
AreThere groups keys (found.Insecure at basis cause) = (group : Group) × (p : Record × Key) × StandsAt groups keys at group p
AreThere groups keys (found.Bogus cause) = Unit {0}
AreThere groups keys (found.Passed cause) = Unit {0}

-- what was found is this, as nodes have it: the node that is decided on by the group at its index, or why nothing is shown
abbrev pub Finds : World → Node → List (List ℕ) → Place → List Group → List Key → DsFinding → Looked → Type 0
Finds w zone datas name groups keys (found.Within at) looked =
    (group : Group) (p : Record × Key) → StandsAt groups keys at group p → looked ≡ decided (within_by w zone datas name group p)
Finds w zone datas name groups keys (found.Insecure at basis cause) looked =
    (group : Group) (p : Record × Key) → StandsAt groups keys at group p → looked ≡ decided (insecure_by w zone datas name cause (ground_view basis) group p)
Finds w zone datas name groups keys (found.Bogus cause) looked = looked ≡ decided (bogus_at w name cause)
Finds w zone datas name groups keys (found.Passed cause) looked = looked ≡ passed cause

-- the node and the data of its keys are those by which groups are tried: with these keys of the zone, so many pairs, at this moment
pub record GoesBy (accepts : Accepts) (apex : Place) (keys : List Key) (room t : ℕ) (w : World) (zone : Node) (datas : List (List ℕ)) : Type 0 where
  pub accepted : w.accepts ≡ accepts
  pub signer : zone.signer ≡ apex
  pub said : keys_of datas ≡ keys
  pub bound : w.bounds.room ≡ room
  pub at : moment w ≡ t

-- an NSEC3 record's iterations are followed up to these bounds
pub record Follows (insecure bogus : ℕ) (w : World) : Type 0 where
  pub insecure_is : w.bounds.iterations_insecure ≡ insecure
  pub bogus_is : w.bounds.iterations_bogus ≡ bogus

-- the good pair stands at these indexes; or none is good, and why
abbrev pub IsTried : Group → List Key → Tried (Record × Key) → Result Pair Cause → Type 0
IsTried group keys tried (Ok pair) =
    (p : Record × Key) × (tried ≡ good p) × (slice_get group.signatures pair.signature ≡ Some p.0) × (slice_get keys pair.key ≡ Some p.1)
IsTried group keys tried (Err cause) = cause_of tried ≡ Some cause

-- how many groups are of a type
abbrev pub how_many : ℕ → List Group → ℕ
how_many rtype groups = length (filter (λ g. g.rtype == rtype) groups)

-- what is found after records that show nothing, and leave this cause
abbrev pub then_found : Option Cause → DsFinding → DsFinding
then_found cause (found.Within at) = found.Within at
then_found cause (found.Insecure at basis told) = found.Insecure at basis told
then_found cause (found.Bogus told) = found.Bogus told
then_found cause (found.Passed last) = found.Passed (option_or last cause)
