-- What is found of a group, as the code keeps it: a node, and a signature and a key by their indexes (RFC 4033 5, RFC 4035 5.3).
use Rattle.std.specs.Prelude.{◌≡◌, ℕ, Bool, true, false, List, [], slice_get, Option, Some, None}
use Rattle.std.specs.Arc.{arc_value}
use Rattle.dsec_spec.specs.Names.{Place, place}
use Rattle.dsec_spec.specs.Records.{Record, Key}
use Rattle.dsec_spec.specs.Groups.{Group}
use Rattle.dsec_spec.specs.Trying.{Tried, good, nothing}
use Rattle.dsec_group.specs.Checks.{cause_of}
use Rattle.dsec_nodes.specs.Causes.{Cause}
use Rattle.dsec_nodes.specs.Nodes.{Node, Standing, SignedCause, apex, within, insecure, bogus}
use Rattle.dsec_nodes.specs.Signing.{keys_of}
use Rattle.dsec_nodes.specs.Walk.{held_keys}
use Rattle.dsec_nodes.specs.Judging.{Finding, has_no_set, is_insecure, is_bogus, is_indeterminate, Judged, found_by}
use Rattle.dsec_found.specs.declared.found.Found.{Found}
use Rattle.dsec_found.specs.declared.found.Found.TheVariants.{Shown, Insecure, Bogus, AtBogus}
use Rattle.dsec_found.specs.declared.judged.Basis.{Basis}
use Rattle.dsec_found.specs.declared.judged.Basis.TheVariants.{NoSet, NoAnchor, ByNode}

-- a group's signature and one of these keys stand at these indexes
pub record IsPairAt (group : Group) (keys : List Key) (signature key : ℕ) (p : Record × Key) : Type 0 where
  pub signature_there : slice_get group.signatures signature ≡ Some p.0
  pub key_there : slice_get keys key ≡ Some p.1

-- what trying keys came to, as it is kept: the first good pair by its indexes, or why none is good
abbrev pub ComesTo : Group → List Key → Found → Tried (Record × Key) → Type 0
ComesTo group keys (Shown signature key) tried = (p : Record × Key) × (tried ≡ good p) × IsPairAt group keys signature key p
ComesTo group keys Insecure tried = ⊥
ComesTo group keys (Bogus cause) tried = cause_of tried ≡ Some cause
ComesTo group keys (AtBogus cause) tried = ⊥

-- what is found where a pair is good; without one no signature is
abbrev pub by_pair : Group → Node → List (List ℕ) → Option Record → Option Key → Finding
by_pair group n keys (Some signature) (Some key) = found_by group n keys (good (signature, key))
by_pair group n keys (Some signature) None = found_by group n keys nothing
by_pair group n keys None key = found_by group n keys nothing

-- what is found where no chain leads to the node's name; at another node nothing is
abbrev pub by_insecure : Standing → Finding
by_insecure (insecure cause signed) = is_insecure cause signed
by_insecure (apex keys) = is_indeterminate
by_insecure (within last) = is_indeterminate
by_insecure (bogus cause) = is_indeterminate

-- what is found of a group by a node
abbrev pub finding_by : Group → Node → Found → Finding
finding_by group n (Shown signature key) =
    by_pair group n (held_keys n.standing) (slice_get group.signatures signature) (slice_get (keys_of (held_keys n.standing)) key)
finding_by group n Insecure = by_insecure n.standing
finding_by group n (Bogus cause) = is_bogus cause n.links
finding_by group n (AtBogus cause) = is_bogus cause []

-- the links of a node with this standing lead to a zone's keys: the zone begins at its name, or the name is within it (RFC 4033 5)
abbrev pub LeadsToKeys : Standing → Bool
LeadsToKeys (apex keys) = true
LeadsToKeys (within last) = true
LeadsToKeys (insecure cause signed) = false
LeadsToKeys (bogus cause) = false

-- the node has what was found by it: the good pair; the signed record that shows that no chain leads to its name; or, where the group isn't to be
-- relied on and the node is, links to a zone's keys
abbrev pub StandsBy : Group → Node → Found → Type 0
StandsBy group n (Shown signature key) = (p : Record × Key) × IsPairAt group (keys_of (held_keys n.standing)) signature key p
StandsBy group n Insecure = (cause : Option Cause) × (signed : SignedCause) × (n.standing ≡ insecure cause signed)
StandsBy group n (Bogus cause) = LeadsToKeys n.standing ≡ true
StandsBy group n (AtBogus cause) = Unit {0}

-- what is found of a group
abbrev pub finding_of : {V : Type 0} → Group → Basis V → Finding
finding_of group NoSet = has_no_set
finding_of group (NoAnchor zone) = is_indeterminate
finding_of group (ByNode node found) = finding_by group (arc_value node) found

-- the zone that is to have signed it
abbrev pub zone_of : {V : Type 0} → Basis V → Place
zone_of NoSet = []
zone_of (NoAnchor zone) = place zone
zone_of (ByNode node found) = (arc_value node).signer

-- a judged group
abbrev pub judged_view : {V : Type 0} → Group → Basis V → Judged
judged_view group basis = record { group = group; signer = zone_of basis; finding = finding_of group basis }

-- the finding has what it rests on
abbrev pub StandsOn : {V : Type 0} → Group → Basis V → Type 0
StandsOn group NoSet = group.records ≡ []
StandsOn group (NoAnchor zone) = Unit {0}
StandsOn group (ByNode node found) = StandsBy group (arc_value node) found
