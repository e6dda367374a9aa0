-- What groups show of a name without a DS set: a node, or nothing, and then perhaps a cause (RFC 4035 5.2).
use Rattle.std.specs.Prelude.{ℕ, List, [], ◌∷◌, ◌++◌, Option, Some, None}
use Rattle.dsec_spec.specs.Names.{Place}
use Rattle.dsec_spec.specs.Records.{Record, Key}
use Rattle.dsec_spec.specs.Groups.{Group}
use Rattle.dsec_spec.specs.Trying.{Tried, good, nothing, all_bad, too_many_bad}
use Rattle.dsec_spec.specs.Chain as chain
use Rattle.dsec_nodes.specs.World.{World}
use Rattle.dsec_nodes.specs.Causes.{Cause, NoSignature, BadSignature, TooManyBadSignatures, NoProofForMissingDs}
use Rattle.dsec_nodes.specs.Nodes.{Node, within, insecure, bogus, Ground}
use Rattle.dsec_nodes.specs.Signing.{link_under, kept_for}

-- a bogus node, for so many seconds as bogus ones are kept (RFC 4035 4.7)
abbrev pub bogus_at : World → Place → Cause → Node
bogus_at w name cause = record {
  name = name;
  made = w.now;
  valid_for = w.bounds.max_bogus_validity;
  anchor = None;
  signer = name;
  links = [];
  standing = bogus cause;
  bounds = w.bounds;
}

-- a node within the zone, by a group that its keys have signed, whose link it keeps (RFC 4035 5.2)
abbrev pub within_by : World → Node → List (List ℕ) → Place → Group → Record × Key → Node
within_by w zone keys name group p = record {
  name = name;
  made = w.now;
  valid_for = kept_for w zone group p.0;
  anchor = zone.anchor;
  signer = zone.signer;
  links = zone.links;
  standing = within (link_under chain.set keys group p);
  bounds = w.bounds;
}

-- a node to which no chain leads, by a group that the zone's keys have signed (RFC 4035 5.2)
abbrev pub insecure_by : World → Node → List (List ℕ) → Place → Option Cause → Ground → Group → Record × Key → Node
insecure_by w zone keys name cause basis group p = record {
  name = name;
  made = w.now;
  valid_for = kept_for w zone group p.0;
  anchor = zone.anchor;
  signer = name;
  links = zone.links;
  standing = insecure cause (record { basis = basis; links = zone.links ++ link_under chain.set keys group p ∷ [] });
  bounds = w.bounds;
}

-- what groups show: a node, or nothing, and then perhaps a cause (RFC 4035 5.2)
pub data Looked : Type 0 where
  decided : Node → Looked
  passed : Option Cause → Looked

-- what a group shows where a zone's keys have signed it; a bogus node where they haven't (RFC 4035 5.3)
abbrev pub if_signed : World → Place → Tried (Record × Key) → (Record × Key → Looked) → Looked
if_signed w name (good p) by = by p
if_signed w name nothing by = decided (bogus_at w name NoSignature)
if_signed w name all_bad by = decided (bogus_at w name BadSignature)
if_signed w name too_many_bad by = decided (bogus_at w name TooManyBadSignatures)

-- the first that decides, and otherwise the last cause (RFC 8914 4)
abbrev pub then_looked : Looked → Looked → Looked
then_looked (decided n) later = decided n
then_looked (passed cause) (decided n) = decided n
then_looked (passed cause) (passed None) = passed cause
then_looked (passed cause) (passed (Some later)) = passed (Some later)

-- what groups show, each by itself, in order of arrival (RFC 4035 5.2)
unfoldable pub looked_among : (Group → Looked) → List Group → Looked
looked_among by [] = passed None
looked_among by (g ∷ gs) = then_looked (by g) (looked_among by gs)

-- the node that was decided, or else a bogus one with the cause that was left (RFC 4035 5.2)
abbrev pub by_looked : World → Place → Looked → Node
by_looked w name (decided n) = n
by_looked w name (passed None) = bogus_at w name NoProofForMissingDs
by_looked w name (passed (Some cause)) = bogus_at w name cause
