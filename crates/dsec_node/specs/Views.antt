-- The code's standings as the definitions have them.
use Rattle.std.specs.Prelude.{ℕ, List, Option, Some, None}
use Rattle.dsec_spec.specs.Accepts.{Accepts}
use Rattle.dsec_spec.specs.Chain.{Link}
use Rattle.dsec_spec.specs.Records.{Record}
use Rattle.dsec_group.specs.declared.state.ValidationState.{ValidationState}
use Rattle.dsec_group.specs.declared.state.ValidationState.TheVariants as states
use Rattle.dsec_nodes.specs.Causes.{Cause}
use Rattle.dsec_nodes.specs.World as worlds
use Rattle.dsec_nodes.specs.Nodes as nodes
pub use Rattle.dsec_node.specs.KeptBounds.{bounds_view, bounds_of}
use Rattle.dsec_node.specs.declared.standing.Ground.{Ground}
use Rattle.dsec_node.specs.declared.standing.Ground.TheVariants.{NsecWithoutDs, Nsec3WithoutDs, Nsec3OptsOut, Nsec3Iterates, DsNotSupported}
use Rattle.dsec_node.specs.declared.standing.SignedCause.{SignedCause}
use Rattle.dsec_node.specs.declared.standing.Standing.{Standing}
use Rattle.dsec_node.specs.declared.standing.Standing.TheVariants.{Apex, Within, Insecure, Bogus}

-- which of five records a signed cause is
abbrev pub ground_view : Ground → nodes.Ground
ground_view NsecWithoutDs = nodes.nsec_without_ds
ground_view Nsec3WithoutDs = nodes.nsec3_without_ds
ground_view Nsec3OptsOut = nodes.nsec3_opts_out
ground_view Nsec3Iterates = nodes.nsec3_iterates
ground_view DsNotSupported = nodes.ds_not_supported

-- a signed cause, field by field
abbrev pub cause_view : SignedCause → nodes.SignedCause
cause_view it = record { basis = ground_view it.basis; links = it.links }

-- what is known of a name, case by case
abbrev pub standing_view : Standing → nodes.Standing
standing_view (Apex keys) = nodes.apex keys
standing_view (Within last) = nodes.within last
standing_view (Insecure cause signed) = nodes.insecure cause (cause_view signed)
standing_view (Bogus cause) = nodes.bogus cause

-- what judging goes by
abbrev pub world_of : Accepts → List Record → worlds.Bounds → ℕ → worlds.World
world_of accepts anchors bounds now = record { accepts = accepts; anchors = anchors; bounds = bounds; now = now }

-- the security status that a node gives (RFC 4033 5)
abbrev pub state_of : nodes.Standing → ValidationState
state_of (nodes.apex keys) = states.Secure
state_of (nodes.within last) = states.Secure
state_of (nodes.insecure cause signed) = states.Insecure
state_of (nodes.bogus cause) = states.Bogus

-- the cause that a node tells, if it tells one
abbrev pub told_cause : nodes.Standing → Option Cause
told_cause (nodes.apex keys) = None
told_cause (nodes.within last) = None
told_cause (nodes.insecure cause signed) = cause
told_cause (nodes.bogus cause) = Some cause

-- the signed record that shows that no chain leads to a name
abbrev pub signed_cause : nodes.Standing → Option nodes.SignedCause
signed_cause (nodes.insecure cause signed) = Some signed
signed_cause _ = None

-- the link of the set that shows that a name is within a zone
abbrev pub last_link : nodes.Standing → Option Link
last_link (nodes.within last) = Some last
last_link _ = None
