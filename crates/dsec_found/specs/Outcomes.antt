-- What judged groups come to, as the code keeps it (RFC 4033 5).
use Rattle.std.specs.Prelude.{◌≡◌, ◌⊎◌, true, List, [], ◌∷◌, ◌++◌, Option, Some, None}
use Rattle.dsec_group.specs.declared.state.ValidationState.{ValidationState}
use Rattle.dsec_group.specs.declared.state.ValidationState.TheVariants as states
use Rattle.dsec_spec.specs.Accepts.{Accepts}
use Rattle.dsec_spec.specs.Chain.{Link}
use Rattle.dsec_nodes.specs.Causes.{Cause}
use Rattle.dsec_nodes.specs.Nodes.{Node, Kept, SignedCause, insecure}
use Rattle.dsec_nodes.specs.Judging as judging
use Rattle.dsec_nodes.specs.Judging.{Judged, Finding, is_shown, has_no_set, is_insecure, is_bogus, is_indeterminate, all, one_bogus}
use Rattle.dsec_nodes.specs.Outcomes as outcomes
use Rattle.dsec_nodes.specs.Outcomes.{by_cause, by_nothing}
use Rattle.dsec_node.specs.Views.{signed_cause}
use Rattle.dsec_found.specs.Founds.{LeadsToKeys}
use Rattle.dsec_found.specs.declared.section.AllJudged.{AllJudged}
use Rattle.dsec_found.specs.declared.section.AllJudged.TheVariants.{All, OneBogus}

-- a status
abbrev pub state_view : ValidationState → outcomes.State
state_view states.Secure = outcomes.secure
state_view states.Insecure = outcomes.insecure
state_view states.Bogus = outcomes.bogus
state_view states.Indeterminate = outcomes.indeterminate

-- why a message comes to its outcome, by a signed cause that a node holds (RFC 4035 5.2)
abbrev pub by_held : Option SignedCause → outcomes.Why
by_held (Some signed) = by_cause signed
by_held None = by_nothing

-- no chain leads to the node's name, and it has the signed record that shows it (RFC 4035 5.2)
abbrev pub HoldsCause : Node → Type 0
HoldsCause n = (cause : Option Cause) × (signed : SignedCause) × (n.standing ≡ insecure cause signed)

-- a kept node holds this signed cause (RFC 4035 4.5, 5.2)
abbrev pub IsKeptCause : Accepts → Option SignedCause → Type 0
IsKeptCause accepts held = (n : Node) × Kept accepts n × HoldsCause n × (signed_cause n.standing ≡ held)

-- the links to a zone's keys that a kept node has, or none (RFC 4035 4.5)
abbrev pub AreKeptLinks : Accepts → List Link → Type 0
AreKeptLinks accepts links = (links ≡ []) ⊎ ((n : Node) × Kept accepts n × (LeadsToKeys n.standing ≡ true) × (n.links ≡ links))

-- what shows that an insecure group's zone isn't signed (RFC 4035 5.2)
abbrev pub insecure_of : Finding → Option outcomes.Why
insecure_of (is_insecure cause signed) = Some (by_cause signed)
insecure_of (is_shown links last signature) = None
insecure_of has_no_set = None
insecure_of (is_bogus cause links) = None
insecure_of is_indeterminate = None

-- what judging a section's groups came to
abbrev pub section_view : {V : Type 0} → AllJudged V → judging.AllJudged
section_view (All judged) = all judged.items
section_view (OneBogus cause links) = one_bogus cause links

-- groups that are all judged, and one after them (RFC 4033 5)
abbrev pub and_next : List Judged → Judged → Finding → judging.AllJudged
and_next js j (is_bogus cause links) = one_bogus cause links
and_next js j (is_shown links last signature) = all (js ++ j ∷ [])
and_next js j has_no_set = all (js ++ j ∷ [])
and_next js j (is_insecure cause signed) = all (js ++ j ∷ [])
and_next js j is_indeterminate = all (js ++ j ∷ [])

-- a bogus group's cause, and the links to the zone whose keys were tried, or none
abbrev pub bogus_of : Finding → Option (Cause × List Link)
bogus_of (is_bogus cause links) = Some (cause, links)
bogus_of (is_shown links last signature) = None
bogus_of has_no_set = None
bogus_of (is_insecure cause signed) = None
bogus_of is_indeterminate = None
