-- What is told of a group by a node that is handed in, and for how long it may be kept (RFC 4035 4.3, 4.5, 5.3).
use Rattle.std.specs.Prelude.{◌≡◌, ℕ, ◌&&◌, min, [], ◌∷◌, ◌++◌, Bool, true, false, Option, Some, None, if◌then◌else◌}
use Rattle.dsec_spec.specs.Names.{place, is_below}
use Rattle.dsec_spec.specs.Records.{Record}
use Rattle.dsec_spec.specs.Groups.{Group}
use Rattle.dsec_spec.specs.Islands.{looked_for_at}
use Rattle.dsec_spec.specs.Lasting.{least_ttl, ttl_for_sig}
use Rattle.dsec_spec.specs.Chain.{Link}
use Rattle.dsec_link.specs.Shown.{ShownSet}
use Rattle.dsec_group.specs.declared.state.ValidationState.{ValidationState}
use Rattle.dsec_group.specs.declared.state.ValidationState.TheVariants.{Secure, Insecure, Bogus, Indeterminate}
use Rattle.dsec_nodes.specs.World.{World, moment}
use Rattle.dsec_nodes.specs.Nodes.{Node, Standing, apex, within, insecure, bogus}
use Rattle.dsec_nodes.specs.Taking.{is_in_time}
use Rattle.dsec_nodes.specs.Judging.{Finding, is_shown, has_no_set, is_insecure, is_bogus, is_indeterminate, by_node}
use Rattle.dsec_node.specs.Counting.{seconds_kept}
use Rattle.dsec_found.specs.Told.{own_link}
use Rattle.dsec_by_node.specs.Answers.{Answer, answer_by, Told}

-- whether a node is at or above where a group is looked for: what is known of another name says nothing of the group (RFC 4035 2.4, 5.3.1)
abbrev pub is_over : Node → Group → Bool
is_over n group = is_below (looked_for_at (place group.owner) group.rtype) n.name

-- whether a node tells something of a group: it is kept at the moment, and over the group (RFC 4035 4.3, 4.5)
abbrev pub tells_of : World → Group → Node → Bool
tells_of w group n = is_in_time w n && is_over n group

-- what is told by a node that tells nothing of it: whether the group should be signed can't be determined (RFC 4035 4.3)
abbrev pub undetermined : Answer
undetermined = record { state = Indeterminate; closest_encloser = None; cause = None; adjusted = None }

-- what is told of a group by a node: by trying the keys of the node's zone, or by what the node says (RFC 4035 4.3, 5.3)
abbrev pub answer_with : World → Group → Node → Answer
answer_with w group n = if tells_of w group n then answer_by group (moment w) (by_node w group n).finding else undetermined

-- what shows a group that was found to be so at the moment t: the node's links with the group's own behind them, from the node's anchor
-- (RFC 4033 2, authentication chain)
pub record HasChainOf (n : Node) (t : ℕ) (finding : Finding) (shown : Option ShownSet) : Type 0 where
  pub set : ShownSet
  pub its : shown ≡ Some set
  pub from_anchor : n.anchor ≡ Some set.anchor
  pub at : set.moment ≡ t
  pub last : Link
  pub own : own_link finding ≡ Some last
  pub are : set.links ≡ n.links ++ last ∷ []

-- a Secure group is shown so, and any other has nothing to show (RFC 4033 2, 5, RFC 4035 5.3)
abbrev pub ShownAs : Node → ℕ → Finding → Option ShownSet → ValidationState → Type 0
ShownAs n t finding shown Secure = HasChainOf n t finding shown
ShownAs n t finding shown Insecure = shown ≡ None
ShownAs n t finding shown Bogus = shown ≡ None
ShownAs n t finding shown Indeterminate = shown ≡ None

-- what is told of a group is shown by this node, where it is Secure, and else by nothing (RFC 4033 2, 5, RFC 4035 5.3)
abbrev pub IsShownBy : World → Group → Node → Told → Type 0
IsShownBy w group n told = ShownAs n (moment w) (by_node w group n).finding told.shown told.answer.state

-- whether a node is Secure: of a zone to which a chain leads, or within one (RFC 4033 5)
abbrev pub is_secure : Standing → Bool
is_secure (apex keys) = true
is_secure (within last) = true
is_secure (insecure cause signed) = false
is_secure (bogus cause) = false

-- for how many seconds a group may be kept that a signature shows: no longer than the node, the group's least TTL, and what the signature allows
-- (RFC 4035 5.3.3)
abbrev pub signed_for : World → Group → Node → Record → ℕ
signed_for w group n signature = min (seconds_kept n w.now) (min (least_ttl group.records) (ttl_for_sig signature (moment w)))

-- for how many seconds what is found by a Secure node's zone may be kept; a bogus group as long as is set (RFC 4035 4.7, 5.3.3)
abbrev pub seconds_by : World → Group → Node → Finding → ℕ
seconds_by w group n (is_shown links last signature) = signed_for w group n signature
seconds_by w group n (is_bogus cause links) = w.bounds.max_bogus_validity
seconds_by w group n has_no_set = seconds_kept n w.now
seconds_by w group n (is_insecure cause signed) = seconds_kept n w.now
seconds_by w group n is_indeterminate = seconds_kept n w.now

-- for how many seconds what is found by a node may be kept: where the node isn't Secure, as long as the node (RFC 4035 4.5, 4.7)
abbrev pub seconds_found : World → Group → Node → ℕ
seconds_found w group n = if is_secure n.standing then seconds_by w group n (by_node w group n).finding else seconds_kept n w.now

-- for how many seconds what is told by a node may be kept: not at all where it tells nothing
abbrev pub seconds_with : World → Group → Node → ℕ
seconds_with w group n = if tells_of w group n then seconds_found w group n else 0
