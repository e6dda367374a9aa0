-- Walks that are sound: what they reach, put and end with is kept (RFC 4035 4.5, 5).
use Rattle.std.specs.Prelude.{◌≡◌, ℕ, suc, ◌+◌, ◌≤◌, true, length, take, Option, Some, None}
use Rattle.dsec_spec.specs.Names.{Place, IsAtOrBelow}
use Rattle.dsec_nodes.specs.World.{World}
use Rattle.dsec_nodes.specs.Nodes.{Node, Kept}
use Rattle.dsec_nodes.specs.Walk.{Reached, held_keys, goes_on}
use Rattle.dsec_nodes.specs.Held.{HeldZone, KeptAt, IsPending}
use Rattle.dsec_nodes.specs.Taking.{RestsAt, Rests}
use Rattle.dsec_nodes.specs.Machine.{Phase, begins, gets, asks_first, asks_keys, puts, ends, Walking, Step, node_get, node_put, ask, done, Input, begin, node, stored, reply, name_at, IsAhead}

-- a node of this name that is kept, counts at the moment of judging, was made within the taker's bounds, and unless it is bogus has an anchor
-- of the island's (RFC 4033 2)
abbrev pub KeptUnder : World → Place → Place → Node → Type 0
KeptUnder w top name n = KeptAt w name n × Rests w.anchors top n × (n.bounds ≡ w.bounds)

-- the last zone of what is reached is held from an anchor of the island's, and its name is a front of this name, of so many labels at most
-- (RFC 4033 2)
pub record InZone (w : World) (top name : Place) (labels : ℕ) (r : Reached) : Type 0 where
  pub zone_held : HeldZone w r.zone (held_keys r.zone.standing)
  pub zone_rests : RestsAt w.anchors top r.zone
  pub count : ℕ
  pub at_most : count ≤ labels
  pub is : r.zone.signer ≡ take count name

-- what is reached so many labels down the way from an island to a name: its node counts, from an anchor of the island's, and is
-- at or above the name; and where the walk goes on its last zone is held (RFC 4033 2)
pub record OnTheWay (w : World) (top name : Place) (labels : ℕ) (r : Reached) : Type 0 where
  pub node_kept : Kept w.accepts r.node
  pub node_rests : Rests w.anchors top r.node
  pub node_bounds : r.node.bounds ≡ w.bounds
  pub from : r.node.made ≤ w.now
  pub to : w.now ≤ r.node.made + r.node.valid_for
  pub over : IsAtOrBelow name r.node.name
  pub in_zone : goes_on r.node ≡ true → InZone w top name labels r

-- what a walk has reached is on the way to its target (RFC 4033 2)
abbrev pub SoundAt : World → Walking → Option Reached → Type 0
SoundAt w s None = s.behind ≡ 0
SoundAt w s (Some r) = (k : ℕ) × (s.behind ≡ suc k) × (length s.top + k ≤ length s.target) × OnTheWay w s.top s.target (length s.top + k) r

-- a DS set whose key set is waited for was signed by the last zone (RFC 4035 5.2)
abbrev pub PendingSound : World → Walking → Phase → Option Reached → Type 0
PendingSound w s (asks_keys pending) (Some r) = IsPending w r.zone (held_keys r.zone.standing) pending × (pending.name ≡ name_at s)
PendingSound w s (asks_keys pending) None = Unit {0}
PendingSound w s begins o = Unit {0}
PendingSound w s gets o = Unit {0}
PendingSound w s asks_first o = Unit {0}
PendingSound w s puts o = Unit {0}
PendingSound w s ends o = Unit {0}

-- a walk that has reached, and waits for, what is kept (RFC 4035 4.5)
pub record SoundStep (w : World) (s : Walking) : Type 0 where
  pub below : s.top ≡ take (length s.top) s.target
  pub shorter : length s.top ≤ length s.target
  pub is_ahead : IsAhead s s.phase
  pub on_way : SoundAt w s s.reached
  pub pends : PendingSound w s s.phase s.reached

-- a node that a walk is given is kept, from whichever moment it is (RFC 4035 4.5)
abbrev pub InputKept : World → Input → Type 0
InputKept w begin = Unit {0}
InputKept w (node None) = Unit {0}
InputKept w (node (Some n)) = Kept w.accepts n
InputKept w stored = Unit {0}
InputKept w (reply octets) = Unit {0}

-- a node that is put, or ended with, is kept, and unless it is bogus has an anchor of the island's (RFC 4035 4.5)
abbrev pub StepKept : World → Place → Step → Type 0
StepKept w top (node_get name) = Unit {0}
StepKept w top (node_put name n) = Kept w.accepts n × Rests w.anchors top n
StepKept w top (ask name rtype) = Unit {0}
StepKept w top (done n) = Kept w.accepts n × Rests w.anchors top n

-- a walk and its next step are sound (RFC 4035 4.5)
abbrev pub Sound : World → Walking × Step → Type 0
Sound w p = SoundStep w p.0 × StepKept w p.0.top p.1
