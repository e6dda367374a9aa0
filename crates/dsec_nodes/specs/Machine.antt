-- A walk from an island to a name, a step at a time: what it asks for, and what it makes of what it is given (RFC 4035 5).
use Rattle.std.specs.Prelude.{ℕ, suc, ◌&&◌, List, [], ◌∷◌, ◌++◌, Option, Some, None, if◌then◌else◌}
use Rattle.dsec_spec.specs.Numbers.{DNSKEY}
use Rattle.dsec_nodes.specs.World.{World}
use Rattle.dsec_nodes.specs.Nodes.{Node, Standing, bogus}
use Rattle.dsec_nodes.specs.Replies.{read_reply}
use Rattle.dsec_nodes.specs.ByDs.{Pending, Below, made, asks, by_ds_reply, by_key_reply}
use Rattle.dsec_nodes.specs.Walk.{by_anchor_reply, Reached, held_keys, may_stand}
use Rattle.dsec_nodes.specs.Taking.{counts}
pub use Rattle.dsec_nodes.specs.Walking.{Question, Phase, Walking, Step, Input, name_at, type_at, asked_type, arrived, in_phase, is_further, started, Answers, IsFurther, IsAhead, reply, begins, gets, asks_first, asks_keys, puts, ends, node_get, node_put, ask, done, begin, node, stored}

-- the next step from what is reached: to get the node of the next name, or to end
abbrev pub ahead_from : Walking → Option Reached → Walking × Step
ahead_from s None = (in_phase s gets, node_get (name_at s))
ahead_from s (Some r) = if is_further s r then (in_phase s gets, node_get (name_at s)) else (in_phase s ends, done r.node)

-- the next step
abbrev pub ahead : Walking → Walking × Step
ahead s = ahead_from s s.reached

-- the walk with a node that it was given at the next name
abbrev pub with_got : Walking → Node → Walking
with_got s n = record {
  top = s.top;
  target = s.target;
  behind = suc s.behind;
  reached = Some (arrived s.reached n);
  phase = s.phase;
  asked = s.asked;
  got = s.got ++ n ∷ [];
}

-- the question for the next name
abbrev pub asking : Walking → Walking × Step
asking s = (in_phase s asks_first, ask (name_at s) (type_at s.reached))

-- a node that was kept counts or is passed over, as if there were none (RFC 4035 4.5)
abbrev pub given : World → Walking → Option Node → Walking × Step
given w s None = asking s
given w s (Some n) = if counts w s.top (name_at s) n && may_stand s.reached n.standing then ahead (with_got s n) else asking s

-- what was asked, with one more question and its reply
abbrev pub heard : Walking → ℕ → Option (List ℕ) → List Question
heard s rtype octets = s.asked ++ record { name = name_at s; rtype = rtype; reply = octets } ∷ []

-- the walk with a node that was made at the next name
abbrev pub with_node : Walking → List Question → Node → Phase → Walking
with_node s asked n phase = record {
  top = s.top;
  target = s.target;
  behind = suc s.behind;
  reached = Some (arrived s.reached n);
  phase = phase;
  asked = asked;
  got = s.got;
}

-- a node was made: it is put, but with a bogus one the walk ends (RFC 4035 4.5)
abbrev pub made_by : Walking → List Question → Node → Standing → Walking × Step
made_by s asked n (bogus cause) = (with_node s asked n ends, done n)
made_by s asked n _ = (with_node s asked n puts, node_put (name_at s) n)

-- the step after a node was made
abbrev pub making : Walking → List Question → Node → Walking × Step
making s asked n = made_by s asked n n.standing

-- the walk with a DS set whose key set is asked for (RFC 4035 5.2)
abbrev pub with_pending : Walking → List Question → Pending → Walking
with_pending s asked pending = record {
  top = s.top;
  target = s.target;
  behind = s.behind;
  reached = s.reached;
  phase = asks_keys pending;
  asked = asked;
  got = s.got;
}

-- the step after a reply to the question for a DS set (RFC 4035 5.2)
abbrev pub below_by : Walking → List Question → Below → Walking × Step
below_by s asked (made n) = making s asked n
below_by s asked (asks pending) = (with_pending s asked pending, ask (name_at s) DNSKEY)

-- the step after the first reply at a name: the island's key set, or a DS set (RFC 4035 5.2)
abbrev pub first_reply : World → Walking → Option Reached → Option (List ℕ) → Walking × Step
first_reply w s None octets =
    making s (heard s (type_at None) octets) (by_anchor_reply w s.top (read_reply octets))
first_reply w s (Some r) octets =
    below_by s (heard s (type_at (Some r)) octets) (by_ds_reply w r.zone (held_keys r.zone.standing) (name_at s) (read_reply octets))

-- the step after the reply with a key set that a DS set is to admit (RFC 4035 5.2)
abbrev pub key_reply : World → Walking → Option Reached → Pending → Option (List ℕ) → Walking × Step
key_reply w s None pending octets = (in_phase s ends, node_get (name_at s))
key_reply w s (Some r) pending octets =
    making s (heard s (asked_type (asks_keys pending) (Some r)) octets) (by_key_reply w r.zone pending (read_reply octets))

-- the step after a reply
abbrev pub replied : World → Walking → Phase → Option (List ℕ) → Walking × Step
replied w s (asks_keys pending) octets = key_reply w s s.reached pending octets
replied w s _ octets = first_reply w s s.reached octets

-- the step after what answers the last one (RFC 4035 5)
abbrev pub advanced : World → Walking → Input → Walking × Step
advanced w s begin = ahead s
advanced w s (node o) = given w s o
advanced w s stored = ahead s
advanced w s (reply octets) = replied w s s.phase octets
