-- A walk from an island to a name: where it is, what it waits for, and what answers it (RFC 4035 5).
use Rattle.std.specs.Prelude.{◌≡◌, ℕ, ◌+◌, ◌&&◌, nat_le, List, [], length, take, Bool, true, Option, Some, None}
use Rattle.dsec_spec.specs.Names.{Place}
use Rattle.dsec_spec.specs.Numbers.{DS, DNSKEY}
use Rattle.dsec_nodes.specs.Nodes.{Node}
use Rattle.dsec_nodes.specs.ByDs.{Pending}
use Rattle.dsec_nodes.specs.Walk.{Reached, goes_on, after}

-- a question that was asked, and the octets of its reply, or none where it failed (RFC 1035 4.1)
pub record Question : Type 0 where
  pub name : Place
  pub rtype : ℕ
  pub reply : Option (List ℕ)

-- what a walk waits for: to begin, for a node that was kept, for the first reply at a name, for the reply with its key set, for a node to be
-- put, or for nothing
pub data Phase : Type 0 where
  begins : Phase
  gets : Phase
  asks_first : Phase
  asks_keys : Pending → Phase
  puts : Phase
  ends : Phase

-- A walk under an island to a name: how many names are behind it, the island's the first; what it has reached; what it waits for; and the
-- replies and the nodes that it was given (RFC 4033 2)
pub record Walking : Type 0 where
  pub top : Place
  pub target : Place
  pub behind : ℕ
  pub reached : Option Reached
  pub phase : Phase
  pub asked : List Question
  pub got : List Node

-- a step: to get the node that is kept of a name, to put one, to ask for a set, or to end with a node
pub data Step : Type 0 where
  node_get : Place → Step
  node_put : Place → Node → Step
  ask : Place → ℕ → Step
  done : Node → Step

-- what answers a step: the beginning, a node that was kept or none, a node's having been put, or the octets of a reply or none
pub data Input : Type 0 where
  begin : Input
  node : Option Node → Input
  stored : Input
  reply : Option (List ℕ) → Input

-- the name that is next, of as many labels as are behind the walk below its island (RFC 4033 2)
abbrev pub name_at : Walking → Place
name_at s = take (length s.top + s.behind) s.target

-- the type that is asked for at it first: DNSKEY at the island, DS below it (RFC 4035 5.2)
abbrev pub type_at : Option Reached → ℕ
type_at None = DNSKEY
type_at (Some r) = DS

-- the type that is asked for at it, by what is waited for (RFC 4035 5.2)
abbrev pub asked_type : Phase → Option Reached → ℕ
asked_type (asks_keys pending) o = DNSKEY
asked_type begins o = type_at o
asked_type gets o = type_at o
asked_type asks_first o = type_at o
asked_type puts o = type_at o
asked_type ends o = type_at o

-- what is reached with a node that was made or got at the next name (RFC 4035 5.2)
abbrev pub arrived : Option Reached → Node → Reached
arrived None n = record { zone = n; node = n }
arrived (Some r) n = after r.zone n n.standing

-- the same walk, waiting for this
abbrev pub in_phase : Walking → Phase → Walking
in_phase s phase = record {
  top = s.top;
  target = s.target;
  behind = s.behind;
  reached = s.reached;
  phase = phase;
  asked = s.asked;
  got = s.got;
}

-- whether a walk that has reached this goes on to another name (RFC 4033 2)
abbrev pub is_further : Walking → Reached → Bool
is_further s r = goes_on r.node && nat_le (length s.top + s.behind) (length s.target)

-- a walk that hasn't begun
abbrev pub started : Place → Place → Walking
started top target = record { top = top; target = target; behind = 0; reached = None; phase = begins; asked = []; got = [] }

-- the input answers the pending step
abbrev pub Answers : Phase → Input → Type 0
Answers begins begin = Unit {0}
Answers gets (node o) = Unit {0}
Answers asks_first (reply octets) = Unit {0}
Answers (asks_keys pending) (reply octets) = Unit {0}
Answers puts stored = Unit {0}
Answers _ _ = ⊥

-- there is a name ahead of what is reached
abbrev pub IsFurther : Walking → Option Reached → Type 0
IsFurther s None = Unit {0}
IsFurther s (Some r) = is_further s r ≡ true

-- where a walk waits for a node or a reply, there is a name ahead
abbrev pub IsAhead : Walking → Phase → Type 0
IsAhead s gets = IsFurther s s.reached
IsAhead s asks_first = IsFurther s s.reached
IsAhead s (asks_keys pending) = IsFurther s s.reached
IsAhead s _ = Unit {0}
