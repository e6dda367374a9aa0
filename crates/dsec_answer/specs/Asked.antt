-- Which questions a message of a script takes, and which nodes it puts.
use Rattle.std.specs.Prelude.{◌≡◌, ◌⊎◌, ℕ, List, [], length, Contains, Some, None, Ok}
use Rattle.dsec_spec.specs.Names.{Place}
use Rattle.dsec_nodes.specs.World.{World, Replies}
use Rattle.dsec_nodes.specs.Nodes.{Node}
use Rattle.dsec_nodes.specs.Machine.{Question as Asked}
use Rattle.dsec_nodes.specs.InStep.{AskedOf}
use Rattle.dsec_nodes.specs.Outcomes.{Outcome}
use Rattle.dsec_node.specs.Caches.{Held}
use Rattle.dsec_course.specs.Course.{end_with}
use Rattle.dsec_course.specs.Hearing.{first_run, after_heard}
use Rattle.dsec_context.specs.Calls.{WereHeard}

-- so many questions were asked for a message, up to this outcome: those of the message judged a step at a time to its end over these nodes and those
-- that it puts itself, each with the table's reply (RFC 4035 4.3, 4.5)
pub record WereAsked (w : World) (most : ℕ) (message : List ℕ) (replies : Replies) (kept : List Node) (outcome : Outcome) (number : ℕ) : Type 0 where
  pub asked : List Asked
  pub as_many : number ≡ length asked
  pub replied : AskedOf replies asked
  pub puts : List Node
  pub heard : WereHeard w most message (Contains kept) None None asked puts
  pub ends : (after_heard w (first_run w heard.course) heard.inputs).step ≡ end_with (Ok outcome)

-- these nodes were put for a message: none, or those of the message judged a step at a time over these, by the table's replies (RFC 4035 4.5)
pub record WerePut (w : World) (most : ℕ) (message : List ℕ) (replies : Replies) (kept puts : List Node) : Type 0 where
  pub asked : List Asked
  pub replied : AskedOf replies asked
  pub in_turn : (puts ≡ []) ⊎ WereHeard w most message (Contains kept) None None asked puts

-- each node that is held is one of these
abbrev pub HoldsAmong : List Node → Held → Type 0
HoldsAmong kept held = (p : Place) (n : Node) → held p ≡ Some n → Contains kept n
