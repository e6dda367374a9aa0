-- Walks from their beginning, by a table of replies and by nodes that were kept of it (RFC 4035 5).
use Rattle.std.specs.Prelude.{◌≡◌, List, [], ◌∷◌, Some, None}
use Rattle.dsec_nodes.specs.World.{World, Replies}
use Rattle.dsec_nodes.specs.Walk.{node_of}
use Rattle.dsec_nodes.specs.Likeness.{Likeness, Alike}
use Rattle.dsec_nodes.specs.Taking.{Taken}
use Rattle.dsec_nodes.specs.Machine.{Walking, Step, Input, begin, node, stored, reply, name_at, asked_type, Answers, advanced}

-- an input that a table serves: of a node that was kept, one that doesn't count or is like that which the recursion makes at its name by these
-- replies, or none; to a question, the table's reply
abbrev pub ServedBy : Likeness → World → Replies → Walking → Input → Type 0
ServedBy like w replies s begin = Unit {0}
ServedBy like w replies s (node None) = Unit {0}
ServedBy like w replies s (node (Some n)) = Taken w s.top (name_at s) n → Alike like (node_of w replies s.top n.name) n
ServedBy like w replies s stored = Unit {0}
ServedBy like w replies s (reply octets) = replies (name_at s) (asked_type s.phase s.reached) ≡ octets

-- inputs one after the other, each of which answers the pending step and is served by the table
abbrev pub AreServed : Likeness → World → Replies → Walking → List Input → Type 0
AreServed like w replies s [] = Unit {0}
AreServed like w replies s (i ∷ inputs) = Answers s.phase i × ServedBy like w replies s i × AreServed like w replies (advanced w s i).0 inputs

-- a walk with its last step, after more inputs
abbrev pub after_inputs : World → Walking × Step → List Input → Walking × Step
after_inputs w p [] = p
after_inputs w p (i ∷ inputs) = after_inputs w (advanced w p.0 i) inputs
