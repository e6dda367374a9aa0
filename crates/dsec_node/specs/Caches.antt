-- What caches of nodes hold (RFC 4035 4.5).
use Rattle.std.specs.Prelude.{◌≡◌, ◌⊎◌, ℕ, List, [], ◌∷◌, Option, Some, None, if◌then◌else◌}
use Rattle.std.specs.Map.{lookup}
use Rattle.dsec_spec.specs.Names.{Labels, Place, place, same_place}
use Rattle.dsec_spec.specs.Outside.{risen}
use Rattle.dsec_nodes.specs.Nodes.{Node}

-- which node is held for a place, if one is; only finitely many places have one
abbrev pub Held : Type 0
Held = Place → Option Node

-- what names and their nodes hold: for a place the node of the first name there
abbrev pub held_in : List (Labels × Node) → Held
held_in entries p = lookup (λ name. same_place p (place name)) entries

-- what is held once a node is put for a place, where nothing else changes
abbrev pub with_node : Held → Place → Node → Held
with_node held at n p = if same_place p at then Some n else held p

-- what is held once nodes are put, each for its own name, one after the other
abbrev pub with_nodes : Held → List Node → Held
with_nodes held [] = held
with_nodes held (n ∷ puts) = with_nodes (with_node held n.name n) puts

-- the node is held for the place, where the caches tell what they hold
abbrev pub IsHeld : Option Held → Place → Node → Type 0
IsHeld None p n = Unit {0}
IsHeld (Some held) p n = held p ≡ Some n

-- each node that is held afterwards was held before, and caches tell as before
abbrev pub Keeps : Option Held → Option Held → Type 0
Keeps None new = new ≡ None
Keeps (Some old) None = ⊥
Keeps (Some old) (Some new) = (p : Place) (n : Node) → new p ≡ Some n → old p ≡ Some n

-- each node that is held afterwards was held before, or is the one that was put for its place, and caches tell as before
abbrev pub Adds : Option Held → Option Held → Place → Node → Type 0
Adds None new at put = new ≡ None
Adds (Some old) None at put = ⊥
Adds (Some old) (Some new) at put = (p : Place) (n : Node) → new p ≡ Some n → (old p ≡ Some n) ⊎ ((p ≡ at) × (n ≡ put))

-- what caches hold that forget none, and how many of their calls have found no memory
pub record Lasting : Type 0 where
  pub held : Held
  pub wants : ℕ

-- by caches that forget none: the node that is found for a place is the one that is held there, and none is found where none is held
abbrev pub IsFound : Option Lasting → Place → Option Node → Type 0
IsFound None p found = Unit {0}
IsFound (Some it) p found = found ≡ it.held p

-- by caches that forget none: a call has found memory, and what is held afterwards is, by this change, what was held before; once they have forgotten a
-- node, they don't tell it again
abbrev pub Becomes : Option Lasting → Option Lasting → (Held → Held) → Type 0
Becomes None new by = new ≡ None
Becomes (Some old) None by = Unit {0}
Becomes (Some old) (Some new) by = ((p : Place) → new.held p ≡ by old.held p) × (new.wants ≡ old.wants)

-- by caches that forget none: a call has found no memory, which is counted, and what was held is held
abbrev pub Wants : Option Lasting → Option Lasting → Type 0
Wants None new = new ≡ None
Wants (Some old) None = Unit {0}
Wants (Some old) (Some new) = ((p : Place) → new.held p ≡ old.held p) × (new.wants ≡ risen old.wants)

-- the nodes that caches of one owner hold, by name, and how many of their calls have found no memory since there was none
pub record Owned : Type 0 where
  pub nodes : List (Labels × Node)
  pub wants : ℕ

-- what they hold, who forget none
abbrev pub lasting_in : List (Labels × Node) → ℕ → Option Lasting
lasting_in nodes wants = Some (record { held = held_in nodes; wants = wants })
