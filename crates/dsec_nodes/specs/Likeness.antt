-- How far two nodes are to be alike: wholly, or but for when they were made and how long they are kept (RFC 4035 4.5).
use Rattle.std.specs.Prelude.{◌≡◌}
use Rattle.dsec_nodes.specs.Nodes.{Node}
use Rattle.dsec_nodes.specs.Walk.{Reached}

-- how far nodes are to be alike
pub data Likeness : Type 0 where
  wholly : Likeness
  -- but for the moment at which each was made, and the seconds for which it is kept
  but_for_times : Likeness

-- a node without its times
abbrev pub untimed : Node → Node
untimed n = record {
  name = n.name;
  made = 0;
  valid_for = 0;
  anchor = n.anchor;
  signer = n.signer;
  links = n.links;
  standing = n.standing;
  bounds = n.bounds;
}

-- what of a node is to be alike
abbrev pub seen : Likeness → Node → Node
seen wholly n = n
seen but_for_times n = untimed n

-- two nodes are alike: they say the same of the same name, from the same anchor and within the same bounds (RFC 4033 5)
abbrev pub Alike : Likeness → Node → Node → Type 0
Alike like a b = seen like a ≡ seen like b

-- two walks have reached what is alike
abbrev pub AlikeReached : Likeness → Reached → Reached → Type 0
AlikeReached like a b = Alike like a.zone b.zone × Alike like a.node b.node
