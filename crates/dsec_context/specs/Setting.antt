-- What a context holds.
use Rattle.std.specs.Prelude.{ℕ, List}
use Rattle.dsec_spec.specs.Accepts.{Accepts}
use Rattle.dsec_spec.specs.Names.{Labels}
use Rattle.dsec_spec.specs.Records.{Record}
use Rattle.dsec_nodes.specs.World.{World}
use Rattle.dsec_nodes.specs.Nodes.{Node}
use Rattle.dsec_node.specs.Configs.{Settings}
use Rattle.dsec_node.specs.Views.{bounds_of, world_of}

-- the anchors and the settings that messages are judged by, the nodes that are kept, by name, and how many gets and puts have found no memory
pub record Setting : Type 0 where
  pub anchors : List Record
  pub config : Settings
  pub nodes : List (Labels × Node)
  pub wants : ℕ

-- what judging goes by at a moment, in seconds since 1970 (RFC 4033 2)
abbrev pub world_at : Accepts → List Record → Settings → ℕ → World
world_at accepts anchors config seconds = world_of accepts anchors (bounds_of config) seconds
