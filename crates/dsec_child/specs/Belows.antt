-- What the code finds of a name below a zone, in the words of nodes (RFC 4035 5.2).
use Rattle.std.specs.Prelude.{◌≡◌, ℕ, ◌+◌, ◌≤◌, List, length, Bool, Option, Some, None}
use Rattle.dsec_spec.specs.Names.{Place, IsStrictlyBelow}
use Rattle.dsec_spec.specs.Records.{Record}
use Rattle.dsec_wire.specs.DataViews.{ds_in}
use Rattle.dsec_wire.specs.TypedData.{data_of}
use Rattle.dsec_nodes.specs.ByDs as nodes
use Rattle.dsec_nodes.specs.ByDs.{is_supported}
use Rattle.dsec_nodes.specs.Held.{HeldZone}
use Rattle.dsec_nodes.specs.Nodes.{Node, apex}
use Rattle.dsec_nodes.specs.Replies.{Reply, failed, unreadable, sections}
use Rattle.dsec_nodes.specs.World.{World}
use Rattle.dsec_child.specs.declared.ds_set.Below.{Below}
use Rattle.dsec_child.specs.declared.ds_set.Below.TheVariants.{Made, Asks}

-- a zone with these keys, which counts at the moment of judging, and a name strictly below it (RFC 4035 5.2)
pub record IsZoneAbove (w : World) (zone : Node) (keys : List (List ℕ)) (name : Place) : Type 0 where
  pub begins : zone.standing ≡ apex keys
  pub made : zone.made ≤ w.now
  pub counts : w.now ≤ zone.made + zone.valid_for
  pub is_held : HeldZone w zone keys
  pub below : IsStrictlyBelow name zone.signer

-- a node, or the question for the name's DNSKEY set
abbrev pub below_view : {V : Type 0} → Below V → nodes.Below
below_view (Made n) = nodes.made n
below_view (Asks pending) = nodes.asks pending

-- what was found, or else this
abbrev pub or_below : {V : Type 0} → Option (Below V) → nodes.Below → nodes.Below
or_below (Some found) otherwise = below_view found
or_below None otherwise = otherwise

-- the node that was found, or else this
abbrev pub or_node : Option Node → Node → nodes.Below
or_node (Some found) otherwise = nodes.made found
or_node None otherwise = nodes.made otherwise

-- whether a record is a DS record that can be used
abbrev pub is_usable_ds : Record → Bool
is_usable_ds one = is_supported (ds_in (data_of one))

-- how many sets of a reply are checked at most: a DS set, a CNAME set, and each set of its authority section (RFC 4035 5.2)
abbrev pub most_checked : Reply → ℕ
most_checked failed = 0
most_checked unreadable = 0
most_checked (sections answers authorities) = 2 + length authorities
