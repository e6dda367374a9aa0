-- When a node that was kept counts for a taker (RFC 4035 4.5).
use Rattle.std.specs.Prelude.{◌≡◌, ◌+◌, ◌≤◌, ◌==◌, ◌&&◌, nat_le, List, Contains, Bool, false, Option, Some, None}
use Rattle.std.proofs.Math.Bool.{not}
use Rattle.std.specs.List.{list_any}
use Rattle.std.specs.Str.{bytes_eq}
use Rattle.dsec_spec.specs.Names.{Place, place, same_place}
use Rattle.dsec_spec.specs.Records.{Record}
use Rattle.dsec_nodes.specs.World.{World, Bounds}
use Rattle.dsec_nodes.specs.Nodes.{Node, IsBogus}

-- whether two records are the same, their owners' letters and their TTLs too
abbrev pub same_record : Record → Record → Bool
same_record a b = same_place a.owner b.owner && (a.class == b.class) && (a.rtype == b.rtype) && (a.ttl == b.ttl) && bytes_eq a.rdata b.rdata

-- whether a node's anchor is one of these, at this place (RFC 4033 2, island of security)
abbrev pub rests_at : List Record → Place → Option Record → Bool
rests_at anchors top None = false
rests_at anchors top (Some anchor) = same_place (place anchor.owner) top && list_any (same_record anchor) anchors

-- whether the bounds are the same, each of them
abbrev pub same_bounds : Bounds → Bounds → Bool
same_bounds a b =
    (a.room == b.room) && (a.max_validity == b.max_validity) && (a.max_bogus_validity == b.max_bogus_validity)
    && (a.max_ds_records == b.max_ds_records) && (a.max_keys_for_ds == b.max_keys_for_ds)
    && (a.iterations_insecure == b.iterations_insecure) && (a.iterations_bogus == b.iterations_bogus) && (a.most_hashes == b.most_hashes)

-- whether a node is kept at the moment of judging: not before it was made, and no longer than it is valid for (RFC 4035 4.5)
abbrev pub is_in_time : World → Node → Bool
is_in_time w n = nat_le n.made w.now && nat_le w.now (n.made + n.valid_for)

-- whether a node that was kept counts under an island: it isn't bogus, it is the name's, its anchor is one of the island's, it was made within
-- the taker's bounds, and it is kept at the moment of judging (RFC 4035 4.5)
abbrev pub counts : World → Place → Place → Node → Bool
counts w top name n =
    not (IsBogus n.standing) && same_place n.name name && rests_at w.anchors top n.anchor && same_bounds n.bounds w.bounds && is_in_time w n

-- a node has an anchor at this place, and it is one of these (RFC 4033 2, island of security)
pub record RestsAt (anchors : List Record) (top : Place) (n : Node) : Type 0 where
  pub anchor : Record
  pub its : n.anchor ≡ Some anchor
  pub at : place anchor.owner ≡ top
  pub is_listed : Contains anchors anchor

-- a node that was kept counts under an island (RFC 4035 4.5)
pub record Taken (w : World) (top name : Place) (n : Node) : Type 0 where
  pub not_bogus : IsBogus n.standing ≡ false
  pub named : n.name ≡ name
  pub rests : RestsAt w.anchors top n
  pub within : n.bounds ≡ w.bounds
  pub from : n.made ≤ w.now
  pub to : w.now ≤ n.made + n.valid_for

-- a node that isn't bogus has an anchor of the island's (RFC 4033 2, island of security)
abbrev pub Rests : List Record → Place → Node → Type 0
Rests anchors top n = IsBogus n.standing ≡ false → RestsAt anchors top n
