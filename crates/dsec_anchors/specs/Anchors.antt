-- Anchors by owner, in the order in which they were added.
use Rattle.std.specs.Prelude.{ℕ, List, [], ◌∷◌, map, length, filter, find, nat_lt, Option, Some, None, if◌then◌else◌}
use Rattle.std.specs.Option.{option_and_then}
use Rattle.dsec_spec.specs.Islands.{island}
use Rattle.dsec_spec.specs.Names.{Labels, Place, place, same_place}
use Rattle.dsec_spec.specs.Records.{Record}
use Rattle.dsec_anchors.specs.declared.anchors.TrustAnchor.{TrustAnchor}
use Rattle.dsec_anchors.specs.declared.anchors.AnchorRecords.{AnchorRecords}

-- the anchors of one owner, as the first of them writes it
pub record OwnersAnchors : Type 0 where
  pub owner : Labels
  pub records : List Record

-- the records at a place
abbrev pub records_at : List Record → Place → List Record
records_at anchors p = filter (λ anchor. same_place (place anchor.owner) p) anchors

-- records of one owner with that owner, where there are any
abbrev pub with_owner : List Record → Option OwnersAnchors
with_owner [] = None
with_owner (first ∷ others) = Some (record { owner = first.owner; records = first ∷ others })

-- the anchors at a place, where there are any
abbrev pub anchors_at : List Record → Place → Option OwnersAnchors
anchors_at anchors p = with_owner (records_at anchors p)

-- the island's name as the first of the anchors there writes it (RFC 4033 2)
abbrev pub told_island : List Record → Place → ℕ → Option Labels
told_island anchors name rtype =
    option_and_then (λ top. find (λ owner. same_place (place owner) top) (map (λ anchor. anchor.owner) anchors)) (island anchors name rtype)

-- the longer of a name and one that may be there, the first where they have as many labels
abbrev pub longer_name : Labels → Option Labels → Labels
longer_name n None = n
longer_name n (Some m) = if nat_lt (length (place n)) (length (place m)) then m else n

-- the anchors of one owner, as the code has them
abbrev pub anchor_view : TrustAnchor → OwnersAnchors
anchor_view it = record { owner = it.owner.now; records = records_at it.all.now (place it.owner.now) }

-- the anchors of one owner that weren't taken yet
abbrev pub left_of : AnchorRecords → List Record
left_of it = records_at it.rest.now (place it.owner.now)
