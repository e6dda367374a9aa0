-- A node is within a zone only where a set of the zone's shows that no zone begins at its name.
use Rattle.std.proofs.Common.{◌≡◌, ℕ, ◌+◌, ◌≤◌, List, Option, Some, None, ap, subst}
use Rattle.std.specs.Prelude.{find}
use Rattle.dsec_spec.specs.Names.{Place, IsStrictlyBelow}
use Rattle.dsec_spec.specs.Numbers.{DNSKEY}
use Rattle.dsec_spec.specs.Records.{Record}
use Rattle.dsec_spec.specs.Accepts.{Accepts}
use Rattle.dsec_spec.specs.Groups.{Group}
use Rattle.dsec_spec.specs.Trying.{Tried, good, nothing, all_bad, too_many_bad}
use Rattle.dsec_spec.specs.Chain.{Link}
use Rattle.dsec_nodes.specs.World.{World, Replies, on_circle, moment}
use Rattle.dsec_nodes.specs.Nodes.{Node, Standing, within, HoldsAt, Kept, IsBogus}
use Rattle.dsec_nodes.specs.WithinCauses.{IsShownWithin}
use Rattle.dsec_nodes.specs.Admission.{Admitted, tried_by, ds_search}
use Rattle.dsec_nodes.specs.Replies.{Reply, failed, unreadable, sections}
use Rattle.dsec_nodes.specs.Held.{HeldZone}
use Rattle.dsec_nodes.specs.ByDs.{Pending, ways, by_tried, by_key_set, by_key_reply}
use Rattle.dsec_nodes.specs.Signing.{is_set_at}
use Rattle.dsec_nodes.specs.Walk.{child}
use Rattle.dsec_nodes.proofs.ChildLaws.{child_kept}

-- a kept node that is within a zone is shown to be, at each moment for which it is kept (RFC 4035 4.5)
pub kept_within : (accepts : Accepts) (n : Node) (last : Link) (s : ℕ) → Kept accepts n → n.standing ≡ within last → n.made ≤ s
    → s ≤ n.made + n.valid_for
    → (anchor : Record) × (n.anchor ≡ Some anchor) × IsShownWithin accepts anchor n.name n.signer n.links last (on_circle s)
kept_within accepts n last s kept is from to =
    let k = kept (ap IsBogus is) in (
      k.0,
      k.1,
      subst (λ (x : Standing). HoldsAt accepts n.bounds k.0 n.name n.signer n.links x (on_circle s)) is (k.2 s from to),
    )

-- the node of a name below a zone is within it only where a set of the zone's shows that no zone begins at the name
pub child_shown : (w : World) (replies : Replies) (zone : Node) (keys : List (List ℕ)) (name : Place) (last : Link) → HeldZone w zone keys
    → IsStrictlyBelow name zone.signer → (child w replies zone keys name).standing ≡ within last
    → (anchor : Record) × ((child w replies zone keys name).anchor ≡ Some anchor)
    × IsShownWithin w.accepts anchor name (child w replies zone keys name).signer (child w replies zone keys name).links last (moment w)
child_shown w replies zone keys name last h below is =
    let n = child w replies zone keys name in
    let k = child_kept w replies zone keys name h below in
    subst (λ (x : Place). (anchor : Record) × (n.anchor ≡ Some anchor) × IsShownWithin w.accepts anchor x n.signer n.links last (moment w)) k.1
    (kept_within w.accepts n last w.now k.0 is k.2 k.3)

-- what the reply to the question for a DNSKEY set comes to is never within the zone above
pub key_reply_not_within : (w : World) (zone : Node) (pending : Pending) (reply : Reply) (last : Link)
    → (by_key_reply w zone pending reply).standing ≡ within last → ⊥
key_reply_not_within w zone pending reply last = by_reply reply
  where
    by_trying : (group : Group) (t : Tried (Record × Admitted (List ℕ))) → (by_tried w zone pending group t).standing ≡ within last → ⊥
    by_trying group (good p) e = absurd cc
    by_trying group nothing e = absurd cc
    by_trying group all_bad e = absurd cc
    by_trying group too_many_bad e = absurd cc

    by_group_at : (o : Option Group) → (by_key_set w zone pending o).standing ≡ within last → ⊥
    by_group_at None e = absurd cc
    by_group_at (Some group) e = by_trying group (tried_by w group (ds_search w.bounds.max_keys_for_ds group) (ways w pending)) e

    by_reply : (r : Reply) → (by_key_reply w zone pending r).standing ≡ within last → ⊥
    by_reply failed e = absurd cc
    by_reply unreadable e = absurd cc
    by_reply (sections answers authorities) e = by_group_at (find (is_set_at pending.name DNSKEY) answers) e
