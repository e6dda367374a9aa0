-- Where each signature on the way to a name is in its period at both of two moments, or at neither, the name's node says the same at both.
use Rattle.std.proofs.Common.{◌≡◌, ℕ, zero, suc, ◌+◌, ◌-◌, ◌≤◌, Bool, true, false, cond, length, take, Option, Some, None, refl, ap, ◌∙◌, arith}
use Rattle.std.specs.Prelude.{find, IfSome}
use Rattle.dsec_spec.specs.Names.{Place}
use Rattle.dsec_spec.specs.Numbers.{DNSKEY}
use Rattle.dsec_spec.specs.Records.{Record}
use Rattle.dsec_spec.specs.Groups.{Group}
use Rattle.dsec_spec.specs.Trying.{Tried, good, nothing, all_bad, too_many_bad}
use Rattle.dsec_nodes.specs.World.{World, Replies, moment, on_circle}
use Rattle.dsec_nodes.specs.Signing.{is_set_at}
use Rattle.dsec_nodes.specs.Admission.{Admitted, tried_by, anchor_search}
use Rattle.dsec_nodes.specs.Replies.{Reply, failed, unreadable, sections, read_reply}
use Rattle.dsec_nodes.specs.Walk.{anchored_by, anchored_in, by_anchor_reply, at_anchor, Reached, goes_on, after, next, onward, way, node_of}
use Rattle.dsec_nodes.specs.Likeness.{but_for_times, untimed, Alike, AlikeReached}
use Rattle.dsec_nodes.specs.Moments.{at_moment, IsSteadyReply, IsSteadyAt, IsSteadyBelow, IsSteadyWay}
use Rattle.dsec_nodes.proofs.MomentSigns.{admitted_same}
use Rattle.dsec_nodes.proofs.MomentNodes.{Steady, found_steady}
use Rattle.dsec_nodes.proofs.MomentNext.{next_still}
use Rattle.dsec_nodes.proofs.AlikeLaws.{goes_alike, after_alike}

module _ (w : World) (now : ℕ) (replies : Replies) where
  -- the node of an island
  anchored_still : (top : Place) (group : Group) (t : Tried (Record × Admitted Record))
      → untimed (anchored_by w top group t) ≡ untimed (anchored_by (at_moment w now) top group t)
  anchored_still top group (good p) = refl
  anchored_still top group nothing = refl
  anchored_still top group all_bad = refl
  anchored_still top group too_many_bad = refl

  island_in_still : (top : Place) (o : Option Group) → IfSome o (Steady w now)
      → untimed (anchored_in w top o) ≡ untimed (anchored_in (at_moment w now) top o)
  island_in_still top None s = refl
  island_in_still top (Some group) s =
      anchored_still top group (tried_by w group (anchor_search w.bounds.max_keys_for_ds group) w.anchors)
      ∙ ap (λ (t : Tried (Record × Admitted Record)). untimed (anchored_by (at_moment w now) top group t))
      (admitted_same w now group s (anchor_search w.bounds.max_keys_for_ds group) w.anchors)

  island_still : (top : Place) → IsSteadyAt w now replies top DNSKEY → Alike but_for_times (at_anchor w replies top) (at_anchor (at_moment w now) replies top)
  island_still top steady = by (read_reply (replies top DNSKEY)) steady
    where
      by : (r : Reply) → IsSteadyReply (moment w) (on_circle now) r
          → untimed (by_anchor_reply w top r) ≡ untimed (by_anchor_reply (at_moment w now) top r)
      by failed s = refl
      by unreadable s = refl
      by (sections answers authorities) s =
          island_in_still top (find (is_set_at top DNSKEY) answers) (found_steady (moment w) (on_circle now) (is_set_at top DNSKEY) answers s.0)

  -- one name further
  onward_still : (r s : Reached) (name : Place) → IsSteadyBelow w now replies name → AlikeReached but_for_times r s
      → AlikeReached but_for_times (onward w replies r name) (onward (at_moment w now) replies s name)
  onward_still r s name steady before = by (goes_on r.node) (goes_on s.node) (goes_alike but_for_times r.node s.node before.1)
    where
      it : Alike but_for_times (next w replies r name) (next (at_moment w now) replies s name)
      it = next_still w now replies r s name steady before.0

      by : (a b : Bool) → a ≡ b
          → AlikeReached but_for_times (cond a (after r.zone (next w replies r name) (next w replies r name).standing) r)
          (cond b (after s.zone (next (at_moment w now) replies s name) (next (at_moment w now) replies s name).standing) s)
      by true true e = after_alike but_for_times r.zone s.zone (next w replies r name) (next (at_moment w now) replies s name) before.0 it
      by false false e = before
      by true false e = absurd cc
      by false true e = absurd cc

  -- what is reached on the way to a name
  way_still : (top name : Place) → IsSteadyWay w now replies top name → (k : ℕ) → k ≤ length name - length top
      → AlikeReached but_for_times (way w replies top name k) (way (at_moment w now) replies top name k)
  way_still top name steady zero le = (island_still top steady.at_top, island_still top steady.at_top)
  way_still top name steady (suc k) le =
      onward_still (way w replies top name k) (way (at_moment w now) replies top name k) (take (length top + suc k) name)
      (steady.below (length top + suc k) (omega arith) (omega (arith, le))) (way_still top name steady k (omega (arith, le)))

  -- The node of a name under an island says the same at both moments, where the way to it is steady
  pub node_still : (top name : Place) → IsSteadyWay w now replies top name
      → Alike but_for_times (node_of w replies top name) (node_of (at_moment w now) replies top name)
  node_still top name steady = (way_still top name steady (length name - length top) (omega arith)).1
