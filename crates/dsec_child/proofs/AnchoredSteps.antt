-- The node of an island, by an admission.
use Rattle.std.proofs.Common.{◌≡◌, List, Some, None, refl, sym, ap, ◌∙◌, subst}
use Rattle.std.specs.Prelude.{find, slice_get, Ok, Err}
use Rattle.std.proofs.lemmas.Option.{same_Some}
use Rattle.dsec_spec.specs.Groups.{Group}
use Rattle.dsec_spec.specs.Names.{Place, place}
use Rattle.dsec_spec.specs.Numbers.{DNSKEY}
use Rattle.dsec_spec.specs.Records.{Record}
use Rattle.dsec_spec.specs.Trying.{Tried, good, nothing, all_bad, too_many_bad}
use Rattle.dsec_nodes.specs.Admission.{Admitted, anchor_search, cause_among, tried_by}
use Rattle.dsec_nodes.specs.Causes.{Cause, BadSignature, TooManyBadSignaturesForDnskey, NoDnskeyForAnchor}
use Rattle.dsec_nodes.specs.MissingDs.{bogus_at}
use Rattle.dsec_nodes.specs.Nodes.{Node}
use Rattle.dsec_nodes.specs.Replies.{Reply, sections}
use Rattle.dsec_nodes.specs.Signing.{is_set_at}
use Rattle.dsec_nodes.specs.Walk.{anchored, anchored_by, anchored_in, by_anchor_reply}
use Rattle.dsec_nodes.specs.World.{World}
use Rattle.dsec_nodes.proofs.AnchorLaws.{from_tried_anchors}
use Rattle.dsec_node.specs.Good.{IsPair, IsGoodByAnchorAt}
use Rattle.dsec_child.specs.Admissions.{IsAdmission, StandsAt}
use Rattle.dsec_child.specs.Anchored.{HoldsBy}
use Rattle.dsec_child.specs.declared.admit.Admission.{Admission}

module _ (w : World) (group : Group) where
  abbrev tried_here : Tried (Record × Admitted Record)
  tried_here = tried_by w group (anchor_search w.bounds.max_keys_for_ds group) w.anchors

  abbrev why : Cause
  why = cause_among BadSignature group (anchor_search w.bounds.max_keys_for_ds group) w.anchors

  -- an admission is that of a good pair
  pub from_ok : (it : Admission) → IsAdmission w.anchors group why tried_here (Ok it) → HoldsBy w group it
  from_ok it h = by tried_here refl h
    where
      by : (x : Tried (Record × Admitted Record)) → tried_here ≡ x → IsAdmission w.anchors group why x (Ok it) → HoldsBy w group it
      by (good p) e (at, r, s) = let same : at ≡ it = cc in record { pair = p; is_good = e; stands = subst (λ a. StandsAt w.anchors group a p) same s }
      by nothing e r = absurd cc
      by all_bad e r = absurd cc
      by too_many_bad e r = absurd cc

  -- without one the node is bogus
  pub from_err : (top : Place) (cause : Cause) → IsAdmission w.anchors group why tried_here (Err cause) → bogus_at w top cause ≡ anchored_by w top group tried_here
  from_err top cause h = by tried_here h
    where
      by : (x : Tried (Record × Admitted Record)) → IsAdmission w.anchors group why x (Err cause) → bogus_at w top cause ≡ anchored_by w top group x
      by (good p) (at, r, s) = absurd cc
      by nothing r = let same : cause ≡ why = cc in ap (bogus_at w top) same
      by all_bad r = let same : cause ≡ why = cc in ap (bogus_at w top) same
      by too_many_bad r = let same : cause ≡ TooManyBadSignaturesForDnskey = cc in ap (bogus_at w top) same

  module _ (it : Admission) (h : HoldsBy w group it) (anchor : Record) (there : slice_get w.anchors it.via ≡ Some anchor) where
    pub pair_is : IsPair group anchor it.key it.signature h.pair
    pair_is = record {
      stands = h.stands.signature_stands;
      by_way = same_Some h.pair.1.way anchor (sym h.stands.way_stands ∙ there);
      key_record = h.stands.key_record;
      key_stands = h.stands.key_stands;
      says = h.stands.says;
    }

    pub good_is : IsGoodByAnchorAt w group anchor it.key it.signature
    good_is = record { pair = h.pair; is_pair = pair_is; is_good = from_tried_anchors w w.bounds.max_keys_for_ds group h.pair h.is_good }

    pub node_is : (n : Node) → n ≡ anchored w (place group.owner) group h.pair → n ≡ anchored_by w (place group.owner) group tried_here
    node_is n e = e ∙ sym (ap (anchored_by w (place group.owner) group) h.is_good)

-- the node, by the set that the reply has
pub by_set : (w : World) (top : Place) (reply : Reply) (answers authorities : List Group) (group : Group) → sections answers authorities ≡ reply → Some group ≡ find (is_set_at top DNSKEY) answers
    → anchored_by w top group (tried_by w group (anchor_search w.bounds.max_keys_for_ds group) w.anchors) ≡ by_anchor_reply w top reply
by_set w top reply answers authorities group e f = ap (anchored_in w top) f ∙ ap (by_anchor_reply w top) e

pub by_no_set : (w : World) (top : Place) (reply : Reply) (answers authorities : List Group) → sections answers authorities ≡ reply → None ≡ find (is_set_at top DNSKEY) answers
    → bogus_at w top NoDnskeyForAnchor ≡ by_anchor_reply w top reply
by_no_set w top reply answers authorities e f = ap (anchored_in w top) f ∙ ap (by_anchor_reply w top) e
