-- Groups that are judged at once.
use Rattle.std.proofs.Common.{◌≡◌, ◌⊎◌, inl, inr, ◌==◌, Bool, true, false, cond, List, [], length, Option, Some, None, refl, ap, ◌∙◌}
use Rattle.dsec_spec.specs.Names.{Place, place}
use Rattle.dsec_spec.specs.Records.{Record, Key}
use Rattle.dsec_spec.specs.Groups.{Group}
use Rattle.dsec_spec.specs.Islands.{island}
use Rattle.dsec_spec.specs.Trying.{Tried, good, nothing, all_bad, too_many_bad}
use Rattle.dsec_nodes.specs.World.{World, Replies}
use Rattle.dsec_nodes.specs.Nodes.{Node, Standing, apex, within, insecure, bogus}
use Rattle.dsec_nodes.specs.Signing.{under_keys}
use Rattle.dsec_nodes.specs.Judging.{Finding, is_shown, has_no_set, is_insecure, is_bogus, is_indeterminate, Judged, found_by, found_at, by_node, by_island, judged_of}
use Rattle.dsec_course.specs.Course.{at_once, way_under, way_of}
use Rattle.dsec_core.specs.Progress.{IsAtOnce}

module _ (w : World) (group : Group) (replies : Replies) where
  abbrev no_set : Judged
  no_set = record { group = group; signer = []; finding = has_no_set }

  by_records : (b : Bool) (o : Option Place) → (b ≡ true) ⊎ (o ≡ None) → cond b (at_once no_set) (way_under group o) ≡ at_once (cond b no_set (by_island w replies group o))
  by_records true o h = refl
  by_records false None h = refl
  by_records false (Some top) (inl e) = absurd cc
  by_records false (Some top) (inr e) = absurd cc

  either : IsAtOnce w.anchors group → ((length group.records == 0) ≡ true) ⊎ (island w.anchors (place group.owner) group.rtype ≡ None)
  either (inl e) = inl (ap (λ (rs : List Record). length rs == 0) e)
  either (inr e) = inr e

  -- whatever the replies are
  pub once_way : IsAtOnce w.anchors group → way_of w group ≡ at_once (judged_of w replies group)
  once_way h = by_records (length group.records == 0) (island w.anchors (place group.owner) group.rtype) (either h)

  -- whether a finding is one by a node
  abbrev by_a_node : Finding → Bool
  by_a_node has_no_set = false
  by_a_node is_indeterminate = false
  by_a_node (is_shown links last signature) = true
  by_a_node (is_insecure cause signed) = true
  by_a_node (is_bogus cause links) = true

  found_so : (n : Node) (x : Standing) → by_a_node (found_at w group n x) ≡ true
  found_so n (apex keys) = by (under_keys w n.signer keys group)
    where
      by : (t : Tried (Record × Key)) → by_a_node (found_by group n keys t) ≡ true
      by (good p) = refl
      by nothing = refl
      by all_bad = refl
      by too_many_bad = refl
  found_so n (within last) = refl
  found_so n (insecure cause signed) = refl
  found_so n (bogus cause) = refl

  once_so : (b : Bool) (o : Option Place) → (b ≡ true) ⊎ (o ≡ None) → by_a_node (cond b no_set (by_island w replies group o)).finding ≡ false
  once_so true o h = refl
  once_so false None h = refl
  once_so false (Some top) (inl e) = absurd cc
  once_so false (Some top) (inr e) = absurd cc

  -- it isn't judged by a node
  pub once_no_node : (n : Node) → IsAtOnce w.anchors group → judged_of w replies group ≡ by_node w group n → ⊥
  once_no_node n h e =
      let no : by_a_node (judged_of w replies group).finding ≡ false = once_so (length group.records == 0) (island w.anchors (place group.owner) group.rtype) (either h) in
      let yes : by_a_node (judged_of w replies group).finding ≡ true = ap (λ (j : Judged). by_a_node j.finding) e ∙ found_so n n.standing in
      absurd cc
