-- The SOA set that counts is one of a zone that a set of the question's name and type may be in, under its island.
use Rattle.std.proofs.Common.{◌≡◌, ℕ, ◌-◌, ◌==◌, Bool, true, false, cond, List, [], length, take, Option, Some, sym, ap, ◌∙◌, subst}
use Rattle.std.specs.Prelude.{◌≢◌, slice_get}
use Rattle.std.proofs.Math.Bool.{not}
use Rattle.std.proofs.lemmas.Bool.{true≢false, and_parts, eqb-true, not-true}
use Rattle.dsec_spec.specs.Names.{Place, place, IsAtOrBelow, IsStrictlyBelow}
use Rattle.dsec_spec.specs.Numbers.{SOA, DS}
use Rattle.dsec_spec.specs.Records.{Record}
use Rattle.dsec_spec.specs.Groups.{Group}
use Rattle.dsec_spec.specs.Messages.{Question}
use Rattle.dsec_spec.specs.Islands.{looked_for_at, island, is_above}
use Rattle.dsec_spec.specs.AtQuestion.{IsIsland}
use Rattle.dsec_spec.proofs.IslandLemmas.{island_told, looked_for_is, one_looked_for}
use Rattle.dsec_spec.proofs.NamesBelow.{below_itself, below_trans, strictly_below_trans}
use Rattle.dsec_spec.proofs.SignedTests.{below_decides, strictly_below_decides}
use Rattle.dsec_absence.specs.Replies.{is_soa_for, soa_at}
use Rattle.dsec_nodes.specs.World.{World}
use Rattle.dsec_nodes.specs.Judging.{Judged}
use Rattle.dsec_nodes.specs.SoundDenials.{IsSoaFor}
use Rattle.dsec_nodes.proofs.Lists.{from_position}
use Rattle.dsec_nodes.proofs.WalkLaws.{front_over}

-- a place that isn't above the island by the test isn't by the relation
pub not_over : (anchors : List Record) (name : Place) (rtype : ℕ) (p : Place) → not (is_above (island anchors name rtype) p) ≡ true
    → (top : Place) → IsIsland anchors name rtype top → IsStrictlyBelow top p → ⊥
not_over anchors name rtype p e top i below =
    let above : is_above (island anchors name rtype) p ≡ true =
    ap (λ (o : Option Place). is_above o p) (island_told anchors name rtype top i) ∙ (strictly_below_decides top p).1 below in
    true≢false (sym above ∙ not-true (is_above (island anchors name rtype) p) e)

-- the SOA set at the index that is found counts (RFC 2308 2.1)
pub soa_is : (w : World) (question : Question) (js : List Judged) (index : ℕ) (j : Judged)
    → soa_at (island w.anchors (place question.name) question.rtype) (looked_for_at (place question.name) question.rtype) question.class (λ (x : Judged). x.group) js ≡ Some index
    → slice_get js index ≡ Some j → IsSoaFor w question j.group
soa_is w question js index j e stands =
    let n : Place = place question.name in
    let top = island w.anchors n question.rtype in
    let from : Place = looked_for_at n question.rtype in
    let passes = from_position (λ (x : Judged). is_soa_for top from question.class x.group) js index j e stands in
    let parts = and_parts _ _ passes in
    let front = and_parts _ _ parts.0 in
    let both = and_parts _ _ front.0 in
    record {
      of_type = eqb-true j.group.rtype SOA both.0;
      of_class = eqb-true j.group.class question.class both.1;
      from = from;
      looked_for = looked_for_is n question.rtype;
      over = (below_decides from (place j.group.owner)).0 front.1;
      in_island = not_over w.anchors n question.rtype (place j.group.owner) parts.1;
    }

-- it stands at or above the name too
pub soa_over : (w : World) (question : Question) (group : Group) → IsSoaFor w question group → IsAtOrBelow (place question.name) (place group.owner)
soa_over w question group soa =
    below_trans (place question.name) soa.from (place group.owner)
    (subst (IsAtOrBelow (place question.name)) (sym (one_looked_for (place question.name) question.rtype soa.from soa.looked_for)) (by (question.rtype == DS)))
    soa.over
  where
    n : Place
    n = place question.name

    by : (b : Bool) → IsAtOrBelow n (cond b (take (length n - 1) n) n)
    by true = front_over n (length n - 1)
    by false = below_itself n

-- and for DS strictly above it, unless it is the root: a DS set is denied by the zone above alone (RFC 4035 2.4, RFC 6840 4.1)
pub soa_above_ds : (w : World) (question : Question) (group : Group) → IsSoaFor w question group → question.rtype ≡ DS → place question.name ≢ []
    → IsStrictlyBelow (place question.name) (place group.owner)
soa_above_ds w question group soa is_ds below_root =
    let parent = soa.looked_for.above_for_ds is_ds below_root in
    strictly_below_trans (place question.name) soa.from (place group.owner) (record { next = parent.0; under = []; is = parent.1 }) soa.over
