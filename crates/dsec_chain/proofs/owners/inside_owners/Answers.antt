use Rattle.std.proofs.Common.{◌≡◌, ◌∙◌, ◌-◌, length, sym, ap, map, arith}
use Rattle.std.proofs.lemmas.List.{map-append}
use Rattle.std.proofs.lemmas.List.Elements.{All-push}
use Rattle.dsec_spec.specs.Names.{place}
use Rattle.dsec_sorted.specs.IterViews.{left_of}
use Rattle.dsec_chain.specs.Views.{HasRecords, IsPlaced, cut_place, inside_view}
use Rattle.dsec_chain.proofs.Placed.{counted, placed}
use Rattle.dsec_chain.proofs.InsideWalk.{not_entered}
use Rattle.dsec_chain.proofs.InsideSteps.{step_passed, step_added, cut_after}
use Rattle.dsec_chain.proofs.owners.inside_owners.Goals as goal

pub loop-owner-init : goal.loop-owner-init
loop-owner-init c = record {
  entered = rw (c.new-all.ensures.items) (not_entered (place c.args.apex.now) (left_of c.args.records.now));
  placed = rw (c.new-all.ensures.items) (λ k d lt. absurd (omega arith));
  some = rw (c.new-all.ensures.items) (λ k d lt. absurd (omega arith));
}

pub loop-owner-preserved : goal.loop-owner-preserved
loop-owner-preserved c = record {
  entered =
      step_passed (place c.args.apex.now) (left_of c.args.records.now) (left_of c.loop-owner.rest) (cut_place c.loop-owner.has_cut c.loop-owner.cut.now) (map inside_view c.loop-owner.all.items)
      c.in-Some.owner.name.now c.in-Some.owner.records.now (left_of c.next.new.self) c.loop-owner.invariant.entered c.requires c.in-Some.ensures.owner (sym c.is_open.ensures ∙ c.if-is_open.false);
  placed = c.loop-owner.invariant.placed;
  some = c.loop-owner.invariant.some;
}

pub loop-owner-preserved-then-is_open : goal.loop-owner-preserved-then-is_open
loop-owner-preserved-then-is_open c =
    let pushed = ap (map inside_view) c.in_ok-push.ensures.items ∙ map-append inside_view c.loop-owner.all.items _ in
    let so = sym c.is_open.ensures ∙ c.if-is_open.true in
    let entered = c.loop-owner.invariant.entered in
    let split = c.in-Some.ensures.owner.split in
    let count = counted (left_of c.args.records.now) entered.done (left_of c.loop-owner.rest) c.in-Some.owner.records.now (left_of c.next.new.self) entered.split split in
    let start : length c.as_slice.result.now - length c.as_slice-then-is_open.result.now - length c.in-Some.owner.records.now ≡ length entered.done =
    omega (arith, count, ap length c.as_slice.ensures, ap length c.as_slice-then-is_open.ensures) in
    record {
      entered = rw (c.last_cut-cut.ensures, pushed, cut_after c.loop-owner.has_cut c.cuts-is_cut.result c.in-Some.owner.name.now c.loop-owner.cut.now, c.cuts-is_cut.ensures)
          (step_added (place c.args.apex.now) (left_of c.args.records.now) (left_of c.loop-owner.rest) (cut_place c.loop-owner.has_cut c.loop-owner.cut.now) (map inside_view c.loop-owner.all.items)
          c.in-Some.owner.name.now c.in-Some.owner.records.now (left_of c.next.new.self) c.loop-owner.invariant.entered c.requires c.in-Some.ensures.owner so);
      placed = rw (c.in_ok-push.ensures.items) (All-push (IsPlaced (left_of c.args.records.now)) c.loop-owner.all.items _ c.loop-owner.invariant.placed
          (placed (left_of c.args.records.now) entered.done (left_of c.loop-owner.rest) (left_of c.next.new.self) _ entered.split split start));
      some = rw (c.in_ok-push.ensures.items)
          (All-push HasRecords c.loop-owner.all.items _ c.loop-owner.invariant.some (λ none. omega (arith, ap length (sym c.in-Some.ensures.owner.head ∙ none))));
    }
