use Rattle.std.proofs.Common.{◌≡◌, ◌+◌, ◌≤◌, drop, sym, subst, arith}
use Rattle.std.specs.Prelude.{unwrap_or}
use Rattle.dsec_nodes.specs.Admission.{cause_among, matching_by}
use Rattle.dsec_child.specs.Tries.{IsWayTry, TryLeaves}
use Rattle.dsec_child.specs.Ways.{ways_trial}
use Rattle.dsec_child.proofs.WaySteps.{way_bad, way_good, next_cause, stands_at, was_left}
use Rattle.dsec_child.proofs.tries.try_ways.Goals as goal

pub returns-in-Good-clause-tries : goal.returns-in-Good-clause-tries
returns-in-Good-clause-tries g c =
    let accepts = g.V.Verifier.accepts in
    let group = c.args.group.now in
    let search = g.W.Way.picks c.args.most group in
    let way = c.index-ways-index.result in
    let h = subst (IsWayTry accepts group c.args.bad c.args.t c.loop-index.left way (search way)) c.in-Good.is c.in_ok-signature.ensures.tries in (
      way,
      stands_at c.args.ways.now c.loop-index.index way c.loop-index-test.true c.index-ways-index.is,
      record {
        pair = h.pair;
        is_found = way_good accepts group c.args.t search (ways_trial accepts group c.args.t c.args.room search c.args.ways.now) c.args.ways.now c.loop-index.index c.loop-index.left way c.loop-index-test.true c.index-ways-index.is
            h.pair h.is_found c.loop-index.invariant.0;
        is_pair = h.is_pair;
      },
    )

pub loop-index-preserved : goal.loop-index-preserved
loop-index-preserved g c =
    let accepts = g.V.Verifier.accepts in
    let group = c.args.group.now in
    let search = g.W.Way.picks c.args.most group in
    let way = c.index-ways-index.result in
    let bad = subst (IsWayTry accepts group c.args.bad c.args.t c.loop-index.left way (search way)) c.in-Left.is c.in_ok-signature.ensures.tries in
    let spent = subst (λ x. TryLeaves x (λ more. c.try_way.new.steps + more ≤ c.loop-index.steps + c.loop-index.left)) c.in-Left.is c.in_ok-signature.ensures.spent in (
      way_bad accepts group c.args.t search (ways_trial accepts group c.args.t c.args.room search c.args.ways.now) c.args.ways.now c.loop-index.index c.loop-index.left way c.loop-index-test.true c.index-ways-index.is
          c.in-Left.more bad.0 c.loop-index.invariant.0,
      omega (arith, spent, c.loop-index.invariant.1),
      λ some. subst (λ o. cause_among c.args.bad group search c.args.ways.now ≡ unwrap_or o (cause_among c.args.bad group search (drop (c.loop-index.index + 1) c.args.ways.now))) (sym c.earlier-cause.ensures)
          (next_cause c.args.bad group search (cause_among c.args.bad group search c.args.ways.now) c.args.ways.now c.loop-index.index way c.loop-index.cause c.in-Left.next c.loop-index-test.true c.index-ways-index.is (bad.1 some)
          (c.loop-index.invariant.2 (was_left accepts group c.args.t c.loop-index.left c.in-Left.more (matching_by group search way) bad.0 some))),
    )
