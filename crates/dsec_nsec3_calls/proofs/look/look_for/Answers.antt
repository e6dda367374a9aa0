use Rattle.std.proofs.Common.{drop, sym, ap, ◌∙◌, arith}
use Rattle.dsec_spec.specs.Names.{place}
use Rattle.dsec_nsec3_calls.specs.Looks.{glance_left, top_of}
use Rattle.dsec_nsec3_calls.specs.Sources.{limits_view, seen_view}
use Rattle.dsec_nsec3_calls.proofs.LoopLaws.{none_left, look_none}
use Rattle.dsec_nsec3_calls.proofs.StepLaws.{look_ends, look_goes}
use Rattle.dsec_nsec3_calls.proofs.look.look_for.Goals as goal

pub returns-in-Ends-clause-look : goal.returns-in-Ends-clause-look
returns-in-Ends-clause-look g c = λ n e z.
    let source = c.args.source.now in
    let top = top_of c.args.asked.now.is_top (place source.signer.now) in
    look_ends (limits_view source) source.groups.now source.class source.signer.now c.loop-index.index c.index-source-index.result c.loop-index-test.true c.index-source-index.is
    top n c.loop-index.left c.by_group.result (λ later. c.by_group.ensures.look n later e z) c.in-Ends.look c.in-Ends.after c.in-Ends.is
    ∙ sym (c.loop-index.invariant.0 n e z)

pub loop-index-preserved : goal.loop-index-preserved
loop-index-preserved g c =
    let source = c.args.source.now in
    let top = top_of c.args.asked.now.is_top (place source.signer.now) in (
      λ n e z.
          c.loop-index.invariant.0 n e z
          ∙ look_goes (limits_view source) source.groups.now source.class source.signer.now c.loop-index.index c.index-source-index.result c.loop-index-test.true c.index-source-index.is
          top n c.loop-index.left c.by_group.result (λ later. c.by_group.ensures.look n later e z) c.in-Past.after c.in-Past.is,
      (let fewer = c.by_group.ensures.fewer in let past = ap glance_left c.in-Past.is in omega (arith, c.loop-index.invariant.1, fewer, past)),
    )

pub returns-clause-look : goal.returns-clause-look
returns-clause-look g c = λ n e z.
    let source = c.args.source.now in
    let top = top_of c.args.asked.now.is_top (place source.signer.now) in
    sym (c.loop-index.invariant.0 n e z ∙ look_none top n c.loop-index.index c.loop-index.left (drop c.loop-index.index (seen_view source))
    (none_left (limits_view source) source.groups.now source.class source.signer.now c.loop-index.index (omega (arith, c.loop-index-test.false))))
