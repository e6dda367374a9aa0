use Rattle.std.proofs.Common.{◌++◌, ◌+◌, drop, ◌∙◌}
use Rattle.std.specs.List.{flat_map}
use Rattle.dsec_outside.specs.Sending.{SentBut}
use Rattle.dsec_answer.specs.Texts.{group_lines}
use Rattle.dsec_answer.proofs.PieceLaws.{groups_here, left_front, left_now, made_next, then_sent}
use Rattle.dsec_answer.proofs.ShortLaws.{joined, pushed, short_now}
use Rattle.dsec_answer.proofs.sending.send_groups.Goals as goal

pub returns-in_err-push_group-clause-front : goal.returns-in_err-push_group-clause-front
returns-in_err-push_group-clause-front g c = left_now _ _ _ _ c.loop-place.invariant.1

pub returns-in_err-send_front-clause-front : goal.returns-in_err-send_front-clause-front
returns-in_err-send_front-clause-front g c =
    let judged = c.args.judged.now in
    let place = c.loop-place.place in
    let more = flat_map (λ j. group_lines c.args.index j) (drop (place + 1) judged) in
    let made : SentBut (g.K.Sink.written c.args.sink.now) (g.K.Sink.written c.loop-place.sink) (c.args.gathered.now.items ++ flat_map (λ j. group_lines c.args.index j) judged) (c.push_group.new.out.items ++ more) =
    made_next _ _ _ c.loop-place.gathered.items c.push_group.new.out.items (group_lines c.args.index c.index-judged-place.result) more _ c.loop-place.invariant.1
    (groups_here c.args.index judged place c.index-judged-place.result c.loop-place-test.true c.index-judged-place.is) c.in_ok-push_group.ensures in
    left_front _ _ _ _ c.push_group.new.out.items more made c.in_err-send_front.ensures.front

pub loop-place-preserved : goal.loop-place-preserved
loop-place-preserved g c =
    let judged = c.args.judged.now in
    let place = c.loop-place.place in
    let more = flat_map (λ j. group_lines c.args.index j) (drop (place + 1) judged) in
    let made : SentBut (g.K.Sink.written c.args.sink.now) (g.K.Sink.written c.loop-place.sink) (c.args.gathered.now.items ++ flat_map (λ j. group_lines c.args.index j) judged) (c.push_group.new.out.items ++ more) =
    made_next _ _ _ c.loop-place.gathered.items c.push_group.new.out.items (group_lines c.args.index c.index-judged-place.result) more _ c.loop-place.invariant.1
    (groups_here c.args.index judged place c.index-judged-place.result c.loop-place-test.true c.index-judged-place.is) c.in_ok-push_group.ensures in (
      c.in_ok-send_front.ensures.counts ∙ c.loop-place.invariant.0,
      then_sent _ _ _ _ c.push_group.new.out.items c.send_front.new.gathered.items more made c.in_ok-send_front.ensures.sent,
      joined _ _ _ _ _ _ c.loop-place.invariant.2 (joined _ _ _ _ _ _ (pushed _ _ _ _ c.in_ok-push_group.ensures) c.in_ok-send_front.ensures.back),
    )

pub returns-clause-front : goal.returns-clause-front
returns-clause-front g c = left_now _ _ _ _ c.loop-place.invariant.1

pub returns-in_err-push_group-clause-memory : goal.returns-in_err-push_group-clause-memory
returns-in_err-push_group-clause-memory g c = λ wanted. short_now _ _ _ c.loop-place.gathered.items _ c.loop-place.invariant.2.1 c.loop-place.invariant.1

pub returns-clause-back : goal.returns-clause-back
returns-clause-back g c = c.loop-place.invariant.2
