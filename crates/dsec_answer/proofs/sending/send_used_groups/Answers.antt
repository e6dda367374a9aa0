use Rattle.std.proofs.Common.{[], ◌++◌, ◌+◌, drop, take, ◌∙◌}
use Rattle.dsec_outside.specs.Sending.{SentBut}
use Rattle.dsec_answer.specs.Texts.{first_lines, used_groups_lines}
use Rattle.dsec_answer.proofs.PieceLaws.{all_made, left_front, left_now, made_next, then_sent, used_end}
use Rattle.dsec_answer.proofs.UsedLines.{used_here}
use Rattle.dsec_answer.proofs.ShortLaws.{joined, pushed, short_now}
use Rattle.dsec_answer.proofs.sending.send_used_groups.Goals as goal

pub returns-in_err-push_first-clause-front : goal.returns-in_err-push_first-clause-front
returns-in_err-push_first-clause-front g c = left_now _ _ _ _ c.loop-place.invariant.1

pub returns-in_err-send_front-clause-front : goal.returns-in_err-send_front-clause-front
returns-in_err-send_front-clause-front g c =
    let used = c.args.used.now in
    let place = c.loop-place.place in
    let more = used_groups_lines c.args.index (take (place + 1) used) (drop (place + 1) used) in
    let made : SentBut (g.K.Sink.written c.args.sink.now) (g.K.Sink.written c.loop-place.sink) (c.args.gathered.now.items ++ used_groups_lines c.args.index [] used) (c.push_first.new.out.items ++ more) =
    made_next _ _ _ c.loop-place.gathered.items c.push_first.new.out.items (first_lines c.args.index (take place used) c.index-used-place.result) more _ c.loop-place.invariant.1
    (used_here c.args.index used place c.index-used-place.result c.loop-place-test.true c.index-used-place.is) c.in_ok-push_first.ensures in
    left_front _ _ _ _ c.push_first.new.out.items more made c.in_err-send_front.ensures.front

pub loop-place-preserved : goal.loop-place-preserved
loop-place-preserved g c =
    let used = c.args.used.now in
    let place = c.loop-place.place in
    let more = used_groups_lines c.args.index (take (place + 1) used) (drop (place + 1) used) in
    let made : SentBut (g.K.Sink.written c.args.sink.now) (g.K.Sink.written c.loop-place.sink) (c.args.gathered.now.items ++ used_groups_lines c.args.index [] used) (c.push_first.new.out.items ++ more) =
    made_next _ _ _ c.loop-place.gathered.items c.push_first.new.out.items (first_lines c.args.index (take place used) c.index-used-place.result) more _ c.loop-place.invariant.1
    (used_here c.args.index used place c.index-used-place.result c.loop-place-test.true c.index-used-place.is) c.in_ok-push_first.ensures in (
      c.in_ok-send_front.ensures.counts ∙ c.loop-place.invariant.0,
      then_sent _ _ _ _ c.push_first.new.out.items c.send_front.new.gathered.items more made c.in_ok-send_front.ensures.sent,
      joined _ _ _ _ _ _ c.loop-place.invariant.2 (joined _ _ _ _ _ _ (pushed _ _ _ _ c.in_ok-push_first.ensures) c.in_ok-send_front.ensures.back),
    )

pub returns-clause-sent : goal.returns-clause-sent
returns-clause-sent g c = all_made _ _ _ c.loop-place.gathered.items _ c.loop-place.invariant.1 (used_end c.args.index c.args.used.now c.loop-place.place c.loop-place-test.false)

pub returns-clause-front : goal.returns-clause-front
returns-clause-front g c = left_now _ _ _ _ c.loop-place.invariant.1

pub returns-in_err-push_first-clause-memory : goal.returns-in_err-push_first-clause-memory
returns-in_err-push_first-clause-memory g c = λ wanted. short_now _ _ _ c.loop-place.gathered.items _ c.loop-place.invariant.2.1 c.loop-place.invariant.1

pub returns-clause-back : goal.returns-clause-back
returns-clause-back g c = c.loop-place.invariant.2
