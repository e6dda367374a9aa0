use Rattle.std.proofs.Common.{◌++◌, List, ℕ, subst, sym, ap}
use Rattle.std.proofs.lemmas.Result.{on_ok_weaker}
use Rattle.dsec_outside.specs.Sending.{SentBut}
use Rattle.dsec_outside.proofs.Pieces.{more_went}
use Rattle.dsec_answer.specs.Sending.{NotAll}
use Rattle.dsec_answer.specs.Texts.{head_text, outcome_text, rest_text}
use Rattle.dsec_answer.proofs.PieceLaws.{all_made, head_made, left_front, left_now, rest_front, then_sent}
use Rattle.dsec_answer.proofs.ShortLaws.{joined, pushed, short_next}
use Rattle.dsec_answer.proofs.sending.send_text.Goals as goal

pub returns-in_err-send_front-clause-front : goal.returns-in_err-send_front-clause-front
returns-in_err-send_front-clause-front g c =
    left_front _ _ _ _ c.push_head.new.out.items _
    (head_made (g.K.Sink.written c.args.sink.now) c.args.gathered.now.items c.push_head.new.out.items c.args.index c.args.outcome.now c.in_ok-push_head.ensures)
    c.in_err-send_front.ensures.front

pub returns-in-Some-clause-sent : goal.returns-in-Some-clause-sent
returns-in-Some-clause-sent g c =
    let a = g.K.Sink.written c.args.sink.now in
    let whole = c.args.gathered.now.items ++ outcome_text c.args.index c.args.outcome.now in
    let sent = then_sent a a (g.K.Sink.written c.send_front.new.sink) whole c.push_head.new.out.items c.send_front.new.gathered.items _
    (head_made a c.args.gathered.now.items c.push_head.new.out.items c.args.index c.args.outcome.now c.in_ok-push_head.ensures) c.in_ok-send_front.ensures.sent in
    let left = subst (SentBut a (g.K.Sink.written c.send_front.new.sink) whole) (ap (λ (t : List ℕ). c.send_front.new.gathered.items ++ t) (c.in-Some.ensures.some c.args.index)) sent in
    on_ok_weaker c.send_shown.result (more_went _ _ _ whole _ _ left) c.send_shown.ensures.sent

pub returns-in-Some-clause-front : goal.returns-in-Some-clause-front
returns-in-Some-clause-front g c =
    let a = g.K.Sink.written c.args.sink.now in
    let whole = c.args.gathered.now.items ++ outcome_text c.args.index c.args.outcome.now in
    let sent = then_sent a a (g.K.Sink.written c.send_front.new.sink) whole c.push_head.new.out.items c.send_front.new.gathered.items _
    (head_made a c.args.gathered.now.items c.push_head.new.out.items c.args.index c.args.outcome.now c.in_ok-push_head.ensures) c.in_ok-send_front.ensures.sent in
    let left = subst (SentBut a (g.K.Sink.written c.send_front.new.sink) whole) (ap (λ (t : List ℕ). c.send_front.new.gathered.items ++ t) (c.in-Some.ensures.some c.args.index)) sent in
    rest_front _ _ _ whole _ left c.send_shown.ensures.front

pub returns-in-None-clause-sent : goal.returns-in-None-clause-sent
returns-in-None-clause-sent g c =
    all_made _ _ _ c.send_front.new.gathered.items (rest_text c.args.index c.args.outcome.now)
    (then_sent _ _ _ _ c.push_head.new.out.items c.send_front.new.gathered.items _
    (head_made (g.K.Sink.written c.args.sink.now) c.args.gathered.now.items c.push_head.new.out.items c.args.index c.args.outcome.now c.in_ok-push_head.ensures) c.in_ok-send_front.ensures.sent)
    (c.in-None.ensures.none c.args.index)

pub returns-in-None-clause-front : goal.returns-in-None-clause-front
returns-in-None-clause-front g c =
    left_now _ _ _ _
    (then_sent _ _ _ _ c.push_head.new.out.items c.send_front.new.gathered.items _
    (head_made (g.K.Sink.written c.args.sink.now) c.args.gathered.now.items c.push_head.new.out.items c.args.index c.args.outcome.now c.in_ok-push_head.ensures) c.in_ok-send_front.ensures.sent)

pub returns-in-Some-clause-memory : goal.returns-in-Some-clause-memory
returns-in-Some-clause-memory g c = λ wanted.
    let a = g.K.Sink.written c.args.sink.now in
    let b = g.K.Sink.written c.send_front.new.sink in
    let last = g.K.Sink.written c.send_shown.new.sink in
    let gathered = c.send_front.new.gathered.items in
    let rest = rest_text c.args.index c.args.outcome.now in
    let whole = c.args.gathered.now.items ++ outcome_text c.args.index c.args.outcome.now in
    let sent = then_sent a a b whole c.push_head.new.out.items gathered rest
    (head_made a c.args.gathered.now.items c.push_head.new.out.items c.args.index c.args.outcome.now c.in_ok-push_head.ensures) c.in_ok-send_front.ensures.sent in
    let short = subst (λ (t : List ℕ). NotAll b last (gathered ++ t)) (sym (c.in-Some.ensures.some c.args.index)) (c.send_shown.ensures.memory wanted) in
    let back = joined a a b c.args.gathered.now.items c.push_head.new.out.items gathered
    (pushed a c.args.gathered.now.items (head_text c.args.index c.args.outcome.now) c.push_head.new.out.items c.in_ok-push_head.ensures) c.in_ok-send_front.ensures.back in
    short_next a b last whole gathered rest back.1 sent short

pub returns-in-Some-clause-back : goal.returns-in-Some-clause-back
returns-in-Some-clause-back g c =
    on_ok_weaker c.send_shown.result (joined _ _ _ _ _ _ (joined _ _ _ _ _ _ (pushed _ _ _ _ c.in_ok-push_head.ensures) c.in_ok-send_front.ensures.back)) c.send_shown.ensures.back

pub returns-in-None-clause-back : goal.returns-in-None-clause-back
returns-in-None-clause-back g c = joined _ _ _ _ _ _ (pushed _ _ _ _ c.in_ok-push_head.ensures) c.in_ok-send_front.ensures.back
