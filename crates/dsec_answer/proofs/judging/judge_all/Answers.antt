use Rattle.std.proofs.Common.{◌+◌, ◌++◌, ◌∷◌, [], length, ap, take, drop, arith, rules, sym, subst, inl, refl, ◌∙◌, append-nil}
use Rattle.std.specs.Io.KnownBytes.{Appends}
use Rattle.std.proofs.lemmas.List.{take_all, take-append-drop, length_push}
use Rattle.std.proofs.lemmas.Result.{err_from_is_err_and}
use Rattle.std.proofs.lemmas.Iterator.Consumers.{YieldsList-end, YieldsList-turn}
use Rattle.std.proofs.lemmas.Iterator.Adapters.{YieldsList-from_vec}
use Rattle.dsec_spec.specs.Outside.{SentFront}
use Rattle.dsec_outside.proofs.Pieces.{front_of}
use Rattle.dsec_node.specs.Caches.{held_in}
use Rattle.dsec_context.specs.Outside.{replies_of}
use Rattle.dsec_answer.specs.Outcomes.{world_of_script}
use Rattle.dsec_answer.proofs.OutcomeLaws.{none_held}
use Rattle.dsec_answer.proofs.SendingLaws.{so_far_none, so_far_next, so_far_sent, so_far_front, so_far_front_more, so_far_short, so_far_whole}
use Rattle.dsec_answer.proofs.ShortLaws.{joined, short_here, short_next}
use Rattle.dsec_answer.proofs.judging.judge_all.Goals as goal

pub loop-item-init : goal.loop-item-init
loop-item-init g c = (
  refl,
  refl,
  refl,
  refl,
  refl,
  none_held (world_of_script g.V.Verifier.accepts c.args.context.now.anchors 0) (replies_of c.args.upstream.now.replies) c.args.context.now.nodes c.requires.fresh,
  so_far_none g.V.Verifier.accepts c.args.context.now.anchors c.args.upstream.now.replies c.args.context.now.nodes (g.K.Sink.written c.args.sink.now) c.new-gathered.result.items
      c.requires.fresh c.new-gathered.ensures.items,
  (λ ne. absurd (ne refl), inl refl),
)

pub returns-in_err-outcome-clause-front : goal.returns-in_err-outcome-clause-front
returns-in_err-outcome-clause-front g c =
    let items = c.args.items.items in
    let n = length c.loop-item.yielded in
    so_far_front g.V.Verifier.accepts c.args.context.now.anchors c.args.upstream.now.replies (take n items) (drop n items) items _ _ _ _ _ (take-append-drop n items) c.loop-item.invariant.6

pub returns-in_err-send_outcome-clause-front : goal.returns-in_err-send_outcome-clause-front
returns-in_err-send_outcome-clause-front g c =
    let inv = c.loop-item.invariant in
    let items = c.args.items.items in
    let item = c.in-Some.item in
    let table = c.args.upstream.now.replies in
    let yielded = c.loop-item.yielded in
    let road = YieldsList-from_vec {s = c.into_iter-item-iterator.result} items (search rules) (search rules) in
    let turn = YieldsList-turn road yielded c.loop-item.item-iterator c.loop-item.yielded_by c.next.result c.next.new.self item c.in-Some.is c.next.ensures.steps in
    let more = so_far_next g.V.Verifier.accepts c.args.context.now.anchors table items yielded item c.loop-item.moment (held_in c.loop-item.context.nodes) (held_in c.judge_next.new.context.nodes)
    (g.K.Sink.written c.args.sink.now) (g.K.Sink.written c.loop-item.sink) c.loop-item.gathered.items c.loop-item.index c.in_ok-outcome.outcome
    turn.0 turn.1 inv.1 inv.6 (rw (sym inv.2, sym inv.4) c.in_ok-outcome.ensures.outcome) in
    so_far_front_more g.V.Verifier.accepts c.args.context.now.anchors table (take (length (yielded ++ item ∷ [])) items) (drop (length (yielded ++ item ∷ [])) items) items _ _ _ _ _ _ (take-append-drop (length (yielded ++ item ∷ [])) items) more c.in_err-send_outcome.ensures.front

pub loop-item-preserved : goal.loop-item-preserved
loop-item-preserved g c =
    let inv = c.loop-item.invariant in
    let items = c.args.items.items in
    let item = c.in-Some.item in
    let table = c.args.upstream.now.replies in
    let yielded = c.loop-item.yielded in
    let road = YieldsList-from_vec {s = c.into_iter-item-iterator.result} items (search rules) (search rules) in
    let turn = YieldsList-turn road yielded c.loop-item.item-iterator c.loop-item.yielded_by c.next.result c.next.new.self item c.in-Some.is c.next.ensures.steps in
    let more = so_far_next g.V.Verifier.accepts c.args.context.now.anchors table items yielded item c.loop-item.moment (held_in c.loop-item.context.nodes) (held_in c.judge_next.new.context.nodes)
    (g.K.Sink.written c.args.sink.now) (g.K.Sink.written c.loop-item.sink) c.loop-item.gathered.items c.loop-item.index c.in_ok-outcome.outcome
    turn.0 turn.1 inv.1 inv.6 (rw (sym inv.2, sym inv.4) c.in_ok-outcome.ensures.outcome) in (
      c.in_ok-send_outcome.ensures.counts ∙ inv.0,
      ap (λ n. n + 1) inv.1 ∙ sym (length_push yielded item),
      c.judge_next.ensures.same_anchors ∙ inv.2,
      c.judge_next.ensures.same_config ∙ inv.3,
      c.judge_next.ensures.same_table ∙ inv.4,
      rw (sym inv.2, sym inv.4) c.judge_next.ensures.holds,
      so_far_sent g.V.Verifier.accepts c.args.context.now.anchors table (take (length (yielded ++ item ∷ [])) items) _ _ _ _ _ _ _ more c.in_ok-send_outcome.ensures.sent,
      joined _ _ _ _ _ _ inv.7 c.in_ok-send_outcome.ensures.back,
    )

pub returns-in_err-send-clause-front : goal.returns-in_err-send-clause-front
returns-in_err-send-clause-front g c =
    let items = c.args.items.items in
    let n = length c.loop-item.yielded in
    let front : SentFront (g.K.Sink.written c.loop-item.sink) (g.K.Sink.written c.send.new.sink) c.loop-item.gathered.items =
    subst (SentFront (g.K.Sink.written c.loop-item.sink) (g.K.Sink.written c.send.new.sink)) c.deref.ensures.value c.in_err-send.ensures.front in
    so_far_front_more g.V.Verifier.accepts c.args.context.now.anchors c.args.upstream.now.replies (take n items) (drop n items) items _ _ _ _ _ _ (take-append-drop n items) c.loop-item.invariant.6 front

pub returns-clause-sent : goal.returns-clause-sent
returns-clause-sent g c =
    let items = c.args.items.items in
    let n = length c.loop-item.yielded in
    let last = YieldsList-end (YieldsList-from_vec {s = c.into_iter-item-iterator.result} items (search rules) (search rules)) c.loop-item.yielded c.loop-item.item-iterator c.loop-item.yielded_by c.next.result c.next.new.self c.in-None.is c.next.ensures.steps in
    let sent : Appends (g.K.Sink.written c.loop-item.sink) (g.K.Sink.written c.send.new.sink) c.loop-item.gathered.items =
    subst (Appends (g.K.Sink.written c.loop-item.sink) (g.K.Sink.written c.send.new.sink)) c.deref.ensures.value c.in_ok-send.ensures.sent in
    so_far_whole g.V.Verifier.accepts c.args.context.now.anchors c.args.upstream.now.replies (take n items) items _ _ _ _ _ _ (take_all n items (omega (arith, last.1))) c.loop-item.invariant.6 sent

pub returns-clause-front : goal.returns-clause-front
returns-clause-front g c =
    let whole = returns-clause-sent g c in
    (whole.0, whole.1, front_of (g.K.Sink.written c.args.sink.now) (g.K.Sink.written c.send.new.sink) whole.0 whole.0 [] (sym (append-nil whole.0)) whole.2)

pub returns-in_err-outcome-clause-memory : goal.returns-in_err-outcome-clause-memory
returns-in_err-outcome-clause-memory g c = λ wanted.
    let items = c.args.items.items in
    let n = length c.loop-item.yielded in
    let inv = c.loop-item.invariant in
    so_far_short g.V.Verifier.accepts c.args.context.now.anchors c.args.upstream.now.replies (take n items) (drop n items) items _ _ _ _ _ _ (take-append-drop n items) inv.6
    (short_here _ _ _ c.loop-item.gathered.items inv.7.1 inv.6.sent)

pub returns-in_err-send_outcome-clause-memory : goal.returns-in_err-send_outcome-clause-memory
returns-in_err-send_outcome-clause-memory g c =
    let p = err_from_is_err_and c.from_residual-in_err-send_outcome.result c.from_residual-in_err-send_outcome.ensures.1 in
    let inv = c.loop-item.invariant in
    let items = c.args.items.items in
    let item = c.in-Some.item in
    let table = c.args.upstream.now.replies in
    let yielded = c.loop-item.yielded in
    let road = YieldsList-from_vec {s = c.into_iter-item-iterator.result} items (search rules) (search rules) in
    let turn = YieldsList-turn road yielded c.loop-item.item-iterator c.loop-item.yielded_by c.next.result c.next.new.self item c.in-Some.is c.next.ensures.steps in
    let more = so_far_next g.V.Verifier.accepts c.args.context.now.anchors table items yielded item c.loop-item.moment (held_in c.loop-item.context.nodes) (held_in c.judge_next.new.context.nodes)
    (g.K.Sink.written c.args.sink.now) (g.K.Sink.written c.loop-item.sink) c.loop-item.gathered.items c.loop-item.index c.in_ok-outcome.outcome
    turn.0 turn.1 inv.1 inv.6 (rw (sym inv.2, sym inv.4) c.in_ok-outcome.ensures.outcome) in
    rw (p.1, p.2)
    (λ wanted. so_far_short g.V.Verifier.accepts c.args.context.now.anchors table (take (length (yielded ++ item ∷ [])) items) (drop (length (yielded ++ item ∷ [])) items) items _ _ _ _ _ _ (take-append-drop (length (yielded ++ item ∷ [])) items) more
    (short_next _ _ _ _ c.loop-item.gathered.items _ inv.7.1 more.sent (c.in_err-send_outcome.ensures.memory wanted)))

pub returns-in_err-send-clause-memory : goal.returns-in_err-send-clause-memory
returns-in_err-send-clause-memory g c =
    let p = err_from_is_err_and c.from_residual-in_err-send.result c.from_residual-in_err-send.ensures.1 in
    rw (p.1, p.2) (λ wanted. absurd (c.in_err-send.ensures.only wanted))
