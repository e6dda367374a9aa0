use Rattle.std.proofs.Common.{[], ◌++◌, ◌+◌, ◌∙◌, append-nil, sym, subst}
use Rattle.std.specs.Io.KnownBytes.{Appends}
use Rattle.std.proofs.lemmas.List.{take_all}
use Rattle.dsec_spec.specs.Outside.{SentFront}
use Rattle.dsec_outside.specs.Sending.{SentBut}
use Rattle.dsec_outside.proofs.Pieces.{but_front, but_front_more, front_of, more_gathered, more_went, rest_went}
use Rattle.dsec_record_text.specs.RecordText.{record_line, records_text}
use Rattle.dsec_record_text.proofs.SentLines.{first_lines, line_left, one_more, part_of}
use Rattle.dsec_record_text.proofs.sending.send_records.Goals as goal

pub returns-in_err-lines-clause-front : goal.returns-in_err-lines-clause-front
returns-in_err-lines-clause-front g c =
    but_front _ _ _ _ _ _ (first_lines c.args.records.now c.loop-it.it-index) c.loop-it.invariant.1

pub returns-in_err-lines-clause-memory : goal.returns-in_err-lines-clause-memory
returns-in_err-lines-clause-memory g c h =
    part_of _ _ _ _ _ _ (first_lines c.args.records.now c.loop-it.it-index) c.loop-it.invariant.1 (line_left c.args.records.now c.loop-it.it-index c.loop-it-test.true)

pub returns-in_err-send_block-clause-front : goal.returns-in_err-send_block-clause-front
returns-in_err-send_block-clause-front g c =
    let it = c.it-item.result in
    let line = sym (one_more c.args.records.now c.loop-it.it-index it c.loop-it-test.true c.it-item.is) in
    let front : SentFront (g.K.Sink.written c.loop-it.sink) (g.K.Sink.written c.send_block.new.sink) (c.loop-it.gathered.items ++ record_line it) =
    subst (SentFront (g.K.Sink.written c.loop-it.sink) (g.K.Sink.written c.send_block.new.sink)) c.in_ok-lines.ensures c.in_err-send_block.ensures.front in
    but_front_more _ _ _ _ _ _ _ (first_lines c.args.records.now (c.loop-it.it-index + 1))
    (subst (λ t. SentBut (g.K.Sink.written c.args.sink.now) (g.K.Sink.written c.loop-it.sink) t (c.loop-it.gathered.items ++ record_line it)) line
    (more_gathered _ _ _ _ (record_line it) c.loop-it.invariant.1))
    front

pub loop-it-preserved : goal.loop-it-preserved
loop-it-preserved g c =
    let it = c.it-item.result in
    let line = sym (one_more c.args.records.now c.loop-it.it-index it c.loop-it-test.true c.it-item.is) in
    let left = c.send_block.new.gathered.items in
    let sent : SentBut (g.K.Sink.written c.loop-it.sink) (g.K.Sink.written c.send_block.new.sink) (c.loop-it.gathered.items ++ record_line it) left =
    subst (λ t. SentBut (g.K.Sink.written c.loop-it.sink) (g.K.Sink.written c.send_block.new.sink) t left) c.in_ok-lines.ensures c.in_ok-send_block.ensures.sent in (
      c.in_ok-send_block.ensures.counts ∙ c.loop-it.invariant.0,
      subst (λ t. SentBut (g.K.Sink.written c.args.sink.now) (g.K.Sink.written c.send_block.new.sink) t left) line
          (more_went _ _ _ _ _ _ (more_gathered _ _ _ _ (record_line it) c.loop-it.invariant.1) sent),
      c.in_ok-lines.lines.shown,
    )

pub returns-in_err-send-clause-front : goal.returns-in_err-send-clause-front
returns-in_err-send-clause-front g c =
    let front : SentFront (g.K.Sink.written c.loop-it.sink) (g.K.Sink.written c.send.new.sink) c.loop-it.gathered.items =
    subst (SentFront (g.K.Sink.written c.loop-it.sink) (g.K.Sink.written c.send.new.sink)) c.deref.ensures.value c.in_err-send.ensures.front in
    but_front_more _ _ _ _ _ _ _ (first_lines c.args.records.now c.loop-it.it-index) c.loop-it.invariant.1 front

pub returns-clause-sent : goal.returns-clause-sent
returns-clause-sent g c =
    let sent : Appends (g.K.Sink.written c.loop-it.sink) (g.K.Sink.written c.send.new.sink) c.loop-it.gathered.items =
    subst (Appends (g.K.Sink.written c.loop-it.sink) (g.K.Sink.written c.send.new.sink)) c.deref.ensures.value c.in_ok-send.ensures.sent in
    subst (λ records. Appends (g.K.Sink.written c.args.sink.now) (g.K.Sink.written c.send.new.sink) (records_text records)) (take_all c.loop-it.it-index c.args.records.now c.loop-it-test.false)
    (rest_went _ _ _ _ _ c.loop-it.invariant.1 sent)

pub returns-clause-front : goal.returns-clause-front
returns-clause-front g c = front_of _ _ _ _ [] (sym (append-nil _)) (returns-clause-sent g c)

pub invariant_of-lines : goal.invariant_of-lines
invariant_of-lines g c = record { shown = c.loop-it.invariant.2 }
