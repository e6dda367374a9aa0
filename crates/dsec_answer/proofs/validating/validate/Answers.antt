use Rattle.dsec_answer.proofs.Top.{run_of, within}
use Rattle.dsec_answer.proofs.validating.validate.Goals as goal

pub returns-in-Ok-clause-run : goal.returns-in-Ok-clause-run
returns-in-Ok-clause-run g c =
    run_of g.V.Verifier.accepts _ (g.S.Source.left c.args.source.now) (g.S.Source.left c.read_all.new.source) (g.K.Sink.written c.args.sink.now) (g.K.Sink.written c.answer.new.sink) c.in-Ok.content.items
    c.in-Ok.ensures.taken c.in-Ok.ensures.whole c.answer.ensures.done c.answer.ensures.refused c.answer.ensures.memory c.answer.ensures.front c.answer.ensures.statuses

pub returns-in-Ok-clause-finished : goal.returns-in-Ok-clause-finished
returns-in-Ok-clause-finished g c = λ s.
    let a = c.answer.ensures.done s in
    c.in-Ok.ensures.end (within c.in-Ok.content.items a.script a.reads)
