use Rattle.dsec_signing.proofs.RunLemmas.{run_of, within}
use Rattle.dsec_signing.proofs.command.sign.Goals as goal

pub returns-in-Ok-clause-run : goal.returns-in-Ok-clause-run
returns-in-Ok-clause-run g c =
    run_of c.args.words _ (g.S.Source.left c.args.source.now) (g.S.Source.left c.read_all.new.source) (g.K.Sink.written c.args.sink.now) (g.K.Sink.written c.sign_content.new.sink) c.in-Ok.content.items
    c.in-Ok.ensures.taken c.in-Ok.ensures.whole c.sign_content.ensures.done c.sign_content.ensures.refused c.sign_content.ensures.unsigned c.sign_content.ensures.memory c.sign_content.ensures.front c.sign_content.ensures.statuses

pub returns-in-Ok-clause-finished : goal.returns-in-Ok-clause-finished
returns-in-Ok-clause-finished g c = λ s.
    let h = c.sign_content.ensures.done s in
    c.in-Ok.ensures.end (within c.in-Ok.content.items h.source h.reads)

pub returns-in-Ok-clause-all_read : goal.returns-in-Ok-clause-all_read
returns-in-Ok-clause-all_read g c = λ s.
    let h = c.sign_content.ensures.unsigned s in
    c.in-Ok.ensures.end (within c.in-Ok.content.items h.source h.reads)
