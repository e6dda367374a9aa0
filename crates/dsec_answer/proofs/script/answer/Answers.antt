use Rattle.dsec_script.specs.Script.{script_of}
use Rattle.dsec_answer.specs.Headline.{answer, refused}
use Rattle.dsec_signing.proofs.RunLemmas.{memory_at_six}
use Rattle.dsec_answer.proofs.Top.{part_of, refused_reads}
use Rattle.dsec_answer.proofs.script.answer.Goals as goal

pub returns-in-Ok-judge_script-clause-done : goal.returns-in-Ok-judge_script-clause-done
returns-in-Ok-judge_script-clause-done g c = λ s.
    let told = c.in-Ok-judge_script.ensures.sent in
    record { script = c.in-Ok.script; reads = c.in-Ok.ensures; text = told.0; answer = told.1; sent = told.2 }

pub returns-in-Ok-judge_script-clause-front : goal.returns-in-Ok-judge_script-clause-front
returns-in-Ok-judge_script-clause-front g c =
    let told = c.judge_script.ensures.front in
    answer c.in-Ok.script c.in-Ok.ensures told.0 told.1 told.2

pub returns-in-Err-clause-front : goal.returns-in-Err-clause-front
returns-in-Err-clause-front g c =
    let told = c.judge_script.ensures.front in
    answer c.in-Ok.script c.in-Ok.ensures told.0 told.1 told.2

pub returns-in-Ok-refuse-clause-front : goal.returns-in-Ok-refuse-clause-front
returns-in-Ok-refuse-clause-front g c =
    refused c.in-Err-Refused.refused (refused_reads c.in-Err-Refused.field-0 c.in-Err-Refused.refused (script_of c.args.content.items) c.in-Err-Refused.field-0-is c.in-Err-Refused.ensures) c.refuse.ensures.front

pub returns-in-Err-refuse-clause-front : goal.returns-in-Err-refuse-clause-front
returns-in-Err-refuse-clause-front g c =
    refused c.in-Err-Refused.refused (refused_reads c.in-Err-Refused.field-0 c.in-Err-Refused.refused (script_of c.args.content.items) c.in-Err-Refused.field-0-is c.in-Err-Refused.ensures) c.refuse.ensures.front

pub returns-in-Err-clause-memory : goal.returns-in-Err-clause-memory
returns-in-Err-clause-memory g c = λ six.
    part_of g.V.Verifier.accepts c.args.content.items c.in-Ok.script (g.K.Sink.written c.args.sink.now) (g.K.Sink.written c.judge_script.new.sink) c.in-Ok.ensures
    (c.judge_script.ensures.memory (memory_at_six c.judge_script.result c.in-Err.halt c.status.result c.in-Err.is c.status.ensures.exact six))
