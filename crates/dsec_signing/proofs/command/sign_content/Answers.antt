use Rattle.std.proofs.Common.{List, Vec, Global, inr, subst}
use Rattle.dsec_spec.specs.Outside.{SentFront}
use Rattle.dsec_spec.specs.Records as records
use Rattle.dsec_wire.specs.declared.record.Record.{Record}
use Rattle.dsec_record_text.specs.Parts.{SentPart}
use Rattle.dsec_record_text.specs.RecordText.{records_text}
use Rattle.dsec_signing.specs.Command.{refused, signed, unsigned}
use Rattle.dsec_signing.proofs.RunLemmas.{memory_at_six, refused_reads, unsigned_why}
use Rattle.dsec_signing.proofs.command.sign_content.Goals as goal

abbrev Read : Type 0
Read = Vec Record Global

abbrev view : Read → List records.Record
view read = read.items

pub returns-in-Ok-send_records-clause-front : goal.returns-in-Ok-send_records-clause-front
returns-in-Ok-send_records-clause-front g c =
    signed c.in-Ok.records.items c.in-Ok-sign_records.made c.in-Ok.ensures.exact c.in-Ok-sign_records.ensures
    (subst (λ (made : List records.Record). SentFront (g.K.Sink.written c.args.sink.now) (g.K.Sink.written c.send_records.new.sink) (records_text made)) c.as_slice.ensures.value c.send_records.ensures.front)

pub returns-in-Ok-sign_records-clause-front : goal.returns-in-Ok-sign_records-clause-front
returns-in-Ok-sign_records-clause-front g c =
    signed c.in-Ok.records.items c.in-Ok-sign_records.made c.in-Ok.ensures.exact c.in-Ok-sign_records.ensures
    (subst (λ (made : List records.Record). SentFront (g.K.Sink.written c.args.sink.now) (g.K.Sink.written c.send_records.new.sink) (records_text made)) c.as_slice.ensures.value c.send_records.ensures.front)

pub returns-in-Ok-sign_records-clause-memory : goal.returns-in-Ok-sign_records-clause-memory
returns-in-Ok-sign_records-clause-memory g c six =
    let sent = c.send_records.ensures.memory (memory_at_six c.send_records.result c.in-Err.halt c.status.result c.in-Err.is c.status.ensures.exact six) in
    inr (record {
      source = c.in-Ok.records.items;
      reads = c.in-Ok.ensures.exact;
      made = c.in-Ok-sign_records.made;
      is_made = c.in-Ok-sign_records.ensures;
      sent = subst (λ (made : List records.Record). SentPart (g.K.Sink.written c.args.sink.now) (g.K.Sink.written c.send_records.new.sink) (records_text made)) c.as_slice.ensures.value sent;
    })

pub returns-in-Ok-tell-clause-front : goal.returns-in-Ok-tell-clause-front
returns-in-Ok-tell-clause-front g c =
    unsigned c.in-Ok.records.items c.in-Err-Refused-sign_records.error c.in-Ok.ensures.exact
    (unsigned_why (List records.Record) (λ made. made) c.args.words c.in-Ok.records.items c.in-Err-Refused-sign_records.field-0 c.in-Err-Refused-sign_records.error c.in-Err-Refused-sign_records.field-0-is c.in-Err-Refused-sign_records.ensures)
    c.tell.ensures.front

pub returns-in-Err-Refused-sign_records-clause-front : goal.returns-in-Err-Refused-sign_records-clause-front
returns-in-Err-Refused-sign_records-clause-front g c =
    unsigned c.in-Ok.records.items c.in-Err-Refused-sign_records.error c.in-Ok.ensures.exact
    (unsigned_why (List records.Record) (λ made. made) c.args.words c.in-Ok.records.items c.in-Err-Refused-sign_records.field-0 c.in-Err-Refused-sign_records.error c.in-Err-Refused-sign_records.field-0-is c.in-Err-Refused-sign_records.ensures)
    c.tell.ensures.front

pub returns-in-Ok-refuse-clause-front : goal.returns-in-Ok-refuse-clause-front
returns-in-Ok-refuse-clause-front g c =
    refused c.in-Err-Refused.refused (refused_reads Read view c.args.content.items c.in-Err-Refused.field-0 c.in-Err-Refused.refused c.in-Err-Refused.field-0-is c.in-Err-Refused.ensures.exact) c.refuse.ensures.front

pub returns-in-Err-Refused-clause-front : goal.returns-in-Err-Refused-clause-front
returns-in-Err-Refused-clause-front g c =
    refused c.in-Err-Refused.refused (refused_reads Read view c.args.content.items c.in-Err-Refused.field-0 c.in-Err-Refused.refused c.in-Err-Refused.field-0-is c.in-Err-Refused.ensures.exact) c.refuse.ensures.front
