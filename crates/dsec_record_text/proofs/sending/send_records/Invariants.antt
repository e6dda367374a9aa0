use Rattle.std.proofs.Common.{◌≡◌, take}
use Rattle.dsec_outside.specs.Sending.{SentBut}
use Rattle.dsec_record_text.specs.Owners.{text_or}
use Rattle.dsec_record_text.specs.RecordText.{records_text}
use Rattle.dsec_record_text.proofs.sending.send_records.Given as goal

abbrev pub invariant-loop-it : goal.invariant-loop-it
invariant-loop-it g l =
    (g.K.Sink.faults l.sink ≡ g.K.Sink.faults l.fn.sink)
    × SentBut (g.K.Sink.written l.fn.sink) (g.K.Sink.written l.sink) (records_text (take l.it-index l.records)) l.gathered.items
    × (text_or l.lines.0 l.lines.1.0.items ≡ l.lines.1.0.items)
