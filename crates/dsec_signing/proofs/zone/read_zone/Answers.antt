use Rattle.std.proofs.Common.{◌++◌, ◌∙◌, List, Some, Vec, Global, ap, arith}
use Rattle.dsec_spec.specs.Numbers.{IN}
use Rattle.dsec_spec.specs.Records as records
use Rattle.dsec_wire.specs.declared.record.Record.{Record}
use Rattle.dsec_zonefile.specs.Entries.{HeldText, Reader}
use Rattle.dsec_signing.proofs.ZoneReading.{too_long, whole_source}
use Rattle.dsec_signing.proofs.zone.read_zone.Goals as goal

abbrev Read : Type 0
Read = Vec Record Global

abbrev view : Read → List records.Record
view read = read.items

pub returns-then-content-gt-LIMIT : goal.returns-then-content-gt-LIMIT
returns-then-content-gt-LIMIT c = too_long c.args.content.now c.line_past.result (omega (arith, c.if-content-gt-LIMIT.true)) c.line_past.ensures

pub returns : goal.returns
returns c =
    whole_source Read view c.args.content.now c.extend_from_slice.new.self.reader c.records_left.result (omega (arith, c.if-content-gt-LIMIT.false))
    (c.in_ok-extend_from_slice.ensures.ok
    ∙ ap (λ (r : Reader). record r { text = r.text ++ c.args.content.now }) (ap (λ (it : HeldText). it.reader) c.set_default_class.ensures ∙ ap (λ (it : HeldText). record it.reader { setting = record it.reader.setting { class = Some IN } }) c.new-zonefile.ensures))
    c.records_left.ensures
