use Rattle.std.proofs.Common.{List, Vec, Global}
use Rattle.std.proofs.lemmas.Result.{err_from_is_err_and}
use Rattle.dsec_spec.specs.Records as records
use Rattle.dsec_wire.specs.declared.record.Record.{Record}
use Rattle.dsec_signing.proofs.ZoneReading.{ended_by, ends, found_by, goes_on_by, smaller, stops, stops_at_entry}
use Rattle.dsec_signing.proofs.zone.records_left.Goals as goal

abbrev Read : Type 0
Read = Vec Record Global

abbrev view : Read → List records.Record
view read = read.items

pub returns-in_err-entry : goal.returns-in_err-entry
returns-in_err-entry c =
    let p = err_from_is_err_and c.from_residual.result c.from_residual.ensures.1 in
    rw (p.1, p.2) (stops Read view c.args.zonefile.now.reader c.loop-records.zonefile.reader c.next_entry.new.self.reader c.loop-records.records.items c.in_err-entry.field-0.0 c.in_err-entry.ensures.next c.loop-records.invariant)

pub loop-records-smaller : goal.loop-records-smaller
loop-records-smaller c = smaller c.loop-records.zonefile.reader c.next_entry.new.self.reader c.in_ok-entry.field-0 c.in-Some.entry c.in_ok-entry.ensures.next c.in-Some.is

pub loop-records-preserved : goal.loop-records-preserved
loop-records-preserved c =
    goes_on_by c.args.zonefile.now.reader c.loop-records.zonefile.reader c.next_entry.new.self.reader c.loop-records.records.items c.keep.new.records.items c.in-Some.entry
    (found_by c.loop-records.zonefile.reader c.next_entry.new.self.reader c.in_ok-entry.field-0 c.in-Some.entry c.in_ok-entry.ensures.next c.in-Some.is) c.in_ok-keep.ensures c.loop-records.invariant

pub returns-in_err-keep : goal.returns-in_err-keep
returns-in_err-keep c =
    let p = err_from_is_err_and c.from_residual-in_err-keep.result c.from_residual-in_err-keep.ensures.1 in
    rw (p.1, p.2) (stops_at_entry Read view c.args.zonefile.now.reader c.loop-records.zonefile.reader c.next_entry.new.self.reader c.loop-records.records.items c.in-Some.entry _ c.in_err-keep.field-0.0
    (found_by c.loop-records.zonefile.reader c.next_entry.new.self.reader c.in_ok-entry.field-0 c.in-Some.entry c.in_ok-entry.ensures.next c.in-Some.is) c.line.ensures c.in_err-keep.ensures c.loop-records.invariant)

pub returns : goal.returns
returns c =
    ends c.args.zonefile.now.reader c.loop-records.zonefile.reader c.next_entry.new.self.reader c.loop-records.records.items
    (ended_by c.loop-records.zonefile.reader c.next_entry.new.self.reader c.in_ok-entry.field-0 c.in_ok-entry.ensures.next c.in_default.is) c.loop-records.invariant
