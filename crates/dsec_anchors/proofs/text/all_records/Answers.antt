use Rattle.std.proofs.lemmas.Result.{err_from_is_err_and}
use Rattle.dsec_anchors.proofs.TextLemmas.{ends, goes_on, smaller, stops_at}
use Rattle.dsec_anchors.proofs.text.all_records.Goals as goal

pub returns-in_err-entry : goal.returns-in_err-entry
returns-in_err-entry c =
    let p = err_from_is_err_and c.from_residual.result c.from_residual.ensures.1 in
    rw (p.1, p.2) (stops_at c.loop-records.records.items c.loop-records.zonefile.reader c.next_entry.new.self.reader c.in_err-entry.field-0.0 _ c.in_err-entry.ensures.next c.loop-records.invariant)

pub loop-records-smaller : goal.loop-records-smaller
loop-records-smaller c = smaller c.loop-records.zonefile.reader c.next_entry.new.self.reader c.in_ok-entry.field-0 c.in-Some.entry c.in_ok-entry.ensures.next c.in-Some.is

pub loop-records-preserved : goal.loop-records-preserved
loop-records-preserved c =
    goes_on c.loop-records.records.items c.keep.new.records.items c.loop-records.zonefile.reader c.next_entry.new.self.reader c.in_ok-entry.field-0 c.in-Some.entry _ c.in_ok-entry.ensures.next c.in-Some.is
    c.in_ok-keep.ensures c.loop-records.invariant

pub returns : goal.returns
returns c = ends c.loop-records.records.items c.loop-records.zonefile.reader c.next_entry.new.self.reader c.in_ok-entry.field-0 _ c.in_ok-entry.ensures.next c.in_default.is c.loop-records.invariant
