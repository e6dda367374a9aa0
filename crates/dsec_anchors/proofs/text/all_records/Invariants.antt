use Rattle.std.proofs.Common.{◌≡◌, length}
use Rattle.dsec_anchors.specs.Texts.{added, records_left}
use Rattle.dsec_anchors.proofs.text.all_records.Given as goal

abbrev pub invariant-loop-records : goal.invariant-loop-records
invariant-loop-records l = added l.records.items (records_left l.zonefile.reader) ≡ records_left l.fn.zonefile.reader

abbrev pub decreases-loop-records : goal.decreases-loop-records
decreases-loop-records l = length l.zonefile.reader.text
