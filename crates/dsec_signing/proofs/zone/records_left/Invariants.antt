use Rattle.std.proofs.Common.{length}
use Rattle.dsec_signing.proofs.ZoneReading.{Follows}
use Rattle.dsec_signing.proofs.zone.records_left.Given as goal

abbrev pub invariant-loop-records : goal.invariant-loop-records
invariant-loop-records l = Follows l.fn.zonefile.reader l.zonefile.reader l.records.items

abbrev pub decreases-loop-records : goal.decreases-loop-records
decreases-loop-records l = length l.zonefile.reader.text
