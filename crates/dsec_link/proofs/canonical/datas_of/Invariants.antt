use Rattle.std.proofs.Common.{◌≡◌, map, take}
use Rattle.dsec_link.specs.Sets.{canonical_record, canonicals_in}
use Rattle.dsec_link.proofs.canonical.datas_of.Given as goal

abbrev pub invariant-loop-record : goal.invariant-loop-record
invariant-loop-record l = canonicals_in l.all.items ≡ map canonical_record (take l.record-index l.records)
