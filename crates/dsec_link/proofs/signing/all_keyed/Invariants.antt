use Rattle.std.proofs.Common.{◌≡◌, map, take}
use Rattle.dsec_link.specs.Keyed.{keyed_of}
use Rattle.dsec_link.proofs.signing.all_keyed.Given as goal

abbrev pub invariant-loop-record : goal.invariant-loop-record
invariant-loop-record l = l.all.items ≡ map keyed_of (take l.record-index l.records)
