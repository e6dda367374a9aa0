use Rattle.std.proofs.Common.{All, take}
use Rattle.dsec_record_text.specs.RecordText.{IsWritable}
use Rattle.dsec_record_text.proofs.laws.law_of_records_text.Given as goal

abbrev pub invariant-loop-it : goal.invariant-loop-it
invariant-loop-it l = All IsWritable (take l.it-index l.records)
