-- Records owner by owner, as the code has them.
use Rattle.std.specs.Prelude.{List}
use Rattle.dsec_spec.specs.Records.{Record}
use Rattle.dsec_sorted.specs.declared.records_iter.RecordsIter.{RecordsIter}

-- the records that are left
abbrev pub left_of : RecordsIter → List Record
left_of it = it.rest.now
