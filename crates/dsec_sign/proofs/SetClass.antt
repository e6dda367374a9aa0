-- The records of a set are of one class.
use Rattle.std.proofs.Common.{List, get_or, arith}
use Rattle.std.proofs.lemmas.List.{get_or_default}
use Rattle.dsec_spec.specs.CanonicalRecords.{AreOfOneClass}
use Rattle.dsec_spec.specs.Records.{Record}
use Rattle.dsec_sorted.specs.Sets.{AreOfOneSet}

pub class_of_set : (set : List Record) → AreOfOneSet set → AreOfOneClass set
class_of_set set one i j d lt lj =
    let r = get_or set i d in
    let s = get_or set j d in
    (one r s (i, omega arith, get_or_default set i r d (omega arith)) (j, lj, get_or_default set j s d lj)).1
