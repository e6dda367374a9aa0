-- Record sets, as the code has them.
use Rattle.std.specs.Prelude.{List}
use Rattle.dsec_spec.specs.Records.{Record}
use Rattle.dsec_sorted.specs.Sets.{chosen}
use Rattle.dsec_sorted.specs.declared.rrset.Rrset.{Rrset}
use Rattle.dsec_sorted.specs.declared.rrset.RrsetIter.{RrsetIter}

-- the records of a set
abbrev pub members_of : Rrset → List Record
members_of it = chosen it.records.now it.places

-- those that are left
abbrev pub members_left : RrsetIter → List Record
members_left it = chosen it.records.now it.places
