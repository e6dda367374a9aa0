use Rattle.dsec_zone_tests.proofs.OneSet.{one_set}
use Rattle.dsec_zone_tests.proofs.lines.are_of_one_set.Goals as goal

pub returns : goal.returns
returns c = rw (c.has_other-has_other.ensures, c.in-Some.ensures.cases.0) (one_set c.in-Some.first.now c.in-Some.others.now)
