use Rattle.dsec_sorted.proofs.OneClass.{one_class}
use Rattle.dsec_sorted.proofs.order.is_of_one_class.Goals as goal

pub returns : goal.returns
returns c = rw (c.has_other_class-has_other.ensures, c.in-Some.ensures.cases.0) (one_class c.in-Some.first.now c.in-Some.others.now)
