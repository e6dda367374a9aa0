use Rattle.std.proofs.Common.{refl}
use Rattle.dsec_zone_tests.proofs.records.makes.Goals as goal

pub new_from_owned-requires : goal.new_from_owned-requires
new_from_owned-requires c = c.if-not-are_of_one_set.ensures refl
