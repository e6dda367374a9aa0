use Rattle.std.proofs.Common.{refl}
use Rattle.dsec_zone_tests.proofs.OneSet.{set_at_places}
use Rattle.dsec_zone_tests.proofs.records.place_holds.Goals as goal

pub new_from_refs-requires-clause-set : goal.new_from_refs-requires-clause-set
new_from_refs-requires-clause-set c = set_at_places c.args.records.now c.args.places.now (c.if-not-are_of_one_set.ensures refl)
