use Rattle.std.proofs.Common.{[], ◌∷◌, ap, map}
use Rattle.dsec_sign.specs.SignerFaults.{SomeRose}
use Rattle.dsec_signing.specs.KeySets.{of_stand_in}
use Rattle.dsec_signing.proofs.MakingLemmas.{none_rose, zone_why}
use Rattle.dsec_signing.proofs.making.sign_in_place.Goals as goal

pub returns-clause-why : goal.returns-clause-why
returns-clause-why c =
    zone_why c.sign_zone.result c.args.config.now (map of_stand_in c.from_mut.result.now) (of_stand_in c.args.key.now ∷ []) (SomeRose (λ key. 0) c.from_mut.result.now c.sign_zone.new.keys) c.args.apex.now c.args.zone.now c.args.zone.now
    c.sign_zone.new.self (none_rose c.from_mut.result.now c.sign_zone.new.keys) (ap (map of_stand_in) c.from_mut.ensures.value) c.sign_zone.ensures.why
