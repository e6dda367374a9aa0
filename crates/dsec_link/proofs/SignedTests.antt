-- A signature counts exactly where the tests before the verifier's pass and the verifier says yes.
use Rattle.std.proofs.Common.{◌↔◌, ℕ, refl, IsTrue}
use Rattle.dsec_spec.specs.Names.{Place}
use Rattle.dsec_spec.specs.Records.{RecordSet, Key, Rrsig, beside}
use Rattle.dsec_spec.specs.Accepts.{Accepts}
use Rattle.dsec_spec.specs.Signed.{Signed}
use Rattle.dsec_spec.specs.SignedBytes.{signed_bytes}
use Rattle.dsec_link.specs.Tests.{Names, MaySign}

pub signed_by_tests : (accepts : Accepts) (set : RecordSet) (sig : Rrsig) (key : Key) (zone : Place) (t : ℕ)
    → (MaySign set.owner set.rtype sig key zone t × Names sig key zone × IsTrue (accepts key.flags key.protocol key.algorithm key.public_key (signed_bytes sig set) sig.signature))
    ↔ Signed accepts set (beside set sig) key zone t
signed_by_tests accepts set sig key zone t = (
  λ tests. record {
    same_owner = refl;
    same_class = refl;
    covers = tests.0.covers;
    signer = tests.1.signer;
    within = tests.0.within;
    labels = tests.0.labels;
    algorithm = tests.1.algorithm;
    tag = tests.1.tag;
    zone_key = tests.0.zone_key;
    period = tests.0.period;
    accepted = tests.2;
  },
  λ signed. (
    record { covers = signed.covers; labels = signed.labels; zone_key = signed.zone_key; period = signed.period; within = signed.within },
    record { signer = signed.signer; algorithm = signed.algorithm; tag = signed.tag },
    signed.accepted,
  ),
)
