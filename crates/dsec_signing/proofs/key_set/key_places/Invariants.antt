use Rattle.std.proofs.Common.{◌≡◌, take}
use Rattle.dsec_spec.specs.Names.{place}
use Rattle.dsec_sorted.specs.Sets.{AreWithin, records_at}
use Rattle.dsec_signing.specs.Signed.{keys_at}
use Rattle.dsec_signing.proofs.key_set.key_places.Given as goal

abbrev pub invariant-loop-it : goal.invariant-loop-it
invariant-loop-it l =
    (l.at ≡ l.it-index)
    × AreWithin l.records l.places.items
    × (records_at l.records l.places.items ≡ keys_at (place l.apex) (take l.it-index l.records))
