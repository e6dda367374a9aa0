use Rattle.std.proofs.Common.{◌≡◌, ◌≤◌, drop}
use Rattle.dsec_spec.specs.Names.{Place, place}
use Rattle.dsec_nsec3.specs.Walks.{look_from}
use Rattle.dsec_nsec3_calls.specs.Looks.{top_of}
use Rattle.dsec_nsec3_calls.specs.Sources.{seen_view}
use Rattle.dsec_nsec3_calls.specs.Views.{place_octets}
use Rattle.dsec_nsec3_calls.proofs.look.look_for.Given as goal

abbrev pub invariant-loop-index : goal.invariant-loop-index
invariant-loop-index g l =
    ((n : Place) → l.asked.octets.now ≡ place_octets n → l.asked.zone.now ≡ place_octets (place l.source.signer.now) → look_from (top_of l.asked.is_top (place l.source.signer.now)) n 0 l.room (seen_view l.source)
    ≡ look_from (top_of l.asked.is_top (place l.source.signer.now)) n l.index l.left (drop l.index (seen_view l.source)))
    × (l.left ≤ l.room)
