use Rattle.std.proofs.Common.{◌≡◌, drop}
use Rattle.dsec_spec.specs.Names.{place}
use Rattle.dsec_nsec3.specs.HashedAnswers.{cover_from}
use Rattle.dsec_nsec3_calls.specs.Sources.{seen_view}
use Rattle.dsec_nsec3_calls.specs.Tellings.{told_of}
use Rattle.dsec_nsec3_calls.proofs.covering.search_cover.Given as goal

abbrev pub invariant-loop-index : goal.invariant-loop-index
invariant-loop-index g l =
    told_of (cover_from (place l.source.signer.now) (place l.target) 0 (seen_view l.source))
    ≡ told_of (cover_from (place l.source.signer.now) (place l.target) l.index (drop l.index (seen_view l.source)))
