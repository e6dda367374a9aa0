use Rattle.std.proofs.Common.{◌≡◌, drop}
use Rattle.dsec_spec.specs.Names.{place}
use Rattle.dsec_nsec3.specs.HashedAnswers.{type_from}
use Rattle.dsec_nsec3_calls.specs.Sources.{seen_view}
use Rattle.dsec_nsec3_calls.specs.Tellings.{told_of}
use Rattle.dsec_nsec3_calls.proofs.types.search_type.Given as goal

abbrev pub invariant-loop-index : goal.invariant-loop-index
invariant-loop-index g l =
    told_of (type_from (place l.target) l.rtype 0 (seen_view l.source)) ≡ told_of (type_from (place l.target) l.rtype l.index (drop l.index (seen_view l.source)))
