use Rattle.std.proofs.Common.{◌≡◌, drop}
use Rattle.dsec_spec.specs.Names.{place}
use Rattle.dsec_absence.specs.Answers.{search, sightings, type_at}
use Rattle.dsec_absence.specs.Tests.{shows_type}
use Rattle.dsec_absence.proofs.SearchSteps.{after_some}
use Rattle.dsec_negative.specs.Sources.{source_view}
use Rattle.dsec_negative.proofs.nodata.search_type.Given as goal

abbrev pub invariant-loop-index : goal.invariant-loop-index
invariant-loop-index g l =
    after_some l.refused (search (λ r. shows_type r (place l.target) l.rtype) l.index (drop l.index (sightings (source_view l.source))))
    ≡ type_at (source_view l.source) (place l.target) l.rtype
