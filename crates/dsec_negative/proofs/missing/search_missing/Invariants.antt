use Rattle.std.proofs.Common.{◌≡◌, drop}
use Rattle.dsec_spec.specs.Names.{place}
use Rattle.dsec_absence.specs.Answers.{search, sightings, missing}
use Rattle.dsec_absence.specs.Tests.{shows_missing}
use Rattle.dsec_absence.proofs.SearchSteps.{after_some}
use Rattle.dsec_negative.specs.Sources.{source_view}
use Rattle.dsec_negative.proofs.missing.search_missing.Given as goal

abbrev pub invariant-loop-index : goal.invariant-loop-index
invariant-loop-index g l =
    after_some l.refused (search (λ r. shows_missing r (place l.target)) l.index (drop l.index (sightings (source_view l.source))))
    ≡ missing (source_view l.source) (place l.target)
