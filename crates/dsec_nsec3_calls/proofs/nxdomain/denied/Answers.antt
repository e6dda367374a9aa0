use Rattle.std.proofs.Common.{sym, ap, ◌∙◌}
use Rattle.dsec_spec.specs.Names.{place}
use Rattle.dsec_spec.proofs.PlaceLemmas.{front_of_place}
use Rattle.dsec_nsec3_calls.specs.Told.{denied_told, missing_below}
use Rattle.dsec_nsec3_calls.specs.Walked.{walk_view}
use Rattle.dsec_nsec3_calls.specs.declared.step.Walk.{Walk}
use Rattle.dsec_nsec3_calls.proofs.nxdomain.denied.Goals as goal

pub returns-in_ok-encloser-in-Gone-clause-value : goal.returns-in_ok-encloser-in-Gone-clause-value
returns-in_ok-encloser-in-Gone-clause-value c =
    ap missing_below (ap place c.in_ok-encloser-in-Gone.ensures ∙ front_of_place c.in-Gone.gone.labels c.args.target.now)
    ∙ ap (λ (walk : Walk). denied_told (walk_view c.args.target.now walk)) (sym c.in-Gone.is)
