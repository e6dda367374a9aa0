use Rattle.std.proofs.Common.{take, sym, ap, ◌∙◌}
use Rattle.dsec_spec.specs.Names.{place}
use Rattle.dsec_nsec3.specs.HashedAnswers.{ds_by_walk}
use Rattle.dsec_nsec3_calls.specs.Tellings.{told_of}
use Rattle.dsec_nsec3_calls.specs.Walked.{walk_view}
use Rattle.dsec_nsec3_calls.specs.declared.step.Walk.{Walk}
use Rattle.dsec_nsec3_calls.proofs.types.ds_by.Goals as goal

pub returns-in-Gone : goal.returns-in-Gone
returns-in-Gone c = λ name n later.
    c.ds_of_missing.ensures n (take c.in-Gone.gone.labels (place name)) c.in-Gone.gone.at_encloser later
    ∙ ap (λ (walk : Walk). told_of (ds_by_walk n (walk_view name walk) later)) (sym c.in-Gone.is)
