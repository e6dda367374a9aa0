use Rattle.std.proofs.Common.{ℕ, sym, ap, ◌∙◌}
use Rattle.dsec_spec.specs.Names.{place}
use Rattle.dsec_nsec3.specs.Conclusions.{then_told}
use Rattle.dsec_nsec3.specs.HashedAnswers.{Hashed, nsec3_for_nodata, nsec3_for_nodata_wildcard}
use Rattle.dsec_nsec3.specs.HashedDenials.{HashedDenial}
use Rattle.dsec_nsec3_calls.specs.Answers.{answer_of}
use Rattle.dsec_nsec3_calls.specs.Sources.{limits_view, source_view}
use Rattle.dsec_nsec3_calls.proofs.ToldLaws.{was_unshown}
use Rattle.dsec_nsec3_calls.proofs.conclusion.hashed_type_answer.Goals as goal

pub returns : goal.returns
returns g c =
    let source = c.args.source.now in
    let n = place c.args.target.now in
    let own = nsec3_for_nodata (limits_view source) (source_view source) n c.args.rtype in
    let below = nsec3_for_nodata_wildcard (limits_view source) (source_view source) n c.args.rtype in
    c.then.ensures below c.in_ok-below.ensures
    ∙ ap (λ (told : Hashed (HashedDenial ℕ)). answer_of (then_told told below)) (was_unshown own c.in-Nothing.cause (sym c.type_answer-own.ensures ∙ c.in-Nothing.is))
