use Rattle.std.proofs.Common.{◌≡◌, sym, ap, ◌∙◌}
use Rattle.dsec_spec.specs.Names.{place}
use Rattle.dsec_spec.specs.SignedBytes.{rightmost}
use Rattle.dsec_nsec3.specs.HashedAnswers.{nsec3_for_not_exists_no_ce, told_by_walk}
use Rattle.dsec_nsec3.specs.HashedDenials.{name_gone}
use Rattle.dsec_nsec3.specs.Walks as walks
use Rattle.dsec_nsec3.specs.Walks.{nsec3_for_not_exists}
use Rattle.dsec_nsec3_calls.specs.Answers.{answer_of}
use Rattle.dsec_nsec3_calls.specs.Sources.{limits_view, source_view}
use Rattle.dsec_nsec3_calls.specs.Walked.{walk_view}
use Rattle.dsec_nsec3_calls.specs.declared.answer.HashedAnswer.{HashedAnswer}
use Rattle.dsec_nsec3_calls.proofs.AnswerLaws.{at_rightmost}
use Rattle.dsec_nsec3_calls.proofs.ToldLaws.{if_ok}
use Rattle.dsec_nsec3_calls.proofs.nxdomain.name_by_walk.Goals as goal

pub returns-in-Ok : goal.returns-in-Ok
returns-in-Ok g c =
    let source = c.args.source.now in
    let target = c.args.target.now in
    let gone = c.in-Ok.gone in
    let whole = nsec3_for_not_exists (limits_view source) (source_view source) (place target) in
    if_ok (λ (answer : HashedAnswer). (walk : walks.Walk) → walk ≡ walks.gone (place (rightmost gone.labels target)) gone.at_encloser gone.around gone.opt_out
    → answer ≡ answer_of (told_by_walk (place target) (λ star. nsec3_for_not_exists_no_ce (limits_view source) (source_view source) star) name_gone walk))
    (λ (answer : HashedAnswer). answer ≡ answer_of (told_by_walk (place target) (λ star. nsec3_for_not_exists_no_ce (limits_view source) (source_view source) star) name_gone whole))
    c.name_at_star.result (λ answer h. h whole (at_rightmost target gone.labels gone.at_encloser gone.around gone.opt_out whole (sym (ap (walk_view target) c.in-Ok.ensures.gone) ∙ c.requires))) c.name_at_star.ensures
