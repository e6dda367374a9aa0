use Rattle.std.proofs.Common.{map, refl}
use Rattle.std.proofs.lemmas.Result.{err_from_is_err_and}
use Rattle.dsec_builder.specs.declared.error.PushError.TheVariants.{PushError}
use Rattle.dsec_rewrite.specs.Rewriting.{made_of}
use Rattle.dsec_rewrite.specs.Views.{bounded_view}
use Rattle.dsec_rewrite.proofs.WritingLaws.{refused_as, first_is_full, second_is_full, third_is_full, last_is_full}
use Rattle.dsec_rewrite.proofs.writing.written.Goals as goal

pub returns-in_err-push_questions-clause-full : goal.returns-in_err-push_questions-clause-full
returns-in_err-push_questions-clause-full c =
    let p = err_from_is_err_and c.from_residual-in_err-push_questions.result c.from_residual-in_err-push_questions.ensures.1 in
    let w = made_of c.args.header (c.args.questions.now, c.args.additionals.now) (map bounded_view c.args.answers.now) (map bounded_view c.args.authorities.now) in
    rw (p.1, p.2)
    (λ e. first_is_full w c.question-builder.result (rw (c.question-builder.ensures, c.set_flags.ensures, c.set_id.ensures, c.in_ok-builder.ensures, c.id.ensures, c.flags.ensures) refl)
    (c.in_err-push_questions.ensures.full (refused_as c.in_err-push_questions.field-0.0 PushError e)))

pub returns-in_err-push_answers-clause-full : goal.returns-in_err-push_answers-clause-full
returns-in_err-push_answers-clause-full c =
    let p = err_from_is_err_and c.from_residual-in_err-push_answers.result c.from_residual-in_err-push_answers.ensures.1 in
    let w = made_of c.args.header (c.args.questions.now, c.args.additionals.now) (map bounded_view c.args.answers.now) (map bounded_view c.args.authorities.now) in
    rw (p.1, p.2)
    (λ e. second_is_full w c.answer-builder.result
    (rw (c.answer-builder.ensures, c.in_ok-push_questions.ensures.ok, c.question-builder.ensures, c.set_flags.ensures, c.set_id.ensures, c.in_ok-builder.ensures, c.id.ensures, c.flags.ensures) refl)
    (c.in_err-push_answers.ensures.full (refused_as c.in_err-push_answers.field-0.0 PushError e)))

pub returns-in_err-push_authorities-clause-full : goal.returns-in_err-push_authorities-clause-full
returns-in_err-push_authorities-clause-full c =
    let p = err_from_is_err_and c.from_residual-in_err-push_authorities.result c.from_residual-in_err-push_authorities.ensures.1 in
    let w = made_of c.args.header (c.args.questions.now, c.args.additionals.now) (map bounded_view c.args.answers.now) (map bounded_view c.args.authorities.now) in
    rw (p.1, p.2)
    (λ e. third_is_full w c.authority-builder.result
    (rw (
      c.authority-builder.ensures,
      c.in_ok-push_answers.ensures.ok,
      c.answer-builder.ensures,
      c.in_ok-push_questions.ensures.ok,
      c.question-builder.ensures,
      c.set_flags.ensures,
      c.set_id.ensures,
      c.in_ok-builder.ensures,
      c.id.ensures,
      c.flags.ensures,
    ) refl)
    (c.in_err-push_authorities.ensures.full (refused_as c.in_err-push_authorities.field-0.0 PushError e)))

pub returns-in_err-push_additionals-clause-full : goal.returns-in_err-push_additionals-clause-full
returns-in_err-push_additionals-clause-full c =
    let p = err_from_is_err_and c.from_residual-in_err-push_additionals.result c.from_residual-in_err-push_additionals.ensures.1 in
    let w = made_of c.args.header (c.args.questions.now, c.args.additionals.now) (map bounded_view c.args.answers.now) (map bounded_view c.args.authorities.now) in
    rw (p.1, p.2)
    (λ e. last_is_full w c.additional-builder.result
    (rw (
      c.additional-builder.ensures,
      c.in_ok-push_authorities.ensures.ok,
      c.authority-builder.ensures,
      c.in_ok-push_answers.ensures.ok,
      c.answer-builder.ensures,
      c.in_ok-push_questions.ensures.ok,
      c.question-builder.ensures,
      c.set_flags.ensures,
      c.set_id.ensures,
      c.in_ok-builder.ensures,
      c.id.ensures,
      c.flags.ensures,
    ) refl)
    (c.in_err-push_additionals.ensures.full (refused_as c.in_err-push_additionals.field-0.0 PushError e)))
