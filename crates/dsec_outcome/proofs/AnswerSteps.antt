-- What a message comes to at its one question, and where a path of aliases ends.
use Rattle.std.proofs.Common.{◌≡◌, ℕ, List, [], ◌∷◌, length, get_or, map, Some, None, sym, ap, ◌∙◌}
use Rattle.std.specs.Prelude.{Ok}
use Rattle.dsec_spec.specs.Messages.{Question}
use Rattle.dsec_spec.specs.Names.{Labels, place}
use Rattle.dsec_nsec3.specs.Counting.{HashLimits}
use Rattle.dsec_alias.specs.States.{State}
use Rattle.dsec_alias.specs.Following.{AliasStep, AliasEnd, ends_at, ends_bogus, do_cname_dname}
use Rattle.dsec_nodes.specs.World.{World, limits_of}
use Rattle.dsec_nodes.specs.Causes.{Cause}
use Rattle.dsec_nodes.specs.Judging.{Judged}
use Rattle.dsec_nodes.specs.Outcomes.{Used, Outcome, by_nothing, bogus_by}
use Rattle.dsec_nodes.specs.Aliases.{Beside, reply_of, alias_path, aliases_on, reached}
use Rattle.dsec_nodes.specs.Alone.{after_path, at_end, at_name, on_questions}
use Rattle.dsec_found.specs.Errors.{answer_of}
use Rattle.dsec_follow.specs.Ends.{StepTold, step_told, EndTold, end_told}
use Rattle.dsec_outcome.specs.Aliases.{aliases_at, denials_at}
use Rattle.dsec_outcome.proofs.AliasSteps.{aliases_told, denials_told}

module _ (w : World) (message : List ℕ) (question : Question) (answers authorities : List Judged) (end : EndTold) where
  -- where the path is Bogus, so is the message
  pub bogus_end : (cause : Cause) (o : Outcome) (e : AliasEnd Beside) → end.cause ≡ Some cause → o ≡ bogus_by cause by_nothing → end ≡ end_told e
      → o ≡ at_end w message question answers authorities e
  bogus_end cause o (ends_at final maybe path) says is told =
      absurd (let none : Some cause ≡ None = sym says ∙ ap (λ (t : EndTold). t.cause) told in cc)
  bogus_end cause o (ends_bogus name own) says is told =
      let same : Some cause ≡ Some own = sym says ∙ ap (λ (t : EndTold). t.cause) told in
      is ∙ ap (λ (c : Cause). bogus_by c by_nothing) cc

  -- the outcome at a name, after the path's aliases as they are told
  abbrev after_told : State → List StepTold → Outcome → Outcome
  after_told state steps o = after_path state (aliases_at answers steps) (denials_at authorities steps) o

  abbrev at_reached : Labels → Outcome
  at_reached name = at_name w message (reached question name) (place name) answers authorities

  after_steps : (final : Labels) (maybe : State) (path : List (AliasStep Beside)) → after_told maybe (map step_told path) (at_reached final) ≡ at_end w message question answers authorities (ends_at final maybe path)
  after_steps final maybe path =
      ap (λ (js : List Judged). after_path maybe js (denials_at authorities (map step_told path)) (at_reached final)) (aliases_told answers path)
      ∙ ap (λ (us : List Used). after_path maybe (aliases_on answers path) us (at_reached final)) (denials_told authorities path)

  -- where it isn't, the message comes to what it does at the last name, after the aliases
  pub final_end : (asked : Question) (o after : Outcome) (e : AliasEnd Beside) → end.cause ≡ None → asked ≡ reached question end.name
      → o ≡ at_name w message asked (place asked.name) answers authorities → after ≡ after_told end.state end.steps o → end ≡ end_told e
      → after ≡ at_end w message question answers authorities e
  final_end asked o after (ends_bogus name own) none for at is told =
      absurd (let some : None ≡ Some own = sym none ∙ ap (λ (t : EndTold). t.cause) told in cc)
  final_end asked o after (ends_at final maybe path) none for at is told =
      is ∙ (ap (after_told end.state end.steps) (at ∙ ap (λ (q : Question). at_name w message q (place q.name) answers authorities) for) ∙ (ap (λ (t : EndTold). after_told t.state t.steps (at_reached t.name)) told ∙ after_steps final maybe path))

-- where there is one question, the outcome is that where its path ends
pub one_question : (w : World) (most : ℕ) (message : List ℕ) (questions : List Question) (question : Question) (answers authorities : List Judged) (o : Outcome) → length questions ≡ 1
    → question ≡ get_or questions 0 question → o ≡ at_end w message question answers authorities (alias_path w most question answers authorities)
    → answer_of (on_questions w most message questions answers authorities) ≡ Ok o
one_question w most message [] question answers authorities o one is e = absurd cc
one_question w most message (q ∷ other ∷ more) question answers authorities o one is e = absurd cc
one_question w most message (q ∷ []) question answers authorities o one is e =
    ap (λ (x : Outcome). Ok x) (sym (e ∙ ap (λ (x : Question). at_end w message x answers authorities (alias_path w most x answers authorities)) is))

-- what is asked for is what the question asks, within these limits
pub end_asked : (w : World) (most : ℕ) (question : Question) (answers authorities : List Judged) (limits : HashLimits) (end : EndTold) (name : Labels) (class rtype : ℕ)
    → limits ≡ limits_of w.bounds → name ≡ question.name → class ≡ question.class → rtype ≡ question.rtype
    → end ≡ end_told (do_cname_dname (reply_of limits w.anchors class rtype answers authorities) most name)
    → end ≡ end_told (alias_path w most question answers authorities)
end_asked w most question answers authorities limits end name class rtype within same_name same_class same_type is =
    is ∙ (ap (λ (l : HashLimits). end_told (do_cname_dname (reply_of l w.anchors class rtype answers authorities) most name)) within
    ∙ (ap (λ (n : Labels). end_told (do_cname_dname (reply_of (limits_of w.bounds) w.anchors class rtype answers authorities) most n)) same_name
    ∙ (ap (λ (c : ℕ). end_told (do_cname_dname (reply_of (limits_of w.bounds) w.anchors c rtype answers authorities) most question.name)) same_class
    ∙ ap (λ (t : ℕ). end_told (do_cname_dname (reply_of (limits_of w.bounds) w.anchors question.class t answers authorities) most question.name)) same_type)))
