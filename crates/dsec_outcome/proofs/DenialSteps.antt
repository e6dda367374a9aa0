-- What a message comes to by a denial, as the calls tell of it.
use Rattle.std.proofs.Common.{◌≡◌, ℕ, List, ◌==◌, ◌&&◌, Bool, true, false, cond, get_or, Option, Some, None, sym, ap, ◌∙◌}
use Rattle.std.specs.Prelude.{slice_get, unwrap_or, position}
use Rattle.std.specs.Option.{option_map}
use Rattle.std.proofs.lemmas.Option.{get_or_from_slice_get}
use Rattle.std.proofs.Math.Bool.{not}
use Rattle.dsec_cause.specs.declared.cause.Cause.{Cause}
use Rattle.dsec_group.specs.declared.state.ValidationState.{ValidationState}
use Rattle.dsec_spec.specs.Names.{Labels, Place, place}
use Rattle.dsec_spec.specs.Records.{Record}
use Rattle.dsec_spec.specs.Messages.{Question, rcode_of}
use Rattle.dsec_spec.specs.Islands.{looked_for_at, island}
use Rattle.dsec_spec.specs.Numbers.{ANY}
use Rattle.dsec_absence.specs.Replies.{soa_at, soa_cause, no_soa_cause, answer_at}
use Rattle.dsec_nsec3.specs.Counting.{HashLimits}
use Rattle.dsec_nsec3.specs.Conclusions.{denied_at, closer_denied}
use Rattle.dsec_nsec3_calls.specs.Views.{source_of}
use Rattle.dsec_nsec3_calls.specs.Told.{index_in, answer_index_in}
use Rattle.dsec_nodes.specs.World.{World, limits_of}
use Rattle.dsec_nodes.specs.Judging.{Judged}
use Rattle.dsec_nodes.specs.Outcomes.{Outcome, by_nothing, bogus_by}
use Rattle.dsec_nodes.specs.Causes.{MissingSoa}
use Rattle.dsec_nodes.specs.ByDenial.{source_of as among}
use Rattle.dsec_nodes.specs.ByDenial.{no_error_in, denied_under, at_soa, by_soa, by_denial}
use Rattle.dsec_nodes.specs.Alone.{by_answer, is_answer, at_answer, by_answers, at_name}

-- the group at an index
pub there_is : (js : List Judged) (i : ℕ) (x j : Judged) → slice_get js i ≡ Some j → x ≡ get_or js i x → slice_get js i ≡ Some x
there_is js i x j e is = e ∙ ap (λ (y : Judged). Some y) (sym (is ∙ get_or_from_slice_get js i j x e))

-- what is asked for is what the question asks
module _ (anchors : List Record) (question : Question) (groups : List Judged) (asked : Labels) (rtype class : ℕ) (same_name : asked ≡ question.name)
    (same_class : class ≡ question.class) (same_type : rtype ≡ question.rtype) where
  abbrev soa_for : Labels → ℕ → ℕ → Option ℕ
  soa_for n q c = soa_at (island anchors (place n) q) (looked_for_at (place n) q) c (λ (j : Judged). j.group) groups

  abbrev why_none : Labels → ℕ → ℕ → Option Cause
  why_none n q c = no_soa_cause (looked_for_at (place n) q) c (λ (j : Judged). j.group) groups

  pub soa_asked : (found at : Option (ℕ × ValidationState)) → option_map index_in found ≡ soa_for asked rtype class → found ≡ at
      → option_map index_in at ≡ soa_for question.name question.rtype question.class
  soa_asked found at is e =
      sym (ap (option_map index_in) e)
      ∙ (is ∙ (ap (λ (n : Labels). soa_for n rtype class) same_name ∙ (ap (λ (q : ℕ). soa_for question.name q class) same_type ∙ ap (soa_for question.name question.rtype) same_class)))

  pub why_asked : (found : Option (ℕ × ValidationState)) (cause : Option Cause) → cause ≡ soa_cause (looked_for_at (place asked) rtype) class (λ (j : Judged). j.group) groups (option_map index_in found)
      → found ≡ None → cause ≡ why_none question.name question.rtype question.class
  why_asked found cause is e =
      is ∙ (ap (λ (o : Option (ℕ × ValidationState)). soa_cause (looked_for_at (place asked) rtype) class (λ (j : Judged). j.group) groups (option_map index_in o)) e
      ∙ (ap (λ (n : Labels). why_none n rtype class) same_name ∙ (ap (λ (q : ℕ). why_none question.name q class) same_type ∙ ap (why_none question.name question.rtype) same_class)))

  abbrev set_for : Labels → ℕ → ℕ → Option ℕ
  set_for n q c = answer_at (place n) c q (λ (j : Judged). j.group) groups

  pub answer_asked : (found at : Option (ℕ × ValidationState × Option Cause)) → option_map answer_index_in found ≡ set_for asked rtype class → found ≡ at
      → option_map answer_index_in at ≡ position (is_answer (place question.name) question) groups
  answer_asked found at is e =
      sym (ap (option_map answer_index_in) e)
      ∙ (is ∙ (ap (λ (n : Labels). set_for n rtype class) same_name ∙ (ap (λ (q : ℕ). set_for question.name q class) same_type ∙ ap (set_for question.name question.rtype) same_class)))

-- the denials that are looked for are those of the question's class, within these limits
pub denied_asked : (w : World) (limits : HashLimits) (message : List ℕ) (rcode : ℕ) (question : Question) (authorities : List Judged) (soa : Judged) (no_error : Bool) (signer asked : Labels)
    (class rtype : ℕ) → limits ≡ limits_of w.bounds → rcode_of message ≡ Some rcode → no_error ≡ (rcode == 0) → place signer ≡ soa.signer → asked ≡ question.name → class ≡ question.class
    → rtype ≡ question.rtype
    → denied_at limits no_error (source_of authorities class signer) (place asked) rtype ≡ denied_under w message question (place question.name) authorities soa
denied_asked w limits message rcode question authorities soa no_error signer asked class rtype within read no_error_is signed same_name same_class same_type =
    ap (λ (l : HashLimits). denied_at l no_error (source_of authorities class signer) (place asked) rtype) within
    ∙ (ap (λ (b : Bool). denied_at (limits_of w.bounds) b (source_of authorities class signer) (place asked) rtype) (no_error_is ∙ sym (ap no_error_in read))
    ∙ (ap (λ (z : Place). denied_at (limits_of w.bounds) (no_error_in (rcode_of message)) (among authorities class z) (place asked) rtype) signed
    ∙ (ap (λ (n : Labels). denied_at (limits_of w.bounds) (no_error_in (rcode_of message)) (among authorities class soa.signer) (place n) rtype) same_name
    ∙ (ap (λ (c : ℕ). denied_at (limits_of w.bounds) (no_error_in (rcode_of message)) (among authorities c soa.signer) (place question.name) rtype) same_class
    ∙ ap (denied_at (limits_of w.bounds) (no_error_in (rcode_of message)) (among authorities question.class soa.signer) (place question.name)) same_type))))

pub closer_asked : (w : World) (limits : HashLimits) (question : Question) (authorities : List Judged) (j : Judged) (signer asked encloser : Labels) (class : ℕ)
    → limits ≡ limits_of w.bounds → place signer ≡ j.signer → asked ≡ question.name → class ≡ question.class
    → closer_denied limits (source_of authorities class signer) (place asked) (place encloser)
    ≡ closer_denied (limits_of w.bounds) (among authorities question.class j.signer) (place question.name) (place encloser)
closer_asked w limits question authorities j signer asked encloser class within signed same_name same_class =
    ap (λ (l : HashLimits). closer_denied l (source_of authorities class signer) (place asked) (place encloser)) within
    ∙ (ap (λ (z : Place). closer_denied (limits_of w.bounds) (among authorities class z) (place asked) (place encloser)) signed
    ∙ (ap (λ (n : Labels). closer_denied (limits_of w.bounds) (among authorities class j.signer) (place n) (place encloser)) same_name
    ∙ ap (λ (c : ℕ). closer_denied (limits_of w.bounds) (among authorities c j.signer) (place question.name) (place encloser)) same_class))

-- the SOA set at the index where the first one that counts is
pub soa_decides : (w : World) (message : List ℕ) (question : Question) (name : Place) (authorities : List Judged) (index : ℕ) (soa : Judged) (o : Outcome)
    → Some index ≡ soa_at (island w.anchors name question.rtype) (looked_for_at name question.rtype) question.class (λ (j : Judged). j.group) authorities → slice_get authorities index ≡ Some soa
    → o ≡ at_soa w message question name authorities (Some soa) → o ≡ by_denial w message question name authorities
soa_decides w message question name authorities index soa o at there is =
    is ∙ (sym (ap (at_soa w message question name authorities) there) ∙ ap (by_soa w message question name authorities) at)

-- where none counts
pub no_soa : (w : World) (message : List ℕ) (question : Question) (name : Place) (authorities : List Judged) (cause : Option Cause) (o : Outcome)
    → None ≡ soa_at (island w.anchors name question.rtype) (looked_for_at name question.rtype) question.class (λ (j : Judged). j.group) authorities
    → cause ≡ no_soa_cause (looked_for_at name question.rtype) question.class (λ (j : Judged). j.group) authorities → o ≡ bogus_by (unwrap_or cause MissingSoa) by_nothing
    → o ≡ by_denial w message question name authorities
no_soa w message question name authorities cause o at why is =
    is ∙ (ap (λ (c : Option Cause). bogus_by (unwrap_or c MissingSoa) by_nothing) why ∙ ap (by_soa w message question name authorities) at)

module _ (w : World) (message : List ℕ) (rcode : ℕ) (question : Question) (name : Place) (answers authorities : List Judged) (o : Outcome) (read : rcode_of message ≡ Some rcode) where
  by_due : (b : Bool) → (no_error_in (Some rcode) && not (question.rtype == ANY)) ≡ b
      → cond b (by_answers w message question name answers authorities (position (is_answer name question) answers)) (by_denial w message question name authorities)
      ≡ at_name w message question name answers authorities
  by_due b e =
      ap (λ (t : Bool). cond t (by_answers w message question name answers authorities (position (is_answer name question) answers)) (by_denial w message question name authorities))
      (sym e ∙ ap (λ (r : Option ℕ). no_error_in r && not (question.rtype == ANY)) (sym read))

  -- where no answer is due, a denial decides
  pub not_due : (no_error_in (Some rcode) && not (question.rtype == ANY)) ≡ false → o ≡ by_denial w message question name authorities → o ≡ at_name w message question name answers authorities
  not_due e is = is ∙ by_due false e

  -- where one is, the first group that answers
  pub answer_decides : (index : ℕ) (j : Judged) → (no_error_in (Some rcode) && not (question.rtype == ANY)) ≡ true → Some index ≡ position (is_answer name question) answers
      → slice_get answers index ≡ Some j → o ≡ by_answer w question name authorities j j.finding → o ≡ at_name w message question name answers authorities
  answer_decides index j e at there is =
      is ∙ (sym (ap (at_answer w question name authorities) there) ∙ (ap (by_answers w message question name answers authorities) at ∙ by_due true e))

  -- or a denial, where none answers
  pub none_answers : (no_error_in (Some rcode) && not (question.rtype == ANY)) ≡ true → None ≡ position (is_answer name question) answers
      → o ≡ by_denial w message question name authorities → o ≡ at_name w message question name answers authorities
  none_answers e at is = is ∙ (ap (by_answers w message question name answers authorities) at ∙ by_due true e)
