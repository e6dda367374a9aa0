-- Each outcome is justified: a Secure one by links and what is denied beside them, an Insecure one by a signed cause.
use Rattle.std.proofs.Common.{◌≡◌, ℕ, List, [], ◌∷◌, Option, Some, None, Ok, refl, sym, ap, ◌∙◌, subst}
use Rattle.std.specs.List.{AllByRecursion}
use Rattle.std.proofs.lemmas.Option.{same_Some}
use Rattle.dsec_spec.specs.Names.{place}
use Rattle.dsec_spec.specs.Records.{Record}
use Rattle.dsec_spec.specs.Messages.{Question, questions_of, answers_of, authorities_of}
use Rattle.dsec_spec.specs.Groups.{Group, groups_of}
use Rattle.dsec_spec.specs.Islands.{island}
use Rattle.dsec_spec.specs.Redirection.{moved}
use Rattle.dsec_spec.proofs.ReadingLemmas.{from_bind}
use Rattle.dsec_nodes.specs.World.{World, Replies}
use Rattle.dsec_nodes.specs.Causes.{Cause, TooManyUnsignedCnames}
use Rattle.dsec_nodes.specs.Judging.{Finding, is_shown, has_no_set, is_insecure, is_bogus, is_indeterminate, Judged, AllJudged, all, one_bogus, and_others, judged_of, judged_all}
use Rattle.dsec_nodes.specs.Outcomes.{secure, Why, by_links, by_nothing, Outcome, bogus_by}
use Rattle.dsec_nodes.specs.Aliases.{alias_path}
use Rattle.dsec_nodes.specs.Alone.{at_end, on_questions, on_judged, on_groups, on_sections, sections_of, alone}
use Rattle.dsec_nodes.specs.SoundFindings.{IsShownInsecure, Justifies, IsFound, IsSure}
use Rattle.dsec_nodes.specs.SoundOutcomes.{IsRead, IsSound, IsBogusBy, IsJustified}
use Rattle.dsec_nodes.proofs.JudgingLaws.{others, judged_group, groups_same}
use Rattle.dsec_nodes.proofs.ShownLaws.{shown_is}
use Rattle.dsec_nodes.proofs.UnsignedLaws.{insecure_is, no_set_is, indeterminate_is}
use Rattle.dsec_nodes.proofs.LeadingLaws.{bogus_leads, first_leads}
use Rattle.dsec_nodes.proofs.WeakWays.{Means}
use Rattle.dsec_nodes.proofs.EndLaws.{end_justified}

-- what is found of a group by a table of replies is so (RFC 4033 5, RFC 4035 5)
pub found_so : (w : World) (replies : Replies) (group : Group) → IsFound w (judged_of w replies group)
found_so w replies group = by (judged_of w replies group).finding refl
  where
    its : group ≡ (judged_of w replies group).group
    its = sym (judged_group w replies group)

    by : (f : Finding) → (judged_of w replies group).finding ≡ f → Justifies w (judged_of w replies group) f
    by (is_shown links last signature) f = (shown_is w replies group links last signature f).0
    by has_no_set f = subst (λ (g : Group). g.records ≡ []) its (no_set_is w replies group f)
    by (is_insecure cause signed) f = subst (λ (g : Group). IsShownInsecure w g cause signed) its (insecure_is w replies group cause signed f)
    by (is_bogus cause links) f = bogus_leads w replies group cause links f
    by is_indeterminate f = subst (λ (g : Group). island w.anchors (place g.owner) g.rtype ≡ None) its (indeterminate_is w replies group f)

-- and of each of those that are all judged
all_found : (w : World) (replies : Replies) (groups : List Group) (js : List Judged) → judged_all w replies groups ≡ all js
    → AllByRecursion (IsFound w) js
unfolding judged_all
all_found w replies [] js e = let none : [] ≡ js = cc in subst (AllByRecursion (IsFound w)) none tt
all_found w replies (g ∷ gs) js e =
    let o = others (judged_of w replies g) (judged_of w replies g).finding (judged_all w replies gs) js e in
    subst (AllByRecursion (IsFound w)) o.2 (found_so w replies g, all_found w replies gs o.0 o.1)

-- none of those that are all judged is bogus
pub all_sure : (w : World) (replies : Replies) (groups : List Group) (js : List Judged) → judged_all w replies groups ≡ all js
    → AllByRecursion (λ (j : Judged). IsSure j.finding) js
unfolding judged_all
all_sure w replies [] js e = let none : [] ≡ js = cc in subst (AllByRecursion (λ (j : Judged). IsSure j.finding)) none tt
all_sure w replies (g ∷ gs) js e =
    let o = others (judged_of w replies g) (judged_of w replies g).finding (judged_all w replies gs) js e in
    subst (AllByRecursion (λ (j : Judged). IsSure j.finding)) o.2
    (sure (judged_of w replies g) (judged_of w replies g).finding (judged_all w replies gs) js e, all_sure w replies gs o.0 o.1)
  where
    sure : (j : Judged) (f : Finding) (rest : AllJudged) (them : List Judged) → and_others j f rest ≡ all them → IsSure f
    sure j (is_shown links last signature) rest them h = tt
    sure j has_no_set rest them h = tt
    sure j (is_insecure cause signed) rest them h = tt
    sure j (is_bogus cause links) rest them h = absurd cc
    sure j is_indeterminate rest them h = tt

-- what is read of a message with one question
pub read_is : (anchors : List Record) (most : ℕ) (message : List ℕ) (question : Question) (groups : List Group) (s : List Question × List Record × List Record)
    → sections_of message ≡ Some s → s.0 ≡ question ∷ [] → moved anchors most (groups_of s.1) ≡ Some groups
    → IsRead anchors message most question groups (groups_of s.2)
read_is anchors most message question groups s r q m =
    let authorities = from_bind (authorities_of message) _ s r in
    let answers = from_bind (answers_of message) _ s authorities.2 in
    let questions = from_bind (questions_of message) _ s answers.2 in
    let parts : (questions.0.0, answers.0.0, authorities.0.0) ≡ s = same_Some _ _ questions.2 in
    record {
      questions_end = questions.0.1;
      asked = questions.1 ∙ ap (λ (x : List Question). Some (x, questions.0.1)) (ap (λ (x : List Question × List Record × List Record). x.0) parts ∙ q);
      answer_records = s.1;
      answers_end = answers.0.1;
      answers_read = answers.1 ∙ ap (λ (x : List Record). Some (x, answers.0.1)) (ap (λ (x : List Question × List Record × List Record). x.1) parts);
      answers_are = m;
      authority_records = s.2;
      authorities_end = authorities.0.1;
      authorities_read = authorities.1 ∙ ap (λ (x : List Record). Some (x, authorities.0.1)) (ap (λ (x : List Question × List Record × List Record). x.2) parts);
      authorities_are = refl;
    }

-- each outcome is justified: a Secure one by links from an anchor to its set and by what is denied, an Insecure one by a signed record or for
-- want of a set, an Indeterminate one for want of an anchor, and a Bogus one has a cause, and links that hold, or none (RFC 4033 5, RFC 4035 5)
pub alone_justified : (w : World) (most : ℕ) (replies : Replies) (message : List ℕ) (o : Outcome) → alone w most replies message ≡ Ok o
    → IsJustified w most message o o.state
alone_justified w most replies message o e = by_sections (sections_of message) refl e
  where
    bogus_is : (cause : Cause) (why : Why) → IsBogusBy w why → bogus_by cause why ≡ o → Means w most message o
    bogus_is cause why told same = subst (Means w most message) same (refl, told)

    by_questions : (s : List Question × List Record × List Record) → sections_of message ≡ Some s → (groups : List Group)
        → moved w.anchors most (groups_of s.1) ≡ Some groups → (js beside : List Judged) → judged_all w replies groups ≡ all js
        → judged_all w replies (groups_of s.2) ≡ all beside
        → (qs : List Question) → s.0 ≡ qs → on_questions w most message qs js beside ≡ Ok o → Means w most message o
    by_questions s r groups m js beside j k [] q g = absurd cc
    by_questions s r groups m js beside j k (question ∷ other ∷ more) q g = absurd cc
    by_questions s r groups m js beside j k (question ∷ []) q g =
        let same : at_end w message question js beside (alias_path w most question js beside) ≡ o = cc in
        subst (Means w most message) same
        (end_justified w most message question groups (groups_of s.2) js beside (read_is w.anchors most message question groups s r q m)
        (groups_same w replies groups js j) (groups_same w replies (groups_of s.2) beside k) (all_found w replies groups js j)
        (all_found w replies (groups_of s.2) beside k) (all_sure w replies groups js j))

    by_judged : (s : List Question × List Record × List Record) → sections_of message ≡ Some s → (groups : List Group)
        → moved w.anchors most (groups_of s.1) ≡ Some groups → (a b : AllJudged) → judged_all w replies groups ≡ a
        → judged_all w replies (groups_of s.2) ≡ b → on_judged w most message s.0 a b ≡ Ok o → Means w most message o
    by_judged s r groups m (one_bogus cause links) b j k g = bogus_is cause (by_links links) (first_leads w replies groups cause links j) cc
    by_judged s r groups m (all js) (one_bogus cause links) j k g = bogus_is cause (by_links links) (first_leads w replies (groups_of s.2) cause links k) cc
    by_judged s r groups m (all js) (all beside) j k g = by_questions s r groups m js beside j k s.0 refl g

    by_moved : (s : List Question × List Record × List Record) → sections_of message ≡ Some s → (m : Option (List Group))
        → moved w.anchors most (groups_of s.1) ≡ m → on_groups w most replies message s.0 m (groups_of s.2) ≡ Ok o → Means w most message o
    by_moved s r None m g = bogus_is TooManyUnsignedCnames by_nothing tt cc
    by_moved s r (Some groups) m g = by_judged s r groups m (judged_all w replies groups) (judged_all w replies (groups_of s.2)) refl refl g

    by_sections : (x : Option (List Question × List Record × List Record)) → sections_of message ≡ x
        → on_sections w most replies message x ≡ Ok o
        → Means w most message o
    by_sections None f g = absurd cc
    by_sections (Some s) f g = by_moved s f (moved w.anchors most (groups_of s.1)) refl g

-- a Secure outcome is sound (RFC 4033 5, RFC 4035 5)
pub alone_sound : (w : World) (most : ℕ) (replies : Replies) (message : List ℕ) (o : Outcome) → alone w most replies message ≡ Ok o
    → o.state ≡ secure
    → IsSound w most message o
alone_sound w most replies message o e st = subst (IsJustified w most message o) st (alone_justified w most replies message o e)
