-- What is handed on of a message by a table of replies.
use Rattle.std.proofs.Common.{◌≡◌, ℕ, Bool, true, false, cond, List, map, length, Option, Some, None, Result, Ok, Err, refl, sym, ap, ◌∙◌}
use Rattle.std.specs.Prelude.{nat_lt}
use Rattle.dsec_spec.specs.Reading.{◌>>=◌}
use Rattle.dsec_spec.specs.Records.{Record}
use Rattle.dsec_spec.specs.Messages.{Question, additionals_of}
use Rattle.dsec_spec.specs.Groups.{Group, groups_of}
use Rattle.dsec_spec.specs.Redirection.{moved}
use Rattle.dsec_spec.specs.WrittenMessages.{Written, message_octets}
use Rattle.dsec_nodes.specs.World.{World, Replies, moment}
use Rattle.dsec_nodes.specs.Judging.{Judged, AllJudged, all, one_bogus, judged_all}
use Rattle.dsec_nodes.specs.Outcomes.{Outcome}
use Rattle.dsec_nodes.specs.Alone.{Refusal, sections_of, alone}
use Rattle.dsec_nodes.proofs.JudgingLaws.{groups_same}
use Rattle.dsec_course.specs.Justified.{AreRead}
use Rattle.dsec_rewrite.specs.Rewriting.{rewritten, rewriting, sent}
use Rattle.dsec_rewrite.specs.declared.error.RewriteError.{RewriteError}
use Rattle.dsec_rewrite.specs.declared.error.RewriteError.TheVariants as refusals
use Rattle.dsec_cut.specs.Ended.{Both, only_where, both_of, judged_alone}
use Rattle.dsec_cut.specs.Cuts.{bounded_at, are_due, to_rewrite_alone}
use Rattle.dsec_found.specs.declared.error.Error.TheVariants as errors
use Rattle.dsec_found.specs.Errors.{answer_of}
use Rattle.dsec_context.specs.Writing.{written_out}
use Rattle.dsec_context.specs.Leaving.{by_rewriting, handed_on, handed_alone}
use Rattle.dsec_context.proofs.ComingLaws.{long_out}
use Rattle.dsec_context.proofs.WritingLaws.{kept_unread}

-- what is handed on: what the recursion comes to, or that the message can't be rewritten
pub data ComesAlone (w : World) (most : ℕ) (replies : Replies) (message : List ℕ) : Type 0 where
  an_outcome : (o : Outcome) → alone w most replies message ≡ Ok o → (handed_alone w most replies message).0 ≡ Ok o → ComesAlone w most replies message
  a_refusal : (e : Refusal) → alone w most replies message ≡ Err e → (handed_alone w most replies message).0 ≡ answer_of (Err e) → ComesAlone w most replies message
  cannot_read : additionals_of message ≡ None → (handed_alone w most replies message).0 ≡ Err errors.ParseError → ComesAlone w most replies message
  too_long : sent (written_out w.anchors most message) ≡ Err refusals.PushError → (handed_alone w most replies message).0 ≡ Err errors.PushError → ComesAlone w most replies message

-- the judged groups of the recursion are the message's
pub record Reads (anchors : List Record) (most : ℕ) (message : List ℕ) (both : Both) : Type 0 where
  pub questions : List Question
  pub read : AreRead anchors most message questions (map (λ j. j.group) both.0) (map (λ j. j.group) both.1)

judged_reads : (w : World) (most : ℕ) (replies : Replies) (message : List ℕ) (both : Both) → judged_alone w most replies message ≡ Some both → Reads w.anchors most message both
judged_reads w most replies message both = by_sections (sections_of message) refl
  where
    Sections : Type 0
    Sections = List Question × List Record × List Record

    of_both : List Group → Option (List Group) → Option Both
    of_both authorities None = None
    of_both authorities (Some answers) = both_of (judged_all w replies answers) (judged_all w replies authorities)

    by_judged : (s : Sections) → sections_of message ≡ Some s → (answers : List Group) → moved w.anchors most (groups_of s.1) ≡ Some answers → (a b : AllJudged)
        → judged_all w replies answers ≡ a → judged_all w replies (groups_of s.2) ≡ b → both_of a b ≡ Some both → Reads w.anchors most message both
    by_judged s f answers g (one_bogus cause links) b h i e = absurd cc
    by_judged s f answers g (all js) (one_bogus cause links) h i e = absurd cc
    by_judged s f answers g (all js) (all beside) h i e =
        let same : (js, beside) ≡ both = cc in
        record {
          questions = s.0;
          read = record {
            sections = s;
            read = f;
            asks = refl;
            answers_are = g ∙ ap (λ (gs : List Group). Some gs) (sym (groups_same w replies answers js h) ∙ ap (λ (x : Both). map (λ (j : Judged). j.group) x.0) same);
            authorities_are = sym (groups_same w replies (groups_of s.2) beside i) ∙ ap (λ (x : Both). map (λ (j : Judged). j.group) x.1) same;
          };
        }

    by_moved : (s : Sections) → sections_of message ≡ Some s → (m : Option (List Group)) → moved w.anchors most (groups_of s.1) ≡ m → of_both (groups_of s.2) m ≡ Some both
        → Reads w.anchors most message both
    by_moved s f None g e = absurd cc
    by_moved s f (Some answers) g e = by_judged s f answers g (judged_all w replies answers) (judged_all w replies (groups_of s.2)) refl refl e

    by_sections : (x : Option Sections) → sections_of message ≡ x → judged_alone w most replies message ≡ Some both → Reads w.anchors most message both
    by_sections None f e = absurd (none_there (judged_alone w most replies message) (rw f refl) e)
      where
        none_there : (o : Option Both) → o ≡ None → o ≡ Some both → ⊥
        none_there o x y = cc
    by_sections (Some s) f e =
        let known : judged_alone w most replies message ≡ of_both (groups_of s.2) (moved w.anchors most (groups_of s.1)) = rw f (of_moved (groups_of s.2) (moved w.anchors most (groups_of s.1))) in
        by_moved s f (moved w.anchors most (groups_of s.1)) refl (sym known ∙ e)
      where
        of_moved : (authorities : List Group) (m : Option (List Group)) → (m >>= λ answers. both_of (judged_all w replies answers) (judged_all w replies authorities)) ≡ of_both authorities m
        of_moved authorities None = refl
        of_moved authorities (Some answers) = refl

-- a rewriting doesn't want memory
not_lost : (x : Option Written) → sent x ≡ Err refusals.NoMemory → ⊥
not_lost None e = cc
not_lost (Some written) e = by (nat_lt 65535 (length (message_octets written))) e
  where
    by : (b : Bool) → cond {A = Result (List ℕ) RewriteError} b (Err refusals.PushError) (Ok (message_octets written)) ≡ Err refusals.NoMemory → ⊥
    by true f = cc
    by false f = cc

-- What is handed on by a table
pub comes_alone : (w : World) (most : ℕ) (replies : Replies) (message : List ℕ) → ComesAlone w most replies message
comes_alone w most replies message = by_groups (to_rewrite_alone w most replies message) refl
  where
    t : ℕ
    t = moment w

    as_alone : (handed_alone w most replies message).0 ≡ answer_of (alone w most replies message) → ComesAlone w most replies message
    as_alone e = by (alone w most replies message) refl
      where
        by : (r : Result Outcome Refusal) → alone w most replies message ≡ r → ComesAlone w most replies message
        by (Ok o) f = an_outcome o f (e ∙ ap answer_of f)
        by (Err x) f = a_refusal x f (e ∙ ap answer_of f)

    of_judged : (both : Both) → to_rewrite_alone w most replies message ≡ Some both → judged_alone w most replies message ≡ Some both
    of_judged both = by (judged_alone w most replies message)
      where
        by : (x : Option Both) → only_where (are_due t) x ≡ Some both → x ≡ Some both
        by None e = absurd cc
        by (Some other) e = here (are_due t other) e
          where
            here : (b : Bool) → cond b (Some other) None ≡ Some both → Some other ≡ Some both
            here true f = f
            here false f = absurd cc

    by_groups : (g : Option Both) → to_rewrite_alone w most replies message ≡ g → ComesAlone w most replies message
    by_groups None e = as_alone (ap (λ (g : Option Both). (handed_on t message (answer_of (alone w most replies message)) g).0) e)
    by_groups (Some both) e = by (rewriting message (map (bounded_at t) both.0) (map (bounded_at t) both.1)) refl
      where
        its : (handed_alone w most replies message).0
            ≡ (by_rewriting message (answer_of (alone w most replies message)) (rewriting message (map (bounded_at t) both.0) (map (bounded_at t) both.1))).0
        its = ap (λ (g : Option Both). (handed_on t message (answer_of (alone w most replies message)) g).0) e

        reads : Reads w.anchors most message both
        reads = judged_reads w most replies message both (of_judged both e)

        by : (r : Result (List ℕ) RewriteError) → rewriting message (map (bounded_at t) both.0) (map (bounded_at t) both.1) ≡ r → ComesAlone w most replies message
        by (Ok made) f = as_alone (its ∙ ap (λ (r : Result (List ℕ) RewriteError). (by_rewriting message (answer_of (alone w most replies message)) r).0) f)
        by (Err refusals.ParseError) f = cannot_read (kept_unread message (map (bounded_at t) both.0) (map (bounded_at t) both.1) f)
            (its ∙ ap (λ (r : Result (List ℕ) RewriteError). (by_rewriting message (answer_of (alone w most replies message)) r).0) f)
        by (Err refusals.PushError) f = too_long (long_out w.anchors most t message reads.questions both.0 both.1 reads.read f)
            (its ∙ ap (λ (r : Result (List ℕ) RewriteError). (by_rewriting message (answer_of (alone w most replies message)) r).0) f)
        by (Err refusals.NoMemory) f = absurd (not_lost (rewritten message (map (bounded_at t) both.0) (map (bounded_at t) both.1)) f)
