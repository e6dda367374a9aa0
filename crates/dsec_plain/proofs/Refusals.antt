-- When a message is refused, and when it has an outcome.
use Rattle.std.proofs.Common.{◌≡◌, ℕ, suc, List, [], ◌∷◌, length, Option, Some, None, Result, Ok, Err, ◌↔◌, ◌⊎◌, refl, sym, ap, ◌∙◌, subst, arith, inl, inr}
use Rattle.dsec_spec.specs.Records.{Record}
use Rattle.dsec_spec.specs.Messages.{Question}
use Rattle.dsec_spec.specs.Groups.{Group, groups_of}
use Rattle.dsec_spec.specs.Redirection.{moved}
use Rattle.dsec_nodes.specs.World.{World, Replies}
use Rattle.dsec_nodes.specs.Judging.{Judged, AllJudged, all, one_bogus, judged_all}
use Rattle.dsec_nodes.specs.Outcomes.{bogus, Outcome}
use Rattle.dsec_nodes.specs.Alone.{Refusal, unreadable, not_one_question, on_questions, on_judged, on_groups, on_sections, sections_of, alone}
use Rattle.dsec_plain.specs.Coming.{HasOutcome, IsBogusOutcome, IsReadable, HasNotOneQuestion}

abbrev Sections : Type 0
Sections = List Question × List Record × List Record

-- what holds of bogus outcomes, of others where there is one question, and of the refusal where there isn't, holds of what a message whose
-- sections can be read comes to
readable_has : (w : World) (most : ℕ) (replies : Replies) (message : List ℕ) (s : Sections) (Has : Result Outcome Refusal → Type 0)
    → ((o : Outcome) → o.state ≡ bogus → Has (Ok o)) → (length s.0 ≡ 1 → (o : Outcome) → Has (Ok o))
    → ((length s.0 ≡ 1 → ⊥) → Has (Err not_one_question)) → Has (on_sections w most replies message (Some s))
readable_has w most replies message s Has bad ended refused = by_moved (moved w.anchors most (groups_of s.1))
  where
    by_questions : (qs : List Question) → s.0 ≡ qs → (js beside : List Judged) → Has (on_questions w most message qs js beside)
    by_questions [] e js beside = refused (λ one. let z : 0 ≡ 1 = sym (ap length e) ∙ one in omega (arith, z))
    by_questions (q ∷ []) e js beside = ended (ap length e) _
    by_questions (q ∷ r ∷ qs) e js beside = refused (λ one. let z : suc (suc (length qs)) ≡ 1 = sym (ap length e) ∙ one in omega (arith, z))

    by_judged : (x y : AllJudged) → Has (on_judged w most message s.0 x y)
    by_judged (one_bogus cause links) y = bad _ refl
    by_judged (all js) (one_bogus cause links) = bad _ refl
    by_judged (all js) (all beside) = by_questions s.0 refl js beside

    by_moved : (m : Option (List Group)) → Has (on_groups w most replies message s.0 m (groups_of s.2))
    by_moved None = bad _ refl
    by_moved (Some groups) = by_judged (judged_all w replies groups) (judged_all w replies (groups_of s.2))

module _ (w : World) (most : ℕ) (replies : Replies) (message : List ℕ) where
  at_sections : (x : Option Sections) → sections_of message ≡ x → (Has : Result Outcome Refusal → Type 0)
      → Has (on_sections w most replies message x) → Has (alone w most replies message)
  at_sections x e Has h = subst (λ (y : Option Sections). Has (on_sections w most replies message y)) (sym e) h

  -- a message whose sections can be read and which has one question has an outcome, whatever the replies are (RFC 1035 4.1, 4.1.2)
  pub readable_has_outcome : (readable : IsReadable message) → length readable.questions ≡ 1 → HasOutcome (alone w most replies message)
  readable_has_outcome readable one = at_sections _ readable.read HasOutcome
      (readable_has w most replies message _ HasOutcome (λ o st. (o, refl)) (λ _ o. (o, refl)) (λ other. absurd (other one)))

  -- a message is unreadable exactly where its sections can't be read (RFC 1035 4.1)
  pub unreadable_exactly : (alone w most replies message ≡ Err unreadable) ↔ (sections_of message ≡ None)
  unreadable_exactly = (there (sections_of message) refl, λ e. ap (on_sections w most replies message) e)
    where
      Not : Result Outcome Refusal → Type 0
      Not r = r ≡ Err unreadable → ⊥

      there : (x : Option Sections) → sections_of message ≡ x → alone w most replies message ≡ Err unreadable → sections_of message ≡ None
      there None e f = e
      there (Some s) e f = absurd (at_sections (Some s) e Not (readable_has w most replies message s Not (λ o st g. absurd cc) (λ _ o g. absurd cc) (λ other g. absurd cc)) f)

  -- a message is refused for its questions only where its sections can be read, and it hasn't one question (RFC 1035 4.1.2)
  pub not_one_question_only : alone w most replies message ≡ Err not_one_question → HasNotOneQuestion message
  not_one_question_only = by (sections_of message) refl
    where
      by : (x : Option Sections) → sections_of message ≡ x → alone w most replies message ≡ Err not_one_question → HasNotOneQuestion message
      by None e f = absurd (let g : Err unreadable ≡ Err not_one_question = sym (ap (on_sections w most replies message) e) ∙ f in cc)
      by (Some s) e f = record {
        readable = record { questions = s.0; answers = s.1; authorities = s.2; read = e };
        not_one = at_sections (Some s) e (λ r. r ≡ Err not_one_question → length s.0 ≡ 1 → ⊥)
            (readable_has w most replies message s (λ r. r ≡ Err not_one_question → length s.0 ≡ 1 → ⊥) (λ o st g one. absurd cc) (λ _ o g one. absurd cc) (λ other g. other)) f;
      }

  -- and a message that can be read and hasn't one question is refused so, or is Bogus (RFC 1035 4.1.2)
  pub without_one_question : HasNotOneQuestion message → (alone w most replies message ≡ Err not_one_question) ⊎ IsBogusOutcome (alone w most replies message)
  without_one_question h = at_sections _ h.readable.read Either (readable_has w most replies message _ Either (λ o st. inr (o, refl, st)) (λ one o. absurd (h.not_one one)) (λ _. inl refl))
    where
      Either : Result Outcome Refusal → Type 0
      Either r = (r ≡ Err not_one_question) ⊎ IsBogusOutcome r
