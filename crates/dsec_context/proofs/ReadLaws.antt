-- What an answer is by what can be read of the message.
use Rattle.std.proofs.Common.{◌≡◌, ℕ, List, [], ◌∷◌, length, Option, Some, None, Ok, inl, inr, refl, sym, ap, ◌∙◌}
use Rattle.std.proofs.lemmas.Option.{same_Some}
use Rattle.dsec_spec.specs.Records.{Record}
use Rattle.dsec_spec.specs.Messages.{Question, questions_of, answers_of, authorities_of}
use Rattle.dsec_spec.proofs.ReadingLemmas.{from_bind}
use Rattle.dsec_spec.specs.Groups.{Group}
use Rattle.dsec_nodes.specs.World.{World}
use Rattle.dsec_nodes.specs.Outcomes.{State, secure, insecure, bogus, indeterminate, Outcome}
use Rattle.dsec_nodes.specs.SoundOutcomes.{EndsThere, Decides, IsJustified}
use Rattle.dsec_nodes.specs.Alone.{sections_of}
use Rattle.dsec_plain.specs.Coming.{IsReadable, HasNotOneQuestion}
use Rattle.dsec_course.specs.Course.{Course}
use Rattle.dsec_course.specs.Advancing.{begun, begun_by}

abbrev Sections : Type 0
Sections = List Question × List Record × List Record

-- what has begun can be read
pub begun_reads : (anchors : List Record) (most : ℕ) (message : List ℕ) (c : Course) → begun anchors most message ≡ Ok c → IsReadable message
begun_reads anchors most message c e = by (sections_of message) refl e
  where
    by : (x : Option Sections) → sections_of message ≡ x → begun_by anchors most message x ≡ Ok c → IsReadable message
    by None f g = absurd cc
    by (Some (questions, answers, authorities)) f g = record { questions = questions; answers = answers; authorities = authorities; read = f }

-- what can't be read isn't read
pub not_both : (message : List ℕ) → sections_of message ≡ None → IsReadable message → ⊥
not_both message e r = none_is_some (r.questions, r.answers, r.authorities) (sym e ∙ r.read)
  where
    none_is_some : (s : Sections) → None ≡ Some s → ⊥
    none_is_some s f = cc

-- the question section, as it is read with the other two
asked_is : (message : List ℕ) (r : IsReadable message) → (rest : ℕ) × (questions_of message ≡ Some (r.questions, rest))
asked_is message r =
    let s : Sections = (r.questions, r.answers, r.authorities) in
    let authorities = from_bind (authorities_of message) _ s r.read in
    let answers = from_bind (answers_of message) _ s authorities.2 in
    let questions = from_bind (questions_of message) _ s answers.2 in
    let parts : (questions.0.0, answers.0.0, authorities.0.0) ≡ s = same_Some _ _ questions.2 in
    (questions.0.1, questions.1 ∙ ap (λ (x : Sections). Some (x.0, questions.0.1)) parts)

the_one : (questions : List Question) → length questions ≡ 1 → (question : Question) × (questions ≡ question ∷ [])
the_one [] e = absurd cc
the_one (question ∷ []) e = (question, refl)
the_one (question ∷ other ∷ more) e = absurd cc

-- a message with one question has one, where it is read
pub asks_one : (message : List ℕ) (r : IsReadable message) → length r.questions ≡ 1
    → (question : Question) × (rest : ℕ) × (questions_of message ≡ Some (question ∷ [], rest))
asks_one message r one =
    let asked = asked_is message r in
    let the = the_one r.questions one in
    (the.0, asked.0, asked.1 ∙ ap (λ (qs : List Question). Some (qs, asked.0)) the.1)

-- in one that hasn't one question no group decides
pub unasked : (w : World) (most : ℕ) (message : List ℕ) → HasNotOneQuestion message → EndsThere w most message → ⊥
unasked w most message h end =
    let asked = asked_is message h.readable in
    let same = same_Some _ _ (sym asked.1 ∙ end.read.asked) in
    h.not_one (ap (λ (p : List Question × ℕ). length p.0) same)

pub undecided : (w : World) (most : ℕ) (message : List ℕ) (group : Group) → HasNotOneQuestion message → Decides w most message group → ⊥
undecided w most message group h (inl answered) = unasked w most message h answered.end
undecided w most message group h (inr denied) = unasked w most message h denied.end

-- so its outcome can only be bogus
pub only_bogus : (w : World) (most : ℕ) (message : List ℕ) (o : Outcome) → HasNotOneQuestion message → IsJustified w most message o o.state → o.state ≡ bogus
only_bogus w most message o h = by o.state refl
  where
    by : (s : State) → o.state ≡ s → IsJustified w most message o s → s ≡ bogus
    by secure e (inl j, none) = absurd (unasked w most message h j.answered.end)
    by secure e (inr (inl j), none) = absurd (unasked w most message h j.answered.end)
    by secure e (inr (inr j), none) = absurd (unasked w most message h j.has_soa.end)
    by insecure e (inl j) = absurd (undecided w most message j.group h j.decides)
    by insecure e (inr (inl j)) = absurd (undecided w most message j.group h j.decides)
    by insecure e (inr (inr (inl j))) = absurd (unasked w most message h j.has_soa.end)
    by insecure e (inr (inr (inr (inl j)))) = absurd (unasked w most message h j.answered.end)
    by insecure e (inr (inr (inr (inr (inl j))))) = absurd (unasked w most message h j.end)
    by insecure e (inr (inr (inr (inr (inr j))))) = absurd (unasked w most message h j.end)
    by bogus e j = refl
    by indeterminate e (inl j) = absurd (undecided w most message j.group h j.decides)
    by indeterminate e (inr j) = absurd (unasked w most message h j.end)
