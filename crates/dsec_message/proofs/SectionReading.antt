-- The sections of a message, one after the other.
use Rattle.std.proofs.Common.{◌≡◌, ℕ, suc, ◌+◌, ◌-◌, ◌<◌, ◌≤◌, List, Option, Some, None, refl, sym, ◌∙◌, subst, arith}
use Rattle.std.specs.Bool.{OnFalse}
use Rattle.std.proofs.lemmas.Bool.{eq-eqb, ne_eqb}
use Rattle.std.proofs.lemmas.Option.{same_Some}
use Rattle.dsec_spec.specs.Numbers.{OPT}
use Rattle.dsec_spec.specs.Messages.{Header, header_of, Question, questions_of, answers_of, authorities_of, additionals_of, record_at, first_opt, opt_of}
use Rattle.dsec_spec.specs.Reading.{◌>>=◌, many_of}
use Rattle.dsec_spec.specs.Records.{Record}
use Rattle.dsec_spec.proofs.ReadingLemmas.{from_bind}
use Rattle.dsec_wire.specs.declared.error.MessageError.{MessageError}
use Rattle.dsec_wire.specs.declared.error.MessageError.TheVariants.{ParseError, NoMemory}
use Rattle.dsec_wire.specs.Errors.{wants_memory}
use Rattle.dsec_message.specs.MessageSections.{AnswersRead, SectionsRead, questions_and_answers, sections_and_place, items_of}

not_both : {A : Type 0} (o : Option A) (x : A) → o ≡ None → o ≡ Some x → ⊥
not_both o x e f = absurd cc

-- the records of the answer section stand after the questions
pub answers_after : (m : List ℕ) (header : Header) (questions : List Question × ℕ) → header_of m ≡ Some header → questions_of m ≡ Some questions → answers_of m ≡ many_of (record_at m) header.answers questions.1
unfolding answers_of
answers_after m header questions h q = rw (h, q) refl

-- and so on
pub authorities_after : (m : List ℕ) (header : Header) (answers : List Record × ℕ) → header_of m ≡ Some header → answers_of m ≡ Some answers → authorities_of m ≡ many_of (record_at m) header.authorities answers.1
unfolding authorities_of
authorities_after m header answers h a = rw (h, a) refl

pub additionals_after : (m : List ℕ) (header : Header) (authorities : List Record × ℕ) → header_of m ≡ Some header → authorities_of m ≡ Some authorities → additionals_of m ≡ many_of (record_at m) header.additionals authorities.1
unfolding additionals_of
additionals_after m header authorities h a = rw (h, a) refl

pub answers_read : (m : List ℕ) (header : Header) (questions : List Question × ℕ) (answers : List Record × ℕ) → header_of m ≡ Some header → questions_of m ≡ Some questions → many_of (record_at m) header.answers questions.1 ≡ Some answers
    → questions_and_answers m ≡ Some (questions.0, answers.0, answers.1)
answers_read m header questions answers h q a = rw (q, answers_after m header questions h q, a) refl

pub answers_fail : (m : List ℕ) (header : Header) (questions : List Question × ℕ) (error : MessageError) → header_of m ≡ Some header → questions_of m ≡ Some questions
    → OnFalse (wants_memory error) (many_of (record_at m) header.answers questions.1 ≡ None) → OnFalse (wants_memory error) (questions_and_answers m ≡ None)
answers_fail m header questions NoMemory h q a = tt
answers_fail m header questions ParseError h q a = rw (q, answers_after m header questions h q, a) refl

-- the questions and the answers, from both together
pub record HasAnswers (m : List ℕ) (read : AnswersRead) : Type 0 where
  pub place : ℕ
  pub questions : questions_of m ≡ Some (read.0, place)
  pub answers : answers_of m ≡ Some (read.1, read.2)

pub from_answers : (m : List ℕ) (read : AnswersRead) → questions_and_answers m ≡ Some read → HasAnswers m read
from_answers m read e =
    let q = from_bind (questions_of m) _ read e in
    let a = from_bind (answers_of m) _ read q.2 in
    subst (HasAnswers m) (same_Some (q.0.0, a.0.0, a.0.1) read a.2) (record { place = q.0.1; questions = q.1; answers = a.1 })

pub sections_read : (m : List ℕ) (header : Header) (read : AnswersRead) (authorities : List Record × ℕ) → header_of m ≡ Some header → questions_and_answers m ≡ Some read → many_of (record_at m) header.authorities read.2 ≡ Some authorities
    → sections_and_place m ≡ Some (record { question = read.0; answer = read.1; authority = authorities.0 }, authorities.1)
sections_read m header read authorities h r a =
    let has = from_answers m read r in
    rw (has.questions, has.answers, authorities_after m header (read.1, read.2) h has.answers, a) refl

pub sections_fail : (m : List ℕ) (header : Header) (read : AnswersRead) (error : MessageError) → header_of m ≡ Some header → questions_and_answers m ≡ Some read
    → OnFalse (wants_memory error) (many_of (record_at m) header.authorities read.2 ≡ None) → OnFalse (wants_memory error) (sections_and_place m ≡ None)
sections_fail m header read NoMemory h r a = tt
sections_fail m header read ParseError h r a =
    let has = from_answers m read r in
    rw (has.questions, has.answers, authorities_after m header (read.1, read.2) h has.answers, a) refl

-- records of a section come only after the sections before it
questions_before : (m : List ℕ) (answers : List Record × ℕ) → answers_of m ≡ Some answers → (questions : List Question × ℕ) × (questions_of m ≡ Some questions)
unfolding answers_of
questions_before m answers a =
    let h = from_bind (header_of m) _ answers a in
    let q = from_bind (questions_of m) _ answers h.2 in
    (q.0, q.1)

answers_before : (m : List ℕ) (authorities : List Record × ℕ) → authorities_of m ≡ Some authorities → (answers : List Record × ℕ) × (answers_of m ≡ Some answers)
unfolding authorities_of
answers_before m authorities a =
    let h = from_bind (header_of m) _ authorities a in
    let before = from_bind (answers_of m) _ authorities h.2 in
    (before.0, before.1)

-- where the sections up to one are not readable, nor is that one
pub answers_none : (m : List ℕ) → questions_and_answers m ≡ None → answers_of m ≡ None
answers_none m e = elim (answers_of m) as (λ o. answers_of m ≡ o → answers_of m ≡ None) [
  | Some answers ↦ λ a.
      let q = questions_before m answers a in
      absurd (not_both (questions_and_answers m) (q.0.0, answers.0, answers.1) e (rw (q.1, a) refl))
  | None ↦ λ a. a
] refl

pub authorities_none : (m : List ℕ) → sections_and_place m ≡ None → authorities_of m ≡ None
authorities_none m e = elim (authorities_of m) as (λ o. authorities_of m ≡ o → authorities_of m ≡ None) [
  | Some authorities ↦ λ n.
      let a = answers_before m authorities n in
      let q = questions_before m a.0 a.1 in
      absurd (not_both (sections_and_place m) (record { question = q.0.0; answer = a.0.0; authority = authorities.0 }, authorities.1) e (rw (q.1, a.1, n) refl))
  | None ↦ λ a. a
] refl

-- the first three sections, from all of them together
pub record HasSections (m : List ℕ) (read : SectionsRead) : Type 0 where
  pub authorities : authorities_of m ≡ Some (read.0.authority, read.1)

pub from_sections : (m : List ℕ) (read : SectionsRead) → sections_and_place m ≡ Some read → HasSections m read
from_sections m read e =
    let q = from_bind (questions_of m) _ read e in
    let a = from_bind (answers_of m) _ read q.2 in
    let n = from_bind (authorities_of m) _ read a.2 in
    subst (HasSections m) (same_Some (record { question = q.0.0; answer = a.0.0; authority = n.0.0 }, n.0.1) read n.2) (record { authorities = n.1 })

pub items_none : {A : Type 0} (read : Option (List A × ℕ)) → read ≡ None → items_of read ≡ None
items_none read e = rw e refl

pub items_some : {A : Type 0} (read : Option (List A × ℕ)) (all : List A × ℕ) → read ≡ Some all → items_of read ≡ Some all.0
items_some read all e = rw e refl

-- what an error of the sections before says of one
pub answers_refused : (m : List ℕ) (error : MessageError) → OnFalse (wants_memory error) (questions_and_answers m ≡ None) → OnFalse (wants_memory error) (items_of (answers_of m) ≡ None)
answers_refused m NoMemory h = tt
answers_refused m ParseError h = items_none (answers_of m) (answers_none m h)

pub authorities_refused : (m : List ℕ) (error : MessageError) → OnFalse (wants_memory error) (sections_and_place m ≡ None) → OnFalse (wants_memory error) (items_of (authorities_of m) ≡ None)
authorities_refused m NoMemory h = tt
authorities_refused m ParseError h = items_none (authorities_of m) (authorities_none m h)

pub additionals_refused : (m : List ℕ) (header : Header) (error : MessageError) → header_of m ≡ Some header → OnFalse (wants_memory error) (sections_and_place m ≡ None) → OnFalse (wants_memory error) (items_of (additionals_of m) ≡ None)
unfolding additionals_of
additionals_refused m header NoMemory e h = tt
additionals_refused m header ParseError e h = rw (e, authorities_none m h) refl

pub additionals_fail : (m : List ℕ) (header : Header) (read : SectionsRead) (error : MessageError) → header_of m ≡ Some header → sections_and_place m ≡ Some read
    → OnFalse (wants_memory error) (many_of (record_at m) header.additionals read.1 ≡ None) → OnFalse (wants_memory error) (items_of (additionals_of m) ≡ None)
additionals_fail m header read NoMemory e r h = tt
additionals_fail m header read ParseError e r h = items_none (additionals_of m) (additionals_after m header (read.0.authority, read.1) e (from_sections m read r).authorities ∙ h)

pub additionals_read : (m : List ℕ) (header : Header) (read : SectionsRead) (all : List Record × ℕ) → header_of m ≡ Some header → sections_and_place m ≡ Some read → many_of (record_at m) header.additionals read.1 ≡ Some all
    → items_of (additionals_of m) ≡ Some all.0
additionals_read m header read all e r h = items_some (additionals_of m) all (additionals_after m header (read.0.authority, read.1) e (from_sections m read r).authorities ∙ h)

-- the first OPT record stands after the first three sections
pub opt_after : (m : List ℕ) (header : Header) (read : SectionsRead) → header_of m ≡ Some header → sections_and_place m ≡ Some read → opt_of m ≡ first_opt m header.additionals read.1
unfolding opt_of
opt_after m header read h r = rw (h, (from_sections m read r).authorities) refl

pub no_opt : (m : List ℕ) → sections_and_place m ≡ None → opt_of m ≡ None
unfolding opt_of
no_opt m e = rw (authorities_none m e) (none (header_of m))
  where
    none : (o : Option Header) → (o >>= λ header. ◌>>=◌ {A = List Record × ℕ} {B = Record} None (λ before. first_opt m header.additionals before.1)) ≡ None
    none (Some header) = refl
    none None = refl

-- where the header says that the additional section has no record, there is no OPT record
pub no_additional : (m : List ℕ) (header : Header) → header_of m ≡ Some header → header.additionals ≡ 0 → opt_of m ≡ None
unfolding opt_of first_opt
no_additional m header h e = rw h (none (authorities_of m))
  where
    none : (o : Option (List Record × ℕ)) → (o >>= λ before. first_opt m header.additionals before.1) ≡ None
    none (Some before) = rw e refl
    none None = refl

turn : (count k : ℕ) → k < count → count - k ≡ suc (count - (k + 1))
turn count k below = omega arith

-- each of these at turn k of a loop that has kept the rest as it was
pub opt_unreadable : (m : List ℕ) (count k at : ℕ) (total : Option Record) → k < count → record_at m at ≡ None → first_opt m (count - k) at ≡ total → total ≡ None
unfolding first_opt
opt_unreadable m count k at total below e so_far = sym so_far ∙ rw (turn count k below, e) refl

pub opt_found : (m : List ℕ) (count k at : ℕ) (read : Record × ℕ) (total : Option Record) → k < count → record_at m at ≡ Some read → read.0.rtype ≡ OPT → first_opt m (count - k) at ≡ total → total ≡ Some read.0
unfolding first_opt
opt_found m count k at read total below e is so_far = sym so_far ∙ rw (turn count k below, e, eq-eqb read.0.rtype OPT is) refl

pub opt_goes_on : (m : List ℕ) (count k at : ℕ) (read : Record × ℕ) (total : Option Record) → k < count → record_at m at ≡ Some read → (read.0.rtype ≡ OPT → ⊥) → first_opt m (count - k) at ≡ total → first_opt m (count - (k + 1)) read.1 ≡ total
unfolding first_opt
opt_goes_on m count k at read total below e is_not so_far = rw (turn count k below, e, ne_eqb read.0.rtype OPT is_not) at so_far

pub opt_missing : (m : List ℕ) (count k at : ℕ) (total : Option Record) → count ≤ k → first_opt m (count - k) at ≡ total → total ≡ None
unfolding first_opt
opt_missing m count k at total past so_far =
    let none : count - k ≡ 0 = omega arith in
    sym so_far ∙ rw none refl
