-- What a rewriting keeps of a message, read section after section.
use Rattle.std.proofs.Common.{◌≡◌, ℕ, List, Option, Some, None, refl, sym, ap, ◌∙◌}
use Rattle.std.specs.Bool.{OnFalse}
use Rattle.std.proofs.lemmas.Option.{same_Some}
use Rattle.dsec_spec.specs.Messages.{Header, header_of, Question, questions_of, answers_of, authorities_of, additionals_of, record_at}
use Rattle.dsec_spec.specs.Reading.{many_of}
use Rattle.dsec_spec.specs.Records.{Record}
use Rattle.dsec_message.proofs.SectionReading.{answers_after, authorities_after, additionals_after}
use Rattle.dsec_wire.specs.declared.error.MessageError.{MessageError}
use Rattle.dsec_wire.specs.declared.error.MessageError.TheVariants.{ParseError, NoMemory}
use Rattle.dsec_wire.specs.Errors.{wants_memory}
use Rattle.dsec_message.specs.MessageSections.{items_of}
use Rattle.dsec_rewrite.specs.Keeping.{place_of}
use Rattle.dsec_rewrite.specs.Rewriting.{kept_of}

-- what follows from what holds but for want of memory
pub on_parse : (e : MessageError) (A B : Type 0) → (A → B) → OnFalse (wants_memory e) A → OnFalse (wants_memory e) B
on_parse ParseError A B follows a = follows a
on_parse NoMemory A B follows a = tt

-- a place or items that were read were read together
placed : {A : Type 0} (read : Option (List A × ℕ)) (at : ℕ) → place_of read ≡ Some at → (items : List A) × (read ≡ Some (items, at))
placed (Some p) at e = (p.0, ap (λ n. Some (p.0, n)) (same_Some p.1 at e))
placed None at e = absurd cc

with_items : {A : Type 0} (read : Option (List A × ℕ)) (items : List A) → items_of read ≡ Some items → (at : ℕ) × (read ≡ Some (items, at))
with_items (Some p) items e = (p.1, ap (λ xs. Some (xs, p.1)) (same_Some p.0 items e))
with_items None items e = absurd cc

no_place : {A : Type 0} (read : Option (List A × ℕ)) → place_of read ≡ None → read ≡ None
no_place (Some p) e = absurd cc
no_place None e = refl

no_items : {A : Type 0} (read : Option (List A × ℕ)) → items_of read ≡ None → read ≡ None
no_items (Some p) e = absurd cc
no_items None e = refl

module _ (m : List ℕ) (header : Header) (h : header_of m ≡ Some header) where
  -- nothing is kept where a section can't be read
  pub no_questions : questions_of m ≡ None → kept_of m ≡ None
  no_questions e = rw e refl

  no_additionals : (q : List Question × ℕ) → questions_of m ≡ Some q → additionals_of m ≡ None → kept_of m ≡ None
  no_additionals q eq e = rw (eq, e) refl

  behind_authorities : authorities_of m ≡ None → additionals_of m ≡ None
  unfolding additionals_of
  behind_authorities e = rw (h, e) refl

  behind_answers : answers_of m ≡ None → authorities_of m ≡ None
  unfolding authorities_of
  behind_answers e = rw (h, e) refl

  pub no_answers : (q : List Question × ℕ) → questions_of m ≡ Some q → place_of (many_of (record_at m) header.answers q.1) ≡ None → kept_of m ≡ None
  no_answers q eq e = no_additionals q eq (behind_authorities (behind_answers (answers_after m header q h eq ∙ no_place _ e)))

  -- the place after the answer section
  pub answers_to : (q : List Question × ℕ) (at : ℕ) → questions_of m ≡ Some q → place_of (many_of (record_at m) header.answers q.1) ≡ Some at → (a : List Record) × (answers_of m ≡ Some (a, at))
  answers_to q at eq e = let a = placed _ at e in (a.0, answers_after m header q h eq ∙ a.1)

  pub no_authorities : (q : List Question × ℕ) (at : ℕ) → questions_of m ≡ Some q → place_of (many_of (record_at m) header.answers q.1) ≡ Some at
      → place_of (many_of (record_at m) header.authorities at) ≡ None → kept_of m ≡ None
  no_authorities q at eq ea e =
      let a = answers_to q at eq ea in
      no_additionals q eq (behind_authorities (authorities_after m header (a.0, at) h a.1 ∙ no_place _ e))

  pub authorities_to : (q : List Question × ℕ) (at last : ℕ) → questions_of m ≡ Some q → place_of (many_of (record_at m) header.answers q.1) ≡ Some at
      → place_of (many_of (record_at m) header.authorities at) ≡ Some last → (n : List Record) × (authorities_of m ≡ Some (n, last))
  authorities_to q at last eq ea en =
      let a = answers_to q at eq ea in
      let n = placed _ last en in
      (n.0, authorities_after m header (a.0, at) h a.1 ∙ n.1)

  pub nothing_behind : (q : List Question × ℕ) (at last : ℕ) → questions_of m ≡ Some q → place_of (many_of (record_at m) header.answers q.1) ≡ Some at
      → place_of (many_of (record_at m) header.authorities at) ≡ Some last → items_of (many_of (record_at m) header.additionals last) ≡ None → kept_of m ≡ None
  nothing_behind q at last eq ea en e =
      let n = authorities_to q at last eq ea en in
      no_additionals q eq (additionals_after m header (n.0, last) h n.1 ∙ no_items _ e)

  pub all_kept : (q : List Question × ℕ) (at last : ℕ) (xs : List Record) → questions_of m ≡ Some q → place_of (many_of (record_at m) header.answers q.1) ≡ Some at
      → place_of (many_of (record_at m) header.authorities at) ≡ Some last → items_of (many_of (record_at m) header.additionals last) ≡ Some xs → kept_of m ≡ Some (q.0, xs)
  all_kept q at last xs eq ea en ex =
      let n = authorities_to q at last eq ea en in
      let x = with_items _ xs ex in
      rw (eq, additionals_after m header (n.0, last) h n.1 ∙ x.1) refl

  -- the same, but for want of memory
  pub answers_fail : (e : MessageError) (q : List Question × ℕ) → questions_of m ≡ Some q → OnFalse (wants_memory e) (place_of (many_of (record_at m) header.answers q.1) ≡ None)
      → OnFalse (wants_memory e) (kept_of m ≡ None)
  answers_fail NoMemory q eq a = tt
  answers_fail ParseError q eq a = no_answers q eq a

  pub authorities_fail : (e : MessageError) (q : List Question × ℕ) (at : ℕ) → questions_of m ≡ Some q → place_of (many_of (record_at m) header.answers q.1) ≡ Some at
      → OnFalse (wants_memory e) (place_of (many_of (record_at m) header.authorities at) ≡ None) → OnFalse (wants_memory e) (kept_of m ≡ None)
  authorities_fail NoMemory q at eq ea n = tt
  authorities_fail ParseError q at eq ea n = no_authorities q at eq ea n

  pub additionals_fail : (e : MessageError) (q : List Question × ℕ) (at last : ℕ) → questions_of m ≡ Some q → place_of (many_of (record_at m) header.answers q.1) ≡ Some at
      → place_of (many_of (record_at m) header.authorities at) ≡ Some last → OnFalse (wants_memory e) (items_of (many_of (record_at m) header.additionals last) ≡ None)
      → OnFalse (wants_memory e) (kept_of m ≡ None)
  additionals_fail NoMemory q at last eq ea en x = tt
  additionals_fail ParseError q at last eq ea en x = nothing_behind q at last eq ea en x
