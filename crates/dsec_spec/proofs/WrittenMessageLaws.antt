-- A message that is written reads back: its header, and each section item for item.
use Rattle.std.proofs.Common.{◌≡◌, ℕ, suc, ◌+◌, ◌-◌, ◌*◌, ◌^◌, ◌<◌, ◌≤◌, List, [], ◌∷◌, ◌++◌, length, drop, Some, refl, sym, ap, ◌∙◌, arith, append_assoc, length-append, length-drop}
use Rattle.std.specs.Prelude.{All, Option}
use Rattle.std.specs.List.{flat_map}
use Rattle.std.specs.Int.{w16, w32, to_be_bytes}
use Rattle.std.proofs.lemmas.Bool.{le-ltb}
use Rattle.std.proofs.lemmas.List.Elements.{All-head, All-tail}
use Rattle.std.proofs.lemmas.List.{append-nil}
use Rattle.dsec_spec.specs.Messages.{header_of, Question, question_at, record_at, questions_of, answers_of, authorities_of, additionals_of}
use Rattle.dsec_spec.specs.Names.{label_octets, wire_octets}
use Rattle.dsec_spec.specs.Reading.{many_of}
use Rattle.dsec_spec.specs.Records.{Record}
use Rattle.dsec_spec.specs.WrittenMessages.{Written, question_octets, record_octets, header_octets, header_for, items_octets, message_octets, IsWritableQuestion, IsWritableRecord, IsWritable}
use Rattle.dsec_spec.proofs.WrittenParts.{behind, two_again, u16_at-written, u32_at-written, name_at-written, data_at-written}

regrouped : (a b c x : List ℕ) → (a ++ b ++ c) ++ x ≡ a ++ (b ++ (c ++ x))
regrouped a b c x = simp append_assoc refl

all_regrouped : (a b c d e f x : List ℕ) → (a ++ b ++ c ++ d ++ e ++ f) ++ x ≡ a ++ (b ++ (c ++ (d ++ (e ++ (f ++ x)))))
all_regrouped a b c d e f x = simp append_assoc refl

-- a question has its name's octets and four more
pub length-question_octets : (question : Question) → length (question_octets question) ≡ length (wire_octets question.name) + 4
length-question_octets question =
    ap length (append_assoc (wire_octets question.name) (to_be_bytes w16 question.rtype) (to_be_bytes w16 question.class))
    ∙ length-append (wire_octets question.name) (to_be_bytes w16 question.rtype ++ to_be_bytes w16 question.class)

-- a record has its owner's octets, ten more and its data's
pub length-record_octets : (it : Record) → length (record_octets it) ≡ length (wire_octets it.owner) + 10 + length it.rdata
length-record_octets it =
    let e = length-append (wire_octets it.owner ++ to_be_bytes w16 it.rtype ++ to_be_bytes w16 it.class ++ to_be_bytes w32 it.ttl ++ to_be_bytes w16 (length it.rdata)) it.rdata in
    let f = length-append (wire_octets it.owner ++ to_be_bytes w16 it.rtype ++ to_be_bytes w16 it.class ++ to_be_bytes w32 it.ttl) (to_be_bytes w16 (length it.rdata)) in
    let g = length-append (wire_octets it.owner ++ to_be_bytes w16 it.rtype ++ to_be_bytes w16 it.class) (to_be_bytes w32 it.ttl) in
    let h = length-append (wire_octets it.owner ++ to_be_bytes w16 it.rtype) (to_be_bytes w16 it.class) in
    let i = length-append (wire_octets it.owner) (to_be_bytes w16 it.rtype) in
    omega (arith, e, f, g, h, i)

-- a question is read where it is written
question_at-written : (m : List ℕ) (at : ℕ) (question : Question) (others : List ℕ) → IsWritableQuestion question → drop at m ≡ question_octets question ++ others
    → question_at m at ≡ Some (question, at + length (question_octets question))
unfolding question_at
question_at-written m at question others good e =
    let after_class = others in
    let after_rtype = to_be_bytes w16 question.class ++ after_class in
    let after_name = to_be_bytes w16 question.rtype ++ after_rtype in
    let name = wire_octets question.name in
    let here : drop at m ≡ name ++ after_name = e ∙ regrouped name (to_be_bytes w16 question.rtype) (to_be_bytes w16 question.class) others in
    let rtype_here = behind m at name after_name here in
    let class_here = behind m (at + length name) (to_be_bytes w16 question.rtype) after_rtype rtype_here in
    let end : at + length name + 4 ≡ at + length (question_octets question) = omega (arith, length-question_octets question) in
    rw (
      name_at-written m at question.name after_name good.name here,
      u16_at-written m (at + length name) question.rtype after_rtype good.rtype rtype_here,
      u16_at-written m (at + length name + 2) question.class after_class good.class class_here,
      end,
    ) refl

-- a record is read where it is written
record_at-written : (m : List ℕ) (at : ℕ) (it : Record) (others : List ℕ) → IsWritableRecord it → drop at m ≡ record_octets it ++ others
    → record_at m at ≡ Some (it, at + length (record_octets it))
unfolding record_at
record_at-written m at it others good e =
    let after_rdata = others in
    let after_size = it.rdata ++ after_rdata in
    let after_ttl = to_be_bytes w16 (length it.rdata) ++ after_size in
    let after_class = to_be_bytes w32 it.ttl ++ after_ttl in
    let after_rtype = to_be_bytes w16 it.class ++ after_class in
    let after_owner = to_be_bytes w16 it.rtype ++ after_rtype in
    let owner = wire_octets it.owner in
    let place = at + length owner in
    let here : drop at m ≡ owner ++ after_owner = e ∙ all_regrouped owner (to_be_bytes w16 it.rtype) (to_be_bytes w16 it.class) (to_be_bytes w32 it.ttl) (to_be_bytes w16 (length it.rdata)) it.rdata others in
    let rtype_here = behind m at owner after_owner here in
    let class_here : drop (place + 2) m ≡ after_rtype = behind m place (to_be_bytes w16 it.rtype) after_rtype rtype_here in
    let four : place + 2 + 2 ≡ place + 4 = omega arith in
    let ttl_here : drop (place + 4) m ≡ after_class = rw (sym four) (behind m (place + 2) (to_be_bytes w16 it.class) after_class class_here) in
    let eight : place + 4 + 4 ≡ place + 8 = omega arith in
    let size_here : drop (place + 8) m ≡ after_ttl = rw (sym eight) (behind m (place + 4) (to_be_bytes w32 it.ttl) after_ttl ttl_here) in
    let ten : place + 8 + 2 ≡ place + 10 = omega arith in
    let rdata_here : drop (place + 10) m ≡ after_size = rw (sym ten) (behind m (place + 8) (to_be_bytes w16 (length it.rdata)) after_size size_here) in
    let left : length m - (place + 8) ≡ suc (suc (length it.rdata + length others)) = sym (length-drop (place + 8) m) ∙ ap length size_here ∙ ap (λ (n : ℕ). suc (suc n)) (length-append it.rdata others) in
    let fits : place + 10 + length it.rdata ≤ length m = omega (arith, left) in
    let small : length it.rdata < 2 ^ 16 = omega (arith, good.rdata.at_most) in
    let end : place + 10 + length it.rdata ≡ at + length (record_octets it) = omega (arith, length-record_octets it) in
    rw (
      name_at-written m at it.owner after_owner good.owner here,
      u16_at-written m place it.rtype after_rtype good.rtype rtype_here,
      u16_at-written m (place + 2) it.class after_class good.class class_here,
      u32_at-written m (place + 4) it.ttl after_ttl good.ttl ttl_here,
      u16_at-written m (place + 8) (length it.rdata) after_size small size_here,
      le-ltb (length m) (place + 10 + length it.rdata) fits,
      data_at-written it.rtype it.rdata m (place + 10) (place + 10 + length it.rdata) others good.rdata rdata_here refl,
      end,
    ) refl

-- things are read one after the other where they are written so, if each is where it is written
many_of-written : {A : Type 0} (read : ℕ → Option (A × ℕ)) (octets_of : A → List ℕ) (Good : A → Type 0) (m : List ℕ)
    → ((at : ℕ) (x : A) (others : List ℕ) → Good x → drop at m ≡ octets_of x ++ others → read at ≡ Some (x, at + length (octets_of x)))
    → (items : List A) (at : ℕ) (others : List ℕ) → All Good items → drop at m ≡ flat_map octets_of items ++ others
    → many_of read (length items) at ≡ Some (items, at + length (flat_map octets_of items))
unfolding many_of
many_of-written read octets_of Good m one [] at others all e =
    let end : at + 0 ≡ at = omega arith in rw end refl
many_of-written read octets_of Good m one (x ∷ items) at others all e =
    let after = flat_map octets_of items ++ others in
    let here : drop at m ≡ octets_of x ++ after = e ∙ append_assoc (octets_of x) (flat_map octets_of items) others in
    let next = many_of-written read octets_of Good m one items (at + length (octets_of x)) others (All-tail Good x items all) (behind m at (octets_of x) after here) in
    let end : at + length (octets_of x) + length (flat_map octets_of items) ≡ at + length (octets_of x ++ flat_map octets_of items) = omega (arith, length-append (octets_of x) (flat_map octets_of items)) in
    rw (one at x after (All-head Good x items all) here, next, end) refl

-- where each item has 5 octets or more, so have the items together for each of them
many_within : {A : Type 0} (octets_of : A → List ℕ) → ((x : A) → 5 ≤ length (octets_of x)) → (items : List A) → length items * 5 ≤ length (flat_map octets_of items)
many_within octets_of some [] = omega arith
many_within octets_of some (x ∷ items) =
    omega (arith, some x, many_within octets_of some items, length-append (octets_of x) (flat_map octets_of items))

-- where the sections of a message that is written end
abbrev pub questions_end : Written → ℕ
questions_end w = 12 + length (flat_map question_octets w.questions)

abbrev pub answers_end : Written → ℕ
answers_end w = questions_end w + length (flat_map record_octets w.answers)

abbrev pub authorities_end : Written → ℕ
authorities_end w = answers_end w + length (flat_map record_octets w.authorities)

abbrev pub additionals_end : Written → ℕ
additionals_end w = authorities_end w + length (flat_map record_octets w.additionals)

-- what is read of a message that is written: its header, and each section with the place after it
pub record ReadsBack (w : Written) (m : List ℕ) : Type 0 where
  pub header : header_of m ≡ Some (header_for w)
  pub questions : questions_of m ≡ Some (w.questions, questions_end w)
  pub answers : answers_of m ≡ Some (w.answers, answers_end w)
  pub authorities : authorities_of m ≡ Some (w.authorities, authorities_end w)
  pub additionals : additionals_of m ≡ Some (w.additionals, additionals_end w)

sections_regrouped : (a b c d : List ℕ) → a ++ b ++ c ++ d ≡ a ++ (b ++ (c ++ (d ++ [])))
sections_regrouped a b c d = simp (append_assoc, append-nil) refl

-- a message ends where its last section does
pub length-message_octets : (w : Written) → length (message_octets w) ≡ additionals_end w
unfolding message_octets
length-message_octets w =
    let q = flat_map question_octets w.questions in let a = flat_map record_octets w.answers in
    let n = flat_map record_octets w.authorities in let x = flat_map record_octets w.additionals in
    omega (arith, length-append (header_octets (header_for w)) (items_octets w), length-append (q ++ a ++ n) x, length-append (q ++ a) n, length-append q a)

-- a question has at least 5 octets, and a record more
question_some : (question : Question) → 5 ≤ length (question_octets question)
question_some question = omega (arith, length-question_octets question, length-append (flat_map label_octets question.name) (0 ∷ []))

record_some : (it : Record) → 5 ≤ length (record_octets it)
record_some it = omega (arith, length-record_octets it)

-- the counts of a message that fits a message's octets fit theirs
pub record CountsFit (w : Written) : Type 0 where
  pub questions : length w.questions * 5 ≤ length (message_octets w)
  pub answers : length w.answers * 5 ≤ length (message_octets w)
  pub authorities : length w.authorities * 5 ≤ length (message_octets w)
  pub additionals : length w.additionals * 5 ≤ length (message_octets w)

pub counts_fit : (w : Written) → CountsFit w
counts_fit w =
    let all = length-message_octets w in
    record {
      questions = omega (arith, all, many_within question_octets question_some w.questions);
      answers = omega (arith, all, many_within record_octets record_some w.answers);
      authorities = omega (arith, all, many_within record_octets record_some w.authorities);
      additionals = omega (arith, all, many_within record_octets record_some w.additionals);
    }

-- the header of a message that is written
header_of-written : (w : Written) → IsWritable w → length (message_octets w) ≤ 65535 → header_of (message_octets w) ≡ Some (header_for w)
unfolding message_octets
header_of-written w good most =
    let counts = counts_fit w in
    rw (
      two_again w.id good.id,
      two_again w.flags good.flags,
      two_again (length w.questions) (omega (arith, counts.questions, most)),
      two_again (length w.answers) (omega (arith, counts.answers, most)),
      two_again (length w.authorities) (omega (arith, counts.authorities, most)),
      two_again (length w.additionals) (omega (arith, counts.additionals, most)),
    ) refl

-- what stands behind the header
items_there : (w : Written) → drop 12 (message_octets w) ≡ flat_map question_octets w.questions ++ (flat_map record_octets w.answers ++ (flat_map record_octets w.authorities ++ (flat_map record_octets w.additionals ++ [])))
unfolding message_octets
items_there w = sections_regrouped (flat_map question_octets w.questions) (flat_map record_octets w.answers) (flat_map record_octets w.authorities) (flat_map record_octets w.additionals)

-- a message that is written reads back
pub reads_back : (w : Written) → IsWritable w → length (message_octets w) ≤ 65535 → ReadsBack w (message_octets w)
unfolding questions_of answers_of authorities_of additionals_of
reads_back w good most =
    let m = message_octets w in
    let x = flat_map record_octets w.additionals ++ [] in
    let n = flat_map record_octets w.authorities ++ x in
    let a = flat_map record_octets w.answers ++ n in
    let header = header_of-written w good most in
    let items = items_there w in
    let one_question = λ (at : ℕ) (question : Question) (others : List ℕ). question_at-written m at question others in
    let one_record = λ (at : ℕ) (it : Record) (others : List ℕ). record_at-written m at it others in
    let questions = many_of-written (question_at m) question_octets IsWritableQuestion m one_question w.questions 12 a good.questions items in
    let after_questions = behind m 12 (flat_map question_octets w.questions) a items in
    let answers = many_of-written (record_at m) record_octets IsWritableRecord m one_record w.answers (questions_end w) n good.answers after_questions in
    let after_answers = behind m (questions_end w) (flat_map record_octets w.answers) n after_questions in
    let authorities = many_of-written (record_at m) record_octets IsWritableRecord m one_record w.authorities (answers_end w) x good.authorities after_answers in
    let after_authorities = behind m (answers_end w) (flat_map record_octets w.authorities) x after_answers in
    let additionals = many_of-written (record_at m) record_octets IsWritableRecord m one_record w.additionals (authorities_end w) [] good.additionals after_authorities in
    record {
      header = header;
      questions = rw (header, questions) refl;
      answers = rw (header, questions, answers) refl;
      authorities = rw (header, questions, answers, authorities) refl;
      additionals = rw (header, questions, answers, authorities, additionals) refl;
    }
