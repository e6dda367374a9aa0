-- Octets of a message in progress say what was added.
use Rattle.std.proofs.Common.{◌≡◌, ℕ, ◌+◌, ◌^◌, ◌<◌, ◌≤◌, List, [], ◌∷◌, ◌++◌, length, drop, Some, refl, sym, ap, subst, ◌∙◌, arith, append_assoc, length-append}
use Rattle.std.specs.Prelude.{Result, Ok, Err, OnOk}
use Rattle.std.specs.List.{flat_map}
use Rattle.std.proofs.lemmas.List.{append-nil, drop-append-le, length-drop}
use Rattle.std.proofs.lemmas.List.Concat.{flat_map-append}
use Rattle.std.proofs.lemmas.List.Elements.{All-nil, All-push}
use Rattle.dsec_spec.specs.Messages.{Question}
use Rattle.dsec_spec.specs.Reading.{u16_in, u16_at}
use Rattle.dsec_spec.specs.Records.{Record}
use Rattle.dsec_spec.specs.WrittenMessages.{Written, question_octets, record_octets, items_octets, message_octets, IsWritableQuestion, IsWritableRecord, IsWritable}
use Rattle.dsec_spec.proofs.WrittenParts.{two_again}
use Rattle.dsec_spec.proofs.WrittenMessageLaws.{reads_back, counts_fit, length-message_octets}
use Rattle.dsec_builder.specs.Building.{number_or_0, read_back, IsMessageOf, IsBuilt, Says, with_id, with_flags, with_question, with_answer, with_authority, with_additional, nothing_written, with_number, raised, EndsInQuestions, EndsInAnswers, EndsInAuthorities}

id_of : (w : Written) → IsWritable w → u16_at (message_octets w) 0 ≡ Some w.id
unfolding message_octets
id_of w good = rw (two_again w.id good.id) refl

flags_of : (w : Written) → IsWritable w → u16_at (message_octets w) 2 ≡ Some w.flags
unfolding message_octets
flags_of w good = rw (two_again w.flags good.flags) refl

-- the octets of a message that can be written say it
pub says : (w : Written) → IsWritable w → length (message_octets w) ≤ 65535 → Says (message_octets w) w
unfolding read_back
says w good most =
    let back = reads_back w good most in
    let is : read_back (message_octets w) ≡ w = rw (id_of w good, flags_of w good, back.questions, back.answers, back.authorities, back.additionals) refl in
    record {
      built = record { is = sym (ap message_octets is); good = subst IsWritable (sym is) good; at_most = most };
      is = is;
    }

-- twelve octets 0 say that there is no item
pub nothing_says : Says (0 ∷ 0 ∷ 0 ∷ 0 ∷ 0 ∷ 0 ∷ 0 ∷ 0 ∷ 0 ∷ 0 ∷ 0 ∷ 0 ∷ []) nothing_written
unfolding message_octets
nothing_says =
    let good : IsWritable nothing_written = record {
      id = omega arith;
      flags = omega arith;
      questions = All-nil IsWritableQuestion;
      answers = All-nil IsWritableRecord;
      authorities = All-nil IsWritableRecord;
      additionals = All-nil IsWritableRecord;
    } in
    says nothing_written good (omega arith)

-- a number of the header is the same when octets are added
pub number_in_front : (m x : List ℕ) (at : ℕ) → at + 2 ≤ length m → u16_at (m ++ x) at ≡ u16_at m at
number_in_front m x at fits =
    ap u16_in (drop-append-le at m x (omega (arith, fits))) ∙ two_there (drop at m) (omega (arith, length-drop at m, fits))
  where
    two_there : (y : List ℕ) → 2 ≤ length y → u16_in (y ++ x) ≡ u16_in y
    two_there [] some = absurd (omega (arith, some))
    two_there (a ∷ []) some = absurd (omega (arith, some))
    two_there (a ∷ b ∷ y) some = refl

-- an item behind the last section that has any
behind_questions : (q r a n x : List ℕ) → a ≡ [] → n ≡ [] → x ≡ [] → (q ++ a ++ n ++ x) ++ r ≡ (q ++ (r ++ [])) ++ a ++ n ++ x
behind_questions q r a n x ea en ex = rw (ea, en, ex) (simp (append_assoc, append-nil) refl)

behind_answers : (q a r n x : List ℕ) → n ≡ [] → x ≡ [] → (q ++ a ++ n ++ x) ++ r ≡ q ++ (a ++ (r ++ [])) ++ n ++ x
behind_answers q a r n x en ex = rw (en, ex) (simp (append_assoc, append-nil) refl)

behind_authorities : (q a n r x : List ℕ) → x ≡ [] → (q ++ a ++ n ++ x) ++ r ≡ q ++ a ++ (n ++ (r ++ [])) ++ x
behind_authorities q a n r x ex = rw ex (simp (append_assoc, append-nil) refl)

behind_additionals : (q a n x r : List ℕ) → (q ++ a ++ n ++ x) ++ r ≡ q ++ a ++ n ++ (x ++ (r ++ []))
behind_additionals q a n x r = simp (append_assoc, append-nil) refl

no_records : (records : List Record) → records ≡ [] → flat_map record_octets records ≡ []
no_records records e = rw e refl

raised_question : (w : Written) (it : Question) → w.answers ≡ [] → w.authorities ≡ [] → w.additionals ≡ [] → length w.questions < 2 ^ 16
    → raised 4 (message_octets w ++ question_octets it) ≡ message_octets (with_question w it)
unfolding message_octets
raised_question w it ea en ex small =
    let q = flat_map question_octets w.questions in let a = flat_map record_octets w.answers in
    let n = flat_map record_octets w.authorities in let x = flat_map record_octets w.additionals in
    let items : items_octets w ++ question_octets it ≡ items_octets (with_question w it) =
    rw (flat_map-append question_octets w.questions (it ∷ [])) (behind_questions q (question_octets it) a n x (no_records w.answers ea) (no_records w.authorities en) (no_records w.additionals ex)) in
    rw (two_again (length w.questions) small, length-append w.questions (it ∷ []), items) refl

raised_answer : (w : Written) (it : Record) → w.authorities ≡ [] → w.additionals ≡ [] → length w.answers < 2 ^ 16
    → raised 6 (message_octets w ++ record_octets it) ≡ message_octets (with_answer w it)
unfolding message_octets
raised_answer w it en ex small =
    let q = flat_map question_octets w.questions in let a = flat_map record_octets w.answers in
    let n = flat_map record_octets w.authorities in let x = flat_map record_octets w.additionals in
    let items : items_octets w ++ record_octets it ≡ items_octets (with_answer w it) =
    rw (flat_map-append record_octets w.answers (it ∷ [])) (behind_answers q a (record_octets it) n x (no_records w.authorities en) (no_records w.additionals ex)) in
    rw (two_again (length w.answers) small, length-append w.answers (it ∷ []), items) refl

raised_authority : (w : Written) (it : Record) → w.additionals ≡ [] → length w.authorities < 2 ^ 16
    → raised 8 (message_octets w ++ record_octets it) ≡ message_octets (with_authority w it)
unfolding message_octets
raised_authority w it ex small =
    let q = flat_map question_octets w.questions in let a = flat_map record_octets w.answers in
    let n = flat_map record_octets w.authorities in let x = flat_map record_octets w.additionals in
    let items : items_octets w ++ record_octets it ≡ items_octets (with_authority w it) =
    rw (flat_map-append record_octets w.authorities (it ∷ [])) (behind_authorities q a n (record_octets it) x (no_records w.additionals ex)) in
    rw (two_again (length w.authorities) small, length-append w.authorities (it ∷ []), items) refl

raised_additional : (w : Written) (it : Record) → length w.additionals < 2 ^ 16
    → raised 10 (message_octets w ++ record_octets it) ≡ message_octets (with_additional w it)
unfolding message_octets
raised_additional w it small =
    let q = flat_map question_octets w.questions in let a = flat_map record_octets w.answers in
    let n = flat_map record_octets w.authorities in let x = flat_map record_octets w.additionals in
    let items : items_octets w ++ record_octets it ≡ items_octets (with_additional w it) =
    rw (flat_map-append record_octets w.additionals (it ∷ [])) (behind_additionals q a n x (record_octets it)) in
    rw (two_again (length w.additionals) small, length-append w.additionals (it ∷ []), items) refl

another_id : (w : Written) (id : ℕ) → with_number 0 id (message_octets w) ≡ message_octets (with_id w id)
unfolding message_octets
another_id w id = refl

other_flags : (w : Written) (flags : ℕ) → with_number 2 flags (message_octets w) ≡ message_octets (with_flags w flags)
unfolding message_octets
other_flags w flags = refl

-- what is added to a list is added to its octets
pushed_length : {A : Type 0} (f : A → List ℕ) (xs : List A) (x : A) → length (flat_map f (xs ++ x ∷ [])) ≡ length (flat_map f xs) + length (f x)
pushed_length f xs x =
    ap length (flat_map-append f xs (x ∷ [])) ∙ length-append (flat_map f xs) (f x ++ []) ∙ ap (λ (y : List ℕ). length (flat_map f xs) + length y) (append-nil (f x))

-- octets that are a message's say it
says_by : (octets : List ℕ) (w : Written) → octets ≡ message_octets w → IsWritable w → length (message_octets w) ≤ 65535 → Says octets w
says_by octets w e good most = rw e (says w good most)

-- the header of octets in progress is there, and none of its counts is full
pub record HasRoom (octets : List ℕ) : Type 0 where
  pub header : 12 ≤ length octets
  pub most : length octets ≤ 65535
  pub questions : number_or_0 (u16_at octets 4) < 65535
  pub answers : number_or_0 (u16_at octets 6) < 65535
  pub authorities : number_or_0 (u16_at octets 8) < 65535
  pub additionals : number_or_0 (u16_at octets 10) < 65535

written_room : (w : Written) → length (message_octets w) ≤ 65535 → HasRoom (message_octets w)
unfolding message_octets
written_room w most =
    let fit = counts_fit w in
    record {
      header = omega (arith, length-message_octets w);
      most = most;
      questions = rw (two_again (length w.questions) (omega (arith, fit.questions, most))) (omega (arith, fit.questions, most));
      answers = rw (two_again (length w.answers) (omega (arith, fit.answers, most))) (omega (arith, fit.answers, most));
      authorities = rw (two_again (length w.authorities) (omega (arith, fit.authorities, most))) (omega (arith, fit.authorities, most));
      additionals = rw (two_again (length w.additionals) (omega (arith, fit.additionals, most))) (omega (arith, fit.additionals, most));
    }

pub has_room : (octets : List ℕ) → IsBuilt octets → HasRoom octets
has_room octets built = subst HasRoom (sym built.is) (written_room (read_back octets) (rw (sym built.is) built.at_most))

-- a question more
pub question_pushed : (octets : List ℕ) (it : Question) → EndsInQuestions octets → IsWritableQuestion it → length octets + length (question_octets it) ≤ 65535
    → Says (raised 4 (octets ++ question_octets it)) (with_question (read_back octets) it)
question_pushed octets it ends good fits =
    let w = read_back octets in
    let is = ends.built.is in
    let most : length (message_octets w) ≤ 65535 = rw (sym is) ends.built.at_most in
    let small : length w.questions < 2 ^ 16 = omega (arith, (counts_fit w).questions, most) in
    let size : length octets ≡ length (message_octets w) = ap length is in
    says_by (raised 4 (octets ++ question_octets it)) (with_question w it)
    (ap (λ (m : List ℕ). raised 4 (m ++ question_octets it)) is ∙ raised_question w it ends.no_answers ends.no_authorities ends.no_additionals small)
    (record {
      id = ends.built.good.id;
      flags = ends.built.good.flags;
      questions = All-push IsWritableQuestion w.questions it ends.built.good.questions good;
      answers = ends.built.good.answers;
      authorities = ends.built.good.authorities;
      additionals = ends.built.good.additionals;
    })
    (omega (arith, fits, size, length-message_octets w, length-message_octets (with_question w it), pushed_length question_octets w.questions it))

-- a record more in the answer section
pub answer_pushed : (octets : List ℕ) (it : Record) → EndsInAnswers octets → IsWritableRecord it → length octets + length (record_octets it) ≤ 65535
    → Says (raised 6 (octets ++ record_octets it)) (with_answer (read_back octets) it)
answer_pushed octets it ends good fits =
    let w = read_back octets in
    let built = ends.built in
    let is = built.is in
    let most : length (message_octets w) ≤ 65535 = rw (sym is) built.at_most in
    let small : length w.answers < 2 ^ 16 = omega (arith, (counts_fit w).answers, most) in
    let size : length octets ≡ length (message_octets w) = ap length is in
    says_by (raised 6 (octets ++ record_octets it)) (with_answer w it)
    (ap (λ (m : List ℕ). raised 6 (m ++ record_octets it)) is ∙ raised_answer w it ends.no_authorities ends.no_additionals small)
    (record {
      id = built.good.id;
      flags = built.good.flags;
      questions = built.good.questions;
      answers = All-push IsWritableRecord w.answers it built.good.answers good;
      authorities = built.good.authorities;
      additionals = built.good.additionals;
    })
    (omega (arith, fits, size, length-message_octets w, length-message_octets (with_answer w it), pushed_length record_octets w.answers it))

-- a record more in the authority section
pub authority_pushed : (octets : List ℕ) (it : Record) → EndsInAuthorities octets → IsWritableRecord it → length octets + length (record_octets it) ≤ 65535
    → Says (raised 8 (octets ++ record_octets it)) (with_authority (read_back octets) it)
authority_pushed octets it ends good fits =
    let w = read_back octets in
    let built = ends.built in
    let is = built.is in
    let most : length (message_octets w) ≤ 65535 = rw (sym is) built.at_most in
    let small : length w.authorities < 2 ^ 16 = omega (arith, (counts_fit w).authorities, most) in
    let size : length octets ≡ length (message_octets w) = ap length is in
    says_by (raised 8 (octets ++ record_octets it)) (with_authority w it)
    (ap (λ (m : List ℕ). raised 8 (m ++ record_octets it)) is ∙ raised_authority w it ends.no_additionals small)
    (record {
      id = built.good.id;
      flags = built.good.flags;
      questions = built.good.questions;
      answers = built.good.answers;
      authorities = All-push IsWritableRecord w.authorities it built.good.authorities good;
      additionals = built.good.additionals;
    })
    (omega (arith, fits, size, length-message_octets w, length-message_octets (with_authority w it), pushed_length record_octets w.authorities it))

-- a record more in the additional section
pub additional_pushed : (octets : List ℕ) (it : Record) → IsBuilt octets → IsWritableRecord it → length octets + length (record_octets it) ≤ 65535
    → Says (raised 10 (octets ++ record_octets it)) (with_additional (read_back octets) it)
additional_pushed octets it ends good fits =
    let w = read_back octets in
    let built : IsBuilt octets = ends in
    let is = built.is in
    let most : length (message_octets w) ≤ 65535 = rw (sym is) built.at_most in
    let small : length w.additionals < 2 ^ 16 = omega (arith, (counts_fit w).additionals, most) in
    let size : length octets ≡ length (message_octets w) = ap length is in
    says_by (raised 10 (octets ++ record_octets it)) (with_additional w it)
    (ap (λ (m : List ℕ). raised 10 (m ++ record_octets it)) is ∙ raised_additional w it small)
    (record {
      id = built.good.id;
      flags = built.good.flags;
      questions = built.good.questions;
      answers = built.good.answers;
      authorities = built.good.authorities;
      additionals = All-push IsWritableRecord w.additionals it built.good.additionals good;
    })
    (omega (arith, fits, size, length-message_octets w, length-message_octets (with_additional w it), pushed_length record_octets w.additionals it))

-- another identifier
pub id_set : (octets : List ℕ) (id : ℕ) → IsBuilt octets → id < 2 ^ 16 → Says (with_number 0 id octets) (with_id (read_back octets) id)
id_set octets id built small =
    let w = read_back octets in
    let size : length octets ≡ length (message_octets w) = ap length built.is in
    says_by (with_number 0 id octets) (with_id w id) (ap (with_number 0 id) built.is ∙ another_id w id)
    (record {
      id = small;
      flags = built.good.flags;
      questions = built.good.questions;
      answers = built.good.answers;
      authorities = built.good.authorities;
      additionals = built.good.additionals;
    })
    (omega (arith, built.at_most, size, length-message_octets w, length-message_octets (with_id w id)))

-- other flags
pub flags_set : (octets : List ℕ) (flags : ℕ) → IsBuilt octets → flags < 2 ^ 16 → Says (with_number 2 flags octets) (with_flags (read_back octets) flags)
flags_set octets flags built small =
    let w = read_back octets in
    let size : length octets ≡ length (message_octets w) = ap length built.is in
    says_by (with_number 2 flags octets) (with_flags w flags) (ap (with_number 2 flags) built.is ∙ other_flags w flags)
    (record {
      id = built.good.id;
      flags = small;
      questions = built.good.questions;
      answers = built.good.answers;
      authorities = built.good.authorities;
      additionals = built.good.additionals;
    })
    (omega (arith, built.at_most, size, length-message_octets w, length-message_octets (with_flags w flags)))

-- octets that say a message that goes no further than a section
pub ends_in_questions : (octets : List ℕ) (w : Written) → Says octets w → w.answers ≡ [] → w.authorities ≡ [] → w.additionals ≡ [] → EndsInQuestions octets
ends_in_questions octets w it a n x = record {
  built = it.built;
  no_answers = ap (λ (v : Written). v.answers) it.is ∙ a;
  no_authorities = ap (λ (v : Written). v.authorities) it.is ∙ n;
  no_additionals = ap (λ (v : Written). v.additionals) it.is ∙ x;
}

pub ends_in_answers : (octets : List ℕ) (w : Written) → Says octets w → w.authorities ≡ [] → w.additionals ≡ [] → EndsInAnswers octets
ends_in_answers octets w it n x = record {
  built = it.built;
  no_authorities = ap (λ (v : Written). v.authorities) it.is ∙ n;
  no_additionals = ap (λ (v : Written). v.additionals) it.is ∙ x;
}

pub ends_in_authorities : (octets : List ℕ) (w : Written) → Says octets w → w.additionals ≡ [] → EndsInAuthorities octets
ends_in_authorities octets w it x = record { built = it.built; no_additionals = ap (λ (v : Written). v.additionals) it.is ∙ x }

-- a message that can be written is one that says what was written
pub written_reads_back : (w : Written) → IsWritable w → length (message_octets w) ≤ 65535 → IsMessageOf w (message_octets w)
written_reads_back w good most =
    let back = reads_back w good most in
    record {
      octets = refl;
      at_most = most;
      header = back.header;
      questions = rw back.questions refl;
      answers = rw back.answers refl;
      authorities = rw back.authorities refl;
      additionals = rw back.additionals refl;
    }

-- octets in progress are a message that says what is read of them
pub is_message : (octets : List ℕ) → IsBuilt octets → IsMessageOf (read_back octets) octets
is_message octets built =
    let w = read_back octets in
    subst (IsMessageOf w) (sym built.is) (written_reads_back w built.good (rw (sym built.is) built.at_most))

-- what follows from three things that hold where a call succeeds
pub all_ok : {X E : Type 0} (r : Result X E) (A B C D : Type 0) → OnOk r A → OnOk r B → OnOk r C → (A → B → C → D) → OnOk r D
all_ok (Ok x) A B C D a b c follows = follows a b c
all_ok (Err e) A B C D a b c follows = tt
