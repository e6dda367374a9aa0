-- A message in progress: its octets, and what a reader reads of them.
use Rattle.std.specs.Prelude.{◌≡◌, ℕ, ◌+◌, ◌≤◌, List, [], ◌∷◌, ◌++◌, length, take, drop, Option, Some, unwrap_or}
use Rattle.std.specs.Int.{w16, to_be_bytes}
use Rattle.dsec_spec.specs.Messages.{header_of, Question, questions_of, answers_of, authorities_of, additionals_of}
use Rattle.dsec_spec.specs.Reading.{u16_at}
use Rattle.dsec_spec.specs.Records.{Record}
use Rattle.dsec_spec.specs.WrittenMessages.{Written, IsWritable, header_for, message_octets}
use Rattle.dsec_message.specs.MessageSections.{items_of}

-- a number that was read; 0 where there is none
abbrev pub number_or_0 : Option ℕ → ℕ
number_or_0 read = unwrap_or read 0

-- the items that were read; none where they can't be read
abbrev pub items_or_none : {A : Type 0} → Option (List A × ℕ) → List A
items_or_none read = unwrap_or (items_of read) []

-- what a reader reads of a message, item for item
unfoldable pub read_back : List ℕ → Written
read_back message = record {
  id = number_or_0 (u16_at message 0);
  flags = number_or_0 (u16_at message 2);
  questions = items_or_none (questions_of message);
  answers = items_or_none (answers_of message);
  authorities = items_or_none (authorities_of message);
  additionals = items_or_none (additionals_of message);
}

-- a message that says just what was written, in no more octets than TCP carries (RFC 1035 4.2.2)
pub record IsMessageOf (written : Written) (message : List ℕ) : Type 0 where
  pub octets : message ≡ message_octets written
  pub at_most : length message ≤ 65535
  pub header : header_of message ≡ Some (header_for written)
  pub questions : items_of (questions_of message) ≡ Some written.questions
  pub answers : items_of (answers_of message) ≡ Some written.answers
  pub authorities : items_of (authorities_of message) ≡ Some written.authorities
  pub additionals : items_of (additionals_of message) ≡ Some written.additionals

-- octets that are those of what is read of them
pub record IsBuilt (octets : List ℕ) : Type 0 where
  pub is : octets ≡ message_octets (read_back octets)
  pub good : IsWritable (read_back octets)
  pub at_most : length octets ≤ 65535

-- octets that say this message
pub record Says (octets : List ℕ) (written : Written) : Type 0 where
  pub built : IsBuilt octets
  pub is : read_back octets ≡ written

-- a message with another identifier
abbrev pub with_id : Written → ℕ → Written
with_id it id = record { id = id; flags = it.flags; questions = it.questions; answers = it.answers; authorities = it.authorities; additionals = it.additionals }

-- a message with other flags
abbrev pub with_flags : Written → ℕ → Written
with_flags it flags = record { id = it.id; flags = flags; questions = it.questions; answers = it.answers; authorities = it.authorities; additionals = it.additionals }

-- a message with a question more, its last
abbrev pub with_question : Written → Question → Written
with_question it question = record { id = it.id; flags = it.flags; questions = it.questions ++ question ∷ []; answers = it.answers; authorities = it.authorities; additionals = it.additionals }

-- a message with a record more, the last of the answer section
abbrev pub with_answer : Written → Record → Written
with_answer it answer = record { id = it.id; flags = it.flags; questions = it.questions; answers = it.answers ++ answer ∷ []; authorities = it.authorities; additionals = it.additionals }

-- a message with a record more, the last of the authority section
abbrev pub with_authority : Written → Record → Written
with_authority it authority = record { id = it.id; flags = it.flags; questions = it.questions; answers = it.answers; authorities = it.authorities ++ authority ∷ []; additionals = it.additionals }

-- a message with a record more, the last of the additional section
abbrev pub with_additional : Written → Record → Written
with_additional it additional = record { id = it.id; flags = it.flags; questions = it.questions; answers = it.answers; authorities = it.authorities; additionals = it.additionals ++ additional ∷ [] }

-- the message that has no item
abbrev pub nothing_written : Written
nothing_written = record { id = 0; flags = 0; questions = []; answers = []; authorities = []; additionals = [] }

-- octets with a number at a place
abbrev pub with_number : ℕ → ℕ → List ℕ → List ℕ
with_number at number octets = take at octets ++ to_be_bytes w16 number ++ drop (at + 2) octets

-- octets with the number at a place one higher
abbrev pub raised : ℕ → List ℕ → List ℕ
raised at octets = with_number at (number_or_0 (u16_at octets at) + 1) octets

-- octets of a message that goes no further than its questions
pub record EndsInQuestions (octets : List ℕ) : Type 0 where
  pub built : IsBuilt octets
  pub no_answers : (read_back octets).answers ≡ []
  pub no_authorities : (read_back octets).authorities ≡ []
  pub no_additionals : (read_back octets).additionals ≡ []

-- octets of a message that goes no further than its answer section
pub record EndsInAnswers (octets : List ℕ) : Type 0 where
  pub built : IsBuilt octets
  pub no_authorities : (read_back octets).authorities ≡ []
  pub no_additionals : (read_back octets).additionals ≡ []

-- octets of a message that goes no further than its authority section
pub record EndsInAuthorities (octets : List ℕ) : Type 0 where
  pub built : IsBuilt octets
  pub no_additionals : (read_back octets).additionals ≡ []
