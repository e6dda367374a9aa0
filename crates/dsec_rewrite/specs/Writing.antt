-- Items added to a message in progress, many of a section at once (RFC 1035 4.1).
use Rattle.std.specs.Prelude.{ℕ, ◌++◌, List}
use Rattle.std.specs.List.{flat_map}
use Rattle.dsec_spec.specs.Messages.{Question}
use Rattle.dsec_spec.specs.Records.{Record}
use Rattle.dsec_spec.specs.WrittenMessages.{Written, question_octets, record_octets}

-- records as they are written (RFC 1035 4.1.3)
abbrev pub octets_of : List Record → List ℕ
octets_of records = flat_map record_octets records

-- questions as they are written (RFC 1035 4.1.2)
abbrev pub asked_octets : List Question → List ℕ
asked_octets questions = flat_map question_octets questions

-- a message with more questions
abbrev pub with_questions : Written → List Question → Written
with_questions it more = record { id = it.id; flags = it.flags; questions = it.questions ++ more; answers = it.answers; authorities = it.authorities; additionals = it.additionals }

-- a message with more records in the answer section
abbrev pub with_answers : Written → List Record → Written
with_answers it more = record { id = it.id; flags = it.flags; questions = it.questions; answers = it.answers ++ more; authorities = it.authorities; additionals = it.additionals }

-- a message with more records in the authority section
abbrev pub with_authorities : Written → List Record → Written
with_authorities it more = record { id = it.id; flags = it.flags; questions = it.questions; answers = it.answers; authorities = it.authorities ++ more; additionals = it.additionals }

-- a message with more records in the additional section
abbrev pub with_additionals : Written → List Record → Written
with_additionals it more = record { id = it.id; flags = it.flags; questions = it.questions; answers = it.answers; authorities = it.authorities; additionals = it.additionals ++ more }
