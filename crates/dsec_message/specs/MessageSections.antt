-- The sections of a message together.
use Rattle.std.specs.Prelude.{ℕ, List, Option, Some}
use Rattle.std.specs.Option.{option_map}
use Rattle.dsec_spec.specs.Messages.{Question, questions_of, answers_of, authorities_of}
use Rattle.dsec_spec.specs.Reading.{◌>>=◌}
use Rattle.dsec_spec.specs.Records.{Record}
use Rattle.dsec_message.specs.declared.sections.Sections.{Sections}

-- the questions, the answers, and the place after them
abbrev pub AnswersRead : Type 0
AnswersRead = List Question × List Record × ℕ

abbrev pub questions_and_answers : List ℕ → Option AnswersRead
questions_and_answers message = do
  questions ← questions_of message
  answers ← answers_of message
  Some (questions.0, answers.0, answers.1)

-- the first three sections, and the place after them
abbrev pub SectionsRead : Type 0
SectionsRead = Sections × ℕ

abbrev pub sections_and_place : List ℕ → Option SectionsRead
sections_and_place message = do
  questions ← questions_of message
  answers ← answers_of message
  authorities ← authorities_of message
  Some (record { question = questions.0; answer = answers.0; authority = authorities.0 }, authorities.1)

-- the questions and the records of the answer and authority sections
abbrev pub sections_of : List ℕ → Option Sections
sections_of message = do
  sections ← sections_and_place message
  Some sections.0

-- what was read, without the place after it
abbrev pub items_of : {A : Type 0} → Option (List A × ℕ) → Option (List A)
items_of read = option_map (λ all. all.0) read
