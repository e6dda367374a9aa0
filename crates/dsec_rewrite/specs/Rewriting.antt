-- The message that a rewriting makes of another and its groups (RFC 1035 4.1, RFC 2181 5, RFC 4035 5.3.3).
use Rattle.std.specs.Prelude.{◌≡◌, ℕ, nat_lt, List, length, Option, Some, None, Result, Ok, Err, if◌then◌else◌}
use Rattle.dsec_spec.specs.Messages.{Header, Question, header_of, questions_of, additionals_of}
use Rattle.dsec_spec.specs.Reading.{◌>>=◌}
use Rattle.dsec_spec.specs.Records.{Record}
use Rattle.dsec_spec.specs.WrittenMessages.{Written, message_octets}
use Rattle.dsec_builder.specs.Building.{IsMessageOf}
use Rattle.dsec_rewrite.specs.Cutting.{Bounded, section_of, is_due}
use Rattle.dsec_rewrite.specs.declared.error.RewriteError.{RewriteError}
use Rattle.dsec_rewrite.specs.declared.error.RewriteError.TheVariants.{ParseError, PushError}

-- the items that a rewriting keeps as they came: the questions and the additional section; none where that can't be read, nor where an
-- item before it can't (RFC 1035 4.1)
abbrev pub kept_of : List ℕ → Option (List Question × List Record)
kept_of message = do
  questions ← questions_of message
  additionals ← additionals_of message
  Some (questions.0, additionals.0)

-- a message item for item: its identifier and flags, its questions, what its groups leave in the answer and authority sections, and its
-- additional section
abbrev pub made_of : Header → List Question × List Record → List Bounded → List Bounded → Written
made_of header kept answers authorities = record {
  id = header.id;
  flags = header.flags;
  questions = kept.0;
  answers = section_of answers;
  authorities = section_of authorities;
  additionals = kept.1;
}

-- the message that a rewriting makes, where what it keeps can be read
abbrev pub rewritten : List ℕ → List Bounded → List Bounded → Option Written
rewritten message answers authorities = do
  header ← header_of message
  kept ← kept_of message
  Some (made_of header kept answers authorities)

-- the octets that are sent for a message: ParseError where there is none, and PushError where they would pass the 65535 that TCP carries
-- (RFC 1035 4.2.2)
abbrev pub sent : Option Written → Result (List ℕ) RewriteError
sent None = Err ParseError
sent (Some written) = if nat_lt 65535 (length (message_octets written)) then Err PushError else Ok (message_octets written)

-- what a rewriting comes to
abbrev pub rewriting : List ℕ → List Bounded → List Bounded → Result (List ℕ) RewriteError
rewriting message answers authorities = sent (rewritten message answers authorities)

-- the message that judging leaves: the rewritten one where a rewriting is due, and otherwise the message as it came
abbrev pub left_by : List ℕ → List Bounded → List Bounded → Result (List ℕ) RewriteError
left_by message answers authorities = if is_due answers authorities then rewriting message answers authorities else Ok message

-- the second message is what a rewriting makes of the first, and reads back so: header, questions, and each section's records
abbrev pub IsRewriting : List ℕ → List Bounded → List Bounded → List ℕ → Type 0
IsRewriting message answers authorities made =
    (written : Written) × (rewritten message answers authorities ≡ Some written) × IsMessageOf written made
