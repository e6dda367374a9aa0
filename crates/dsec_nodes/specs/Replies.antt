-- Replies to the validator's own questions (RFC 4035 4.3, 5).
use Rattle.std.specs.Prelude.{ℕ, List, Option, Some, None}
use Rattle.dsec_spec.specs.Reading.{◌>>=◌}
use Rattle.dsec_spec.specs.Records.{Record}
use Rattle.dsec_spec.specs.Messages.{answers_of, authorities_of}
use Rattle.dsec_spec.specs.Groups.{Group, groups_of}

-- what a question brought: no octets, octets that can't be read, or the groups of the answer and the authority section (RFC 1035 4.1)
pub data Reply : Type 0 where
  failed : Reply
  unreadable : Reply
  sections : List Group → List Group → Reply

-- the groups of two sections, where they can be read (RFC 2181 5)
abbrev pub sections_by : Option (List Record × List Record) → Reply
sections_by None = unreadable
sections_by (Some both) = sections (groups_of both.0) (groups_of both.1)

-- the records of the answer section and of the authority section, where all records to the latter's end can be read (RFC 1035 4.1)
abbrev pub both_of : List ℕ → Option (List Record × List Record)
both_of octets = do
  authorities ← authorities_of octets
  answers ← answers_of octets
  Some (answers.0, authorities.0)

-- what the octets of a reply, if there are any, come to (RFC 1035 4.1)
abbrev pub read_reply : Option (List ℕ) → Reply
read_reply None = failed
read_reply (Some octets) = sections_by (both_of octets)
