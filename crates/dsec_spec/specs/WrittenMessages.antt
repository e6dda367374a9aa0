-- Messages as they are written: a header that counts what follows, and each item uncompressed (RFC 1035 4.1).
use Rattle.std.specs.Prelude.{ℕ, ◌<◌, ◌^◌, ◌++◌, List, length, All}
use Rattle.std.specs.List.{flat_map}
use Rattle.std.specs.Int.{w16, w32, to_be_bytes}
use Rattle.dsec_spec.specs.Messages.{Header, Question}
use Rattle.dsec_spec.specs.Names.{IsName, wire_octets}
use Rattle.dsec_spec.specs.RecordData.{IsReadable}
use Rattle.dsec_spec.specs.Records.{Record}

-- a message, item for item
pub record Written : Type 0 where
  pub id : ℕ
  pub flags : ℕ
  pub questions : List Question
  pub answers : List Record
  pub authorities : List Record
  pub additionals : List Record

-- a question as it is written (RFC 1035 4.1.2)
abbrev pub question_octets : Question → List ℕ
question_octets question = wire_octets question.name ++ to_be_bytes w16 question.rtype ++ to_be_bytes w16 question.class

-- a record as it is written (RFC 1035 4.1.3)
abbrev pub record_octets : Record → List ℕ
record_octets it =
    wire_octets it.owner ++ to_be_bytes w16 it.rtype ++ to_be_bytes w16 it.class ++ to_be_bytes w32 it.ttl
    ++ to_be_bytes w16 (length it.rdata) ++ it.rdata

-- a header as it is written (RFC 1035 4.1.1)
abbrev pub header_octets : Header → List ℕ
header_octets header =
    to_be_bytes w16 header.id ++ to_be_bytes w16 header.flags
    ++ to_be_bytes w16 header.questions ++ to_be_bytes w16 header.answers
    ++ to_be_bytes w16 header.authorities ++ to_be_bytes w16 header.additionals

-- the header of a message: its identifier, its flags, and how many items each section has
abbrev pub header_for : Written → Header
header_for written = record {
  id = written.id;
  flags = written.flags;
  questions = length written.questions;
  answers = length written.answers;
  authorities = length written.authorities;
  additionals = length written.additionals;
}

-- the items, section after section (RFC 1035 4.1)
abbrev pub items_octets : Written → List ℕ
items_octets written =
    flat_map question_octets written.questions ++ flat_map record_octets written.answers
    ++ flat_map record_octets written.authorities ++ flat_map record_octets written.additionals

-- the octets of a message
unfoldable pub message_octets : Written → List ℕ
message_octets written = header_octets (header_for written) ++ items_octets written

-- a question that can be written: its numbers fit their octets
pub record IsWritableQuestion (question : Question) : Type 0 where
  pub name : IsName question.name
  pub rtype : question.rtype < 2 ^ 16
  pub class : question.class < 2 ^ 16

-- a record that can be written: its numbers fit their octets, and its data are readable
pub record IsWritableRecord (it : Record) : Type 0 where
  pub owner : IsName it.owner
  pub class : it.class < 2 ^ 16
  pub rtype : it.rtype < 2 ^ 16
  pub ttl : it.ttl < 2 ^ 32
  pub rdata : IsReadable it.rtype it.rdata

-- a message whose items can be written; that they are no more than a header can count follows where its octets are no more than 65535
pub record IsWritable (written : Written) : Type 0 where
  pub id : written.id < 2 ^ 16
  pub flags : written.flags < 2 ^ 16
  pub questions : All IsWritableQuestion written.questions
  pub answers : All IsWritableRecord written.answers
  pub authorities : All IsWritableRecord written.authorities
  pub additionals : All IsWritableRecord written.additionals
