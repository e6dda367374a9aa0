-- Messages: the header, questions and records (RFC 1035 4.1).
use Rattle.std.specs.Prelude.{ℕ, zero, suc, ◌+◌, ◌-◌, ◌*◌, ◌/◌, ◌%◌, ◌^◌, ◌==◌, nat_lt, List, [], ◌∷◌, length, slice_range, Option, Some, None, if◌then◌else◌}
use Rattle.std.specs.List.{flat_map}
use Rattle.dsec_spec.specs.Reading.{◌>>=◌, many_of, u16_at, u32_at}
use Rattle.dsec_spec.specs.Names.{Labels}
use Rattle.dsec_spec.specs.Numbers.{OPT}
use Rattle.dsec_spec.specs.Layouts.{Field, lowered_name, kept_name, layout_of}
use Rattle.dsec_spec.specs.RecordData.{Part, lowered, kept, part_octets, part_in}
use Rattle.dsec_spec.specs.Records.{Record}
use Rattle.dsec_spec.specs.WireNames.{name_at}

-- the header: 12 octets (RFC 1035 4.1.1)
pub record Header : Type 0 where
  pub id : ℕ
  pub flags : ℕ
  pub questions : ℕ
  pub answers : ℕ
  pub authorities : ℕ
  pub additionals : ℕ

-- the header of a message, which has 12 octets or more (RFC 1035 4.1.1)
abbrev pub header_of : List ℕ → Option Header
header_of message = do
  id ← u16_at message 0
  flags ← u16_at message 2
  questions ← u16_at message 4
  answers ← u16_at message 6
  authorities ← u16_at message 8
  additionals ← u16_at message 10
  Some (record { id = id; flags = flags; questions = questions; answers = answers; authorities = authorities; additionals = additionals })

-- a question (RFC 1035 4.1.2)
pub record Question : Type 0 where
  pub name : Labels
  pub rtype : ℕ
  pub class : ℕ

-- the question at a place, and the place after it
unfoldable pub question_at : List ℕ → ℕ → Option (Question × ℕ)
question_at message at = do
  name ← name_at message at
  rtype ← u16_at message name.1
  class ← u16_at message (name.1 + 2)
  Some (record { name = name.0; rtype = rtype; class = class }, name.1 + 4)

-- the part that a field has at a place of the message, up to an end, and the place after it; a name may lead elsewhere by pointers
abbrev pub part_at : Field → List ℕ → ℕ → ℕ → Option (Part × ℕ)
part_at lowered_name message at end = do
  name ← name_at message at
  if nat_lt end name.1 then None else Some (lowered name.0, name.1)
part_at kept_name message at end = do
  name ← name_at message at
  if nat_lt end name.1 then None else Some (kept name.0, name.1)
part_at field message at end = do
  part ← part_in field (slice_range message at end)
  Some (part.0, end - length part.1)

-- the parts that fields have from a place up to an end
unfoldable pub parts_at : List Field → List ℕ → ℕ → ℕ → Option (List Part)
parts_at [] message at end = if at == end then Some [] else None
parts_at (field ∷ fields) message at end = do
  part ← part_at field message at end
  others ← parts_at fields message part.1 end
  Some (part.0 ∷ others)

-- the data of a record of this type, their names uncompressed, where they are at most 65535 octets
unfoldable pub data_at : ℕ → List ℕ → ℕ → ℕ → Option (List ℕ)
data_at rtype message at end = do
  parts ← parts_at (layout_of rtype) message at end
  if nat_lt 65535 (length (flat_map part_octets parts)) then None else Some (flat_map part_octets parts)

-- the record at a place, and the place after it (RFC 1035 4.1.3)
unfoldable pub record_at : List ℕ → ℕ → Option (Record × ℕ)
record_at message at = do
  name ← name_at message at
  rtype ← u16_at message name.1
  class ← u16_at message (name.1 + 2)
  ttl ← u32_at message (name.1 + 4)
  size ← u16_at message (name.1 + 8)
  if nat_lt (length message) (name.1 + 10 + size) then None else do
    rdata ← data_at rtype message (name.1 + 10) (name.1 + 10 + size)
    Some (record { owner = name.0; class = class; rtype = rtype; ttl = ttl; rdata = rdata }, name.1 + 10 + size)

-- the questions, and the place after them
unfoldable pub questions_of : List ℕ → Option (List Question × ℕ)
questions_of message = do
  header ← header_of message
  many_of (question_at message) header.questions 12

-- the records of the answer section, and the place after them
unfoldable pub answers_of : List ℕ → Option (List Record × ℕ)
answers_of message = do
  header ← header_of message
  before ← questions_of message
  many_of (record_at message) header.answers before.1

-- the records of the authority section, and the place after them
unfoldable pub authorities_of : List ℕ → Option (List Record × ℕ)
authorities_of message = do
  header ← header_of message
  before ← answers_of message
  many_of (record_at message) header.authorities before.1

-- the records of the additional section, and the place after them; octets after it are passed over
unfoldable pub additionals_of : List ℕ → Option (List Record × ℕ)
additionals_of message = do
  header ← header_of message
  before ← authorities_of message
  many_of (record_at message) header.additionals before.1

-- the first OPT among so many records from a place on, where those before it are readable
unfoldable pub first_opt : List ℕ → ℕ → ℕ → Option Record
first_opt message zero at = None
first_opt message (suc n) at = do
  first ← record_at message at
  if first.0.rtype == OPT then Some first.0 else first_opt message n first.1

-- the first OPT record of the additional section; none where a record before it is unreadable (RFC 6891 6.1.1)
unfoldable pub opt_of : List ℕ → Option Record
opt_of message = do
  header ← header_of message
  before ← authorities_of message
  first_opt message header.additionals before.1

-- the upper octet of the rcode, where there is an OPT record; it leads the TTL (RFC 6891 6.1.3)
abbrev pub upper_rcode : Option Record → ℕ
upper_rcode None = 0
upper_rcode (Some opt) = opt.ttl / 2 ^ 24

-- the rcode: the last four bits of the flags, below the upper octet (RFC 1035 4.1.1, RFC 6891 6.1.3)
abbrev pub rcode_of : List ℕ → Option ℕ
rcode_of message = do
  header ← header_of message
  Some (upper_rcode (opt_of message) * 16 + header.flags % 16)
