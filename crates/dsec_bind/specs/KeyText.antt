-- A key as BIND writes it: one DNSKEY record, alone in its text.
use Rattle.std.specs.Prelude.{ℕ, ◌==◌, nat_le, List, [], ◌∷◌, length, Option, Some, None, if◌then◌else◌}
use Rattle.std.specs.List.{concat}
use Rattle.dsec_spec.specs.Numbers.{DNSKEY, IN}
use Rattle.dsec_spec.specs.Reading.{◌>>=◌}
use Rattle.dsec_spec.specs.Records.{Key, Record, key_octets}
use Rattle.dsec_word.specs.Numbers.{number_of}
use Rattle.dsec_word.specs.Words.{base64_in, class_in, name_in, rtype_in}
use Rattle.dsec_bind.specs.Lines.{only, worded_lines}
use Rattle.dsec_bind.specs.declared.key.Numbers.{Numbers}

-- a word that is a TTL is taken, and any other stays; a TTL is any number below 2^32, also past the 2^31 - 1 of RFC 2181 8
abbrev pub taken : Option ℕ → List ℕ → List (List ℕ) → ℕ × List (List ℕ)
taken None word words = (0, word ∷ words)
taken (Some ttl) word words = (ttl, words)

-- the TTL, and the words after it; 0 where there is none
abbrev pub ttl_in : List (List ℕ) → ℕ × List (List ℕ)
ttl_in [] = (0, [])
ttl_in (word ∷ words) = taken (number_of 4294967295 word) word words

-- the words after a class, whichever it is, and the type DNSKEY
abbrev pub after_type : List (List ℕ) → Option (List (List ℕ))
after_type (class ∷ rtype ∷ words) = do
  any ← class_in class
  number ← rtype_in rtype
  if number == DNSKEY then Some words else None
after_type _ = None

-- the octets that one word or more write in base64, one after the other (RFC 4648 4)
abbrev pub public_key_in : List (List ℕ) → Option (List ℕ)
public_key_in [] = None
public_key_in (word ∷ words) = base64_in (concat (word ∷ words))

-- flags below 2^16, protocol and algorithm below 2^8, and the words after them (RFC 4034 2.2)
abbrev pub numbers_in : List (List ℕ) → Option (Numbers × List (List ℕ))
numbers_in (flags ∷ protocol ∷ algorithm ∷ words) = do
  f ← number_of 65535 flags
  p ← number_of 255 protocol
  a ← number_of 255 algorithm
  Some (record { flags = f; protocol = p; algorithm = a }, words)
numbers_in _ = None

-- a key: its numbers, and the public key
abbrev pub key_in : List (List ℕ) → Option Key
key_in words = do
  front ← numbers_in words
  public_key ← public_key_in front.1
  Some (record { flags = front.0.flags; protocol = front.0.protocol; algorithm = front.0.algorithm; public_key = public_key })

-- data, if they are no longer than data may be (RFC 1035 3.2.1)
abbrev pub within_limit : List ℕ → Option (List ℕ)
within_limit rdata = if nat_le (length rdata) 65535 then Some rdata else None

-- the data of a DNSKEY record that words write
abbrev pub key_data : List (List ℕ) → Option (List ℕ)
key_data words = do
  key ← key_in words
  within_limit (key_octets key)

-- a DNSKEY record's words: the owner, a TTL or none, a class, the type, and the key. The record is of class IN
abbrev pub record_in : List (List ℕ) → Option Record
record_in [] = None
record_in (name ∷ words) = do
  owner ← name_in name
  let front = ttl_in words
  key_words ← after_type front.1
  rdata ← key_data key_words
  Some (record { owner = owner; class = IN; rtype = DNSKEY; ttl = front.0; rdata = rdata })

-- the record that a text writes: in one line, and no other line has a word
abbrev pub bind_record : List ℕ → Option Record
bind_record text = only (worded_lines text) >>= record_in
