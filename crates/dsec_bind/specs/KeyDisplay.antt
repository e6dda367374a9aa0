-- A key's record as BIND writes it.
use Rattle.std.specs.Prelude.{ℕ, nat_lt, length, List, [], ◌∷◌, ◌++◌, codes, decimal, Option, Some, None, if◌then◌else◌}
use Rattle.std.specs.List.{join_with_byte}
use Rattle.base64.specs.Engines.{standard}
use Rattle.base64.specs.GeneralPurpose.{encode_of}
use Rattle.dsec_spec.specs.Names.{Labels}
use Rattle.dsec_spec.specs.Reading.{◌>>=◌}
use Rattle.dsec_spec.specs.Records.{Key, Record, key_of}
use Rattle.dsec_name.specs.NameDisplay.{name_text}
use Rattle.dsec_wire.specs.Views.{key_view}
use Rattle.dsec_bind.specs.declared.display.BindDisplay.{BindDisplay}

-- the words of a record of class IN: owner, class, type, flags, protocol, algorithm, and the public key in base64
abbrev pub key_words : Labels → Key → List (List ℕ)
key_words owner key =
    name_text owner ∷ codes "IN" ∷ codes "DNSKEY" ∷ decimal key.flags ∷ decimal key.protocol ∷ decimal key.algorithm
    ∷ encode_of standard key.public_key ∷ []

-- these words with a space between each two, and LF
abbrev pub key_line : Labels → Key → List ℕ
key_line owner key = join_with_byte 32 (key_words owner key) ++ 10 ∷ []

-- the text of a DNSKEY record, if its data say a key
abbrev pub bind_text : Record → Option (List ℕ)
bind_text it = do
  key ← key_of it.rdata
  Some (key_line it.owner key)

-- what a display shows
abbrev pub shown : BindDisplay → List ℕ
shown it = key_line it.owner.now (key_view it.key)

-- what the text of a DNSKEY record of class IN is read as: the record, with TTL 0; or nothing, where its data are only flags,
-- protocol and algorithm, for then no base64 stands in the text
abbrev pub read_back : Record → Option Record
read_back it = if nat_lt 4 (length it.rdata) then Some (record it { ttl = 0 }) else None

-- the text of a line up to the protocol
abbrev pub line_front : Labels → ℕ → List ℕ
line_front owner flags = name_text owner ++ codes " IN DNSKEY " ++ decimal flags ++ codes " "

-- the text from the protocol on
abbrev pub line_back : Key → List ℕ
line_back key = decimal key.protocol ++ codes " " ++ decimal key.algorithm ++ codes " " ++ encode_of standard key.public_key ++ codes "\n"
