-- Records as zone text: one line for each, its class and type by number, its data in the generic form (RFC 1035 5.1, RFC 3597 5).
use Rattle.std.specs.Prelude.{◌≡◌, ℕ, ◌<◌, ◌^◌, List, ◌∷◌, [], ◌++◌, length, All, codes, decimal, Ok}
use Rattle.std.specs.List.{flat_map}
use Rattle.hex.specs.Hex.{encode_lower}
use Rattle.dsec_spec.specs.Names.{Labels}
use Rattle.dsec_spec.specs.Records.{Record}
use Rattle.dsec_spec.specs.RecordData.{IsReadable}
use Rattle.dsec_name.specs.NameDisplay.{name_text}
use Rattle.dsec_name.specs.TextReading.{name_of_text_in}

-- owner, TTL, class and type
unfoldable pub line_head : Record → List ℕ
line_head r = name_text r.owner ++ codes " " ++ decimal r.ttl ++ codes " CLASS" ++ decimal r.class ++ codes " TYPE" ++ decimal r.rtype

-- the data in hex behind their length; without data the blank before them stands at the line's end
unfoldable pub line_data : Record → List ℕ
line_data r = codes " \\# " ++ decimal (length r.rdata) ++ codes " " ++ encode_lower r.rdata

-- the line of a record
abbrev pub record_line : Record → List ℕ
record_line r = line_head r ++ line_data r ++ 10 ∷ []

-- the lines of records, in order
abbrev pub records_text : List Record → List ℕ
records_text records = flat_map record_line records

-- a record that a line can write: its name reads back in any zone, its numbers are in range, and its octets are data of its type
pub record IsWritable (r : Record) : Type 0 where
  pub name : (origin : Labels) → name_of_text_in origin (name_text r.owner) ≡ Ok r.owner
  pub owner : All (λ label. All (λ octet. octet < 256) label) r.owner
  pub ttl : r.ttl < 2 ^ 32
  pub class : r.class < 2 ^ 16
  pub rtype : r.rtype < 2 ^ 16
  pub octets : All (λ octet. octet < 256) r.rdata
  pub readable : IsReadable r.rtype r.rdata
