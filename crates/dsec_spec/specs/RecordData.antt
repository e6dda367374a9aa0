-- The data of records: when it is readable, and its canonical form (RFC 4034 6.2).
use Rattle.std.specs.Prelude.{◌≡◌, ℕ, zero, suc, ◌<◌, ◌≤◌, ◌==◌, nat_lt, List, [], ◌∷◌, length, take, drop, All, ◌||◌, Option, Some, None, unwrap_or, if◌then◌else◌}
use Rattle.std.specs.List.{flat_map}
use Rattle.std.specs.Option.{option_map}
use Rattle.dsec_spec.specs.Reading.{◌>>=◌}
use Rattle.dsec_spec.specs.Names.{Labels, IsName, wire_length, wire_octets, canonical_octets}
use Rattle.dsec_spec.specs.Layouts.{Field, lowered_name, kept_name, octets, string, bitmap, rest, layout_of}

-- one part of a record's data, as it is read
pub data Part : Type 0 where
  -- a name that signatures take in lower case
  lowered : Labels → Part
  -- a name that signatures take as it came
  kept : Labels → Part
  -- octets
  plain : List ℕ → Part

-- a part as it stands in the data, its name uncompressed
abbrev pub part_octets : Part → List ℕ
part_octets (lowered name) = wire_octets name
part_octets (kept name) = wire_octets name
part_octets (plain data_octets) = data_octets

-- a part as it is signed (RFC 4034 6.2, RFC 6840 5.1)
abbrev pub canonical_part : Part → List ℕ
canonical_part (lowered name) = canonical_octets name
canonical_part (kept name) = wire_octets name
canonical_part (plain data_octets) = data_octets

-- a block of a type bitmap: its window, and its octets of bits (RFC 4034 4.1.2)
pub record Block : Type 0 where
  pub window : ℕ
  pub bits : List ℕ

-- a block has 1 to 32 octets of bits (RFC 4034 4.1.2)
pub record IsBlock (block : Block) : Type 0 where
  pub not_empty : 0 < length block.bits
  pub at_most : length block.bits ≤ 32

-- a block as it stands in the data
abbrev pub block_octets : Block → List ℕ
block_octets block = block.window ∷ length block.bits ∷ block.bits

-- the octets are the blocks of a type bitmap, one after the other (RFC 4034 4.1.2)
pub record IsBitmap (blocks : List Block) (bitmap_octets : List ℕ) : Type 0 where
  pub good : All IsBlock blocks
  pub is : bitmap_octets ≡ flat_map block_octets blocks

-- the octets are a length octet and so many octets (RFC 1035 3.3)
pub record IsString (string_octets : List ℕ) : Type 0 where
  pub text : List ℕ
  pub is : string_octets ≡ length text ∷ text

-- the part is what its field says
abbrev pub Fits : Field → Part → Type 0
Fits lowered_name (lowered name) = IsName name
Fits kept_name (kept name) = IsName name
Fits (octets n) (plain x) = length x ≡ n
Fits string (plain x) = IsString x
Fits bitmap (plain x) = (blocks : List Block) × IsBitmap blocks x
Fits rest (plain x) = Unit {0}
Fits _ _ = ⊥

-- each part is what its field says, and there are no others
abbrev pub AllFit : List Field → List Part → Type 0
AllFit [] [] = Unit {0}
AllFit (field ∷ fields) (part ∷ parts) = Fits field part × AllFit fields parts
AllFit _ _ = ⊥

-- the data are these parts, as their type's layout has them
pub record IsData (rtype : ℕ) (parts : List Part) (rdata : List ℕ) : Type 0 where
  pub fit : AllFit (layout_of rtype) parts
  pub is : rdata ≡ flat_map part_octets parts

-- a record of this type may have these data, their names uncompressed (RFC 1035 3.2.1)
pub record IsReadable (rtype : ℕ) (rdata : List ℕ) : Type 0 where
  pub parts : List Part
  pub are : IsData rtype parts rdata
  pub at_most : length rdata ≤ 65535

-- so many octets from the front, and those after them
abbrev pub octets_in : ℕ → List ℕ → Option (List ℕ × List ℕ)
octets_in n x = if nat_lt (length x) n then None else Some (take n x, drop n x)

-- the labels of a name from the front, at most so many with the root's, and the octets after it
unfoldable pub labels_in : ℕ → List ℕ → Option (Labels × List ℕ)
labels_in zero x = None
labels_in (suc n) [] = None
labels_in (suc n) (size ∷ x) =
    if size == 0 then Some ([], x) else if nat_lt 63 size then None else do
      label ← octets_in size x
      others ← labels_in n label.1
      Some (label.0 ∷ others.0, others.1)

-- the name at the front, and the octets after it; a name has at most 127 labels and the root's
unfoldable pub name_in : List ℕ → Option (Labels × List ℕ)
name_in x = do
  name ← labels_in 128 x
  if nat_lt 255 (wire_length name.0) then None else Some name

-- the blocks of a type bitmap, at most so many
unfoldable pub blocks_in : ℕ → List ℕ → Option (List Block)
blocks_in n [] = Some []
blocks_in zero (window ∷ x) = None
blocks_in (suc n) (window ∷ []) = None
blocks_in (suc n) (window ∷ size ∷ x) =
    if (size == 0) || nat_lt 32 size then None else do
      bits ← octets_in size x
      others ← blocks_in n bits.1
      Some (record { window = window; bits = bits.0 } ∷ others)

-- the part that a field takes from the front, and the octets after it
abbrev pub part_in : Field → List ℕ → Option (Part × List ℕ)
part_in lowered_name x = do
  name ← name_in x
  Some (lowered name.0, name.1)
part_in kept_name x = do
  name ← name_in x
  Some (kept name.0, name.1)
part_in (octets n) x = do
  taken ← octets_in n x
  Some (plain taken.0, taken.1)
part_in string [] = None
part_in string (size ∷ x) = do
  text ← octets_in size x
  Some (plain (size ∷ text.0), text.1)
part_in bitmap x = do
  blocks ← blocks_in (length x) x
  Some (plain x, [])
part_in rest x = Some (plain x, [])

-- the parts that fields take, where they take all
unfoldable pub parts_in : List Field → List ℕ → Option (List Part)
parts_in [] [] = Some []
parts_in [] (first ∷ x) = None
parts_in (field ∷ fields) x = do
  part ← part_in field x
  others ← parts_in fields part.1
  Some (part.0 ∷ others)

-- the parts of data of this type: those that `IsData` speaks of
abbrev pub parts_of : ℕ → List ℕ → Option (List Part)
parts_of rtype rdata = parts_in (layout_of rtype) rdata

-- canonical data: the same, with each part as it is signed; data that can't be read stay as they came (RFC 4034 6.2)
abbrev pub canonical_data : ℕ → List ℕ → List ℕ
canonical_data rtype rdata = unwrap_or (option_map (flat_map canonical_part) (parts_of rtype rdata)) rdata
