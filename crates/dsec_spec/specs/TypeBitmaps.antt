-- Type bitmaps: the types that octets name (RFC 4034 4.1.2).
use Rattle.std.specs.Prelude.{◌≡◌, ◌≢◌, ℕ, ◌<◌, ◌-◌, ◌/◌, ◌%◌, ◌^◌, ◌==◌, ◌&&◌, nat_eq, Bool, List, length, slice_index, unwrap_or, [], All, AllPairs}
use Rattle.std.specs.List.{list_any}
use Rattle.dsec_spec.specs.RecordData.{Block, IsBitmap, blocks_in}

-- bit k, from the highest of the first octet on
abbrev pub bit_of : List ℕ → ℕ → Bool
bit_of bits k = slice_index bits (k / 8) / 2 ^ (7 - k % 8) % 2 == 1

-- the block is of the type's window, and has its bit
abbrev pub block_has : ℕ → Block → Bool
block_has t block = block.window == t / 256 && bit_of block.bits (t % 256)

-- one of the blocks has the type
abbrev pub blocks_have : List Block → ℕ → Bool
blocks_have blocks t = list_any (block_has t) blocks

-- the bitmap has the type; octets that are no bitmap have none
abbrev pub has_type : List ℕ → ℕ → Bool
has_type bitmap t = blocks_have (unwrap_or (blocks_in (length bitmap) bitmap) []) t

-- the octets are the one bitmap that has these types and no others: its windows rise, and no block ends in an octet without a bit, so
-- that none is empty
pub record IsBitmapOf (types bitmap : List ℕ) : Type 0 where
  pub blocks : List Block
  pub are : IsBitmap blocks bitmap
  pub rise : AllPairs (λ (b c : Block). b.window < c.window) blocks
  pub ends : All (λ (b : Block). slice_index b.bits (length b.bits - 1) ≢ 0) blocks
  pub has : (t : ℕ) → t < 65536 → blocks_have blocks t ≡ list_any (nat_eq t) types
