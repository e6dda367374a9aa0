-- A type bitmap, read block by block (RFC 4034 4.1.2).
use Rattle.std.specs.Prelude.{ℕ, ◌==◌, ◌||◌, nat_lt, Bool, false, List, ◌∷◌, length, Option, Some, None, if◌then◌else◌}
use Rattle.dsec_spec.specs.Reading.{◌>>=◌}
use Rattle.dsec_spec.specs.RecordData.{Block, octets_in, blocks_in}
use Rattle.dsec_spec.specs.TypeBitmaps.{blocks_have}

-- the block at the front, and the octets after it
abbrev pub first_block : List ℕ → Option (Block × List ℕ)
first_block (window ∷ size ∷ x) =
    if (size == 0) || nat_lt 32 size then None else do
      bits ← octets_in size x
      Some (record { window = window; bits = bits.0 }, bits.1)
first_block _ = None

-- whether a type was found, or is in one of the blocks that are left
abbrev pub found_in : Bool → Option (List Block) → ℕ → Bool
found_in found None t = false
found_in found (Some blocks) t = found || blocks_have blocks t

-- the same of octets
abbrev pub found_or_left : Bool → List ℕ → ℕ → Bool
found_or_left found x t = found_in found (blocks_in (length x) x) t
