-- A type bitmap as it is written (RFC 4034 4.1.2).
use Rattle.std.specs.Prelude.{◌≡◌, ◌≤◌, ℕ, List, ◌++◌, length}
use Rattle.dsec_spec.specs.TypeBitmaps.{IsBitmapOf}

-- the bitmap of the types was added: at most 256 blocks of at most 34 octets
pub record AddsBitmap (old new types : List ℕ) : Type 0 where
  pub bitmap : List ℕ
  pub is : new ≡ old ++ bitmap
  pub of : IsBitmapOf types bitmap
  pub short : length bitmap ≤ 8704
