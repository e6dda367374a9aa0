-- Names, bitmaps and fields, taken from the front one after the other.
use Rattle.std.proofs.Common.{◌≡◌, ℕ, ◌-◌, ◌≤◌, ◌<◌, List, [], ◌∷◌, ◌++◌, length, take, drop, Some, true, false, refl, ap, arith, length-append}
use Rattle.std.specs.Option.{is_some}
use Rattle.dsec_spec.specs.Names.{Labels, wire_octets}
use Rattle.dsec_spec.specs.RecordData.{Block, name_in, blocks_in}
use Rattle.dsec_spec.proofs.WireNameLemmas.{from_name_in}
use Rattle.dsec_spec.proofs.RecordDataLemmas.{blocks_in-bitmap}
use Rattle.dsec_spec.proofs.StepLemmas.{HasBlocks, HasBlocks-nil, HasBlocks-push, IsBitmap-blocks, blocks_in-window_alone, blocks_in-empty_block, blocks_in-long_block, blocks_in-short_block}
use Rattle.dsec_wire.specs.Fields.{name_size_in}

-- the name at the front has what is not left after it
pub name_taken : (x : List ℕ) (name : Labels) (left : List ℕ) → name_in x ≡ Some (name, left) → (name_size_in x ≡ Some (length x - length left)) × (length left ≤ length x)
name_taken x name left e =
    let is = from_name_in x name left e in
    let n : length (wire_octets name) ≡ length x - length left = omega (arith, ap length is.1, length-append (wire_octets name) left) in
    (rw (e, n) refl, omega (arith, ap length is.1, length-append (wire_octets name) left))

-- blocks were read, and these octets are left
pub record BitmapBegins (octets rest : List ℕ) : Type 0 where
  pub blocks : List Block
  pub has : HasBlocks octets blocks rest

pub bitmap_starts : (octets : List ℕ) → BitmapBegins octets octets
bitmap_starts octets = record { blocks = []; has = HasBlocks-nil octets }

pub bitmap_ends : (octets : List ℕ) → BitmapBegins octets [] → is_some (blocks_in (length octets) octets) ≡ true
bitmap_ends octets begins = rw (blocks_in-bitmap (length octets) begins.blocks octets (IsBitmap-blocks octets begins.blocks begins.has) (omega arith)) refl

pub bitmap_window_alone : (octets : List ℕ) (window : ℕ) → BitmapBegins octets (window ∷ []) → is_some (blocks_in (length octets) octets) ≡ false
bitmap_window_alone octets window begins = rw (blocks_in-window_alone (length octets) octets begins.blocks window begins.has) refl

pub bitmap_empty_block : (octets : List ℕ) (window : ℕ) (after : List ℕ) → BitmapBegins octets (window ∷ 0 ∷ after) → is_some (blocks_in (length octets) octets) ≡ false
bitmap_empty_block octets window after begins = rw (blocks_in-empty_block (length octets) octets begins.blocks window after begins.has) refl

pub bitmap_long_block : (octets : List ℕ) (window size : ℕ) (after : List ℕ) → BitmapBegins octets (window ∷ size ∷ after) → 32 < size → is_some (blocks_in (length octets) octets) ≡ false
bitmap_long_block octets window size after begins long = rw (blocks_in-long_block (length octets) octets begins.blocks window size after begins.has long) refl

pub bitmap_short_block : (octets : List ℕ) (window size : ℕ) (after : List ℕ) → BitmapBegins octets (window ∷ size ∷ after) → length after < size → is_some (blocks_in (length octets) octets) ≡ false
bitmap_short_block octets window size after begins short = rw (blocks_in-short_block (length octets) octets begins.blocks window size after begins.has short) refl

pub bitmap_goes_on : (octets : List ℕ) (window size : ℕ) (after : List ℕ) → BitmapBegins octets (window ∷ size ∷ after) → 0 < size → size ≤ 32 → size ≤ length after → BitmapBegins octets (drop size after)
bitmap_goes_on octets window size after begins some few fits = record {
  blocks = begins.blocks ++ record { window = window; bits = take size after } ∷ [];
  has = HasBlocks-push octets begins.blocks window size after begins.has some few fits;
}

pub empty : (x : List ℕ) → length x ≡ 0 → x ≡ []
empty [] e = refl
empty (first ∷ x) e = absurd (omega arith)
