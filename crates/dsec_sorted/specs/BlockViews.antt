-- The blocks of a bitmap, as the code has them.
use Rattle.std.specs.Prelude.{ℕ, List}
use Rattle.std.specs.Borrow.{Bor}
use Rattle.dsec_spec.specs.RecordData.{Block}
use Rattle.dsec_sorted.specs.declared.reading.BlockRef.{BlockRef}

-- a block
abbrev pub block_view : BlockRef → Block
block_view it = record { window = it.window; bits = it.bits.now }

-- a block, and the octets after it
abbrev pub split_view : BlockRef × Bor (List ℕ) → Block × List ℕ
split_view it = (block_view it.0, it.1.now)
