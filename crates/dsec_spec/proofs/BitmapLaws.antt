-- A bitmap reads as the types that it was made of.
use Rattle.std.proofs.Common.{◌≡◌, ℕ, ◌<◌, List, [], length, nat_eq, ap, ◌∙◌, arith, Option}
use Rattle.std.specs.Prelude.{unwrap_or}
use Rattle.std.specs.List.{list_any}
use Rattle.dsec_spec.specs.RecordData.{Block}
use Rattle.dsec_spec.specs.TypeBitmaps.{blocks_have, has_type, IsBitmapOf}
use Rattle.dsec_spec.proofs.RecordDataLemmas.{blocks_in-bitmap}

pub reads_back : (types bitmap : List ℕ) → IsBitmapOf types bitmap → (t : ℕ) → t < 65536 → has_type bitmap t ≡ list_any (nat_eq t) types
reads_back types bitmap of t small =
    ap (λ (o : Option (List Block)). blocks_have (unwrap_or o []) t) (blocks_in-bitmap (length bitmap) of.blocks bitmap of.are (omega arith)) ∙ of.has t small
