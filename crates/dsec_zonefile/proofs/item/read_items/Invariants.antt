use Rattle.std.proofs.Common.{◌≡◌, drop, map}
use Rattle.dsec_text.specs.Words.{word_view}
use Rattle.dsec_wire.specs.Fields.{item_view}
use Rattle.dsec_zonefile.specs.Forms.{added_items, items_in}
use Rattle.dsec_zonefile.proofs.item.read_items.Given as goal

abbrev pub invariant-loop-index : goal.invariant-loop-index
invariant-loop-index l =
    added_items l.out.items (items_in l.origin (map item_view (drop l.index l.items)) (map word_view (drop l.index l.words)))
    ≡ items_in l.origin (map item_view l.items) (map word_view l.words)
