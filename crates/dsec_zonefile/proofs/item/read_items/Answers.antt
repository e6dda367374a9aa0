use Rattle.std.proofs.lemmas.Result.{err_from_is_err_and}
use Rattle.dsec_zonefile.proofs.ItemWords.{item_more, item_stops_reading, too_few}
use Rattle.dsec_zonefile.proofs.item.read_items.Goals as goal

pub returns-then-words-items : goal.returns-then-words-items
returns-then-words-items c = too_few c.args.origin.now c.args.items.now c.args.words.now c.if-words-items.true

pub returns-in_err-push_item : goal.returns-in_err-push_item
returns-in_err-push_item c =
    let p = err_from_is_err_and c.from_residual.result c.from_residual.ensures.1 in
    rw (p.1, p.2) (item_stops_reading c.in_err-push_item.field-0.0 c.args.origin.now c.args.items.now c.args.words.now c.loop-index.index _ _ c.loop-index.out.items _
    c.loop-index-test.true c.if-words-items.false c.in_err-push_item.ensures c.loop-index.invariant)

pub loop-index-preserved : goal.loop-index-preserved
loop-index-preserved c =
    item_more c.args.origin.now c.args.items.now c.args.words.now c.loop-index.index _ _ c.loop-index.out.items c.push_item.new.out.items _
    c.loop-index-test.true c.if-words-items.false c.in_ok-push_item.ensures c.loop-index.invariant
