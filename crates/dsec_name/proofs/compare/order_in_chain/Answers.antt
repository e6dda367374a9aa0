use Rattle.std.proofs.Common.{◌<◌, sym, arith}
use Rattle.dsec_spec.specs.Names.{wire_length}
use Rattle.dsec_name.specs.Keys.{labels_of}
use Rattle.dsec_name.proofs.ChainOrder.{longer_after, shorter_before}
use Rattle.dsec_name.proofs.NameParts.{length-whole}
use Rattle.dsec_name.proofs.compare.order_in_chain.Goals as goal

pub returns-then-is_at_or_below : goal.returns-then-is_at_or_below
returns-then-is_at_or_below c =
    let m = length-whole c.args.one.now c.requires.one in
    let n = length-whole c.args.other.now c.requires.other in
    let more = c.if-one-other.true in
    let long : wire_length (labels_of c.args.other.now) < wire_length (labels_of c.args.one.now) = omega arith in
    sym (longer_after (labels_of c.args.one.now) (labels_of c.args.other.now) long (c.is_at_or_below.ensures.0 c.if-is_at_or_below.true))

pub returns-then-is_at_or_below-2 : goal.returns-then-is_at_or_below-2
returns-then-is_at_or_below-2 c =
    let m = length-whole c.args.one.now c.requires.one in
    let n = length-whole c.args.other.now c.requires.other in
    let more = c.if-one-other-2.true in
    let long : wire_length (labels_of c.args.one.now) < wire_length (labels_of c.args.other.now) = omega arith in
    sym (shorter_before (labels_of c.args.one.now) (labels_of c.args.other.now) long (c.is_at_or_below-then-one-other-2.ensures.0 c.if-is_at_or_below-2.true))
