use Rattle.dsec_name.specs.Keys.{labels_of}
use Rattle.dsec_name.proofs.PlaceOrder.{starts, steps}
use Rattle.dsec_name.proofs.compare.compare.Goals as goal

pub loop-label-init : goal.loop-label-init
loop-label-init c =
    starts (labels_of c.args.one.now) (labels_of c.args.other.now) (labels_of c.without_labels-rest.result.now) (labels_of c.without_labels-other_rest.result.now) c.count_labels-count.result c.count_labels-others.result c.saturating_sub.result c.saturating_sub-2.result c.cmp-order.result
    c.count_labels-count.ensures.value c.count_labels-others.ensures.value c.saturating_sub.ensures c.saturating_sub-2.ensures c.without_labels-rest.ensures c.without_labels-other_rest.ensures c.cmp-order.ensures

pub loop-label-preserved : goal.loop-label-preserved
loop-label-preserved c =
    steps (labels_of c.loop-label.rest.now) (labels_of c.loop-label.other_rest.now) (labels_of c.in-Some.after.now) (labels_of c.in-Some-split_label.other_after.now) c.in-Some.label.now c.in-Some-split_label.other_label.now c.loop-label.order c.compare_labels.result c.then-order.result _
    c.in-Some.ensures.labels c.in-Some-split_label.ensures.labels c.loop-label.invariant.0 c.loop-label.invariant.1 c.compare_labels.ensures c.then-order.ensures
