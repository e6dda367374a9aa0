use Rattle.std.proofs.Common.{◌∙◌, sym, ap, arith}
use Rattle.dsec_name.specs.Keys.{labels_of}
use Rattle.dsec_name.proofs.NameParts.{drop_next, drop_end}
use Rattle.dsec_name.proofs.label.without_labels.Goals as goal

pub loop-preserved : goal.loop-preserved
loop-preserved c =
    drop_next c.loop.counter (labels_of c.args.octets.now) (labels_of c.in-Some.after.now) c.in-Some.field-0-0.now (sym c.in-Some.ensures.labels ∙ c.loop.invariant)

pub returns-in_default : goal.returns-in_default
returns-in_default c =
    let none = ap labels_of c.in_default.ensures.none in
    none ∙ drop_end c.loop.counter c.args.count (labels_of c.args.octets.now) (sym none ∙ c.loop.invariant) (omega arith)
