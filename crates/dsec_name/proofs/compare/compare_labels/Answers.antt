use Rattle.std.proofs.Common.{◌∙◌, sym, arith}
use Rattle.dsec_name.proofs.PlaceOrder.{label_longer}
use Rattle.dsec_name.proofs.compare.compare_labels.Goals as goal

pub returns-in_default : goal.returns-in_default
returns-in_default c =
    sym (label_longer c.args.one.now c.loop-octet.octet-index c.loop-octet.rest.now (omega arith) c.in_default.ensures.cases) ∙ c.loop-octet.invariant
