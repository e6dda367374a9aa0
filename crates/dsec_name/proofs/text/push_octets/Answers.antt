use Rattle.std.proofs.Common.{◌∙◌, sym, arith}
use Rattle.dsec_name.proofs.TextSteps.{push_step}
use Rattle.dsec_name.proofs.text.push_octets.Goals as goal

pub loop-rest-preserved : goal.loop-rest-preserved
loop-rest-preserved c =
    let shorter = c.in-Some.ensures.shorter in
    let step = push_step c.loop-rest.octets.items c.loop-rest.rest.now (c.in-Some.octet, c.in-Some.after.now) c.if-rest-ne46.true (sym c.in-Some.ensures.octet) in
    let bound = c.loop-rest.invariant.1 in
    (rw c.in_ok-push.ensures.items (step ∙ c.loop-rest.invariant.0), omega arith)
