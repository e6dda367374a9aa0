use Rattle.std.proofs.Common.{◌<◌, ◌≤◌, arith, subst, sym}
use Rattle.dsec_spec.specs.Names.{Labels, IsAtOrBelow, place, wire_length}
use Rattle.dsec_name.specs.Keys.{labels_of}
use Rattle.dsec_name.proofs.NameParts.{length-whole}
use Rattle.dsec_name.proofs.NamePrefix.{same_octets}
use Rattle.dsec_name.proofs.PlaceOrder.{below_step, below_end}
use Rattle.dsec_name.proofs.compare.is_at_or_below.Goals as goal

pub loop-rest-preserved : goal.loop-rest-preserved
loop-rest-preserved c =
    let rest = c.loop-rest.rest.now in
    let after = c.in-Some.after.now in
    let base = labels_of c.args.base.now in
    let labels = c.in-Some.ensures.labels in
    let long : wire_length base < wire_length (labels_of rest) = let m = length-whole rest c.loop-rest.invariant.0 in let n = length-whole c.args.base.now c.requires.base in omega arith in
    let below : Labels → Type 0 = λ x. IsAtOrBelow (place x) (place base) in
    let step = below_step c.in-Some.field-0-0.now (labels_of after) base (subst (λ (x : Labels). wire_length base < wire_length x) labels long) in (
      c.in-Some.ensures.whole c.loop-rest.invariant.0,
      (λ h. c.loop-rest.invariant.1.0 (subst below (sym labels) (step.1 h)), λ h. step.0 (subst below labels (c.loop-rest.invariant.1.1 h))),
    )

pub returns : goal.returns
returns c =
    let rest = c.loop-rest.rest.now in
    let base = c.args.base.now in
    let whole = c.loop-rest.invariant.0 in
    let short : wire_length (labels_of rest) ≤ wire_length (labels_of base) = let m = length-whole rest whole in let n = length-whole base c.requires.base in omega arith in
    let end = below_end (labels_of rest) (labels_of base) short in
    let same = same_octets (labels_of rest) (labels_of base) rest base whole.whole c.requires.base.whole whole.name c.requires.base.name in (
      λ yes. c.loop-rest.invariant.1.0 (end.1 (same.0 (c.same_ignoring_case.ensures.0 yes))),
      λ h. c.same_ignoring_case.ensures.1 (same.1 (end.0 (c.loop-rest.invariant.1.1 h))),
    )
