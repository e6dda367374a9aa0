use Rattle.std.proofs.Common.{◌≡◌, ◌∙◌, drop}
use Rattle.std.proofs.lemmas.List.{drop_min}
use Rattle.dsec_name.specs.Keys.{labels_of}
use Rattle.dsec_name.proofs.NamePieces.{next_labels}
use Rattle.dsec_name.proofs.parts.after_labels.Goals as goal

pub loop-preserved : goal.loop-preserved
loop-preserved c =
    let k = c.in-Some.field-0-0.now in
    let after = c.in-Some.after.now in
    let next : c.split_at.result.1.now ≡ drop k after = c.split_at.ensures.back ∙ rw (c.min.ensures, c.from.ensures) (drop_min k after) in
    next_labels (labels_of c.args.octets.now) c.loop.counter k c.loop.rest.now after c.split_at.result.1.now c.loop.invariant c.in-Some.ensures.cases.0 next
