use Rattle.std.proofs.Common.{◌≡◌, ◌∙◌, ap, take, drop}
use Rattle.std.proofs.lemmas.List.{take_min, drop_min}
use Rattle.dsec_name.specs.Keys.{labels_of}
use Rattle.dsec_name.proofs.NameParts.{labels_of-cons, whole_rest}
use Rattle.dsec_name.proofs.label.split_label.Goals as goal

pub returns-clause-labels : goal.returns-clause-labels
returns-clause-labels c =
    let k = c.in_ok-length.field-0-0.now in
    let after = c.in_ok-length.after.now in
    let label : c.split_at.result.0.now ≡ take k after = c.split_at.ensures.front ∙ rw (c.min.ensures, c.from.ensures) (take_min k after) in
    let others : c.split_at.result.1.now ≡ drop k after = c.split_at.ensures.back ∙ rw (c.min.ensures, c.from.ensures) (drop_min k after) in
    rw (label, others) (ap labels_of c.in_ok-length.ensures.cases.0 ∙ labels_of-cons k after)

pub returns-clause-whole : goal.returns-clause-whole
returns-clause-whole c =
    let k = c.in_ok-length.field-0-0.now in
    let after = c.in_ok-length.after.now in
    let others : c.split_at.result.1.now ≡ drop k after = c.split_at.ensures.back ∙ rw (c.min.ensures, c.from.ensures) (drop_min k after) in
    λ h. whole_rest c.args.octets.now k after c.split_at.result.1.now h c.in_ok-length.ensures.cases.0 others
