use Rattle.std.proofs.Common.{List, ℕ, sym, subst}
use Rattle.dsec_hashed.proofs.LabelLaws.{HasWritten, none_written, group_written, all_written, split_group}
use Rattle.dsec_hashed.proofs.label.push_label.Goals as goal

pub loop-rest-init : goal.loop-rest-init
loop-rest-init c = none_written c.args.out.now.items c.args.hash.now c.told-hash

pub loop-rest-preserved : goal.loop-rest-preserved
loop-rest-preserved c =
    let group = c.split_at.result.0.now in
    let after = c.split_at.result.1.now in
    subst (λ (out : List ℕ). HasWritten c.args.out.now.items out c.args.hash.now after) (sym c.in_ok-push_group.ensures)
    (group_written c.args.out.now.items c.loop-rest.out.items c.args.hash.now c.loop-rest.rest.now group after c.number.result
    (split_group c.loop-rest.rest.now group after c.split_at.ensures.front c.split_at.ensures.back) c.split_at.ensures.front_len c.number.ensures.value c.number.ensures.small c.loop-rest.invariant)

pub returns : goal.returns
returns c = all_written c.args.out.now.items c.loop-rest.out.items c.args.hash.now c.loop-rest.rest.now c.told-hash c.loop-rest-test.false c.loop-rest.invariant
