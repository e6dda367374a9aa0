use Rattle.std.proofs.Common.{◌≡◌, ◌-◌, length, arith}
use Rattle.dsec_group.proofs.RedirectLaws.{mapped_is}
use Rattle.dsec_group.proofs.dname.map_dname.Goals as goal

pub returns : goal.returns
returns c =
    let owner = c.args.owner.now in
    let name = c.args.name.now in
    let before : c.saturating_sub-before.result ≡ length name - length owner = omega (arith, c.saturating_sub-before.ensures, c.label_count.ensures, c.label_count-2.ensures) in
    rw (← mapped_is owner c.args.target.now name c.saturating_sub-before.result before) c.front_onto.ensures
