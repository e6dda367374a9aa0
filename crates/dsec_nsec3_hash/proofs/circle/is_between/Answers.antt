use Rattle.dsec_nsec3_hash.proofs.CircleLaws.{inside_exact, owner_outside}
use Rattle.dsec_nsec3_hash.proofs.circle.is_between.Goals as goal

pub returns-clause-exact : goal.returns-clause-exact
returns-clause-exact c = inside_exact c.args.owner.now c.args.next.now c.args.target.now c.stands_inside.result c.stands_inside.ensures

pub returns-clause-not_the_owner : goal.returns-clause-not_the_owner
returns-clause-not_the_owner c = λ e. owner_outside c.args.owner.now c.args.next.now c.args.target.now c.stands_inside.result c.stands_inside.ensures e
