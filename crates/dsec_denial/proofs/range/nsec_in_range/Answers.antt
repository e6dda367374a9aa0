use Rattle.std.proofs.Common.{◌≡◌, true}
use Rattle.std.specs.Ordering.{is_lt}
use Rattle.dsec_spec.specs.Names.{place, place_cmp}
use Rattle.dsec_denial.proofs.RangeLaws.{not_after}
use Rattle.dsec_denial.proofs.range.nsec_in_range.Goals as goal

pub returns-then-is_lt-2-clause-not_the_owner : goal.returns-then-is_lt-2-clause-not_the_owner
returns-then-is_lt-2-clause-not_the_owner c = λ e.
    let compared = c.canonical_cmp.ensures in
    let tested = c.is_lt.ensures in
    let held = c.if-is_lt.true in
    let less : is_lt (place_cmp (place c.args.owner.now) (place c.args.target.now)) ≡ true = cc in
    absurd (not_after (place c.args.owner.now) (place c.args.target.now) e less)

pub returns-else-is_lt-2-clause-not_the_owner : goal.returns-else-is_lt-2-clause-not_the_owner
returns-else-is_lt-2-clause-not_the_owner c = λ e.
    let compared = c.canonical_cmp.ensures in
    let tested = c.is_lt.ensures in
    let held = c.if-is_lt.true in
    let less : is_lt (place_cmp (place c.args.owner.now) (place c.args.target.now)) ≡ true = cc in
    absurd (not_after (place c.args.owner.now) (place c.args.target.now) e less)
