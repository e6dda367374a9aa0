use Rattle.std.proofs.Common.{◌≡◌, ◌+◌, ◌-◌, ℕ, take, drop, subst, arith}
use Rattle.std.specs.Prelude.{Contains}
use Rattle.dsec_sign.proofs.signing.members.Goals as goal

pub from_checked-requires-clause-set : goal.from_checked-requires-clause-set
from_checked-requires-clause-set c r s h g =
    let set = c.args.set in
    let size : set.start + set.size - set.start ≡ set.size = omega arith in
    c.requires.one r s (subst (λ (n : ℕ). Contains (take n (drop set.start c.args.records.now)) r) size h) (subst (λ (n : ℕ). Contains (take n (drop set.start c.args.records.now)) s) size g)
