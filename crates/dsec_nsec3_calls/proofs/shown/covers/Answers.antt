use Rattle.std.proofs.Common.{List, ℕ, ap, ◌∙◌}
use Rattle.dsec_nsec3.specs.Tests.{is_between}
use Rattle.dsec_nsec3_calls.proofs.shown.covers.Goals as goal

pub returns : goal.returns
returns g c = λ zone n e.
    c.is_between.ensures.test ∙ (ap (λ (owner : List ℕ). is_between owner c.args.nsec3.now.next_owner.now c.hash_for.result) c.as_slice.ensures.value
    ∙ ap (λ (hash : List ℕ). is_between c.args.owner.now c.args.nsec3.now.next_owner.now hash) (c.hash_for.ensures n e))
