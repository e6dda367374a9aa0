use Rattle.std.proofs.Common.{List, ℕ, ap, ◌∙◌}
use Rattle.dsec_spec.specs.Digests.{iterated_hash}
use Rattle.dsec_nsec3_calls.proofs.shown.hash_for.Goals as goal

pub returns : goal.returns
returns g c = λ n e. c.hash_of.ensures ∙ ap (λ (octets : List ℕ). iterated_hash c.args.nsec3.now.salt.now octets c.args.nsec3.now.iterations) e
