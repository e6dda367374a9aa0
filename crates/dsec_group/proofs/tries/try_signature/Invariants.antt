use Rattle.std.proofs.Common.{◌≡◌, ◌+◌, ◌-◌, ◌≤◌, drop, length}
use Rattle.dsec_spec.specs.Names.{place}
use Rattle.dsec_group.specs.Trials.{key_trial}
use Rattle.dsec_group.proofs.tries.try_signature.Given as goal

abbrev pub invariant-loop-index : goal.invariant-loop-index
invariant-loop-index g l =
    (key_trial g.V.Verifier.accepts l.group (place l.zone) l.t l.room l.sig (g.K.KeyList.keys l.keys)
    ≡ key_trial g.V.Verifier.accepts l.group (place l.zone) l.t l.left l.sig (drop l.from (g.K.KeyList.keys l.keys)))
    × (l.steps + l.left ≡ l.fn.steps + l.room)
    × (l.left ≤ l.room)
    × (l.from ≤ length (g.K.KeyList.keys l.keys))

abbrev pub decreases-loop-index : goal.decreases-loop-index
decreases-loop-index g l = length (g.K.KeyList.keys l.keys) - l.from
