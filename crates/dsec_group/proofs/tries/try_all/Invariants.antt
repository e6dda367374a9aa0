use Rattle.std.proofs.Common.{◌≡◌, ◌+◌, ◌≤◌, drop}
use Rattle.dsec_spec.specs.Names.{place}
use Rattle.dsec_group.specs.Trials.{pair_trial}
use Rattle.dsec_group.proofs.tries.try_all.Given as goal

abbrev pub invariant-loop-index : goal.invariant-loop-index
invariant-loop-index g l =
    (pair_trial g.V.Verifier.accepts l.group (place l.zone) l.t l.room l.signatures (g.K.KeyList.keys l.keys)
    ≡ pair_trial g.V.Verifier.accepts l.group (place l.zone) l.t l.left (drop l.index l.signatures) (g.K.KeyList.keys l.keys))
    × (l.steps + l.left ≡ l.fn.steps + l.room)
    × (l.left ≤ l.room)
