use Rattle.std.proofs.Common.{◌≡◌}
use Rattle.std.specs.Option.{option_map}
use Rattle.dsec_spec.specs.Names.{place}
use Rattle.dsec_found.proofs.TargetSteps.{found_from}
use Rattle.dsec_found.proofs.target.usable_signer.Given as goal

abbrev pub invariant-loop-index : goal.invariant-loop-index
invariant-loop-index l =
    found_from (option_map (λ top. place top.now) l.top) (place l.from) l.signatures 0
    ≡ found_from (option_map (λ top. place top.now) l.top) (place l.from) l.signatures l.index
