use Rattle.std.proofs.Common.{◌≡◌, take}
use Rattle.std.specs.Prelude.{filter, option_map}
use Rattle.dsec_uses_signer.specs.Whole.{is_key, listed}
use Rattle.dsec_uses_signer.proofs.keys.only_key.Given as goal

abbrev pub invariant-loop-one : goal.invariant-loop-one
invariant-loop-one l = listed (option_map (λ r. r.now) l.own) ≡ filter is_key (take l.one-index l.records)
