use Rattle.std.proofs.Common.{◌≡◌, false, map, take}
use Rattle.std.specs.List.{list_any}
use Rattle.dsec_sorted.specs.Sets.{differ_in_ttl}
use Rattle.dsec_sign.specs.Places.{set_at}
use Rattle.dsec_sign.proofs.allowed.have_several_ttls.Given as goal

abbrev pub invariant-loop-set : goal.invariant-loop-set
invariant-loop-set l = list_any differ_in_ttl (map (set_at l.records) (take l.set-index l.sets)) ≡ false
