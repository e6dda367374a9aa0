use Rattle.std.proofs.Common.{◌≡◌, ◌<◌, ◌≤◌, ◌/◌, take}
use Rattle.std.specs.Prelude.{All, Any}
use Rattle.dsec_sorted.proofs.bitmap.least_window.Given as goal

abbrev pub invariant-loop-one : goal.invariant-loop-one
invariant-loop-one l = record {
  at_most : l.least ≤ 256;
  least : All (λ t. l.from ≤ t / 256 → l.least ≤ t / 256) (take l.one-index l.types);
  found : l.least < 256 → (l.from ≤ l.least) × Any (λ t. t / 256 ≡ l.least) (take l.one-index l.types);
}
