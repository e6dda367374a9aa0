use Rattle.std.proofs.Common.{◌≡◌, ◌<◌, ◌≤◌, ◌-◌, ◌/◌}
use Rattle.std.specs.Prelude.{All, Any}
use Rattle.dsec_sorted.proofs.Windows.{Encoded}
use Rattle.dsec_sorted.proofs.bitmap.push_bitmap.Given as goal

abbrev pub invariant-loop-window : goal.invariant-loop-window
invariant-loop-window l = record {
  bounds : (l.from ≤ 256) × (l.window ≤ 256);
  least : All (λ t. l.from ≤ t / 256 → l.window ≤ t / 256) l.types;
  found : l.window < 256 → (l.from ≤ l.window) × Any (λ t. t / 256 ≡ l.window) l.types;
  encoded : Encoded l.fn.out.items l.out.items l.types l.from;
}

abbrev pub decreases-loop-window : goal.decreases-loop-window
decreases-loop-window l = 257 - l.from
