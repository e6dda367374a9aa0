use Rattle.std.proofs.Common.{◌≡◌}
use Rattle.std.specs.Prelude.{IsTrue}
use Rattle.std.specs.Option.{is_some}
use Rattle.std.specs.Cmp.Lexicographic.{slice_cmp}
use Rattle.std.specs.Ordering.{nat_cmp}
use Rattle.dsec_wire.specs.SignedOctets.{left_of, octets_left, room_left}
use Rattle.dsec_wire.proofs.signed_octets.compare.Given as goal

abbrev pub invariant-loop-a : goal.invariant-loop-a
invariant-loop-a l = record {
  left : IsTrue (is_some (octets_left l.x));
  right : IsTrue (is_some (octets_left l.y));
  order : slice_cmp nat_cmp (left_of l.x) (left_of l.y) ≡ slice_cmp nat_cmp (left_of l.left) (left_of l.right);
}

abbrev pub decreases-loop-a : goal.decreases-loop-a
decreases-loop-a l = room_left l.x
