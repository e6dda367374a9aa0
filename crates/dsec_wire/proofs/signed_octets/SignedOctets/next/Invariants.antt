use Rattle.std.proofs.Common.{◌≡◌, length}
use Rattle.dsec_wire.specs.SignedOctets.{octets_left, room_left}
use Rattle.dsec_wire.proofs.signed_octets.SignedOctets.next.Given as goal

abbrev pub invariant-loop-self : goal.invariant-loop-self
invariant-loop-self l = record {
  same : octets_left l.self ≡ octets_left l.fn.self;
  room : room_left l.self ≡ room_left l.fn.self;
}

abbrev pub decreases-loop-self : goal.decreases-loop-self
decreases-loop-self l = length l.self.fields.now
