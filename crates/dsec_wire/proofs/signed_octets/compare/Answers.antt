use Rattle.dsec_wire.specs.SignedOctets.{left_of, octets_left}
use Rattle.dsec_wire.proofs.SignedOctetsLaws.{value_after, value_at_end, after_same, after_other, left_longer, right_longer, both_end}
use Rattle.dsec_wire.proofs.signed_octets.compare.Goals as goal

pub next-requires : goal.next-requires
next-requires c = c.loop-a.invariant.left

pub next-requires-in-Some : goal.next-requires-in-Some
next-requires-in-Some c = c.loop-a.invariant.right

pub next-requires-2 : goal.next-requires-2
next-requires-2 c = c.loop-a.invariant.right

pub loop-a-preserved : goal.loop-a-preserved
loop-a-preserved c =
    let i = c.loop-a.invariant in
    let x = value_after (octets_left c.loop-a.x) (octets_left c.next.new.self) c.in-Some.a c.in-Some.ensures.taken i.left in
    let y = value_after (octets_left c.loop-a.y) (octets_left c.next-in-Some.new.self) c.in-Some-next.b c.in-Some-next.ensures.taken i.right in
    record {
      left = x.1;
      right = y.1;
      order = after_same (left_of c.loop-a.x) (left_of c.loop-a.y) _ i.order c.in-Some.a c.in-Some-next.b (left_of c.next.new.self) (left_of c.next-in-Some.new.self) x.0 y.0 c.if-a-b.false;
    }

pub returns-in_default-next : goal.returns-in_default-next
returns-in_default-next c =
    let i = c.loop-a.invariant in
    let x = value_after (octets_left c.loop-a.x) (octets_left c.next.new.self) c.in-Some.a c.in-Some.ensures.taken i.left in
    left_longer (left_of c.loop-a.x) (left_of c.loop-a.y) _ i.order c.in-Some.a (left_of c.next.new.self) x.0 (value_at_end (octets_left c.loop-a.y) c.in_default-next.ensures.end)

pub returns-then-a-b : goal.returns-then-a-b
returns-then-a-b c =
    let i = c.loop-a.invariant in
    let x = value_after (octets_left c.loop-a.x) (octets_left c.next.new.self) c.in-Some.a c.in-Some.ensures.taken i.left in
    let y = value_after (octets_left c.loop-a.y) (octets_left c.next-in-Some.new.self) c.in-Some-next.b c.in-Some-next.ensures.taken i.right in
    rw c.cmp.ensures (after_other (left_of c.loop-a.x) (left_of c.loop-a.y) _ i.order c.in-Some.a c.in-Some-next.b (left_of c.next.new.self) (left_of c.next-in-Some.new.self) x.0 y.0 c.if-a-b.true)

pub returns-in-Some-next-2 : goal.returns-in-Some-next-2
returns-in-Some-next-2 c =
    let i = c.loop-a.invariant in
    let y = value_after (octets_left c.loop-a.y) (octets_left c.next-2.new.self) c.in-Some-next-2.field-0 c.in-Some-next-2.ensures.taken i.right in
    right_longer (left_of c.loop-a.x) (left_of c.loop-a.y) _ i.order c.in-Some-next-2.field-0 (left_of c.next-2.new.self) (value_at_end (octets_left c.loop-a.x) c.in_default.ensures.end) y.0

pub returns-in-None : goal.returns-in-None
returns-in-None c =
    both_end (left_of c.loop-a.x) (left_of c.loop-a.y) _ c.loop-a.invariant.order (value_at_end (octets_left c.loop-a.x) c.in_default.ensures.end) (value_at_end (octets_left c.loop-a.y) c.in-None.ensures.end)
