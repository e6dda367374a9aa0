use Rattle.std.proofs.Common.{◌≡◌, ◌-◌, get_or, Some, sym, subst, ◌∙◌, arith}
use Rattle.dsec_spec.specs.Base32hex.{digit_of}
use Rattle.dsec_nsec3_hash.proofs.LabelLaws.{HasRead, none_read, bits_more, octet_more, whole, fits}
use Rattle.dsec_nsec3_hash.proofs.label.octets_of.Goals as goal
use Rattle.dsec_nsec3_hash.proofs.label.octets_of.Goals.{then-bits-lt3, else-bits-lt3}

pub loop-character-init : goal.loop-character-init
loop-character-init c = subst (HasRead c.args.label.now 0 0 0) (sym c.new-octets.ensures) (none_read c.args.label.now)

pub upper-requires-clause-small : goal.upper-requires-clause-small
upper-requires-clause-small c =
    fits c.loop-character.held c.loop-character.bits c.in_ok-five.five c.loop-character.invariant.low c.in_ok-five.ensures.small c.if-bits-lt3.false

pub loop-character-preserved : goal.loop-character-preserved
loop-character-preserved c =
    let label = c.args.label.now in
    let i = c.loop-character.character-index in
    let held = c.loop-character.held in
    let bits = c.loop-character.bits in
    let five = c.in_ok-five.five in
    let octets = c.loop-character.octets.items in
    let digit : digit_of (get_or label i 0) ≡ Some five = sym c.digit.ensures.digit ∙ c.in_ok-five.was in
    let small = c.in_ok-five.ensures.small in
    let below = c.loop-character-test.true in
    elim c.if-bits-lt3.branch [
      | then-bits-lt3 w ↦ rw (w.octets-is, w.held-is, w.bits-is) (bits_more label octets i held bits five below digit small w.if-bits-lt3.true c.loop-character.invariant)
      | else-bits-lt3 w ↦ rw (w.octets-is, w.held-is, w.bits-is, w.lower-held.ensures, w.push.ensures.items, w.upper.ensures)
          (octet_more label octets i held bits five below digit small w.if-bits-lt3.false c.loop-character.invariant)
    ]

pub returns-then-bits-lt5 : goal.returns-then-bits-lt5
returns-then-bits-lt5 c =
    sym (whole c.args.label.now c.loop-character.octets.items c.loop-character.character-index c.loop-character.held c.loop-character.bits
    (omega (arith, c.loop-character-test.false, c.loop-character.auto.character-index-end)) c.if-bits-lt5.true c.loop-character.invariant)
