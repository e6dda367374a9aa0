use Rattle.std.proofs.Common.{◌+◌, drop, sym, ap, ◌∙◌, arith}
use Rattle.dsec_spec.specs.Names.{wire_octets}
use Rattle.dsec_nsec3_calls.proofs.OctetLaws.{front_of, front_parts}
use Rattle.dsec_nsec3_calls.proofs.asked.after_labels.Goals as goal

pub returns-in_default-split_at_checked : goal.returns-in_default-split_at_checked
returns-in_default-split_at_checked c name whole fits =
    let i = c.loop.counter in
    let t = c.loop-test.true in
    let p = front_parts (wire_octets (drop i name)) (wire_octets (drop (i + 1) name)) c.in-Some.after.now c.in-Some.field-0-0.now
    (front_of name i (omega (arith, t, fits))) (sym (c.loop.invariant name whole fits) ∙ c.in-Some.ensures.cases.0) in
    let short = c.in_default-split_at_checked.ensures.cases in
    let q = p.0 in
    absurd (omega (arith, q, short, c.from.ensures))

pub loop-preserved : goal.loop-preserved
loop-preserved c name whole fits =
    let i = c.loop.counter in
    let t = c.loop-test.true in
    let p = front_parts (wire_octets (drop i name)) (wire_octets (drop (i + 1) name)) c.in-Some.after.now c.in-Some.field-0-0.now
    (front_of name i (omega (arith, t, fits))) (sym (c.loop.invariant name whole fits) ∙ c.in-Some.ensures.cases.0) in
    c.in-Some-split_at_checked.ensures.cases.2 ∙ (ap (λ k. drop k c.in-Some.after.now) c.from.ensures ∙ p.1)
