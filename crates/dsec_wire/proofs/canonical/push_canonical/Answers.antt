use Rattle.std.proofs.Common.{◌≡◌, ◌∙◌, ap, Option, ℕ, arith}
use Rattle.std.specs.Prelude.{unwrap_or}
use Rattle.dsec_wire.proofs.CanonicalLoops.{takes_some, canonical_step, canonical_end}
use Rattle.dsec_wire.proofs.canonical.push_canonical.Goals as goal

pub loop-field-preserved : goal.loop-field-preserved
loop-field-preserved c =
    let some = takes_some c.args.fields.now c.loop-field.field-index _ c.loop-field.out.items c.loop-field.rest.now c.args.out.now.items c.args.octets.now c.loop-field-test.true c.loop-field.invariant.0 c.requires.readable in
    let size : c.unwrap_or-size.result ≡ some.0 = c.unwrap_or-size.ensures ∙ ap (λ (o : Option ℕ). unwrap_or o 0) (c.part_size.ensures.exact ∙ some.1) in (
      rw (c.push_part.ensures.items, c.split_at.ensures.front, c.split_at.ensures.back, size) (canonical_step c.args.fields.now c.loop-field.field-index _ c.loop-field.out.items c.loop-field.rest.now some.0 c.loop-field-test.true some.1 ∙ c.loop-field.invariant.0),
      omega arith,
    )

pub returns : goal.returns
returns c = canonical_end c.args.fields.now c.loop-field.field-index c.loop-field.out.items c.loop-field.rest.now c.args.out.now.items c.args.octets.now c.loop-field-test.false c.loop-field.invariant.0 c.requires.readable
