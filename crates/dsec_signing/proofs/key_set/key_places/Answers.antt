use Rattle.std.proofs.Common.{◌+◌, ap, arith}
use Rattle.dsec_spec.specs.Names.{place}
use Rattle.dsec_signing.proofs.KeySets.{noted, noted_within}
use Rattle.dsec_signing.proofs.key_set.key_places.Goals as goal

pub loop-it-preserved : goal.loop-it-preserved
loop-it-preserved c =
    let inv = c.loop-it.invariant in (
      ap (λ n. n + 1) inv.0,
      noted_within c.args.records.now c.loop-it.places.items c.note.new.places.items c.loop-it.at c.is_key_at.result (omega (arith, inv.0, c.loop-it-test.true)) c.in_ok-note.ensures inv.1,
      noted (place c.args.apex.now) c.args.records.now c.loop-it.places.items c.note.new.places.items c.loop-it.at c.loop-it.it-index c.it-item.result c.is_key_at.result inv.0 c.loop-it-test.true c.it-item.is
          c.is_key_at.ensures c.in_ok-note.ensures inv.2,
    )
