use Rattle.std.proofs.Common.{◌≡◌, ◌<◌, subst, arith, length}
use Rattle.std.proofs.lemmas.List.Elements.{All-more}
use Rattle.dsec_spec.specs.Records.{Record}
use Rattle.dsec_sign.proofs.zone_sets.set_length.Goals as goal

pub loop-size-preserved : goal.loop-size-preserved
loop-size-preserved c =
    let records = c.args.records.now in
    let lt : c.loop-size.size < length records = c.loop-size-test.true in
    let x = c.index-records-size.result in
    record {
      fits = omega arith;
      run = All-more (λ (r : Record). r.rtype ≡ c.args.first.now.rtype) records c.loop-size.size x lt c.loop-size.invariant.run
          (subst (λ (r : Record). r.rtype ≡ c.args.first.now.rtype) c.index-records-size.is (c.has_type_of.ensures.0 c.if-has_type_of.true));
    }
