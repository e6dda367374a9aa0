use Rattle.std.proofs.Common.{◌≡◌, ◌∙◌, ◌<◌, sym, ap, subst, arith, length, get_or}
use Rattle.std.proofs.lemmas.Bool.{true≢false}
use Rattle.std.proofs.lemmas.List.{get_or_default}
use Rattle.std.proofs.lemmas.List.Elements.{All-more}
use Rattle.dsec_spec.specs.Names.{Labels, place, same_place}
use Rattle.dsec_spec.specs.Records.{Record}
use Rattle.dsec_spec.proofs.CanonicalNames.{same_place_decides}
use Rattle.dsec_sorted.proofs.records_iter.run_length.Goals as goal

pub loop-size-preserved : goal.loop-size-preserved
loop-size-preserved c =
    let records = c.args.records.now in
    let name = c.args.name.now in
    let lt : c.loop-size.size < length records = c.loop-size-test.true in
    let x = c.index-records-size.result in
    let same : place x.owner ≡ place name =
    (same_place_decides (place x.owner) (place name)).0
    (ap (λ (n : Labels). same_place (place n) (place name)) (sym c.owner.ensures) ∙ (sym c.is_same.ensures ∙ c.if-is_same.true)) in
    record {
      fits = omega arith;
      run = All-more (λ (r : Record). place r.owner ≡ place name) records c.loop-size.size x lt c.loop-size.invariant.run
          (subst (λ (r : Record). place r.owner ≡ place name) c.index-records-size.is same);
    }

pub returns-else-is_same-clause-next : goal.returns-else-is_same-clause-next
returns-else-is_same-clause-next c d lt e =
    let records = c.args.records.now in
    let there : c.index-records-size.result ≡ get_or records c.loop-size.size d =
    c.index-records-size.is ∙ get_or_default records c.loop-size.size c.index-records-size.result d lt in
    let mine : place c.index-records-size.result.owner ≡ place c.args.name.now = ap (λ (r : Record). place r.owner) there ∙ e in
    true≢false (sym ((same_place_decides (place c.index-records-size.result.owner) (place c.args.name.now)).1 mine)
    ∙ (ap (λ (n : Labels). same_place (place n) (place c.args.name.now)) (sym c.owner.ensures) ∙ (sym c.is_same.ensures ∙ c.if-is_same.false)))
