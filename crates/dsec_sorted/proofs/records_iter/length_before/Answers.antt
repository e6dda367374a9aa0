use Rattle.std.proofs.Common.{◌≡◌, ◌∙◌, ◌<◌, true, false, sym, ap, subst, arith, length, get_or}
use Rattle.std.proofs.Math.Bool.{not}
use Rattle.std.proofs.lemmas.List.{get_or_default}
use Rattle.std.proofs.lemmas.List.Elements.{All-more}
use Rattle.dsec_spec.specs.Names.{Labels, place, is_below}
use Rattle.dsec_spec.specs.Records.{Record}
use Rattle.dsec_spec.proofs.SignedTests.{below_decides}
use Rattle.dsec_sorted.proofs.OwnerRuns.{not_true, not_false}
use Rattle.dsec_sorted.proofs.records_iter.length_before.Goals as goal

pub loop-size-preserved : goal.loop-size-preserved
loop-size-preserved c =
    let records = c.args.records.now in
    let lt : c.loop-size.size < length records = c.loop-size-test.true in
    let x = c.index-records-size.result in
    let out : is_below (place x.owner) (place c.args.name.now) ≡ false =
    not_true (is_below (place x.owner) (place c.args.name.now))
    (ap (λ (n : Labels). not (is_below (place n) (place c.args.name.now))) (sym c.owner.ensures) ∙ (sym c.is_outside.ensures ∙ c.if-is_outside.true)) in
    record {
      fits = omega arith;
      none = All-more (λ (r : Record). is_below (place r.owner) (place c.args.name.now) ≡ false) records c.loop-size.size x lt c.loop-size.invariant.none
          (subst (λ (r : Record). is_below (place r.owner) (place c.args.name.now) ≡ false) c.index-records-size.is out);
    }

pub returns-else-is_outside-clause-found : goal.returns-else-is_outside-clause-found
returns-else-is_outside-clause-found c d lt =
    let records = c.args.records.now in
    let x = c.index-records-size.result in
    let there : x ≡ get_or records c.loop-size.size d = c.index-records-size.is ∙ get_or_default records c.loop-size.size x d lt in
    let at : is_below (place x.owner) (place c.args.name.now) ≡ true =
    not_false (is_below (place x.owner) (place c.args.name.now))
    (ap (λ (n : Labels). not (is_below (place n) (place c.args.name.now))) (sym c.owner.ensures) ∙ (sym c.is_outside.ensures ∙ c.if-is_outside.false)) in
    (below_decides (place (get_or records c.loop-size.size d).owner) (place c.args.name.now)).0
    (subst (λ (r : Record). is_below (place r.owner) (place c.args.name.now) ≡ true) there at)
