use Rattle.std.proofs.Common.{◌∙◌, ◌-◌, sym, refl, arith}
use Rattle.dsec_spec.proofs.CanonicalOrder.{record_cmp_total}
use Rattle.dsec_sorted.proofs.Orderings.{is_less, isnt_less, at_places}
use Rattle.dsec_sorted.proofs.Rising.{rises_more}
use Rattle.dsec_sorted.proofs.order.is_sorted_canonical.Goals as goal

pub returns-then-ne : goal.returns-then-ne
returns-then-ne c = (
  λ h. absurd cc,
  λ all.
      let x = c.index-records-i.result in
      absurd (isnt_less c.canonical_cmp.result c.if-ne.ensures
      (at_places c.args.records.now c.loop-i.i x c.index-records-i-in-loop-i.result x c.canonical_cmp.result c.loop-i.invariant.some c.loop-i-test.true c.index-records-i.is c.index-records-i-in-loop-i.is c.canonical_cmp.ensures
      ∙ all (c.loop-i.i - 1) c.loop-i.i x (let some = c.loop-i.invariant.some in omega arith) c.loop-i-test.true)),
)

pub loop-i-preserved : goal.loop-i-preserved
loop-i-preserved c =
    let i = c.loop-i.i in
    let records = c.args.records.now in
    record {
      some = omega arith;
      risen = λ a b d ab within bi.
          rises_more record_cmp_total records i c.loop-i.invariant.some c.loop-i-test.true
          (λ e. sym (at_places records i c.index-records-i.result c.index-records-i-in-loop-i.result e c.canonical_cmp.result c.loop-i.invariant.some c.loop-i-test.true c.index-records-i.is c.index-records-i-in-loop-i.is c.canonical_cmp.ensures)
          ∙ is_less c.canonical_cmp.result c.if-ne.ensures)
          (λ p q e pq qi. c.loop-i.invariant.risen p q e pq (let lt = c.loop-i-test.true in omega arith) qi) a b d ab bi;
    }

pub returns : goal.returns
returns c = (
  λ h i j d ij within. c.loop-i.invariant.risen i j d ij within (let past = c.loop-i-test.false in omega arith),
  λ all. refl,
)
