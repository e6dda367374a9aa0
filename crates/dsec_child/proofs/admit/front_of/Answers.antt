use Rattle.std.proofs.Common.{◌+◌, sym, ◌∙◌, arith}
use Rattle.dsec_wire.specs.DataViews.{ds_view}
use Rattle.dsec_child.specs.Admissions.{usable_ds}
use Rattle.dsec_child.proofs.FrontSteps.{passes, fails, at_least, front_is}
use Rattle.dsec_child.proofs.admit.front_of.Goals as goal
use Rattle.dsec_child.proofs.admit.front_of.Goals.{then-is_supported+else-left-eq0, else-is_supported}

pub returns-then-left-eq0-clause-front : goal.returns-then-left-eq0-clause-front
returns-then-left-eq0-clause-front c =
    front_is usable_ds ds_view c.args.ds.now c.loop-index.index c.args.most (omega (arith, c.loop-index.invariant, c.if-left-eq0.true))

pub returns-then-left-eq0-clause-more : goal.returns-then-left-eq0-clause-more
returns-then-left-eq0-clause-more c =
    let ds = c.args.ds.now in
    let i = c.loop-index.index in
    let one = passes usable_ds ds_view ds i c.index-ds-index.result c.loop-index-test.true c.index-ds-index.is (sym c.is_supported.ensures ∙ c.if-is_supported.true) in
    let all = at_least usable_ds ds_view ds (i + 1) in
    (λ below. omega (arith, c.loop-index.invariant, c.if-left-eq0.true, one, all), λ more. c.loop-index-test.true)

pub loop-index-preserved : goal.loop-index-preserved
loop-index-preserved c =
    let ds = c.args.ds.now in
    let i = c.loop-index.index in
    let x = c.index-ds-index.result in
    elim c.if-is_supported.branch [
      | then-is_supported+else-left-eq0 w ↦
          let one = passes usable_ds ds_view ds i x c.loop-index-test.true c.index-ds-index.is (sym c.is_supported.ensures ∙ w.if-is_supported.true) in
          omega (arith, c.loop-index.invariant, one, w.left-is, w.if-left-eq0.false)
      | else-is_supported w ↦
          let none = fails usable_ds ds_view ds i x c.loop-index-test.true c.index-ds-index.is (sym c.is_supported.ensures ∙ w.if-is_supported.false) in
          omega (arith, c.loop-index.invariant, none, w.left-is)
    ]
