use Rattle.std.proofs.Common.{◌≡◌, ℕ, ◌<◌, ◌≤◌, length, subst, sym, ◌∙◌, arith}
use Rattle.dsec_spec.specs.Names.{place}
use Rattle.dsec_negative.proofs.EncloserSteps.{IsSeen, seen_first, seen_second, none_from, longest_is, root_seen}
use Rattle.dsec_negative.proofs.encloser.encloser_labels.Goals as goal
use Rattle.dsec_negative.proofs.encloser.encloser_labels.Goals.{then-is_below-via-then-is_below, then-is_below-via-else-is_below+then-is_below-2}

pub returns-then-is_below : goal.returns-then-is_below
returns-then-is_below c =
    let target = c.args.target.now in
    let owner = c.args.owner.now in
    let next = c.args.next.now in
    let k = c.loop-labels.labels in
    let name = c.in_ok-name.name in
    elim c.then-is_below.branch [
      | then-is_below-via-then-is_below w ↦ longest_is target owner next k c.loop-labels.invariant.0 (seen_first target owner next k name c.in_ok-name.ensures (sym c.is_below.ensures ∙ w.if-is_below.true)) c.loop-labels.invariant.1
      | then-is_below-via-else-is_below+then-is_below-2 w ↦
          longest_is target owner next k c.loop-labels.invariant.0 (seen_second target owner next k name c.in_ok-name.ensures (sym w.is_below-else-is_below.ensures ∙ w.if-is_below-2.true)) c.loop-labels.invariant.1
    ]

pub loop-labels-preserved : goal.loop-labels-preserved
loop-labels-preserved c = (
  omega (arith, c.loop-labels.invariant.0),
  none_from c.args.target.now c.args.owner.now c.args.next.now c.loop-labels.labels c.in_ok-name.name c.in_ok-name.ensures (sym c.is_below.ensures ∙ c.if-is_below.false) (sym c.is_below-else-is_below.ensures ∙ c.if-is_below-2.false)
      c.loop-labels.invariant.1,
)

pub returns : goal.returns
returns c =
    let target = c.args.target.now in
    let n = place target in
    let o = place c.args.owner.now in
    let x = place c.args.next.now in
    let at_root : c.loop-labels.labels ≡ 0 = omega (arith, c.loop-labels-test.false) in
    longest_is target c.args.owner.now c.args.next.now 0 (omega arith) (root_seen n o x) (subst (λ (k : ℕ). (j : ℕ) → k < j → j ≤ length n → IsSeen n o x j → ⊥) at_root c.loop-labels.invariant.1)
