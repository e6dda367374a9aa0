use Rattle.std.proofs.Common.{◌≡◌, ◌∙◌, drop, [], ◌∷◌, sym, ap, subst, List, ℕ, arith}
use Rattle.dsec_wire.proofs.PartLoops.{BitmapBegins, bitmap_ends, bitmap_window_alone, bitmap_empty_block, bitmap_long_block, bitmap_short_block, bitmap_goes_on, empty}
use Rattle.dsec_wire.proofs.part.is_bitmap.Goals as goal
use Rattle.dsec_wire.proofs.part.is_bitmap.Goals.{then-size-eq0-via-then-size-eq0, then-size-eq0-via-else-size-eq0+then-size-gt-MAX_BITS}

pub returns-in_default-split_first : goal.returns-in_default-split_first
returns-in_default-split_first c =
    let window = c.in-Some.field-0-0.now in
    let begins : BitmapBegins c.args.octets.now (window ∷ []) =
    subst (BitmapBegins c.args.octets.now) (c.in-Some.ensures.cases.0 ∙ ap (λ (x : List ℕ). window ∷ x) (empty c.in-Some.after.now c.in_default-split_first.ensures.cases)) c.loop-after.invariant in
    sym (bitmap_window_alone c.args.octets.now window begins)

pub returns-then-size-eq0 : goal.returns-then-size-eq0
returns-then-size-eq0 c =
    let window = c.in-Some.field-0-0.now in
    let n = c.in-Some-split_first.field-0-0.now in
    let after = c.in-Some-split_first.after.now in
    let rest : c.loop-after.rest.now ≡ window ∷ n ∷ after = c.in-Some.ensures.cases.0 ∙ ap (λ (x : List ℕ). window ∷ x) c.in-Some-split_first.ensures.cases.0 in
    let begins : BitmapBegins c.args.octets.now (window ∷ n ∷ after) = subst (BitmapBegins c.args.octets.now) rest c.loop-after.invariant in
    elim c.then-size-eq0.branch [
      | then-size-eq0-via-then-size-eq0 w ↦
          let none : n ≡ 0 = omega arith in
          sym (bitmap_empty_block c.args.octets.now window after (subst (λ (k : ℕ). BitmapBegins c.args.octets.now (window ∷ k ∷ after)) none begins))
      | then-size-eq0-via-else-size-eq0+then-size-gt-MAX_BITS w ↦ sym (bitmap_long_block c.args.octets.now window n after begins (omega arith))
    ]

pub returns-in_default-split_at_checked : goal.returns-in_default-split_at_checked
returns-in_default-split_at_checked c =
    let window = c.in-Some.field-0-0.now in
    let n = c.in-Some-split_first.field-0-0.now in
    let after = c.in-Some-split_first.after.now in
    let rest : c.loop-after.rest.now ≡ window ∷ n ∷ after = c.in-Some.ensures.cases.0 ∙ ap (λ (x : List ℕ). window ∷ x) c.in-Some-split_first.ensures.cases.0 in
    let short = c.in_default-split_at_checked.ensures.cases in
    sym (bitmap_short_block c.args.octets.now window n after (subst (BitmapBegins c.args.octets.now) rest c.loop-after.invariant) (omega arith))

pub loop-after-preserved : goal.loop-after-preserved
loop-after-preserved c =
    let window = c.in-Some.field-0-0.now in
    let n = c.in-Some-split_first.field-0-0.now in
    let after = c.in-Some-split_first.after.now in
    let rest : c.loop-after.rest.now ≡ window ∷ n ∷ after = c.in-Some.ensures.cases.0 ∙ ap (λ (x : List ℕ). window ∷ x) c.in-Some-split_first.ensures.cases.0 in
    let next : c.in-Some-split_at_checked.next.now ≡ drop n after = c.in-Some-split_at_checked.ensures.cases.2 ∙ ap (λ (k : ℕ). drop k after) c.from-size.ensures in
    let fits = c.in-Some-split_at_checked.ensures.cases.0 in
    rw next (bitmap_goes_on c.args.octets.now window n after (subst (BitmapBegins c.args.octets.now) rest c.loop-after.invariant) (omega arith) (omega arith) (omega arith))

pub returns : goal.returns
returns c = sym (bitmap_ends c.args.octets.now (subst (BitmapBegins c.args.octets.now) (empty c.loop-after.rest.now c.in_default.ensures.cases) c.loop-after.invariant))
