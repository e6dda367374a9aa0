use Rattle.std.proofs.Common.{arith, ap, ◌∙◌, ◌++◌, ◌≡◌, ◌<◌, ℕ, List}
use Rattle.std.specs.Prelude.{Bool, true, false, ◌==◌}
use Rattle.std.proofs.lemmas.Bool.Decides.{nat_tests}
use Rattle.dsec_name.specs.Keys.{labels_of}
use Rattle.dsec_name.proofs.NameReading.{no_long}
use Rattle.dsec_name.proofs.TextSteps.{read_last, read_ended, front_step}
use Rattle.dsec_name.proofs.text.labels_of_text.Goals as goal

is_zero : (n : ℕ) {b : Bool} → b ≡ true → b ≡ (n == 0) → n ≡ 0
is_zero n e f = grind (arith, nat_tests)

not_zero : (n : ℕ) {b : Bool} → b ≡ false → b ≡ (n == 0) → 0 < n
not_zero n e f = grind (arith, nat_tests)

pub returns-in_default-split_first : goal.returns-in_default-split_first
returns-in_default-split_first c =
    let pushed = rw c.in-Some.is at c.in_ok-after.ensures.label in
    let end = c.in_default-split_first.ensures.cases in
    let fits = no_long (labels_of c.args.origin.now) c.requires.name.labels in
    read_last (labels_of c.args.origin.now) _ _ _ _ _ _ _ _ c.loop-octets.invariant pushed (omega arith) fits
    (c.in_ok-extend_from_slice.ensures.items ∙ ap (λ (x : List ℕ). c.push_label.new.octets.items ++ x) c.requires.whole)

pub returns-then-is_empty : goal.returns-then-is_empty
returns-then-is_empty c =
    let pushed = rw c.in-Some.is at c.in_ok-after.ensures.label in
    let cut = c.in-Some-split_first.ensures.cases.1 in
    let empty = (is_zero _ c.if-is_empty.true c.is_empty.ensures) in
    read_ended (labels_of c.args.origin.now) _ _ _ _ _ _ _ c.loop-octets.invariant pushed (omega arith)

pub loop-octets-preserved : goal.loop-octets-preserved
loop-octets-preserved c =
    let pushed = rw c.in-Some.is at c.in_ok-after.ensures.label in
    front_step (labels_of c.args.origin.now) _ _ _ _ _ _ _ _ _ c.loop-octets.invariant pushed c.in-Some-split_first.ensures.cases.0 (not_zero _ c.if-is_empty.false c.is_empty.ensures)
