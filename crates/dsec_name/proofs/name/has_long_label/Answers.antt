use Rattle.std.proofs.Common.{◌≡◌, ◌∙◌, ◌<◌, ◌≤◌, length, drop, ◌∷◌, sym, ap, List, ℕ, arith}
use Rattle.std.specs.Prelude.{◌||◌}
use Rattle.std.specs.Option.{option_map}
use Rattle.std.specs.List.{list_any}
use Rattle.dsec_name.specs.Errors.{is_long}
use Rattle.dsec_name.specs.Wire.{wire_labels}
use Rattle.dsec_name.proofs.WireReading.{long_step}
use Rattle.dsec_name.proofs.name.has_long_label.Goals as goal

pub loop-length-preserved : goal.loop-length-preserved
loop-length-preserved c =
    let n = c.in-Some.field-0-0.now in
    let after = c.in-Some.after.now in
    let rest : c.loop-length.rest.now ≡ n ∷ after = c.in-Some.ensures.cases.0 in
    let next : c.in_ok-next.next.now ≡ drop n after = c.in_ok-next.ensures.cases.2 ∙ ap (λ (k : ℕ). drop k after) c.from.ensures in
    let fits : n ≤ length after = (let same = c.from.ensures in let h = c.in_ok-next.ensures.cases.0 in omega arith) in
    let some : 0 < n = omega arith in
    rw next (long_step c.loop-length.long n after some fits ∙ (ap (λ (x : List ℕ). option_map (λ labels. c.loop-length.long || list_any is_long labels) (wire_labels x)) (sym rest) ∙ c.loop-length.invariant))
