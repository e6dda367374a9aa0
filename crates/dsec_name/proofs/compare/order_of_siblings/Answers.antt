use Rattle.std.proofs.Common.{ℕ, List, ◌∷◌, sym, ap, ◌∙◌}
use Rattle.std.proofs.lemmas.Slice.Eq.{bytes_eq-Decides}
use Rattle.dsec_spec.specs.Names.{Labels, name_cmp}
use Rattle.dsec_name.specs.Keys.{labels_of}
use Rattle.dsec_name.proofs.ChainOrder.{siblings}
use Rattle.dsec_name.proofs.compare.order_of_siblings.Goals as goal

pub returns-then-eq : goal.returns-then-eq
returns-then-eq c =
    let label = c.in_ok-label.label.now in
    let other_label = c.in_ok-other_label.other_label.now in
    let after = labels_of c.in_ok-label.rest.now in
    let same = (bytes_eq-Decides c.in_ok-label.rest.now c.in_ok-other_label.other_rest.now).0 (sym c.eq.ensures ∙ c.if-eq.true) in
    c.compare_labels.ensures
    ∙ (sym (siblings label other_label after)
    ∙ (ap (λ (n : Labels). name_cmp n (other_label ∷ after)) (sym c.in_ok-label.ensures.labels)
    ∙ (ap (λ (x : List ℕ). name_cmp (labels_of c.args.one.now) (other_label ∷ labels_of x)) same
    ∙ ap (name_cmp (labels_of c.args.one.now)) (sym c.in_ok-other_label.ensures.labels))))
