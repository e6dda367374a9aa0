use Rattle.std.proofs.Common.{arith, ◌≡◌, ◌∙◌, sym, ap, List, ℕ, take, ◌∷◌, []}
use Rattle.std.specs.Prelude.{nat_eq, true}
use Rattle.std.specs.Cmp.Lexicographic.{pointwise}
use Rattle.dsec_name.specs.Keys.{labels_octets}
use Rattle.dsec_name.proofs.NameParts.{few_labels, rrsig_star}
use Rattle.dsec_name.proofs.name.Name.rrsig_label_count.Goals as goal

pub overflow_cast-result : goal.overflow_cast-result
overflow_cast-result c =
    let few = few_labels c.args.self.now c.octets.ensures.name.labels in
    let short = c.octets.ensures.name.at_most in
    omega arith

pub overflow_cast-result-else-starts_with : goal.overflow_cast-result-else-starts_with
overflow_cast-result-else-starts_with c =
    let few = few_labels c.args.self.now c.octets.ensures.name.labels in
    let short = c.octets.ensures.name.at_most in
    omega arith

pub returns-then-starts_with : goal.returns-then-starts_with
returns-then-starts_with c =
    let yes : pointwise nat_eq (1 ∷ 42 ∷ []) (take 2 (labels_octets c.args.self.now)) ≡ true =
    ap (λ (x : List ℕ). pointwise nat_eq (1 ∷ 42 ∷ []) (take 2 x)) (sym c.octets.ensures.octets) ∙ (sym c.starts_with.ensures.value ∙ c.if-starts_with.true) in
    let counted = rrsig_star c.args.self.now yes in
    omega arith
