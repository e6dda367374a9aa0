-- A place that the test doesn't put above the island isn't above it by the relation either.
use Rattle.std.proofs.Common.{◌≡◌, ℕ, true, false, List, Option, sym, ap, ◌∙◌}
use Rattle.std.proofs.lemmas.Bool.{true≢false}
use Rattle.dsec_spec.specs.Names.{Place, IsStrictlyBelow}
use Rattle.dsec_spec.specs.Records.{Record}
use Rattle.dsec_spec.specs.Islands.{island, is_above}
use Rattle.dsec_spec.specs.AtQuestion.{IsIsland}
use Rattle.dsec_spec.proofs.IslandLemmas.{island_told}
use Rattle.dsec_spec.proofs.SignedTests.{strictly_below_decides}

-- a place that isn't above the island by the test isn't by the relation
pub not_over : (anchors : List Record) (name : Place) (rtype : ℕ) (p : Place) → is_above (island anchors name rtype) p ≡ false
    → (top : Place) → IsIsland anchors name rtype top → IsStrictlyBelow top p → ⊥
not_over anchors name rtype p e top i below =
    let above : is_above (island anchors name rtype) p ≡ true =
    ap (λ (o : Option Place). is_above o p) (island_told anchors name rtype top i) ∙ (strictly_below_decides top p).1 below in
    true≢false (sym above ∙ e)
