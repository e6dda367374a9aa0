use Rattle.std.proofs.Common.{Option, sym, ap, ◌∙◌}
use Rattle.std.specs.Prelude.{unwrap_or}
use Rattle.dsec_spec.specs.Names.{Labels}
use Rattle.dsec_found.proofs.IslandSteps.{at_parent}
use Rattle.dsec_found.proofs.island.looked_for.Goals as goal

pub returns-in-Some : goal.returns-in-Some
returns-in-Some c =
    let name = c.args.name.now in
    ap (λ (parent : Option Labels). unwrap_or parent name) (sym c.in-Some.is)
    ∙ at_parent name c.in_ok-parent.field-0 c.args.rtype c.ne.result c.in_ok-parent.ensures c.ne.ensures c.if-ne.false
