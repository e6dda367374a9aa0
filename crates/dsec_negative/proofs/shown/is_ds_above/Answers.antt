use Rattle.std.proofs.Common.{◌≡◌, ◌==◌, true, sym, ◌∙◌}
use Rattle.std.proofs.lemmas.Bool.{eqb-true}
use Rattle.dsec_spec.specs.Numbers.{DS}
use Rattle.dsec_negative.proofs.ShownLaws.{ds_above_is}
use Rattle.dsec_negative.proofs.shown.is_ds_above.Goals as goal

pub returns-then-eq : goal.returns-then-eq
returns-then-eq c =
    let same : (c.args.rtype == DS) ≡ true = sym c.eq.ensures ∙ c.if-eq.true in
    ds_above_is c.args.target.now c.args.rtype c.is_root.result c.is_root.ensures (eqb-true c.args.rtype DS same)
