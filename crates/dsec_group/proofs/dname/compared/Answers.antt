use Rattle.std.proofs.Common.{sym, ◌∙◌, ap, true≢false}
use Rattle.dsec_name.specs.NameRefs.{name_view}
use Rattle.dsec_spec.specs.Names.{Labels}
use Rattle.dsec_spec.specs.Redirection.{map_dname, mapping_to}
use Rattle.dsec_group.proofs.RedirectLaws.{agrees_by, silent_by, too_long_at}
use Rattle.dsec_group.proofs.dname.compared.Goals as goal

pub returns-then-is : goal.returns-then-is
returns-then-is c =
    let alias = name_view c.args.target.now in
    let by = λ (to : Labels). mapping_to (map_dname c.args.owner.now to c.args.name.now) alias in
    sym (ap by (sym c.in_ok-to.ensures) ∙ agrees_by (map_dname c.args.owner.now c.in_ok-to.to c.args.name.now) alias c.in-Ok.mapped c.in-Ok.ensures (c.is.ensures.0 c.if-is.true))

pub returns-in-Ok : goal.returns-in-Ok
returns-in-Ok c =
    let alias = name_view c.args.target.now in
    let by = λ (to : Labels). mapping_to (map_dname c.args.owner.now to c.args.name.now) alias in
    sym (ap by (sym c.in_ok-to.ensures) ∙ silent_by (map_dname c.args.owner.now c.in_ok-to.to c.args.name.now) alias c.in-Ok.mapped c.in-Ok.ensures (λ same. true≢false (sym (c.is.ensures.1 same) ∙ c.if-is.false)))

pub returns-in-Err-PushNameError : goal.returns-in-Err-PushNameError
returns-in-Err-PushNameError c =
    let alias = name_view c.args.target.now in
    let by = λ (to : Labels). mapping_to (map_dname c.args.owner.now to c.args.name.now) alias in
    sym (ap by (sym c.in_ok-to.ensures) ∙ too_long_at (map_dname c.args.owner.now c.in_ok-to.to c.args.name.now) alias c.in-Err-PushNameError.field-0 c.in-Err-PushNameError.ensures c.in-Err-PushNameError.field-0-is)
