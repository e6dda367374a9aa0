use Rattle.std.proofs.Common.{sym, ap, ◌∙◌, position}
use Rattle.std.specs.Str.{bytes_eq}
use Rattle.dsec_spec.specs.Records.{Record}
use Rattle.dsec_nodes.specs.Admission.{own_key}
use Rattle.dsec_child.proofs.way.with_data.Goals as goal

pub returns-in-Some : goal.returns-in-Some
returns-in-Some c =
    ap own_key (sym c.in-Some.is ∙ (c.position_of.ensures ∙ ap (position (λ (one : Record). bytes_eq one.rdata c.args.anchor.now.rdata)) c.rr_set.ensures.records))

pub returns-in-None : goal.returns-in-None
returns-in-None c =
    ap own_key (sym c.in-None.is ∙ (c.position_of.ensures ∙ ap (position (λ (one : Record). bytes_eq one.rdata c.args.anchor.now.rdata)) c.rr_set.ensures.records))
