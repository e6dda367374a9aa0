use Rattle.dsec_wire.specs.Views.{rrsig_view}
use Rattle.dsec_denial.proofs.ExpansionSteps.{expanded_is}
use Rattle.dsec_found.proofs.judged.why.is_expanded.Goals as goal

pub returns-in-Some : goal.returns-in-Some
returns-in-Some c =
    expanded_is c.args.group.now c.args.signature.now c.rdata.result.now (rrsig_view c.in-Some.rrsig) c.owner.result.now c.rrsig_label_count.result
    c.requires c.rdata.ensures.value c.in-Some.ensures.value c.owner.ensures c.rrsig_label_count.ensures
