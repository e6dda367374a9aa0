use Rattle.std.proofs.Common.{ap, ◌∙◌, subst}
use Rattle.dsec_spec.specs.Names.{Place, place}
use Rattle.dsec_spec.specs.Numbers.{DNSKEY}
use Rattle.dsec_nodes.specs.Admission.{anchor_search, cause_among, tried_by}
use Rattle.dsec_nodes.specs.Causes.{BadSignature}
use Rattle.dsec_nodes.specs.Walk.{anchored_by}
use Rattle.dsec_nodes.proofs.Lasting.{set_at}
use Rattle.dsec_node.specs.Views.{bounds_of, world_of}
use Rattle.dsec_node.proofs.KeyData.{if_ok}
use Rattle.dsec_child.specs.Admissions.{IsAdmission}
use Rattle.dsec_child.proofs.AnchoredSteps.{from_err}
use Rattle.dsec_child.proofs.island.by_key_set.Goals as goal

pub returns-in-Ok-clause-node : goal.returns-in-Ok-clause-node
returns-in-Ok-clause-node g c =
    let group = c.args.group.now in
    let w = world_of g.V.Verifier.accepts c.args.anchors.now (bounds_of c.args.config.now) c.args.now in
    let search = anchor_search c.args.config.now.max_dnskeys_per_ds group in
    let at = set_at (place c.args.top.now) DNSKEY group c.requires in
    if_ok c.made.result (λ n h. h ∙ ap (λ (p : Place). anchored_by w p group (tried_by w group search c.args.anchors.now)) at.at) c.made.ensures

pub returns-in-Err-clause-node : goal.returns-in-Err-clause-node
returns-in-Err-clause-node g c =
    let group = c.args.group.now in
    let anchors = c.args.anchors.now in
    let w = world_of g.V.Verifier.accepts anchors (bounds_of c.args.config.now) c.args.now in
    let search = anchor_search c.args.config.now.max_dnskeys_per_ds group in
    let refused = subst (IsAdmission anchors group (cause_among BadSignature group search anchors) (tried_by w group search anchors)) c.in-Err.is c.in_ok-it.ensures.admitted in
    if_ok c.bogus.result (λ n h. h anchors ∙ from_err w group (place c.args.top.now) c.in-Err.cause refused) c.bogus.ensures
