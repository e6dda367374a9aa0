use Rattle.std.proofs.Common.{[], ap, ◌∙◌, subst}
use Rattle.dsec_spec.specs.Names.{Place}
use Rattle.dsec_nodes.specs.Admission.{cause_among, ds_search, tried_by}
use Rattle.dsec_nodes.specs.ByDs.{none_by, ways}
use Rattle.dsec_nodes.specs.Causes.{BadSignatureForDnskey}
use Rattle.dsec_nodes.specs.MissingDs.{bogus_at}
use Rattle.dsec_node.specs.Views.{bounds_of, world_of}
use Rattle.dsec_node.proofs.KeyData.{if_ok}
use Rattle.dsec_child.specs.Admissions.{IsAdmission}
use Rattle.dsec_child.proofs.ChildKeysSteps.{from_err}
use Rattle.dsec_child.proofs.child_keys.by_key_set.Goals as goal

pub returns-in-Err-clause-node : goal.returns-in-Err-clause-node
returns-in-Err-clause-node g c =
    let w = world_of g.V.Verifier.accepts [] (bounds_of c.args.config.now) c.args.now in
    let group = c.args.group.now in
    let pending = c.args.pending.now in
    let search = ds_search c.args.config.now.max_dnskeys_per_ds group in
    let why = none_by w pending (cause_among BadSignatureForDnskey group search (ways w pending)) in
    let refused = subst (IsAdmission pending.link.records.datas group why (tried_by w group search (ways w pending))) c.in-Err.is c.in_ok-it.ensures.admitted in
    if_ok c.bogus.result (λ n h. h [] ∙ (ap (λ (p : Place). bogus_at w p c.in-Err.cause) c.name.ensures ∙ from_err w c.args.zone.now pending group c.in-Err.cause refused)) c.bogus.ensures
