use Rattle.std.proofs.Common.{ℕ, List, [], ◌+◌, map, ap, ◌∙◌, subst, arith}
use Rattle.dsec_spec.specs.Chain.{Link}
use Rattle.dsec_spec.specs.Records.{Ds, RecordSet}
use Rattle.dsec_wire.specs.DataViews.{ds_view}
use Rattle.dsec_node.specs.Views.{bounds_of, world_of}
use Rattle.dsec_node.proofs.KeyData.{if_ok}
use Rattle.dsec_child.specs.Admissions.{IsAdmission, ds_cause, tried_ds}
use Rattle.dsec_child.specs.ChildKeys.{AreDs}
use Rattle.dsec_child.proofs.ChildKeysSteps.{by_data}
use Rattle.dsec_child.proofs.child_keys.admitted.Goals as goal

pub returns-clause-admitted : goal.returns-clause-admitted
returns-clause-admitted g c =
    let accepts = g.V.Verifier.accepts in
    let config = c.args.config.now in
    let w = world_of accepts [] (bounds_of config) c.args.now in
    let group = c.args.group.now in
    let pending = c.args.pending.now in
    let most = config.max_dnskeys_per_ds in
    let max = config.max_ds_records in
    let room = config.max_bad_signatures + 1 in
    let all = map ds_view c.in_ok-all.all.items in
    let datas_are = c.datas.ensures.values ∙ ap (λ (r : RecordSet). r.datas) (c.records.ensures ∙ ap (λ (l : Link). l.records) c.link.ensures) in
    let read = subst (λ (xs : List (List ℕ)). AreDs xs all) datas_are c.in_ok-all.ensures in
    if_ok c.admitted_by_ds.result
    (λ r h. by_data w group pending all read (omega arith) r
    (subst (λ (t : ℕ). IsAdmission all group (ds_cause most max group all) (tried_ds accepts group t room most max all) r) c.from_seconds-t.ensures
    (subst (λ (xs : List Ds). IsAdmission xs group (ds_cause most max group xs) (tried_ds accepts group c.from_seconds-t.result room most max xs) r) (ap (map ds_view) c.deref.ensures.value) h)))
    c.admitted_by_ds.ensures.admitted
