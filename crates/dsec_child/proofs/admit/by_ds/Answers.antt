use Rattle.std.proofs.Common.{map, take, sym, subst}
use Rattle.std.specs.Prelude.{Err}
use Rattle.dsec_wire.specs.DataViews.{ds_view}
use Rattle.dsec_nodes.specs.Causes.{BadSignatureForDnskey}
use Rattle.dsec_child.specs.Admissions.{IsAdmission, ds_cause, tried_ds}
use Rattle.dsec_child.specs.Tries.{AreWayTries}
use Rattle.dsec_child.specs.Ways.{ways_trial, supported_search}
use Rattle.dsec_child.proofs.AdmitSteps.{ds_good, ds_left}
use Rattle.dsec_child.proofs.admit.by_ds.Goals as goal

pub returns-in-Good-clause-admitted : goal.returns-in-Good-clause-admitted
returns-in-Good-clause-admitted g c =
    let accepts = g.V.Verifier.accepts in
    let group = c.args.group.now in
    let ds = c.args.ds.now in
    let front = c.front_of-front.result in
    let h = subst (AreWayTries BadSignatureForDnskey (λ one. supported_search c.args.most group (ds_view one)) (take front ds) group
    (ways_trial accepts group c.args.t c.args.room (λ one. supported_search c.args.most group (ds_view one)) (take front ds))) c.in-Good.is c.in_ok-signature.ensures.tries in
    ds_good ds_view accepts group c.args.t c.args.room c.args.most c.args.max front ds c.front_of-front.ensures.front c.requires.some c.in-Good.signature c.in-Good.via c.in-Good.key h.0 h.1 h.2

pub returns-in-Left-clause-admitted : goal.returns-in-Left-clause-admitted
returns-in-Left-clause-admitted g c =
    let accepts = g.V.Verifier.accepts in
    let group = c.args.group.now in
    let ds = c.args.ds.now in
    let front = c.front_of-front.result in
    let h = subst (AreWayTries BadSignatureForDnskey (λ one. supported_search c.args.most group (ds_view one)) (take front ds) group
    (ways_trial accepts group c.args.t c.args.room (λ one. supported_search c.args.most group (ds_view one)) (take front ds))) c.in-Left.is c.in_ok-signature.ensures.tries in
    subst (λ cause. IsAdmission (map ds_view ds) group (ds_cause c.args.most c.args.max group (map ds_view ds)) (tried_ds accepts group c.args.t c.args.room c.args.most c.args.max (map ds_view ds)) (Err cause)) (sym c.cause_of_ds.ensures)
    (ds_left ds_view accepts group c.args.t c.args.room c.args.most c.args.max front ds c.front_of-front.ensures.front c.requires.some c.in-Left.left c.in-Left.cause
    c.front_of-front.ensures.more.0 c.front_of-front.ensures.more.1 h.0 h.1)
