use Rattle.std.proofs.Common.{◌≡◌, [], ◌∷◌, Some, sym, ap, ◌∙◌, subst}
use Rattle.std.specs.Prelude.{slice_get}
use Rattle.std.proofs.lemmas.Option.{same_Some}
use Rattle.dsec_spec.specs.Groups as grouping
use Rattle.dsec_spec.specs.Names.{place}
use Rattle.dsec_spec.specs.Numbers.{NSEC3}
use Rattle.dsec_group.proofs.IndexLaws.{there_is}
use Rattle.dsec_wire.specs.DataViews.{nsec3_view}
use Rattle.dsec_nodes.specs.MissingByHash.{by_hashed_group, by_nsec3}
use Rattle.dsec_nodes.specs.Signing.{keys_of, under_keys}
use Rattle.dsec_denial.specs.Bearings.{by_bearing}
use Rattle.dsec_denial.specs.Findings.{Finds, IsTried, how_many}
use Rattle.dsec_denial.specs.declared.finding.DsFinding.{DsFinding}
use Rattle.dsec_denial.specs.declared.finding.SignedAt.{SignedAt}
use Rattle.dsec_denial.proofs.BearingSteps.{hashed_typed, within_one}
use Rattle.dsec_denial.proofs.SearchSteps.{one_of, pair_stands, placed_finds, read_there, refused_is, signed_is, tried_is}
use Rattle.dsec_denial.proofs.hashed_search.by_hashed_group.Goals as goal

pub returns-in-Ok-2-clause-found : goal.returns-in-Ok-2-clause-found
returns-in-Ok-2-clause-found g c = λ w zone datas other goes follows there.
    let groups = c.args.groups.now in
    let keys = keys_of c.args.keys.now in
    let name = place c.args.name.now in
    let group = c.index-groups-index.result in
    let here = there_is groups c.args.index group group c.requires c.index-groups-index.is in
    let same = same_Some group other (sym here ∙ there) in
    let under = tried_is _ _ keys _ _ w zone datas group goes in
    let pair = c.in-Ok-2.pair in
    let t = subst (IsTried group keys _) c.in-Ok-2.is c.in_ok-pair.ensures.tried in
    let own = ap (λ xs. slice_get xs pair.signature) c.sig_set.ensures.signatures ∙ t.2 in
    let first = read_there c.sig_set.result.now pair.signature c.index-sig_set-pair.result t.0.0 own c.index-sig_set-pair.is in
    let at : SignedAt = record { group = c.args.index; signature = pair.signature; key = pair.key } in
    let stands = pair_stands groups keys c.args.index group pair _ here t in
    let shows = signed_is w zone datas name group c.index-sig_set-pair.result t.0 _ _ c.decide-decision.result _ _ t.1 (sym first) under
    (subst (λ r. by_bearing w zone datas name group (nsec3_view c.in-Some.nsec3) (under_keys w zone.signer datas group) r ≡ by_nsec3 w zone datas name group (Some (nsec3_view c.in-Some.nsec3))) c.in-Ok.is
    (c.in_ok-bearing.ensures w zone datas goes.signer follows) ∙ ap (by_nsec3 w zone datas name group) c.in-Some.ensures)
    (c.decide-decision.ensures w zone datas name) in
    subst (λ (found : DsFinding). Finds w zone datas name groups keys found (by_hashed_group w zone datas name other)) (sym c.at.ensures)
    (placed_finds w zone datas name groups keys at group t.0 stands c.decide-decision.result (by_hashed_group w zone datas name other) (ap (by_hashed_group w zone datas name) (sym same) ∙ shows))

pub returns-in-Ok-2-clause-bound : goal.returns-in-Ok-2-clause-bound
returns-in-Ok-2-clause-bound g c = λ other there.
    let group = c.index-groups-index.result in
    let here = there_is c.args.groups.now c.args.index group group c.requires c.index-groups-index.is in
    let same = same_Some group other (sym here ∙ there) in
    within_one (how_many NSEC3 (other ∷ [])) _ _ _ (one_of NSEC3 other (subst (λ (x : grouping.Group). x.rtype ≡ NSEC3) same (hashed_typed group _ (sym c.in-Some.ensures)))) c.in_ok-pair.ensures.bound

pub returns-in-Err-2-clause-found : goal.returns-in-Err-2-clause-found
returns-in-Err-2-clause-found g c = λ w zone datas other goes follows there.
    let groups = c.args.groups.now in
    let keys = keys_of c.args.keys.now in
    let name = place c.args.name.now in
    let group = c.index-groups-index.result in
    let here = there_is groups c.args.index group group c.requires c.index-groups-index.is in
    let same = same_Some group other (sym here ∙ there) in
    let under = tried_is _ _ keys _ _ w zone datas group goes in
    let refused = subst (IsTried group keys _) c.in-Err-2.is c.in_ok-pair.ensures.tried in
    ap (by_hashed_group w zone datas name) (sym same)
    ∙ refused_is w name c.in-Err-2.cause _ _ _ _ refused under
    (subst (λ r. by_bearing w zone datas name group (nsec3_view c.in-Some.nsec3) (under_keys w zone.signer datas group) r ≡ by_nsec3 w zone datas name group (Some (nsec3_view c.in-Some.nsec3))) c.in-Ok.is
    (c.in_ok-bearing.ensures w zone datas goes.signer follows) ∙ ap (by_nsec3 w zone datas name group) c.in-Some.ensures)

pub returns-in-Err-2-clause-bound : goal.returns-in-Err-2-clause-bound
returns-in-Err-2-clause-bound g c = λ other there.
    let group = c.index-groups-index.result in
    let here = there_is c.args.groups.now c.args.index group group c.requires c.index-groups-index.is in
    let same = same_Some group other (sym here ∙ there) in
    within_one (how_many NSEC3 (other ∷ [])) _ _ _ (one_of NSEC3 other (subst (λ (x : grouping.Group). x.rtype ≡ NSEC3) same (hashed_typed group _ (sym c.in-Some.ensures)))) c.in_ok-pair.ensures.bound
