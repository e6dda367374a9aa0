use Rattle.std.proofs.Common.{◌≡◌, [], ◌∷◌, sym, ap, ◌∙◌, subst}
use Rattle.std.specs.Prelude.{slice_get}
use Rattle.std.proofs.lemmas.Option.{same_Some}
use Rattle.dsec_nodes.specs.Signing.{keys_of}
use Rattle.dsec_spec.specs.Groups as grouping
use Rattle.dsec_spec.specs.Names.{place}
use Rattle.dsec_spec.specs.Numbers.{NSEC}
use Rattle.dsec_group.proofs.IndexLaws.{there_is}
use Rattle.dsec_nodes.specs.MissingDs.{by_group}
use Rattle.dsec_denial.specs.Findings.{Finds, IsTried, how_many}
use Rattle.dsec_denial.specs.declared.finding.DsFinding.{DsFinding}
use Rattle.dsec_denial.specs.declared.finding.SignedAt.{SignedAt}
use Rattle.dsec_denial.proofs.BearingSteps.{within_one}
use Rattle.dsec_denial.proofs.SearchSteps.{one_of, pair_stands, placed_finds, read_there, reading_asks, reading_bears, refused_is, signed_is, tried_is}
use Rattle.dsec_denial.proofs.search.by_group.Goals as goal

pub returns-in-Ok-clause-found : goal.returns-in-Ok-clause-found
returns-in-Ok-clause-found g c = λ w zone datas other goes there.
    let groups = c.args.groups.now in
    let keys = keys_of c.args.keys.now in
    let name = place c.args.name.now in
    let group = c.index-groups-index.result in
    let here = there_is groups c.args.index group group c.requires c.index-groups-index.is in
    let same = same_Some group other (sym here ∙ there) in
    let under = tried_is _ _ keys _ _ w zone datas group goes in
    let pair = c.in-Ok.pair in
    let t = subst (IsTried group keys _) c.in-Ok.is c.in_ok-pair.ensures.tried in
    let own = ap (λ xs. slice_get xs pair.signature) c.sig_set.ensures.signatures ∙ t.2 in
    let first = read_there c.sig_set.result.now pair.signature c.index-sig_set-pair.result t.0.0 own c.index-sig_set-pair.is in
    let at : SignedAt = record { group = c.args.index; signature = pair.signature; key = pair.key } in
    let stands = pair_stands groups keys c.args.index group pair _ here t in
    let shows = signed_is w zone datas name group c.index-sig_set-pair.result t.0 _ _ c.decide-decision.result _ _ t.1 (sym first) under
    (sym (reading_asks w zone datas name group _ c.in_ok-reading.reading c.in_default.not-Nothing) ∙ c.in_ok-reading.ensures.reading w zone datas)
    (c.decide-decision.ensures w zone datas name) in
    subst (λ (found : DsFinding). Finds w zone datas name groups keys found (by_group w zone datas name other)) (sym c.at.ensures)
    (placed_finds w zone datas name groups keys at group t.0 stands c.decide-decision.result (by_group w zone datas name other) (ap (by_group w zone datas name) (sym same) ∙ shows))

pub returns-in-Ok-clause-bound : goal.returns-in-Ok-clause-bound
returns-in-Ok-clause-bound g c = λ other there.
    let group = c.index-groups-index.result in
    let here = there_is c.args.groups.now c.args.index group group c.requires c.index-groups-index.is in
    let same = same_Some group other (sym here ∙ there) in
    within_one (how_many NSEC (other ∷ [])) _ _ _ (one_of NSEC other (subst (λ (x : grouping.Group). x.rtype ≡ NSEC) same (c.in_ok-reading.ensures.typed (reading_bears c.in_ok-reading.reading c.in_default.not-Nothing)))) c.in_ok-pair.ensures.bound

pub returns-in-Err-clause-found : goal.returns-in-Err-clause-found
returns-in-Err-clause-found g c = λ w zone datas other goes there.
    let groups = c.args.groups.now in
    let keys = keys_of c.args.keys.now in
    let name = place c.args.name.now in
    let group = c.index-groups-index.result in
    let here = there_is groups c.args.index group group c.requires c.index-groups-index.is in
    let same = same_Some group other (sym here ∙ there) in
    let under = tried_is _ _ keys _ _ w zone datas group goes in
    let refused = subst (IsTried group keys _) c.in-Err.is c.in_ok-pair.ensures.tried in
    ap (by_group w zone datas name) (sym same)
    ∙ refused_is w name c.in-Err.cause _ _ _ _ refused under
    (sym (reading_asks w zone datas name group _ c.in_ok-reading.reading c.in_default.not-Nothing) ∙ c.in_ok-reading.ensures.reading w zone datas)

pub returns-in-Err-clause-bound : goal.returns-in-Err-clause-bound
returns-in-Err-clause-bound g c = λ other there.
    let group = c.index-groups-index.result in
    let here = there_is c.args.groups.now c.args.index group group c.requires c.index-groups-index.is in
    let same = same_Some group other (sym here ∙ there) in
    within_one (how_many NSEC (other ∷ [])) _ _ _ (one_of NSEC other (subst (λ (x : grouping.Group). x.rtype ≡ NSEC) same (c.in_ok-reading.ensures.typed (reading_bears c.in_ok-reading.reading c.in_default.not-Nothing)))) c.in_ok-pair.ensures.bound
