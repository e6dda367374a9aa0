use Rattle.dsec_nodes.specs.Signing.{keys_of}
use Rattle.dsec_denial.proofs.CallerLemmas.{index_below}
use Rattle.dsec_denial.proofs.SearchSteps.{by_good}
use Rattle.dsec_denial.proofs.pair.good_pair.Goals as goal

pub returns-in-None-Some-Some-clause-tried : goal.returns-in-None-Some-Some-clause-tried
returns-in-None-Some-Some-clause-tried g c =
    by_good c.args.group.now (keys_of c.args.keys.now) c.in_ok-check.check c.in-None-Some-Some.signature c.in-None-Some-Some.key _ c.in_ok-check.ensures.checked c.in-None-Some-Some.is-1 c.in-None-Some-Some.is-2

pub returns-in-None-Some-Some-clause-inside : goal.returns-in-None-Some-Some-clause-inside
returns-in-None-Some-Some-clause-inside g c =
    let signature = c.in-None-Some-Some.signature in
    let pair = by_good c.args.group.now (keys_of c.args.keys.now) c.in_ok-check.check signature c.in-None-Some-Some.key _ c.in_ok-check.ensures.checked c.in-None-Some-Some.is-1 c.in-None-Some-Some.is-2 in
    index_below c.args.group.now.signatures signature pair.0.0 pair.2
