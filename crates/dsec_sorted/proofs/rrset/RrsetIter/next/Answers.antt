use Rattle.std.proofs.Common.{◌∙◌, ap}
use Rattle.dsec_sorted.specs.Sets.{chosen}
use Rattle.dsec_sorted.proofs.SetLaws.{first_at, within_here, within_first, within_rest}
use Rattle.dsec_sorted.proofs.rrset.RrsetIter.next.Goals as goal

pub invariant_of-self-in-Some : goal.invariant_of-self-in-Some
invariant_of-self-in-Some c =
    let it = c.args.self.now in
    let all = within_here it.records.now it.places c.in-Some.places c.in-Some.is it.within in
    record { within = within_rest it.records.now c.in-Some-split_first-2.at.now c.in-Some-split_first-2.rest.now c.in-Some.places.now c.in-Some-split_first-2.ensures.cases.0 all }

pub returns-in-Some-split_first-2-clause-first : goal.returns-in-Some-split_first-2-clause-first
returns-in-Some-split_first-2-clause-first c =
    let it = c.args.self.now in
    let all = within_here it.records.now it.places c.in-Some.places c.in-Some.is it.within in
    ap (chosen it.records.now) c.in-Some.is
    ∙ first_at it.records.now c.in-Some-split_first-2.at.now c.in-Some-split_first-2.rest.now c.in-Some.places.now c.index-self-at.result c.in-Some-split_first-2.ensures.cases.0
    (within_first it.records.now c.in-Some-split_first-2.at.now c.in-Some-split_first-2.rest.now c.in-Some.places.now c.in-Some-split_first-2.ensures.cases.0 all)
