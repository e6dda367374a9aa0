use Rattle.dsec_sorted.proofs.OwnerRuns.{first_owner, together_after}
use Rattle.dsec_sorted.proofs.records_iter.RecordsIter.next.Goals as goal

pub invariant_of-self : goal.invariant_of-self
invariant_of-self c = record { together = rw (c.split_at.ensures.back) (together_after c.args.self.now.rest.now c.run_length.result c.args.self.now.together) }

pub returns-clause-owner : goal.returns-clause-owner
returns-clause-owner c =
    rw (c.split_at.ensures.front, c.split_at.ensures.back)
    (first_owner c.args.self.now.rest.now c.in-Some.first.now c.in-Some.field-0-1.now c.owner-name.result.now c.run_length.result c.args.self.now.together
    c.in-Some.ensures.cases.0 c.owner-name.ensures c.run_length.ensures.fits c.run_length.ensures.run c.run_length.ensures.next)
