use Rattle.dsec_spec.specs.Names.{place}
use Rattle.dsec_sorted.proofs.OwnerRuns.{from_there, together_after}
use Rattle.dsec_sorted.proofs.records_iter.RecordsIter.skip_before.Goals as goal

pub invariant_of-self : goal.invariant_of-self
invariant_of-self c = record { together = rw (c.split_at.ensures.back) (together_after c.args.self.now.rest.now c.length_before.result c.args.self.now.together) }

pub returns : goal.returns
returns c =
    rw (c.split_at.ensures.back)
    (from_there (place c.args.name.now) c.args.self.now.rest.now c.length_before.result c.length_before.ensures.fits c.length_before.ensures.none (λ lt d. c.length_before.ensures.found d lt))
