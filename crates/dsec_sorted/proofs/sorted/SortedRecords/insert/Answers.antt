use Rattle.dsec_sorted.specs.Inserting.{IsPlace}
use Rattle.dsec_sorted.proofs.Inserted.{answered, one_more, stays_canonical}
use Rattle.dsec_sorted.proofs.sorted.SortedRecords.insert.Goals as goal

pub invariant_of-self : goal.invariant_of-self
invariant_of-self c =
    let place : IsPlace c.args.item c.self.inside.records.items c.in-Err.at = rw (← c.deref.ensures.value) c.in-Err.ensures.place in
    stays_canonical c.insert_at.result c.self.inside.records.items c.insert_at.new.records.items c.args.item c.in-Err.at c.self.invariant place c.insert_at.ensures.ok c.insert_at.ensures.err

pub returns-in-Err-clause-ok : goal.returns-in-Err-clause-ok
returns-in-Err-clause-ok c = rw (← c.self.view_is) (one_more c.insert_at.result c.self.inside.records.items c.insert_at.new.records.items c.args.item c.in-Err.at c.insert_at.ensures.ok)

pub returns-in-Err-clause-canonical : goal.returns-in-Err-clause-canonical
returns-in-Err-clause-canonical c = invariant_of-self c

pub returns-in-Err-clause-why : goal.returns-in-Err-clause-why
returns-in-Err-clause-why c =
    let place : IsPlace c.args.item c.self.inside.records.items c.in-Err.at = rw (← c.deref.ensures.value) c.in-Err.ensures.place in
    rw (← c.self.view_is) (answered c.insert_at.result c.self.inside.records.items c.args.item c.in-Err.at place c.insert_at.ensures.given)
