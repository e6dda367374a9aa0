use Rattle.std.proofs.Common.{refl}
use Rattle.dsec_group.specs.Keys.{key_of}
use Rattle.dsec_group.proofs.IndexLaws.{some_placed, some_belongs, some_stays, some_within, none_placed, none_there}
use Rattle.dsec_group.proofs.set.index_of.Goals as goal

pub returns-clause-found : goal.returns-clause-found
returns-clause-found c = some_placed c.args.next.now c.args.groups.now (key_of c.args.next.now) refl c.find.result c.find.ensures

pub returns-clause-belongs : goal.returns-clause-belongs
returns-clause-belongs c = some_belongs c.args.next.now c.args.groups.now (key_of c.args.next.now) refl c.find.result c.find.ensures

pub returns-clause-stays : goal.returns-clause-stays
returns-clause-stays c = some_stays c.args.next.now c.args.groups.now (key_of c.args.next.now) refl c.find.result c.find.ensures

pub returns-clause-within : goal.returns-clause-within
returns-clause-within c = some_within c.args.next.now c.args.groups.now (key_of c.args.next.now) refl c.find.result c.find.ensures

pub returns-clause-none : goal.returns-clause-none
returns-clause-none c = none_placed c.args.next.now c.args.groups.now (key_of c.args.next.now) refl c.find.result c.find.ensures

pub returns-clause-absent : goal.returns-clause-absent
returns-clause-absent c = none_there c.args.next.now c.args.groups.now (key_of c.args.next.now) refl c.find.result c.find.ensures
