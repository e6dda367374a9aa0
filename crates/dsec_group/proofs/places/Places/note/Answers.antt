use Rattle.std.proofs.Common.{Some, map}
use Rattle.dsec_group.specs.Keys.{group_key, key_of}
use Rattle.dsec_group.proofs.PlaceLaws.{knows_more, once_kept, once_noted}
use Rattle.dsec_group.proofs.places.Places.note.Goals as goal

pub returns-then-self-clause-kept : goal.returns-then-self-clause-kept
returns-then-self-clause-kept c =
    let keys = map group_key c.args.groups.now in once_kept c.args.self.now.is_made c.args.self.now.places c.put.new.places keys keys c.if-self.true (c.put.ensures.kept keys)

pub returns-then-self-clause-noted : goal.returns-then-self-clause-noted
returns-then-self-clause-noted c =
    let keys = map group_key c.args.groups.now in
    once_noted c.put.result c.args.self.now.is_made c.args.self.now.places c.put.new.places keys (Some (key_of c.args.leader.now)) c.if-self.true (c.put.ensures.kept keys) c.put.ensures.put

pub returns-clause-kept : goal.returns-clause-kept
returns-clause-kept c = λ _. c.put-2.ensures.kept (map group_key c.args.groups.now) c.in_ok-places.ensures.knows

pub returns-clause-noted : goal.returns-clause-noted
returns-clause-noted c = λ _.
    let keys = map group_key c.args.groups.now in
    knows_more c.put-2.new.places keys (Some (key_of c.args.leader.now)) (c.put-2.ensures.kept keys c.in_ok-places.ensures.knows) c.in_ok-put.ensures.put
