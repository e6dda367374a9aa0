use Rattle.std.proofs.Common.{◌≡◌, ◌≤◌, [], List, drop, map, length, ap, subst, arith}
use Rattle.std.proofs.lemmas.List.{drop_all}
use Rattle.dsec_spec.specs.OwnersInside.{Owner}
use Rattle.dsec_chain.specs.Views.{owner_view}
use Rattle.dsec_chain.proofs.Chained.{GoesOn, all_made}
use Rattle.dsec_chain.proofs.nsec.nsec_records.Goals as goal

pub returns : goal.returns
returns c =
    let owners = c.args.owners.now in
    let past : length owners ≤ c.loop-i.i = let low = c.loop-i-test.false in let high = c.loop-i.auto.i-end in omega arith in
    let none : map owner_view (drop c.loop-i.i owners) ≡ [] = ap (map owner_view) (drop_all c.loop-i.i owners past) in
    all_made c.args.apex.now c.args.class c.args.ttl (map owner_view owners) c.loop-i.nsecs.items
    (subst (λ (rest : List Owner). GoesOn c.args.apex.now c.args.class c.args.ttl (map owner_view owners) rest c.loop-i.nsecs.items) none c.loop-i.invariant)
