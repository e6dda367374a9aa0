use Rattle.std.proofs.Common.{◌∙◌, ap}
use Rattle.dsec_group.specs.Keys.{key_of}
use Rattle.dsec_group.specs.Places.{key_hash}
use Rattle.dsec_group.proofs.PlaceLaws.{place_put, places_same, places_stay}
use Rattle.dsec_group.proofs.places.put.Goals as goal

pub returns-in_err-insert-clause-kept : goal.returns-in_err-insert-clause-kept
returns-in_err-insert-clause-kept c = places_same c.args.places.now c.insert.new.self c.in_err-insert.ensures.err c.insert.ensures.hasher

pub returns-clause-kept : goal.returns-clause-kept
returns-clause-kept c =
    places_stay c.args.places.now c.insert.new.self c.hash_of-hash.result c.args.index c.in_ok-insert.ensures.updates.0 c.insert.ensures.hasher

pub returns-clause-put : goal.returns-clause-put
returns-clause-put c =
    place_put c.args.places.now c.insert.new.self c.hash_of-hash.result c.args.index c.in_ok-insert.ensures.updates.0 c.insert.ensures.hasher (key_of c.args.leader.now)
    (c.hash_of-hash.ensures ∙ ap (λ s. key_hash s (key_of c.args.leader.now)) c.hasher.ensures)
