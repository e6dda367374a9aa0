use Rattle.std.proofs.Common.{sym, ap, ◌∙◌}
use Rattle.dsec_spec.specs.Names.{place}
use Rattle.dsec_nsec3.specs.Counting.{HashedSighting}
use Rattle.dsec_nsec3_calls.specs.Sightings.{sighting_view}
use Rattle.dsec_nsec3_calls.specs.Tellings.{told_of, type_at}
use Rattle.dsec_nsec3_calls.specs.Views.{nsec3_at}
use Rattle.dsec_nsec3_calls.proofs.LookLaws.{type_here, type_past}
use Rattle.dsec_nsec3_calls.proofs.types.type_by_group.Goals as goal

pub returns-in-Ignored : goal.returns-in-Ignored
returns-in-Ignored g c = λ later e.
    ap (λ (s : HashedSighting). told_of (type_at (place c.args.target.now) c.args.rtype c.args.index s later)) (sym (ap (sighting_view (place c.args.source.now.signer.now)) c.in-Ignored.is) ∙ c.sighted.ensures)

pub returns-in-Stops : goal.returns-in-Stops
returns-in-Stops g c = λ later e.
    c.told_by_end.ensures
    ∙ ap (λ (s : HashedSighting). told_of (type_at (place c.args.target.now) c.args.rtype c.args.index s later)) (sym (ap (sighting_view (place c.args.source.now.signer.now)) c.in-Stops.is) ∙ c.sighted.ensures)

pub returns-then-matches : goal.returns-then-matches
returns-then-matches g c = λ later e.
    let zone = place c.args.source.now.signer.now in
    let n = place c.args.target.now in
    let r = nsec3_at zone c.in-Hashed.owner c.in-Hashed.nsec3 in
    c.own_shows.ensures zone c.in-Hashed.owner
    ∙ (ap told_of (type_here n c.args.rtype c.args.index r later (sym (c.matches.ensures zone n e) ∙ c.if-matches.true))
    ∙ ap (λ (s : HashedSighting). told_of (type_at n c.args.rtype c.args.index s later)) (sym (ap (sighting_view zone) c.in-Hashed.is) ∙ c.sighted.ensures))

pub returns-else-matches : goal.returns-else-matches
returns-else-matches g c = λ later e.
    let zone = place c.args.source.now.signer.now in
    let n = place c.args.target.now in
    let r = nsec3_at zone c.in-Hashed.owner c.in-Hashed.nsec3 in
    ap told_of (type_past n c.args.rtype c.args.index r later (sym (c.matches.ensures zone n e) ∙ c.if-matches.false))
    ∙ ap (λ (s : HashedSighting). told_of (type_at n c.args.rtype c.args.index s later)) (sym (ap (sighting_view zone) c.in-Hashed.is) ∙ c.sighted.ensures)
