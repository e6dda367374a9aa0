use Rattle.std.proofs.Common.{sym, ap, ◌∙◌}
use Rattle.dsec_spec.specs.Names.{place}
use Rattle.dsec_nsec3.specs.Counting.{HashedSighting}
use Rattle.dsec_nsec3_calls.specs.Sightings.{sighting_view}
use Rattle.dsec_nsec3_calls.specs.Tellings.{told_of, cover_at}
use Rattle.dsec_nsec3_calls.specs.Views.{nsec3_at}
use Rattle.dsec_nsec3_calls.proofs.LookLaws.{cover_here, cover_past}
use Rattle.dsec_nsec3_calls.proofs.covering.cover_by_group.Goals as goal

pub returns-in-Ignored : goal.returns-in-Ignored
returns-in-Ignored g c = λ n later e z.
    let zone = place c.args.source.now.signer.now in
    ap (λ (s : HashedSighting). told_of (cover_at zone n c.args.index s later)) (sym (ap (sighting_view zone) c.in-Ignored.is) ∙ c.sighted.ensures)

pub returns-in-Stops : goal.returns-in-Stops
returns-in-Stops g c = λ n later e z.
    let zone = place c.args.source.now.signer.now in
    c.told_by_end.ensures ∙ ap (λ (s : HashedSighting). told_of (cover_at zone n c.args.index s later)) (sym (ap (sighting_view zone) c.in-Stops.is) ∙ c.sighted.ensures)

pub returns-then-covers : goal.returns-then-covers
returns-then-covers g c = λ n later e z.
    let zone = place c.args.source.now.signer.now in
    let r = nsec3_at zone c.in-Hashed.owner c.in-Hashed.nsec3 in
    c.covering.ensures zone n z
    ∙ (ap told_of (cover_here zone n c.args.index r later (sym (c.covers.ensures zone n e) ∙ c.if-covers.true))
    ∙ ap (λ (s : HashedSighting). told_of (cover_at zone n c.args.index s later)) (sym (ap (sighting_view zone) c.in-Hashed.is) ∙ c.sighted.ensures))

pub returns-else-covers : goal.returns-else-covers
returns-else-covers g c = λ n later e z.
    let zone = place c.args.source.now.signer.now in
    let r = nsec3_at zone c.in-Hashed.owner c.in-Hashed.nsec3 in
    ap told_of (cover_past zone n c.args.index r later (sym (c.covers.ensures zone n e) ∙ c.if-covers.false))
    ∙ ap (λ (s : HashedSighting). told_of (cover_at zone n c.args.index s later)) (sym (ap (sighting_view zone) c.in-Hashed.is) ∙ c.sighted.ensures)
