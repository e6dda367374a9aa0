use Rattle.std.proofs.Common.{sym, ap, ◌∙◌}
use Rattle.dsec_spec.specs.Names.{place}
use Rattle.dsec_nsec3.specs.Counting.{HashedSighting}
use Rattle.dsec_nsec3_calls.specs.Looks.{look_at, top_of}
use Rattle.dsec_nsec3_calls.specs.Sightings.{sighting_view}
use Rattle.dsec_nsec3_calls.specs.Views.{nsec3_at}
use Rattle.dsec_nsec3_calls.proofs.LookLaws.{look_full}
use Rattle.dsec_nsec3_calls.proofs.look.by_group.Goals as goal

pub returns-in-Ignored-clause-look : goal.returns-in-Ignored-clause-look
returns-in-Ignored-clause-look g c = λ n later e z.
    let zone = place c.args.source.now.signer.now in
    ap (λ (s : HashedSighting). look_at (top_of c.args.asked.now.is_top zone) n c.args.index c.args.room s later) (sym (ap (sighting_view zone) c.in-Ignored.is) ∙ c.sighted.ensures)

pub returns-in-Stops-clause-look : goal.returns-in-Stops-clause-look
returns-in-Stops-clause-look g c = λ n later e z.
    let zone = place c.args.source.now.signer.now in
    ap (λ (s : HashedSighting). look_at (top_of c.args.asked.now.is_top zone) n c.args.index c.args.room s later) (sym (ap (sighting_view zone) c.in-Stops.is) ∙ c.sighted.ensures)

pub returns-then-room-eq0-clause-look : goal.returns-then-room-eq0-clause-look
returns-then-room-eq0-clause-look g c = λ n later e z.
    let zone = place c.args.source.now.signer.now in
    let top = top_of c.args.asked.now.is_top zone in
    let r = nsec3_at zone c.in-Hashed.owner c.in-Hashed.nsec3 in
    look_full top n c.args.index r c.args.room later c.if-room-eq0.true
    ∙ ap (λ (s : HashedSighting). look_at top n c.args.index c.args.room s later) (sym (ap (sighting_view zone) c.in-Hashed.is) ∙ c.sighted.ensures)
