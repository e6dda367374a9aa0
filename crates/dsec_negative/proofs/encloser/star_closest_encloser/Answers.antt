use Rattle.dsec_negative.proofs.PlaceLaws.{star_gives}
use Rattle.dsec_negative.proofs.encloser.star_closest_encloser.Goals as goal

pub returns-clause-place : goal.returns-clause-place
returns-clause-place c = star_gives c.args.closest_encloser.now c.front_onto.result (rw (c.in_ok-star.ensures) at c.front_onto.ensures)
