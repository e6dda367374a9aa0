use Rattle.dsec_walk.specs.Views.{input_view, world_in}
use Rattle.dsec_walk.proofs.UnderWayLaws.{after_few, after_goes, after_sound, after_under_way}
use Rattle.dsec_walk.proofs.walk.Walk.advance.Goals as goal

pub returns-in-Ok-clause-agrees : goal.returns-in-Ok-clause-agrees
returns-in-Ok-clause-agrees g c =
    after_goes (world_in g.V.Verifier.accepts c.args.setting.now) c.args.self.now (input_view c.args.input) _ c.in-Ok.ensures.exact c.requires.under_way c.requires.answers c.in-Ok.ensures.kept

pub returns-in-Ok-clause-sound : goal.returns-in-Ok-clause-sound
returns-in-Ok-clause-sound g c =
    after_sound (world_in g.V.Verifier.accepts c.args.setting.now) c.args.self.now (input_view c.args.input) _ c.in-Ok.ensures.exact c.requires.under_way c.requires.answers c.in-Ok.ensures.kept

pub returns-in-Ok-clause-under_way : goal.returns-in-Ok-clause-under_way
returns-in-Ok-clause-under_way g c =
    after_under_way (world_in g.V.Verifier.accepts c.args.setting.now) c.args.self.now (input_view c.args.input) _ c.in-Ok.ensures.exact c.requires.under_way c.requires.answers c.in-Ok.ensures.kept

pub returns-in-Ok-clause-few : goal.returns-in-Ok-clause-few
returns-in-Ok-clause-few g c =
    after_few (world_in g.V.Verifier.accepts c.args.setting.now) c.args.self.now (input_view c.args.input) _ c.in-Ok.ensures.exact c.requires.under_way c.requires.answers c.in-Ok.ensures.kept
