use Rattle.std.proofs.Common.{subst}
use Rattle.dsec_nodes.specs.Machine.{Answers}
use Rattle.dsec_walk.specs.Views.{input_view, world_in}
use Rattle.dsec_walk.proofs.UnderWayLaws.{can_hear}
use Rattle.dsec_walk.proofs.walk.Walk.stepped.Goals as goal

pub replied-requires : goal.replied-requires
replied-requires g c =
    let s = c.args.self.now in
    can_hear (world_in g.V.Verifier.accepts c.args.setting.now) s c.in-Reply.reply c.requires.under_way (subst (λ i. Answers s.phase (input_view i)) c.in-Reply.is c.requires.answers)
