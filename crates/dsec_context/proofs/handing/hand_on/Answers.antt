use Rattle.std.proofs.Common.{IfSome, Err, sym, subst}
use Rattle.dsec_nodes.specs.World.{on_circle}
use Rattle.dsec_found.specs.declared.error.Error.{Error}
use Rattle.dsec_context.specs.Handling.{IsRewrittenBy, OnEnd}
use Rattle.dsec_context.specs.Leaving.{handed_on, IsHanded}
use Rattle.dsec_context.proofs.LeavingLaws.{refusal_handed, refusal_no_end}
use Rattle.dsec_context.proofs.handing.hand_on.Goals as goal

pub returns-in-Err-clause-handed : goal.returns-in-Err-clause-handed
returns-in-Err-clause-handed g c =
    subst (λ (e : Error). IsHanded c.args.message.now (handed_on (on_circle c.args.now) c.args.message.now c.args.judgement.answer c.args.judgement.groups) (Err e) c.leave.new.message)
    (sym c.refusal.ensures)
    (refusal_handed _ _ _ _ _ c.in-Err.error c.in-Err.ensures.exact c.in-Err.ensures.err)

pub returns-in-Err-clause-reads_back : goal.returns-in-Err-clause-reads_back
returns-in-Err-clause-reads_back g c =
    subst (λ (e : Error). OnEnd (Err e) (IfSome c.args.judgement.groups (λ both. IsRewrittenBy (on_circle c.args.now) c.args.message.now both c.leave.new.message)))
    (sym c.refusal.ensures)
    (refusal_no_end _ c.in-Err.error)
