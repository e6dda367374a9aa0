use Rattle.std.proofs.Common.{None, ◌≡◌, ◌≤◌, length, Some, subst, sym, refl, ◌∙◌}
use Rattle.std.proofs.lemmas.Bool.{false≢true}
use Rattle.std.proofs.lemmas.Result.{IfOk-weaker}
use Rattle.dsec_node.specs.Caches.{held_in, lasting_in}
use Rattle.dsec_answer.specs.Sending.{ComesOver}
use Rattle.dsec_answer.specs.Told.{Outcome}
use Rattle.dsec_answer.proofs.AskedLaws.{call_asked, call_put}
use Rattle.dsec_answer.proofs.OutcomeLaws.{item_judged, not_long, short_over}
use Rattle.dsec_answer.proofs.judging.judge_one.Goals as goal

pub returns-clause-holds : goal.returns-clause-holds
returns-clause-holds g c =
    let copied : c.into_vec.result.items ≡ c.args.item.octets = c.into_vec.ensures in
    let long : 12 ≤ length c.args.item.octets = subst (λ m. 12 ≤ length m) copied (c.in-Ok.ensures.long.0 refl) in
    let judged = item_judged g.V.Verifier.accepts c.args.context.now.anchors c.args.context.now.config c.args.upstream.now.replies c.args.item c.in-Ok.message c.validate_msg.new.message
    (held_in c.args.context.now.nodes)
    (record { held = Some (held_in c.validate_msg.new.self.nodes); lasting = lasting_in c.validate_msg.new.self.nodes c.validate_msg.new.self.wants; asked = c.validate_msg.new.upstream.asked; faults = c.validate_msg.new.upstream.faults; heard = None })
    (held_in c.validate_msg.new.self.nodes)
    c.validate_msg.result c.requires.config (c.in-Ok.ensures.value ∙ copied) long c.requires.holds
    (λ h. record {
      by_table = c.validate_msg.ensures.handed_on.told h;
      sound = c.validate_msg.ensures.sound;
      few = c.validate_msg.ensures.handed_on.few;
      asked = λ kept among. call_asked _ _ _ _ _ _ (held_in c.args.context.now.nodes) kept refl among _ _ c.validate_msg.ensures.handed_on.handled;
      put = λ kept among. call_put _ _ _ _ _ _ (held_in c.args.context.now.nodes) kept refl among _ _ (held_in c.validate_msg.new.self.nodes) refl c.validate_msg.ensures.handed_on.handled;
      now_is = refl;
    }) in
    judged.holds

pub returns-clause-outcome : goal.returns-clause-outcome
returns-clause-outcome g c =
    let copied : c.into_vec.result.items ≡ c.args.item.octets = c.into_vec.ensures in
    let long : 12 ≤ length c.args.item.octets = subst (λ m. 12 ≤ length m) copied (c.in-Ok.ensures.long.0 refl) in
    let judged = item_judged g.V.Verifier.accepts c.args.context.now.anchors c.args.context.now.config c.args.upstream.now.replies c.args.item c.in-Ok.message c.validate_msg.new.message
    (held_in c.args.context.now.nodes)
    (record { held = Some (held_in c.validate_msg.new.self.nodes); lasting = lasting_in c.validate_msg.new.self.nodes c.validate_msg.new.self.wants; asked = c.validate_msg.new.upstream.asked; faults = c.validate_msg.new.upstream.faults; heard = None })
    (held_in c.validate_msg.new.self.nodes)
    c.validate_msg.result c.requires.config (c.in-Ok.ensures.value ∙ copied) long c.requires.holds
    (λ h. record {
      by_table = c.validate_msg.ensures.handed_on.told h;
      sound = c.validate_msg.ensures.sound;
      few = c.validate_msg.ensures.handed_on.few;
      asked = λ kept among. call_asked _ _ _ _ _ _ (held_in c.args.context.now.nodes) kept refl among _ _ c.validate_msg.ensures.handed_on.handled;
      put = λ kept among. call_put _ _ _ _ _ _ (held_in c.args.context.now.nodes) kept refl among _ _ (held_in c.validate_msg.new.self.nodes) refl c.validate_msg.ensures.handed_on.handled;
      now_is = refl;
    }) in
    IfOk-weaker c.told.result _ _ (λ o e kept among. judged.outcome kept among o e) c.told.ensures

pub returns-in_default-clause-outcome : goal.returns-in_default-clause-outcome
returns-in_default-clause-outcome g c =
    let copied : c.into_vec.result.items ≡ c.args.item.octets = c.into_vec.ensures in
    let short : 12 ≤ length c.args.item.octets → ⊥ = λ l. false≢true (c.in_default.ensures.long.1 (subst (λ m. 12 ≤ length m) (sym copied) l)) in
    λ kept among. subst (λ (o : Outcome). ComesOver g.V.Verifier.accepts c.args.context.now.anchors c.args.upstream.now.replies kept c.args.item o (held_in c.args.context.now.nodes)) (sym c.refused.ensures)
    (short_over g.V.Verifier.accepts c.args.context.now.anchors c.args.upstream.now.replies c.args.item (held_in c.args.context.now.nodes) (not_long (length c.args.item.octets) short) kept among)
