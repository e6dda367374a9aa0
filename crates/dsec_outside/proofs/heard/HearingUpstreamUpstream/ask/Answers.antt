use Rattle.std.proofs.Common.{refl, ap, ◌∙◌, None, Some}
use Rattle.dsec_outside.proofs.HeardSteps.{heard_pushed}
use Rattle.dsec_outside.proofs.heard.HearingUpstreamUpstream.ask.Goals as goal

pub returns-in-Err-Failed-clause-noted : goal.returns-in-Err-Failed-clause-noted
returns-in-Err-Failed-clause-noted g c =
    heard_pushed c.args.self.now.heard.items c.reserve.new.self.items c.push_reserved.new.self.items
    (record { name = c.in_ok-name_heard.name_heard; rtype = c.args.rtype; reply = None }) c.args.name.now c.args.rtype None
    c.push_reserved.ensures.items c.in_ok-reserve.ensures.items c.in_ok-name_heard.ensures refl refl

pub returns-clause-noted : goal.returns-clause-noted
returns-clause-noted g c =
    heard_pushed c.args.self.now.heard.items c.reserve.new.self.items c.push_reserved-2.new.self.items
    (record { name = c.in_ok-name_heard.name_heard; rtype = c.args.rtype; reply = Some c.in_ok-copy.copy }) c.args.name.now c.args.rtype (Some c.in-Ok.reply.items)
    c.push_reserved-2.ensures.items c.in_ok-reserve.ensures.items c.in_ok-name_heard.ensures refl (ap Some (c.in_ok-copy.ensures ∙ c.deref.ensures.value))
