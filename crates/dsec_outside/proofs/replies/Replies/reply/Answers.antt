use Rattle.std.proofs.Common.{ap, sym, ◌∙◌}
use Rattle.dsec_spec.specs.Outside.{asked_of}
use Rattle.dsec_outside.proofs.TableLemmas.{asked_of-lookup, reply_found}
use Rattle.dsec_outside.proofs.replies.Replies.reply.Goals as goal

pub returns-in-Some : goal.returns-in-Some
returns-in-Some c =
    c.as_deref.ensures.value ∙ sym (ap (λ table. asked_of table c.args.name.now c.args.rtype) (sym c.self.view_is) ∙ asked_of-lookup c.args.name.now c.args.rtype c.self.inside.entries.entries ∙ ap reply_found (sym c.in-Some.ensures.value))

pub returns-in-None : goal.returns-in-None
returns-in-None c =
    sym (ap (λ table. asked_of table c.args.name.now c.args.rtype) (sym c.self.view_is) ∙ asked_of-lookup c.args.name.now c.args.rtype c.self.inside.entries.entries ∙ ap reply_found (sym c.in-None.ensures.value))
