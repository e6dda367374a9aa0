use Rattle.std.proofs.Common.{sym, ◌∙◌}
use Rattle.dsec_text.proofs.FrontText.{octets_step}
use Rattle.dsec_text.proofs.word.Word.octets.Goals as goal

pub loop-value-preserved : goal.loop-value-preserved
loop-value-preserved c =
    octets_step c.args.self.now.quoted c.args.self.now.written.now c.loop-value.rest.now c.split_at.result.1.now c.loop-value.octets.items c.push.new.self.items (c.in-Some.value, c.in-Some.taken)
    (sym c.in-Some.is ∙ c.octet.ensures.octet) c.split_at.ensures.back c.in_ok-push.ensures.items c.loop-value.invariant
