use Rattle.std.proofs.Common.{sym, ◌∙◌}
use Rattle.dsec_message.proofs.SectionReading.{no_additional, no_opt, opt_after}
use Rattle.dsec_message.proofs.message.Message.opt.Goals as goal

pub returns-then-count-eq0 : goal.returns-then-count-eq0
returns-then-count-eq0 c =
    sym (no_additional c.args.self.now c.header_at.result (rw (← c.as_slice-message.ensures.value) c.header_at.ensures) (sym c.arcount-count.ensures ∙ c.if-count-eq0.true))

pub returns-in-Err-ParseError : goal.returns-in-Err-ParseError
returns-in-Err-ParseError c = sym (no_opt c.args.self.now (rw (← c.as_slice-message.ensures.value) (rw c.in-Err-ParseError.field-0-is at c.in-Err-ParseError.ensures)))

pub returns : goal.returns
returns c =
    rw (opt_after c.args.self.now c.header_at.result (c.in-Ok.field-0-0, c.in-Ok.at) (rw (← c.as_slice-message.ensures.value) c.header_at.ensures) (rw (← c.as_slice-message.ensures.value) c.in-Ok.ensures))
    (rw (← c.as_slice-message.ensures.value, ← c.arcount-count.ensures) c.first_opt.ensures)
