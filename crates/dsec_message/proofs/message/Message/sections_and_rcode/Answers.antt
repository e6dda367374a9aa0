use Rattle.std.proofs.Common.{◌≡◌, Some, refl}
use Rattle.dsec_spec.specs.Messages.{header_of, opt_of}
use Rattle.dsec_message.proofs.SectionReading.{opt_after}
use Rattle.dsec_message.proofs.message.Message.sections_and_rcode.Goals as goal

pub returns-clause-rcode : goal.returns-clause-rcode
returns-clause-rcode c =
    let header : header_of c.args.self.now ≡ Some c.header_at-header.result = rw (← c.as_slice-message.ensures.value) c.header_at-header.ensures in
    let opt : c.in_ok-opt.opt ≡ opt_of c.args.self.now =
    rw (opt_after c.args.self.now c.header_at-header.result (c.in_ok-sections.sections, c.in_ok-sections.at) header (rw (← c.as_slice-message.ensures.value) c.in_ok-sections.ensures))
    (rw (← c.as_slice-message.ensures.value, ← c.arcount.ensures) c.in_ok-opt.ensures) in
    rw (header, ← opt, c.rcode_by.ensures) refl
