use Rattle.std.proofs.Common.{◌∙◌, sym}
use Rattle.std.proofs.lemmas.Result.{err_from_is_err_and}
use Rattle.dsec_wire.proofs.Readable.{readable_data_at}
use Rattle.dsec_wire.proofs.RecordReading.{record_no_owner, record_no_head, record_cut, record_no_data, record_whole}
use Rattle.dsec_wire.proofs.reading.record_at.Goals as goal

pub returns-in_err-owner-clause-exact : goal.returns-in_err-owner-clause-exact
returns-in_err-owner-clause-exact c =
    let p = err_from_is_err_and c.from_residual.result c.from_residual.ensures.1 in
    rw (p.1, p.2) (record_no_owner c.args.message.now c.args.start c.in_err-owner.field-0.0 c.in_err-owner.ensures.exact)

pub returns-in_default-clause-exact : goal.returns-in_default-clause-exact
returns-in_default-clause-exact c =
    record_no_head c.args.message.now c.args.start (c.in_ok-owner.owner, c.in_ok-owner.at) c.in_ok-owner.ensures.exact (sym c.record_head_at.ensures ∙ c.in_default.is)

pub returns-then-message-end-clause-exact : goal.returns-then-message-end-clause-exact
returns-then-message-end-clause-exact c =
    record_cut c.args.message.now c.args.start (c.in_ok-owner.owner, c.in_ok-owner.at) c.in-Some.head c.in_ok-owner.ensures.exact (sym c.record_head_at.ensures ∙ c.in-Some.is) (rw (sym c.from.ensures) c.if-message-end.true)

pub returns-in_err-octets-clause-exact : goal.returns-in_err-octets-clause-exact
returns-in_err-octets-clause-exact c =
    let p = err_from_is_err_and c.from_residual-in_err-octets.result c.from_residual-in_err-octets.ensures.1 in
    rw (p.1, p.2) (record_no_data c.args.message.now c.args.start (c.in_ok-owner.owner, c.in_ok-owner.at) c.in-Some.head c.in_err-octets.field-0.0 c.in_ok-owner.ensures.exact (sym c.record_head_at.ensures ∙ c.in-Some.is)
    (rw (sym c.from.ensures) c.if-message-end.false) (rw (sym c.from.ensures) c.in_err-octets.ensures))

pub new-rdata-requires : goal.new-rdata-requires
new-rdata-requires c = rw c.new.ensures (readable_data_at c.in-Some.head.rtype c.args.message.now _ _ c.in_ok-octets.octets.items c.in_ok-octets.ensures)

pub returns-clause-exact : goal.returns-clause-exact
returns-clause-exact c =
    rw (c.new-2.ensures, c.new-rdata.ensures, c.new.ensures, c.from.ensures)
    (record_whole c.args.message.now c.args.start (c.in_ok-owner.owner, c.in_ok-owner.at) c.in-Some.head c.in_ok-octets.octets.items c.in_ok-owner.ensures.exact (sym c.record_head_at.ensures ∙ c.in-Some.is)
    (rw (sym c.from.ensures) c.if-message-end.false) (rw (sym c.from.ensures) c.in_ok-octets.ensures))
