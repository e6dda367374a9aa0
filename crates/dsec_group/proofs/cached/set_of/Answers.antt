use Rattle.std.proofs.Common.{refl}
use Rattle.dsec_link.proofs.SetLemmas.{octets_of-data_of}
use Rattle.dsec_group.proofs.CheckLaws.{all_copied, copies_typed}
use Rattle.dsec_group.proofs.cached.set_of.Goals as goal

pub new-requires : goal.new-requires
new-requires c =
    let is = all_copied c.rr_set-records.result.now c.loop-record.record-index c.loop-record.datas.items c.loop-record-test.false c.loop-record.invariant in
    rw (is, c.rtype.ensures) (copies_typed c.args.group.now.rtype c.rr_set-records.result.now c.rr_set-records.ensures.typed)

pub returns : goal.returns
returns c =
    let is = all_copied c.rr_set-records.result.now c.loop-record.record-index c.loop-record.datas.items c.loop-record-test.false c.loop-record.invariant in
    rw (c.new.ensures, is, c.rr_set-records.ensures.records, c.rtype.ensures, c.class.ensures, c.in_ok-owner.ensures, octets_of-data_of c.args.group.now.records) refl
