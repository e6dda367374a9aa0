use Rattle.std.proofs.Common.{refl}
use Rattle.dsec_link.proofs.SetLemmas.{canonical_records}
use Rattle.dsec_link.proofs.bytes.signed_bytes.Goals as goal

pub returns : goal.returns
returns c =
    let same = canonical_records c.args.rtype c.args.records.now c.requires in
    rw (c.in_ok-push_all.ensures, c.in_ok-push_head.ensures.ok, c.in_ok-out.ensures.items, c.deref.ensures.value, c.deref-2.ensures.value, c.in_ok-front.ensures, c.in_ok-datas.ensures, same) refl
