use Rattle.std.proofs.Common.{sym}
use Rattle.dsec_wire.specs.Views.{rrsig_view}
use Rattle.dsec_link.proofs.KeyedLemmas.{signed_some, signed_none}
use Rattle.dsec_link.proofs.signing.bytes_of.Goals as goal

pub returns-in_default : goal.returns-in_default
returns-in_default c =
    rw (c.in_ok-push_head.ensures.ok, c.in_ok-out.ensures.items)
    (sym (signed_none (rrsig_view c.args.rrsig.now) c.args.records.now (sym (rw c.in_default.is at c.first.ensures.value))))

pub returns : goal.returns
returns c =
    rw (c.in_ok-push_all.ensures, c.in_ok-push_head.ensures.ok, c.in_ok-out.ensures.items, c.deref.ensures.value, c.in_ok-front.ensures, c.owner.ensures, c.class.ensures, c.rtype.ensures)
    (signed_some (rrsig_view c.args.rrsig.now) c.args.records.now c.args.all.now c.in-Some.first.now (sym (rw c.in-Some.is at c.first.ensures.value)) c.requires.typed c.requires.ordered)
