use Rattle.dsec_sorted.specs.SetViews.{members_of}
use Rattle.dsec_rrsig.specs.Lent.{lent}
use Rattle.dsec_rrsig.specs.Signers.{period_of, signer_of}
use Rattle.dsec_rrsig.proofs.SetMessages.{set_message}
use Rattle.dsec_rrsig.proofs.unsorted_set.message_of.Goals as goal

pub returns : goal.returns
returns g c =
    let set = c.args.set.now in
    rw (c.in_ok-fill.ensures, c.new-message.ensures.items, c.deref.ensures.value)
    (set_message (signer_of g.I.SignRaw.key c.args.key.now) (period_of c.args.config.now) (members_of set) (lent c.in_ok-records.records.items) c.first.result.now c.first.ensures set.one_set c.in_ok-records.ensures)
