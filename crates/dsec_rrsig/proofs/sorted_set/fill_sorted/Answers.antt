use Rattle.dsec_sorted.specs.SetViews.{members_of}
use Rattle.dsec_rrsig.specs.Signers.{period_of, signer_of}
use Rattle.dsec_rrsig.proofs.SetMessages.{in_order, set_message}
use Rattle.dsec_rrsig.proofs.sorted_set.fill_sorted.Goals as goal

pub returns : goal.returns
returns g c =
    let set = c.args.set.now in
    let members = members_of set in
    rw (c.in_ok-fill.ensures, c.clear.ensures.items, c.iter.ensures) (set_message (signer_of g.I.SignRaw.key c.args.key.now) (period_of c.args.config.now) members members
    c.first.result.now c.first.ensures set.one_set (in_order members set.one_set c.requires.canonical))
