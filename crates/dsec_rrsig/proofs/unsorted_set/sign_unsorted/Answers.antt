use Rattle.std.proofs.Common.{◌∙◌}
use Rattle.dsec_sorted.specs.SetViews.{members_of}
use Rattle.dsec_rrsig.specs.Signers.{period_of, signer_of}
use Rattle.dsec_rrsig.proofs.SetMessages.{signature_is}
use Rattle.dsec_rrsig.proofs.unsorted_set.sign_unsorted.Goals as goal

pub returns-clause-signed : goal.returns-clause-signed
returns-clause-signed g c =
    signature_is g.I.SignRaw.signs (signer_of g.I.SignRaw.key c.args.key.now) (period_of c.args.config.now) (members_of c.args.set.now) c.first.result.now c.deref.result.now
    c.in_ok-made.made c.first.ensures (c.deref.ensures.value ∙ c.in_ok-message.ensures) c.in_ok-made.ensures.made
