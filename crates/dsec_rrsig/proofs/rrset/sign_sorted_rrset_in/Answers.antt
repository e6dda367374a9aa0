use Rattle.dsec_spec.specs.Outside.{Rose}
use Rattle.dsec_sorted.specs.SetViews.{members_of}
use Rattle.dsec_rrsig.specs.Messages.{first_type}
use Rattle.dsec_rrsig.specs.Signers.{period_of}
use Rattle.dsec_rrsig.proofs.Refusals.{exact_period, exact_type}
use Rattle.dsec_rrsig.proofs.rrset.sign_sorted_rrset_in.Goals as goal

pub returns-clause-signatures : goal.returns-clause-signatures
returns-clause-signatures g c =
    exact_type (first_type (members_of c.args.set.now)) (period_of c.new-config.result)
    (Rose (g.I.SignRaw.faults c.args.key.now.inner) (g.I.SignRaw.faults c.sign_sorted_allowed.new.key.inner)) c.sign_sorted_allowed.result c.sign_sorted_allowed.ensures.allowed c.sign_sorted_allowed.ensures.why

pub returns-clause-period : goal.returns-clause-period
returns-clause-period g c =
    rw (← c.new-config.ensures.inception, ← c.new-config.ensures.expiration) (exact_period (first_type (members_of c.args.set.now)) (period_of c.new-config.result)
    (Rose (g.I.SignRaw.faults c.args.key.now.inner) (g.I.SignRaw.faults c.sign_sorted_allowed.new.key.inner)) c.sign_sorted_allowed.result c.sign_sorted_allowed.ensures.allowed c.sign_sorted_allowed.ensures.why)
