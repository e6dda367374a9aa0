use Rattle.std.proofs.Common.{subst, arith}
use Rattle.dsec_spec.specs.Groups.{set_in}
use Rattle.dsec_spec.specs.Names.{place}
use Rattle.dsec_spec.specs.Trying.{pair_matches, pair_signs}
use Rattle.dsec_group.specs.Trials.{AreKeyTries, AreTries, KeysSpend, key_trial, pair_trial}
use Rattle.dsec_group.specs.declared.tries.Tries.{Tries}
use Rattle.dsec_group.proofs.IndexLaws.{there_is}
use Rattle.dsec_group.proofs.TrialLaws.{signature_bad, signature_good}
use Rattle.dsec_group.proofs.tries.try_all.Goals as goal

pub loop-index-preserved : goal.loop-index-preserved
loop-index-preserved g c =
    let zone = place c.args.zone.now in
    let rs = c.sig_set-signatures.result.now in
    let keys = (g.K.KeyList.keys c.args.keys.now) in
    let r = c.index-signatures-index.result in
    let good = pair_signs g.V.Verifier.accepts (set_in c.args.group.now) zone c.args.t in
    let whole = pair_trial g.V.Verifier.accepts c.args.group.now zone c.args.t c.args.room rs keys in
    let there = there_is rs c.loop-index.index r r c.loop-index-test.true c.index-signatures-index.is in
    let bad = subst (λ x. AreKeyTries r keys x (key_trial g.V.Verifier.accepts c.args.group.now zone c.args.t c.loop-index.left r keys)) c.in-Left.is c.in_ok-key.ensures.tries in
    let spent = subst (KeysSpend c.loop-index.steps c.try_signature.new.steps c.loop-index.left) c.in-Left.is c.in_ok-key.ensures.spent in
    let later = c.in_ok-key.ensures.later in (
      signature_bad good (pair_matches zone) whole rs keys c.loop-index.index c.loop-index.left r c.in-Left.more there bad c.loop-index.invariant.0,
      omega (arith, spent, c.loop-index.invariant.1),
      omega (arith, spent, later, c.loop-index.invariant.2),
    )

pub returns-in-Good-clause-tries : goal.returns-in-Good-clause-tries
returns-in-Good-clause-tries g c =
    let zone = place c.args.zone.now in
    let rs = c.sig_set-signatures.result.now in
    let keys = (g.K.KeyList.keys c.args.keys.now) in
    let r = c.index-signatures-index.result in
    let good = pair_signs g.V.Verifier.accepts (set_in c.args.group.now) zone c.args.t in
    let whole = pair_trial g.V.Verifier.accepts c.args.group.now zone c.args.t c.args.room rs keys in
    let there = there_is rs c.loop-index.index r r c.loop-index-test.true c.index-signatures-index.is in
    let fit = subst (λ x. AreKeyTries r keys x (key_trial g.V.Verifier.accepts c.args.group.now zone c.args.t c.loop-index.left r keys)) c.in-Good.is c.in_ok-key.ensures.tries in
    subst (λ xs. AreTries xs keys (Tries.Good c.loop-index.index c.in-Good.key) (pair_trial g.V.Verifier.accepts c.args.group.now zone c.args.t c.args.room xs keys)) c.sig_set-signatures.ensures.signatures
    (r, fit.0, there, fit.1, signature_good good (pair_matches zone) whole rs keys c.loop-index.index c.loop-index.left r (r, fit.0) there fit.2 c.loop-index.invariant.0)
