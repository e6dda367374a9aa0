use Rattle.std.proofs.Common.{◌+◌, subst, arith}
use Rattle.std.specs.Prelude.{IfOk}
use Rattle.dsec_spec.specs.Names.{place}
use Rattle.dsec_spec.specs.Trying.{checked}
use Rattle.dsec_group.specs.Checks.{IsCheck}
use Rattle.dsec_group.specs.Trials.{AreTries, pair_trial}
use Rattle.dsec_group.proofs.CheckedLaws.{refused_check, secured_check}
use Rattle.dsec_group.proofs.check.check_with_tagged_keys.Goals as goal

pub returns-in-Left-clause-checked : goal.returns-in-Left-clause-checked
returns-in-Left-clause-checked g c =
    let keys = (g.K.KeyList.keys c.args.keys.now) in
    let room = c.from-room.result + 1 in
    let is = subst (λ x. AreTries c.args.group.now.signatures keys x (pair_trial g.V.Verifier.accepts c.args.group.now (place c.args.zone.now) c.args.t room c.args.group.now.signatures keys)) c.in-Left.is c.in_ok-signature.ensures.tries in
    subst (λ n. IsCheck c.args.group.now keys c.refused.result (checked g.V.Verifier.accepts c.args.group.now (place c.args.zone.now) keys (n + 1) c.args.t)) c.from-room.ensures
    (refused_check g.V.Verifier.accepts c.args.group.now (place c.args.zone.now) keys room c.args.t (omega arith) c.in-Left.left c.refused.result is
    c.refused.ensures.state c.refused.ensures.cause c.refused.ensures.encloser c.refused.ensures.signature c.refused.ensures.key)

pub returns-in-Good-clause-checked : goal.returns-in-Good-clause-checked
returns-in-Good-clause-checked g c =
    let keys = (g.K.KeyList.keys c.args.keys.now) in
    let room = c.from-room.result + 1 in
    let is = subst (λ x. AreTries c.args.group.now.signatures keys x (pair_trial g.V.Verifier.accepts c.args.group.now (place c.args.zone.now) c.args.t room c.args.group.now.signatures keys)) c.in-Good.is c.in_ok-signature.ensures.tries in
    subst (λ n. IfOk c.secured.result (λ check. IsCheck c.args.group.now keys check (checked g.V.Verifier.accepts c.args.group.now (place c.args.zone.now) keys (n + 1) c.args.t))) c.from-room.ensures
    (secured_check g.V.Verifier.accepts c.args.group.now (place c.args.zone.now) keys room c.args.t (omega arith) c.in-Good.signature c.in-Good.key c.secured.result is
    c.secured.ensures.state c.secured.ensures.cause c.secured.ensures.signature c.secured.ensures.key c.secured.ensures.encloser)
