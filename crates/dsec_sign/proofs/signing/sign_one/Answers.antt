use Rattle.std.proofs.Common.{◌≡◌, ◌∙◌, ◌<◌, List, [], ◌∷◌, sym, ap, map, arith, length, get_or, rules}
use Rattle.std.proofs.lemmas.List.{length-map, get_or-map}
use Rattle.dsec_spec.specs.Signatures.{Signer}
use Rattle.dsec_sorted.specs.SetViews.{members_of}
use Rattle.dsec_rrsig.specs.Signers.{period_of, signer_of}
use Rattle.dsec_rrsig.specs.declared.error.SignError.TheVariants as sign
use Rattle.dsec_sign.specs.SignerAsks.{all_asked}
use Rattle.dsec_sign.proofs.AskSteps.{all_once, asked_in_vain, asked_more, asked_once, asks_as}
use Rattle.dsec_sign.proofs.FailureSteps.{counts_as, counts_once, quiet_once}
use Rattle.dsec_sign.proofs.SignerSteps.{key_more, rose_once, same_once, same_then, tag_there}
use Rattle.dsec_sign.proofs.signing.sign_one.Goals as goal

pub sign_set-requires-clause-tag : goal.sign_set-requires-clause-tag
sign_set-requires-clause-tag g c =
    let lt : c.loop-i.i < length c.loop-i.keys = omega (arith, c.loop-i.auto.keys, c.loop-i-test.true) in
    tag_there g.I.SignRaw.key g.I.SignRaw.faults c.args.keys.now c.loop-i.keys c.args.tags.now c.loop-i.i c.index-keys-i.result c.loop-i.invariant.same c.requires.tags lt

pub returns-in_err-made-clause-same : goal.returns-in_err-made-clause-same
returns-in_err-made-clause-same g c =
    let keys = c.loop-i.keys in
    let lt : c.loop-i.i < length keys = omega (arith, c.loop-i.auto.keys, c.loop-i-test.true) in
    same_then g.I.SignRaw.key g.I.SignRaw.faults c.args.keys.now keys _ c.loop-i.invariant.same
    (same_once g.I.SignRaw.key g.I.SignRaw.faults keys c.loop-i.i c.sign_set.new.key c.index-keys-i.result lt c.sign_set.ensures.kept c.sign_set.ensures.flags c.sign_set.ensures.later)

pub returns-in_err-made-clause-failed : goal.returns-in_err-made-clause-failed
returns-in_err-made-clause-failed g c h =
    let keys = c.loop-i.keys in
    let lt : c.loop-i.i < length keys = omega (arith, c.loop-i.auto.keys, c.loop-i-test.true) in
    rose_once g.I.SignRaw.key g.I.SignRaw.faults c.args.keys.now keys c.loop-i.i c.sign_set.new.key c.index-keys-i.result c.loop-i.invariant.same lt (c.sign_set.ensures.failed (search rules))

pub returns-in_err-made-clause-counts : goal.returns-in_err-made-clause-counts
returns-in_err-made-clause-counts g c =
    let keys = c.loop-i.keys in
    let lt : c.loop-i.i < length keys = omega (arith, c.loop-i.auto.keys, c.loop-i-test.true) in
    counts_as g.I.SignRaw.faults c.args.keys.now _ c.from_residual.result c.in_err-made.field-0.0 (search rules)
    (counts_once g.I.SignRaw.faults c.args.keys.now keys c.loop-i.i c.sign_set.new.key c.index-keys-i.result c.in_err-made.field-0.0 c.loop-i.invariant.quiet lt c.in_err-made.ensures.counts)

pub returns-in_err-push_one-clause-counts : goal.returns-in_err-push_one-clause-counts
returns-in_err-push_one-clause-counts g c =
    let keys = c.loop-i.keys in
    let lt : c.loop-i.i < length keys = omega (arith, c.loop-i.auto.keys, c.loop-i-test.true) in
    counts_as g.I.SignRaw.faults c.args.keys.now _ c.from_residual-in_err-push_one.result sign.NoMemory (search rules)
    (quiet_once g.I.SignRaw.faults c.args.keys.now keys c.loop-i.i c.sign_set.new.key c.index-keys-i.result c.loop-i.invariant.quiet lt c.in_ok-made.ensures.counts)

pub returns-in_err-made-clause-asks : goal.returns-in_err-made-clause-asks
returns-in_err-made-clause-asks g c =
    let keys = c.loop-i.keys in
    let lt : c.loop-i.i < length keys = omega (arith, c.loop-i.auto.keys, c.loop-i-test.true) in
    asks_as (period_of c.args.config.now) (members_of c.args.set.now ∷ []) (all_asked g.I.SignRaw.key g.I.SignRaw.asked g.I.SignRaw.given c.args.keys.now) _ c.from_residual.result c.in_err-made.field-0.0 (search rules)
    (asked_in_vain (period_of c.args.config.now) (members_of c.args.set.now) g.I.SignRaw.key g.I.SignRaw.asked g.I.SignRaw.given c.args.keys.now keys c.loop-i.i c.sign_set.new.key c.index-keys-i.result c.in_err-made.field-0.0 c.loop-i.invariant.asks lt c.in_err-made.ensures.asks)

pub returns-in_err-push_one-clause-asks : goal.returns-in_err-push_one-clause-asks
returns-in_err-push_one-clause-asks g c =
    let keys = c.loop-i.keys in
    let lt : c.loop-i.i < length keys = omega (arith, c.loop-i.auto.keys, c.loop-i-test.true) in
    asks_as (period_of c.args.config.now) (members_of c.args.set.now ∷ []) (all_asked g.I.SignRaw.key g.I.SignRaw.asked g.I.SignRaw.given c.args.keys.now) _ c.from_residual-in_err-push_one.result sign.NoMemory (search rules)
    (asked_once (period_of c.args.config.now) (members_of c.args.set.now) g.I.SignRaw.key g.I.SignRaw.asked g.I.SignRaw.given c.args.keys.now keys c.loop-i.i c.sign_set.new.key c.index-keys-i.result c.loop-i.invariant.asks lt c.in_ok-made.ensures.asks)

pub returns-clause-asks : goal.returns-clause-asks
returns-clause-asks g c =
    all_once (period_of c.args.config.now) (members_of c.args.set.now) g.I.SignRaw.key g.I.SignRaw.asked g.I.SignRaw.given c.args.keys.now c.loop-i.keys c.loop-i.i c.loop-i.invariant.asks (omega (arith, c.loop-i.auto.keys, c.loop-i-test.false))

pub returns-in_err-push_one-clause-same : goal.returns-in_err-push_one-clause-same
returns-in_err-push_one-clause-same g c =
    let keys = c.loop-i.keys in
    let lt : c.loop-i.i < length keys = omega (arith, c.loop-i.auto.keys, c.loop-i-test.true) in
    same_then g.I.SignRaw.key g.I.SignRaw.faults c.args.keys.now keys _ c.loop-i.invariant.same
    (same_once g.I.SignRaw.key g.I.SignRaw.faults keys c.loop-i.i c.sign_set.new.key c.index-keys-i.result lt c.sign_set.ensures.kept c.sign_set.ensures.flags c.sign_set.ensures.later)

pub loop-i-preserved : goal.loop-i-preserved
loop-i-preserved g c =
    let keys = c.loop-i.keys in
    let d = c.index-keys-i.result in
    let lt : c.loop-i.i < length keys = omega (arith, c.loop-i.auto.keys, c.loop-i-test.true) in
    let signer = signer_of g.I.SignRaw.key in
    let by = signer (get_or keys c.loop-i.i d) in
    let signers = map signer c.args.keys.now in
    let mine : get_or signers c.loop-i.i by ≡ by = ap (λ (ss : List Signer). get_or ss c.loop-i.i by) (sym c.loop-i.invariant.same.kept) ∙ get_or-map signer keys c.loop-i.i d by lt in
    let long : c.loop-i.i < length signers = omega (arith, length-map c.args.keys.now signer, c.loop-i-test.true) in
    record {
      same = same_then g.I.SignRaw.key g.I.SignRaw.faults c.args.keys.now keys _ c.loop-i.invariant.same
          (same_once g.I.SignRaw.key g.I.SignRaw.faults keys c.loop-i.i c.sign_set.new.key d lt c.sign_set.ensures.kept c.sign_set.ensures.flags c.sign_set.ensures.later);
      quiet = quiet_once g.I.SignRaw.faults c.args.keys.now keys c.loop-i.i c.sign_set.new.key d c.loop-i.invariant.quiet lt c.in_ok-made.ensures.counts;
      asks = asked_more (period_of c.args.config.now) (members_of c.args.set.now) g.I.SignRaw.key g.I.SignRaw.asked g.I.SignRaw.given c.args.keys.now keys c.loop-i.i c.sign_set.new.key d c.loop-i.invariant.asks lt c.in_ok-made.ensures.asks;
      adds = rw (c.in_ok-push_one.ensures) (key_more g.I.SignRaw.signs (period_of c.args.config.now) (members_of c.args.set.now) signers c.loop-i.i by c.args.out.now.items c.loop-i.out.items c.in_ok-made.made
          long mine c.loop-i.invariant.adds c.in_ok-made.ensures.signed);
    }
