use Rattle.std.proofs.Common.{◌-◌, sym, ap, ◌∙◌, arith}
use Rattle.std.proofs.lemmas.Option.{slice_get_within}
use Rattle.dsec_spec.specs.Groups.{set_in}
use Rattle.dsec_spec.specs.Names.{place}
use Rattle.dsec_spec.specs.Trying.{pair_matches, pair_signs}
use Rattle.dsec_wire.specs.Views.{rrsig_view}
use Rattle.dsec_link.specs.TaggedKeys.{tagged_view}
use Rattle.dsec_group.specs.Trials.{key_trial, trial}
use Rattle.dsec_group.proofs.CheckLaws.{read_is, signs_read}
use Rattle.dsec_group.proofs.SignerLaws.{next_matches, none_matches, untried}
use Rattle.dsec_group.proofs.TrialLaws.{key_bad, key_good, trial_none}
use Rattle.dsec_group.proofs.tries.try_signature.Goals as goal

pub loop-index-preserved : goal.loop-index-preserved
loop-index-preserved g c =
    let key = tagged_view c.key_at-key.result in
    let keys = g.K.KeyList.keys c.args.keys.now in
    let sig = rrsig_view c.in-Some.rrsig in
    let zone = place c.args.zone.now in
    let i = c.in-Some-next_named.index in
    let good = pair_signs g.V.Verifier.accepts (set_in c.args.group.now) zone c.args.t in
    let whole = key_trial g.V.Verifier.accepts c.args.group.now zone c.args.t c.args.room c.args.sig.now keys in
    let read = (read_is c.rdata.result.now c.args.sig.now sig c.rdata.ensures.value c.in-Some.ensures.value).1 in
    let next = next_matches c.args.sig.now sig zone c.is_by.result read c.is_by.ensures c.if-not-is_by.false keys c.loop-index.from i key c.in-Some-next_named.ensures.next c.key_at-key.ensures in
    let bad = signs_read g.V.Verifier.accepts (set_in c.args.group.now) c.args.sig.now sig key zone c.args.t read ∙ sym c.in_ok-check_signature.ensures ∙ c.if-branch.false in (
      key_bad good (pair_matches zone) whole c.args.sig.now keys i c.loop-index.left key (c.loop-index.left - 1) c.key_at-key.ensures next.1 bad (omega (arith, c.if-left-eq0.false))
          (c.loop-index.invariant.0 ∙ ap (trial good c.loop-index.left) next.0),
      omega (arith, c.loop-index.invariant.1, c.tick-step.ensures, c.if-left-eq0.false),
      omega (arith, c.loop-index.invariant.2, c.if-left-eq0.false),
      omega (arith, next.2),
    )

pub returns-then-branch-clause-tries : goal.returns-then-branch-clause-tries
returns-then-branch-clause-tries g c =
    let key = tagged_view c.key_at-key.result in
    let keys = g.K.KeyList.keys c.args.keys.now in
    let sig = rrsig_view c.in-Some.rrsig in
    let zone = place c.args.zone.now in
    let i = c.in-Some-next_named.index in
    let good = pair_signs g.V.Verifier.accepts (set_in c.args.group.now) zone c.args.t in
    let whole = key_trial g.V.Verifier.accepts c.args.group.now zone c.args.t c.args.room c.args.sig.now keys in
    let read = (read_is c.rdata.result.now c.args.sig.now sig c.rdata.ensures.value c.in-Some.ensures.value).1 in
    let next = next_matches c.args.sig.now sig zone c.is_by.result read c.is_by.ensures c.if-not-is_by.false keys c.loop-index.from i key c.in-Some-next_named.ensures.next c.key_at-key.ensures in
    let yes = signs_read g.V.Verifier.accepts (set_in c.args.group.now) c.args.sig.now sig key zone c.args.t read ∙ sym c.in_ok-check_signature.ensures ∙ c.if-branch.true in (
      key,
      c.key_at-key.ensures,
      key_good good (pair_matches zone) whole c.args.sig.now keys i c.loop-index.left key (c.loop-index.left - 1) c.key_at-key.ensures next.1 yes (omega (arith, c.if-left-eq0.false))
          (c.loop-index.invariant.0 ∙ ap (trial good c.loop-index.left) next.0),
    )

pub returns-then-not-is_by-clause-tries : goal.returns-then-not-is_by-clause-tries
returns-then-not-is_by-clause-tries g c =
    let sig = rrsig_view c.in-Some.rrsig in
    let read = (read_is c.rdata.result.now c.args.sig.now sig c.rdata.ensures.value c.in-Some.ensures.value).1 in
    untried c.args.sig.now sig (place c.args.zone.now) c.is_by.result read c.is_by.ensures c.if-not-is_by.true
    g.V.Verifier.accepts c.args.group.now c.args.t c.args.room (g.K.KeyList.keys c.args.keys.now)

pub returns-clause-tries : goal.returns-clause-tries
returns-clause-tries g c =
    let keys = g.K.KeyList.keys c.args.keys.now in
    let sig = rrsig_view c.in-Some.rrsig in
    let zone = place c.args.zone.now in
    let good = pair_signs g.V.Verifier.accepts (set_in c.args.group.now) zone c.args.t in
    let read = (read_is c.rdata.result.now c.args.sig.now sig c.rdata.ensures.value c.in-Some.ensures.value).1 in
    let none = none_matches c.args.sig.now sig zone c.is_by.result read c.is_by.ensures c.if-not-is_by.false keys c.loop-index.from c.loop-index.invariant.3 c.in_default-next_named.ensures.next in
    c.loop-index.invariant.0 ∙ (ap (trial good c.loop-index.left) none ∙ trial_none good c.loop-index.left)

pub key_at-key-requires : goal.key_at-key-requires
key_at-key-requires g c = slice_get_within (g.K.KeyList.keys c.args.keys.now) c.in-Some-next_named.index c.in-Some-next_named.ensures.next.1.0 c.in-Some-next_named.ensures.next.1.1

pub overflow_add-from : goal.overflow_add-from
overflow_add-from g c =
    let inside = slice_get_within (g.K.KeyList.keys c.args.keys.now) c.in-Some-next_named.index (tagged_view c.key_at-key.result) c.key_at-key.ensures in
    omega (arith, inside, c.next_named.ensures.few)

pub loop-index-smaller : goal.loop-index-smaller
loop-index-smaller g c =
    let inside = slice_get_within (g.K.KeyList.keys c.args.keys.now) c.in-Some-next_named.index (tagged_view c.key_at-key.result) c.key_at-key.ensures in
    omega (arith, inside, c.in-Some-next_named.ensures.next.0, c.loop-index.invariant.3)
