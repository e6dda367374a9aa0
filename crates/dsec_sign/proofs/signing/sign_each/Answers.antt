use Rattle.std.proofs.Common.{◌∙◌, ◌<◌, ◌≤◌, List, [], ◌∷◌, map, subst, arith, length, get_or, rules, refl, sym}
use Rattle.std.proofs.lemmas.List.{length-map, get_or-map}
use Rattle.dsec_spec.specs.CanonicalRecords.{IsCanonical}
use Rattle.dsec_spec.specs.Records.{Record}
use Rattle.dsec_spec.specs.Signatures.{Signer}
use Rattle.dsec_rrsig.specs.Signers.{period_of, signer_of}
use Rattle.dsec_sign.specs.Places.{set_at}
use Rattle.dsec_sign.specs.SignerFaults.{AddsOfSet}
use Rattle.dsec_sign.specs.declared.zone_sets.SetAt.{SetAt}
use Rattle.dsec_sign.specs.SignerAsks.{AreAsked, AreAskedAtMost, all_asked}
use Rattle.dsec_sign.proofs.AskSteps.{all_sets, asks_as, none_asked, set_asked, set_in_vain}
use Rattle.dsec_sign.proofs.FailureSteps.{counts_as, counts_then}
use Rattle.dsec_sign.proofs.SignerSteps.{rose_then, same_at_first, no_sets, same_then, set_more}
use Rattle.dsec_sign.proofs.signing.sign_each.Goals as goal

pub sign_one-requires-clause-canonical : goal.sign_one-requires-clause-canonical
sign_one-requires-clause-canonical g c =
    let zero : SetAt = record { start = 0; size = 0 } in
    subst (λ (xs : List Record). IsCanonical xs) (sym c.members-members.ensures) (c.requires.sets c.loop-set.set-index zero c.loop-set-test.true).canonical

pub returns-in_err-sign_one-clause-failed : goal.returns-in_err-sign_one-clause-failed
returns-in_err-sign_one-clause-failed g c h =
    rose_then g.I.SignRaw.key g.I.SignRaw.faults c.args.keys.now c.loop-set.keys c.sign_one.new.keys c.loop-set.invariant.same (c.sign_one.ensures.failed (search rules))

pub returns-in_err-sign_one-clause-counts : goal.returns-in_err-sign_one-clause-counts
returns-in_err-sign_one-clause-counts g c =
    counts_as g.I.SignRaw.faults c.args.keys.now _ c.from_residual.result c.in_err-sign_one.field-0.0 (search rules)
    (counts_then g.I.SignRaw.faults c.args.keys.now c.loop-set.keys c.sign_one.new.keys c.in_err-sign_one.field-0.0 c.loop-set.invariant.quiet c.in_err-sign_one.ensures.counts)

pub returns-in_err-sign_one-clause-asks : goal.returns-in_err-sign_one-clause-asks
returns-in_err-sign_one-clause-asks g c =
    let records = c.args.records.now in
    let sets = map (set_at records) c.args.sets.now in
    let i = c.loop-set.set-index in
    let zero : SetAt = record { start = 0; size = 0 } in
    let set = set_at records (get_or c.args.sets.now i zero) in
    let lt : i < length sets = omega (arith, c.loop-set-test.true, length-map c.args.sets.now (set_at records)) in
    let old = all_asked g.I.SignRaw.key g.I.SignRaw.asked g.I.SignRaw.given c.args.keys.now in
    let mid = all_asked g.I.SignRaw.key g.I.SignRaw.asked g.I.SignRaw.given c.loop-set.keys in
    let new = all_asked g.I.SignRaw.key g.I.SignRaw.asked g.I.SignRaw.given c.sign_one.new.keys in
    asks_as (period_of c.args.config.now) sets old new c.from_residual.result c.in_err-sign_one.field-0.0 (search rules)
    (set_in_vain (period_of c.args.config.now) sets i set lt (get_or-map (set_at records) c.args.sets.now i zero set c.loop-set-test.true) old mid new c.loop-set.invariant.asks
    (subst (λ (xs : List Record). AreAskedAtMost (period_of c.args.config.now) (xs ∷ []) mid new) c.members-members.ensures c.in_err-sign_one.ensures.asks))

pub returns-clause-asks : goal.returns-clause-asks
returns-clause-asks g c =
    let sets = map (set_at c.args.records.now) c.args.sets.now in
    let all : length sets ≤ c.loop-set.set-index = omega (arith, c.loop-set.auto.set-index-end, c.loop-set-test.false, length-map c.args.sets.now (set_at c.args.records.now)) in
    all_sets (period_of c.args.config.now) sets c.loop-set.set-index (all_asked g.I.SignRaw.key g.I.SignRaw.asked g.I.SignRaw.given c.args.keys.now) (all_asked g.I.SignRaw.key g.I.SignRaw.asked g.I.SignRaw.given c.loop-set.keys) all c.loop-set.invariant.asks

pub loop-set-init : goal.loop-set-init
loop-set-init g c =
    let sets = map (set_at c.args.records.now) c.args.sets.now in
    let signers = map (signer_of g.I.SignRaw.key) c.args.keys.now in
    record {
      same = same_at_first g.I.SignRaw.key g.I.SignRaw.faults c.args.keys.now;
      quiet = refl;
      asks = none_asked (period_of c.args.config.now) (all_asked g.I.SignRaw.key g.I.SignRaw.asked g.I.SignRaw.given c.args.keys.now);
      adds = no_sets g.I.SignRaw.signs (period_of c.args.config.now) sets signers c.args.out.now.items;
    }

pub loop-set-preserved : goal.loop-set-preserved
loop-set-preserved g c =
    let records = c.args.records.now in
    let sets = c.args.sets.now in
    let i = c.loop-set.set-index in
    let zero : SetAt = record { start = 0; size = 0 } in
    let set = set_at records (get_or sets i zero) in
    let signs = g.I.SignRaw.signs in
    let period = period_of c.args.config.now in
    let signers = map (signer_of g.I.SignRaw.key) c.args.keys.now in
    let lt : i < length sets = c.loop-set-test.true in
    let more =
    subst (λ (ss : List Signer). AddsOfSet signs period set ss c.loop-set.out.items c.sign_one.new.out.items) c.loop-set.invariant.same.kept
    (subst (λ (xs : List Record). AddsOfSet signs period xs (map (signer_of g.I.SignRaw.key) c.loop-set.keys) c.loop-set.out.items c.sign_one.new.out.items) c.members-members.ensures c.in_ok-sign_one.ensures.signed) in
    record {
      same = same_then g.I.SignRaw.key g.I.SignRaw.faults c.args.keys.now c.loop-set.keys c.sign_one.new.keys c.loop-set.invariant.same c.sign_one.ensures.same;
      quiet = c.in_ok-sign_one.ensures.counts ∙ c.loop-set.invariant.quiet;
      asks = set_asked period (map (set_at records) sets) i set (omega (arith, lt, length-map sets (set_at records))) (get_or-map (set_at records) sets i zero set lt) (all_asked g.I.SignRaw.key g.I.SignRaw.asked g.I.SignRaw.given c.args.keys.now)
          (all_asked g.I.SignRaw.key g.I.SignRaw.asked g.I.SignRaw.given c.loop-set.keys) (all_asked g.I.SignRaw.key g.I.SignRaw.asked g.I.SignRaw.given c.sign_one.new.keys) c.loop-set.invariant.asks
          (subst (λ (xs : List Record). AreAsked period (xs ∷ []) (all_asked g.I.SignRaw.key g.I.SignRaw.asked g.I.SignRaw.given c.loop-set.keys) (all_asked g.I.SignRaw.key g.I.SignRaw.asked g.I.SignRaw.given c.sign_one.new.keys)) c.members-members.ensures c.in_ok-sign_one.ensures.asks);
      adds = set_more signs period (map (set_at records) sets) signers i set c.args.out.now.items c.loop-set.out.items c.sign_one.new.out.items (omega (arith, lt, length-map sets (set_at records)))
          (get_or-map (set_at records) sets i zero set lt) c.loop-set.invariant.adds more;
    }
