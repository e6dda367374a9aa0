use Rattle.std.proofs.Common.{◌≡◌, List, map, subst, rules}
use Rattle.dsec_spec.specs.Names.{place}
use Rattle.dsec_spec.specs.Records.{Record}
use Rattle.dsec_spec.specs.SignedZones.{sets_to_sign}
use Rattle.dsec_rrsig.specs.Signers.{period_of}
use Rattle.dsec_rrsig.specs.declared.error.SigningError.TheVariants as signing
use Rattle.dsec_sign.specs.Places.{set_at}
use Rattle.dsec_sign.specs.declared.zone_sets.SetAt.{SetAt}
use Rattle.dsec_sign.specs.SignerAsks.{AreAsked, all_asked}
use Rattle.dsec_sign.proofs.AskSteps.{refused_unasked}
use Rattle.dsec_sign.proofs.SignableSets.{all_signable}
use Rattle.dsec_sign.proofs.added.add_zone_signatures.Goals as goal

pub add_signatures-requires-clause-sets : goal.add_signatures-requires-clause-sets
add_signatures-requires-clause-sets g c =
    let found = rw c.deref.ensures.value at c.in_ok-sets.ensures.found in
    let one = rw c.deref.ensures.value at c.in_ok-sets.ensures.one in
    let ttls = rw (c.deref-2.ensures.value, c.deref-3.ensures.value) at c.in_ok-allow.ensures.allowed.ttls in
    rw c.deref-4.ensures.value (all_signable c.args.records.now.items c.in_ok-sets.sets.items c.requires.canonical found one ttls)

pub returns-in_err-sets-clause-asks : goal.returns-in_err-sets-clause-asks
returns-in_err-sets-clause-asks g c =
    refused_unasked (period_of c.args.config.now) (sets_to_sign (place c.args.apex.now) c.args.records.now.items) (all_asked g.I.SignRaw.key g.I.SignRaw.asked g.I.SignRaw.given c.args.keys.now) c.from_residual.result signing.OutOfMemory (search rules)

pub returns-in_err-allow-clause-asks : goal.returns-in_err-allow-clause-asks
returns-in_err-allow-clause-asks g c =
    refused_unasked (period_of c.args.config.now) (sets_to_sign (place c.args.apex.now) c.args.records.now.items) (all_asked g.I.SignRaw.key g.I.SignRaw.asked g.I.SignRaw.given c.args.keys.now) c.from_residual-in_err-allow.result c.in_err-allow.field-0.0 (search rules)

pub returns-clause-asks : goal.returns-clause-asks
returns-clause-asks g c =
    let records = c.args.records.now.items in
    let period = period_of c.args.config.now in
    let old = all_asked g.I.SignRaw.key g.I.SignRaw.asked g.I.SignRaw.given c.args.keys.now in
    let new = all_asked g.I.SignRaw.key g.I.SignRaw.asked g.I.SignRaw.given c.add_signatures.new.keys in
    let sets : map (set_at records) c.in_ok-sets.sets.items ≡ sets_to_sign (place c.args.apex.now) records = rw c.deref.ensures.value at c.in_ok-sets.ensures.sets in
    subst (λ (xs : List (List Record)). AreAsked period xs old new) sets
    (subst (λ (xs : List SetAt). AreAsked period (map (set_at records) xs) old new) c.deref-4.ensures.value c.in_ok-add_signatures.ensures.asks)
