use Rattle.std.proofs.Common.{◌≡◌, ◌∙◌, List, map, sym, subst, inr}
use Rattle.dsec_spec.specs.Names.{place}
use Rattle.dsec_spec.specs.Records.{Record}
use Rattle.dsec_spec.specs.Signatures.{Period}
use Rattle.dsec_spec.specs.SignedZones.{AreZoneSignatures, IsUnion, sets_to_sign}
use Rattle.dsec_sorted.specs.IterViews.{left_of}
use Rattle.dsec_rrsig.specs.Signers.{signer_of}
use Rattle.dsec_sign.specs.Refusals.{AreAllowed, IsSetsRefusal}
use Rattle.dsec_sign.specs.SignerAsks.{AreAsked, all_asked}
use Rattle.dsec_sign.specs.SignerFaults.{SomeRose}
use Rattle.dsec_sign.specs.ZoneChains.{IsChainOf}
use Rattle.dsec_sign.proofs.ZoneLaws.{sets_refused, whole_class, zone_signed}
use Rattle.dsec_sign.proofs.in_place.sign_in_place.Goals as goal

pub add_zone_signatures-requires-clause-class : goal.add_zone_signatures-requires-clause-class
add_zone_signatures-requires-clause-class g c =
    let old = c.args.records.now.items in
    let left : left_of c.owners_of.result ≡ old = c.owners_of.ensures ∙ c.deref.ensures.value in
    let chain = c.in_ok-chain.chain.items in
    let made = subst (λ (xs : List Record). IsChainOf c.args.config.now.denial c.args.apex.now xs chain) left c.in_ok-chain.ensures.chain in
    whole_class c.args.config.now.denial c.args.apex.now old chain c.extend_sorted.new.records.items c.requires.class made c.in_ok-extend_sorted.ensures.ok

pub returns-in-Err-clause-why : goal.returns-in-Err-clause-why
returns-in-Err-clause-why g c =
    let old = c.args.records.now.items in
    let apex = c.args.apex.now in
    let config = c.args.config.now in
    let mid = c.extend_sorted.new.records.items in
    let signers = map (signer_of g.I.SignRaw.key) c.args.keys.now in
    let cause = SomeRose g.I.SignRaw.faults c.args.keys.now c.add_zone_signatures.new.keys in
    let left : left_of c.owners_of.result ≡ old = c.owners_of.ensures ∙ c.deref.ensures.value in
    let chain = c.in_ok-chain.chain.items in
    let made = subst (λ (xs : List Record). IsChainOf config.denial apex xs chain) left c.in_ok-chain.ensures.chain in
    let union = c.in_ok-extend_sorted.ensures.ok in
    let why = subst (λ (p : Period). IsSetsRefusal (sets_to_sign (place apex) mid) signers p cause c.in-Err.error) c.rrsigs-rrsigs.ensures c.in-Err.ensures.why in
    sets_refused config signers cause apex old chain mid old c.add_zone_signatures.new.records.items c.in-Err.error made
    (subst (λ (xs : List Record). IsUnion old chain xs) (sym {A = List Record} c.in-Err.ensures.err) union) union why

pub returns-in-Ok-clause-signed : goal.returns-in-Ok-clause-signed
returns-in-Ok-clause-signed g c =
    let old = c.args.records.now.items in
    let apex = c.args.apex.now in
    let config = c.args.config.now in
    let mid = c.extend_sorted.new.records.items in
    let signs = g.I.SignRaw.signs in
    let signers = map (signer_of g.I.SignRaw.key) c.args.keys.now in
    let left : left_of c.owners_of.result ≡ old = c.owners_of.ensures ∙ c.deref.ensures.value in
    let chain = c.in_ok-chain.chain.items in
    let made = subst (λ (xs : List Record). IsChainOf config.denial apex xs chain) left c.in_ok-chain.ensures.chain in
    let union = c.in_ok-extend_sorted.ensures.ok in
    let adds = c.in-Ok.ensures.signed in
    zone_signed signs config signers apex old chain mid adds.signatures old mid c.add_zone_signatures.new.records.items made union
    (subst (λ (p : Period). AreZoneSignatures signs p signers (place apex) mid adds.signatures) c.rrsigs-rrsigs.ensures adds.signed)
    (subst (λ (p : Period). AreAllowed (sets_to_sign (place apex) mid) signers p) c.rrsigs-rrsigs.ensures c.in-Ok.ensures.allowed) union adds.added

pub returns-in-Ok-clause-asks : goal.returns-in-Ok-clause-asks
returns-in-Ok-clause-asks g c =
    let old = c.args.records.now.items in
    let apex = c.args.apex.now in
    let config = c.args.config.now in
    let mid = c.extend_sorted.new.records.items in
    let chain = c.in_ok-chain.chain.items in
    let made = subst (λ (xs : List Record). IsChainOf config.denial apex xs chain) (c.owners_of.ensures ∙ c.deref.ensures.value) c.in_ok-chain.ensures.chain in
    let asks = subst (λ (p : Period). AreAsked p (sets_to_sign (place apex) mid) (all_asked g.I.SignRaw.key g.I.SignRaw.asked g.I.SignRaw.given c.args.keys.now) (all_asked g.I.SignRaw.key g.I.SignRaw.asked g.I.SignRaw.given c.add_zone_signatures.new.keys)) c.rrsigs-rrsigs.ensures
    c.in-Ok.ensures.asks in
    inr (record { chain = chain; made = made; whole = mid; merged = c.in_ok-extend_sorted.ensures.ok; asks = asks })
