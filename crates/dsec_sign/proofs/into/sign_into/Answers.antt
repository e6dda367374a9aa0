use Rattle.std.proofs.Common.{◌≡◌, ◌∙◌, List, map, sym, subst, inr, Err, rules}
use Rattle.dsec_spec.specs.Names.{place}
use Rattle.dsec_spec.specs.CanonicalRecords.{AreOfOneClass, IsCanonical}
use Rattle.dsec_spec.specs.Records.{Record}
use Rattle.dsec_spec.specs.Signatures.{Period}
use Rattle.dsec_spec.specs.SignedZones.{AreZoneSignatures, IsUnion, sets_to_sign}
use Rattle.dsec_sorted.specs.IterViews.{left_of}
use Rattle.dsec_rrsig.specs.Signers.{period_of, signer_of}
use Rattle.dsec_rrsig.specs.declared.error.SignError.TheVariants as sign
use Rattle.dsec_sign.specs.Refusals.{AreAllowed, IsSetsRefusal}
use Rattle.dsec_sign.specs.SignerAsks.{AreAsked, all_asked}
use Rattle.dsec_sign.specs.SignerFaults.{SomeRose}
use Rattle.dsec_sign.specs.ZoneChains.{IsChainOf}
use Rattle.dsec_sign.specs.ZoneSigning.{zone_period}
use Rattle.dsec_sign.proofs.AskSteps.{asked_at_most, refused_asked}
use Rattle.dsec_sign.proofs.ZoneLaws.{sets_refused, whole_class, zone_signed}
use Rattle.dsec_sign.proofs.into.sign_into.Goals as goal

pub owners_of-requires-2-clause-class : goal.owners_of-requires-2-clause-class
owners_of-requires-2-clause-class g c =
    let chain = c.in_ok-chain.chain.items in
    let made = subst (λ (xs : List Record). IsChainOf c.args.config.now.denial c.args.apex.now xs chain) c.owners_of.ensures c.in_ok-chain.ensures.chain in
    let merged = subst (λ (xs : List Record). IsUnion c.args.zone.now xs c.in_ok-whole.whole.items) c.deref.ensures.value c.in_ok-whole.ensures in
    subst (λ (xs : List Record). AreOfOneClass xs) (sym c.deref-2.ensures.value)
    (whole_class c.args.config.now.denial c.args.apex.now c.args.zone.now chain c.in_ok-whole.whole.items c.requires.class made merged)

pub sign_sorted_zone_records-requires-clause-canonical : goal.sign_sorted_zone_records-requires-clause-canonical
sign_sorted_zone_records-requires-clause-canonical g c =
    let merged = subst (λ (xs : List Record). IsUnion c.args.zone.now xs c.in_ok-whole.whole.items) c.deref.ensures.value c.in_ok-whole.ensures in
    subst (λ (xs : List Record). IsCanonical xs) (sym (c.owners_of-2.ensures ∙ c.deref-2.ensures.value)) merged.canonical

pub sign_sorted_zone_records-requires-clause-class : goal.sign_sorted_zone_records-requires-clause-class
sign_sorted_zone_records-requires-clause-class g c =
    let chain = c.in_ok-chain.chain.items in
    let made = subst (λ (xs : List Record). IsChainOf c.args.config.now.denial c.args.apex.now xs chain) c.owners_of.ensures c.in_ok-chain.ensures.chain in
    let merged = subst (λ (xs : List Record). IsUnion c.args.zone.now xs c.in_ok-whole.whole.items) c.deref.ensures.value c.in_ok-whole.ensures in
    subst (λ (xs : List Record). AreOfOneClass xs) (sym (c.owners_of-2.ensures ∙ c.deref-2.ensures.value))
    (whole_class c.args.config.now.denial c.args.apex.now c.args.zone.now chain c.in_ok-whole.whole.items c.requires.class made merged)

pub returns-in-Ok-sorted_extend-clause-signed : goal.returns-in-Ok-sorted_extend-clause-signed
returns-in-Ok-sorted_extend-clause-signed g c =
    let zone = c.args.zone.now in
    let apex = c.args.apex.now in
    let config = c.args.config.now in
    let signs = g.I.SignRaw.signs in
    let signers = map (signer_of g.I.SignRaw.key) c.args.keys.now in
    let chain = c.in_ok-chain.chain.items in
    let whole = c.in_ok-whole.whole.items in
    let signatures = c.in-Ok.signatures.items in
    let made = subst (λ (xs : List Record). IsChainOf config.denial apex xs chain) c.owners_of.ensures c.in_ok-chain.ensures.chain in
    let merged = subst (λ (xs : List Record). IsUnion zone xs whole) c.deref.ensures.value c.in_ok-whole.ensures in
    let left : left_of c.owners_of-2.result ≡ whole = c.owners_of-2.ensures ∙ c.deref-2.ensures.value in
    let are = subst (λ (xs : List Record). AreZoneSignatures signs (period_of c.rrsigs-rrsigs.result) signers (place apex) xs signatures) left c.in-Ok.ensures.signed in
    let allowed = subst (λ (xs : List Record). AreAllowed (sets_to_sign (place apex) xs) signers (period_of c.rrsigs-rrsigs.result)) left c.in-Ok.ensures.allowed in
    zone_signed signs config signers apex zone chain whole signatures (g.T.SortedExtend.records c.args.out.now) (g.T.SortedExtend.records c.sorted_extend.new.self) (g.T.SortedExtend.records c.sorted_extend-in-Ok.new.self)
    made merged (subst (λ (p : Period). AreZoneSignatures signs p signers (place apex) whole signatures) c.rrsigs-rrsigs.ensures are)
    (subst (λ (p : Period). AreAllowed (sets_to_sign (place apex) whole) signers p) c.rrsigs-rrsigs.ensures allowed) c.in_ok-sorted_extend.ensures.ok c.in-Ok-sorted_extend.ensures.ok

pub returns-clause-why : goal.returns-clause-why
returns-clause-why g c =
    let zone = c.args.zone.now in
    let apex = c.args.apex.now in
    let config = c.args.config.now in
    let signers = map (signer_of g.I.SignRaw.key) c.args.keys.now in
    let cause = SomeRose g.I.SignRaw.faults c.args.keys.now c.sign_sorted_zone_records.new.keys in
    let chain = c.in_ok-chain.chain.items in
    let whole = c.in_ok-whole.whole.items in
    let made = subst (λ (xs : List Record). IsChainOf config.denial apex xs chain) c.owners_of.ensures c.in_ok-chain.ensures.chain in
    let merged = subst (λ (xs : List Record). IsUnion zone xs whole) c.deref.ensures.value c.in_ok-whole.ensures in
    let left : left_of c.owners_of-2.result ≡ whole = c.owners_of-2.ensures ∙ c.deref-2.ensures.value in
    let why = subst (λ (xs : List Record). IsSetsRefusal (sets_to_sign (place apex) xs) signers (period_of c.rrsigs-rrsigs.result) cause c.in-Err.error) left c.in-Err.ensures.why in
    sets_refused config signers cause apex zone chain whole (g.T.SortedExtend.records c.args.out.now) (g.T.SortedExtend.records c.sorted_extend.new.self) c.in-Err.error made c.in_ok-sorted_extend.ensures.ok merged
    (subst (λ (p : Period). IsSetsRefusal (sets_to_sign (place apex) whole) signers p cause c.in-Err.error) c.rrsigs-rrsigs.ensures why)

pub returns-in-Ok-sorted_extend-clause-asks : goal.returns-in-Ok-sorted_extend-clause-asks
returns-in-Ok-sorted_extend-clause-asks g c =
    let zone = c.args.zone.now in
    let apex = c.args.apex.now in
    let chain = c.in_ok-chain.chain.items in
    let whole = c.in_ok-whole.whole.items in
    let old = all_asked g.I.SignRaw.key g.I.SignRaw.asked g.I.SignRaw.given c.args.keys.now in
    let new = all_asked g.I.SignRaw.key g.I.SignRaw.asked g.I.SignRaw.given c.sign_sorted_zone_records.new.keys in
    let made = subst (λ (xs : List Record). IsChainOf c.args.config.now.denial apex xs chain) c.owners_of.ensures c.in_ok-chain.ensures.chain in
    let merged = subst (λ (xs : List Record). IsUnion zone xs whole) c.deref.ensures.value c.in_ok-whole.ensures in
    let left : left_of c.owners_of-2.result ≡ whole = c.owners_of-2.ensures ∙ c.deref-2.ensures.value in
    let period = zone_period c.args.config.now in
    let sets = sets_to_sign (place apex) whole in
    let asks : AreAsked period sets old new =
    subst (λ (p : Period). AreAsked p sets old new) c.rrsigs-rrsigs.ensures
    (subst (λ (xs : List Record). AreAsked (period_of c.rrsigs-rrsigs.result) (sets_to_sign (place apex) xs) old new) left c.in-Ok.ensures.asks) in
    inr (record { chain = chain; made = made; whole = whole; merged = merged; asks = asks })

pub returns-in-Ok-clause-asks : goal.returns-in-Ok-clause-asks
returns-in-Ok-clause-asks g c =
    let zone = c.args.zone.now in
    let apex = c.args.apex.now in
    let chain = c.in_ok-chain.chain.items in
    let whole = c.in_ok-whole.whole.items in
    let old = all_asked g.I.SignRaw.key g.I.SignRaw.asked g.I.SignRaw.given c.args.keys.now in
    let new = all_asked g.I.SignRaw.key g.I.SignRaw.asked g.I.SignRaw.given c.sign_sorted_zone_records.new.keys in
    let made = subst (λ (xs : List Record). IsChainOf c.args.config.now.denial apex xs chain) c.owners_of.ensures c.in_ok-chain.ensures.chain in
    let merged = subst (λ (xs : List Record). IsUnion zone xs whole) c.deref.ensures.value c.in_ok-whole.ensures in
    let left : left_of c.owners_of-2.result ≡ whole = c.owners_of-2.ensures ∙ c.deref-2.ensures.value in
    let period = zone_period c.args.config.now in
    let sets = sets_to_sign (place apex) whole in
    let asks : AreAsked period sets old new =
    subst (λ (p : Period). AreAsked p sets old new) c.rrsigs-rrsigs.ensures
    (subst (λ (xs : List Record). AreAsked (period_of c.rrsigs-rrsigs.result) (sets_to_sign (place apex) xs) old new) left c.in-Ok.ensures.asks) in
    inr (record { chain = chain; made = made; whole = whole; merged = merged; asks = refused_asked {T = Unit {0}} period sets old new (Err c.from.result) sign.NoMemory (search rules) (asked_at_most period sets old new asks) })
