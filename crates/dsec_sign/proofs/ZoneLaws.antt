-- What a zone's chain is of, and what signing a zone comes to.
use Rattle.std.proofs.Common.{◌≡◌, ℕ, List, [], ◌∷◌, refl, sym, ap, ◌∙◌, subst, inl, inr}
use Rattle.std.specs.Prelude.{Contains}
use Rattle.dsec_spec.specs.Names.{Labels, Place, place}
use Rattle.dsec_spec.specs.CanonicalRecords.{AreOfOneClass}
use Rattle.dsec_spec.specs.NsecChains.{AreNsecsOf}
use Rattle.dsec_spec.specs.Nsec3Chains.{AreNsec3sOf}
use Rattle.dsec_spec.specs.OwnersInside.{Owner}
use Rattle.dsec_spec.specs.RecordViews.{Hashing}
use Rattle.dsec_spec.specs.Records.{Record}
use Rattle.dsec_spec.specs.Signatures.{Signs, Signer}
use Rattle.dsec_spec.specs.SignedZones.{AreZoneSignatures, IsUnion, sets_to_sign}
use Rattle.dsec_spec.specs.Zones.{Zone}
use Rattle.dsec_spec.specs.ZonesOfRecords.{is_soa_at, soas_at}
use Rattle.dsec_spec.proofs.Members.{first_in, in_either, in_more, from_filter, not_in_none}
use Rattle.dsec_sorted.specs.declared.config.DenialConfig.{DenialConfig}
use Rattle.dsec_sorted.specs.declared.config.DenialConfig.TheVariants as denial
use Rattle.dsec_rrsig.specs.declared.error.SignError.TheVariants as sign
use Rattle.dsec_rrsig.specs.declared.error.SigningError.{SigningError}
use Rattle.dsec_rrsig.specs.declared.error.SigningError.TheVariants as signing
use Rattle.dsec_sign.specs.Refusals.{AreAllowed, IsSetsRefusal}
use Rattle.dsec_sign.specs.ZoneChains.{IsChainOf, IsChainRefusal}
use Rattle.dsec_sign.specs.ZoneSigning.{AddsChain, IsZoneRefusal, SignsZone, zone_period}
use Rattle.dsec_sign.specs.declared.config.SigningConfig.{SigningConfig}
use Rattle.dsec_sign.proofs.UnionLaws.{union_class, union_twice}

-- ---- the class of a chain is the zone's

nsecs_class : (apex : Labels) (class ttl : ℕ) (owners : List Owner) (nsecs : List Record) → AreNsecsOf apex class ttl owners nsecs → (r : Record) → Contains nsecs r → r.class ≡ class
nsecs_class apex class ttl [] [] are r h = absurd (not_in_none r h)
nsecs_class apex class ttl [] (n ∷ nsecs) are r h = absurd are
nsecs_class apex class ttl (o ∷ owners) [] are r h = absurd are
nsecs_class apex class ttl (o ∷ owners) (n ∷ nsecs) are r h = elim (in_more n r nsecs h) [
  | inl e ↦ ap (λ (x : Record). x.class) (sym e ∙ are.0.is)
  | inr later ↦ nsecs_class apex class ttl owners nsecs are.1 r later
]

nsec3s_class : (how : Hashing) (apex : Labels) (z : Zone) (class ttl : ℕ) (first : Place) (names : List Place) (nsec3s : List Record) → AreNsec3sOf how apex z class ttl first names nsec3s
    → (r : Record) → Contains nsec3s r → r.class ≡ class
nsec3s_class how apex z class ttl first [] [] are r h = absurd (not_in_none r h)
nsec3s_class how apex z class ttl first [] (n ∷ nsec3s) are r h = absurd are
nsec3s_class how apex z class ttl first (m ∷ names) [] are r h = absurd are
nsec3s_class how apex z class ttl first (m ∷ names) (n ∷ nsec3s) are r h = elim (in_more n r nsec3s h) [
  | inl e ↦ ap (λ (x : Record). x.class) (sym e ∙ are.0.is)
  | inr later ↦ nsec3s_class how apex z class ttl first names nsec3s are.1 r later
]

soa_there : (apex : Labels) (zone : List Record) (soa : Record) → soas_at (place apex) zone ≡ soa ∷ [] → Contains zone soa
soa_there apex zone soa e = (from_filter (is_soa_at (place apex)) zone soa (subst (λ (xs : List Record). Contains xs soa) (sym e) (first_in soa []))).1

pub chain_class : (how : DenialConfig) (apex : Labels) (zone chain : List Record) → IsChainOf how apex zone chain → (r : Record) → Contains chain r → (s : Record) × Contains zone s × (r.class ≡ s.class)
chain_class denial.AlreadyPresent apex zone chain none r h = absurd (not_in_none r (subst (λ (xs : List Record). Contains xs r) none h))
chain_class denial.Nsec apex zone chain is r h = (is.soa, soa_there apex zone is.soa is.one, nsecs_class apex is.soa.class is.ttl is.owners chain is.each r h)
chain_class (denial.Nsec3 config) apex zone chain is r h = (
  is.are.soa,
  soa_there apex zone is.are.soa is.are.one,
  elim (in_either r is.nsec3s (is.param ∷ []) (subst (λ (xs : List Record). Contains xs r) is.is h)) [
    | inl mine ↦ nsec3s_class _ apex _ is.are.soa.class is.are.ttl _ is.are.names is.nsec3s is.are.each r mine
    | inr other ↦ elim (in_more is.param r [] other) [
      | inl e ↦ ap (λ (x : Record). x.class) (sym e ∙ is.are.param_is)
      | inr none ↦ absurd (not_in_none r none)
    ]
  ],
)

-- zone and chain merged are of one class
pub whole_class : (how : DenialConfig) (apex : Labels) (zone chain whole : List Record) → AreOfOneClass zone → IsChainOf how apex zone chain → IsUnion zone chain whole → AreOfOneClass whole
whole_class how apex zone chain whole class is union = union_class zone chain whole class union (chain_class how apex zone chain is)

-- ---- what signing comes to

-- the zone was signed, where its chain was added and then the signatures of both
pub zone_signed : (signs : Signs) (config : SigningConfig) (signers : List Signer) (apex : Labels) (zone chain whole signatures old mid new : List Record) → IsChainOf config.denial apex zone chain → IsUnion zone chain whole
    → AreZoneSignatures signs (zone_period config) signers (place apex) whole signatures → AreAllowed (sets_to_sign (place apex) whole) signers (zone_period config) → IsUnion old chain mid → IsUnion mid signatures new
    → SignsZone signs config signers apex zone old new
zone_signed signs config signers apex zone chain whole signatures old mid new made merged are allowed first second = record {
  chain = chain;
  made = made;
  signed = record {
    whole = whole;
    merged = merged;
    signatures = signatures;
    signed = are;
    added = union_twice old chain signatures mid new first second;
  };
  allowed = allowed;
}

-- the chain isn't made, and nothing was added
pub chain_refused : (config : SigningConfig) (signers : List Signer) (cause : Type 0) (apex : Labels) (zone old new : List Record) (error : SigningError) → IsChainRefusal config.denial apex zone error → new ≡ old
    → IsZoneRefusal config signers cause apex zone old new error
chain_refused config signers cause apex zone old new error why same = by config.denial error refl why
  where
    by : (how : DenialConfig) (e : SigningError) → config.denial ≡ how → IsChainRefusal how apex zone e → IsZoneRefusal config signers cause apex zone old new e
    by denial.AlreadyPresent e is h = absurd h
    by denial.Nsec signing.SoaRecordCouldNotBeDetermined is h = (subst (λ (d : DenialConfig). IsChainRefusal d apex zone signing.SoaRecordCouldNotBeDetermined) (sym is) h, same)
    by denial.Nsec signing.OutOfMemory is h = inl same
    by denial.Nsec (signing.Nsec3HashingError x) is h = absurd h
    by denial.Nsec signing.NoSignatureValidityPeriodProvided is h = absurd h
    by denial.Nsec signing.EmptyRecordSlice is h = absurd h
    by denial.Nsec signing.MultipleTtlValues is h = absurd h
    by denial.Nsec signing.RrsigRrsMustNotBeSigned is h = absurd h
    by denial.Nsec (signing.InvalidSignatureValidityPeriod i x) is h = absurd h
    by denial.Nsec (signing.SigningError x) is h = absurd h
    by (denial.Nsec3 c) signing.SoaRecordCouldNotBeDetermined is h = (subst (λ (d : DenialConfig). IsChainRefusal d apex zone signing.SoaRecordCouldNotBeDetermined) (sym is) h, same)
    by (denial.Nsec3 c) signing.OutOfMemory is h = inl same
    by (denial.Nsec3 c) (signing.Nsec3HashingError x) is h = (subst (λ (d : DenialConfig). IsChainRefusal d apex zone (signing.Nsec3HashingError x)) (sym is) h, same)
    by (denial.Nsec3 c) signing.NoSignatureValidityPeriodProvided is h = absurd h
    by (denial.Nsec3 c) signing.EmptyRecordSlice is h = absurd h
    by (denial.Nsec3 c) signing.MultipleTtlValues is h = absurd h
    by (denial.Nsec3 c) signing.RrsigRrsMustNotBeSigned is h = absurd h
    by (denial.Nsec3 c) (signing.InvalidSignatureValidityPeriod i x) is h = absurd h
    by (denial.Nsec3 c) (signing.SigningError x) is h = absurd h

-- the chain was added, and the sets of zone and chain merged aren't signed
pub sets_refused : (config : SigningConfig) (signers : List Signer) (cause : Type 0) (apex : Labels) (zone chain whole old new : List Record) (error : SigningError) → IsChainOf config.denial apex zone chain → IsUnion old chain new
    → IsUnion zone chain whole → IsSetsRefusal (sets_to_sign (place apex) whole) signers (zone_period config) cause error → IsZoneRefusal config signers cause apex zone old new error
sets_refused config signers cause apex zone chain whole old new error made added merged why = by error why
  where
    adds : AddsChain config.denial apex zone old new
    adds = record { chain = chain; made = made; added = added }

    by : (e : SigningError) → IsSetsRefusal (sets_to_sign (place apex) whole) signers (zone_period config) cause e → IsZoneRefusal config signers cause apex zone old new e
    by signing.OutOfMemory h = inr adds
    by signing.MultipleTtlValues h = record { adds = adds; whole = whole; merged = merged; reason = h }
    by (signing.InvalidSignatureValidityPeriod i x) h = record { adds = adds; whole = whole; merged = merged; reason = h }
    by (signing.SigningError sign.Failed) h = record { adds = adds; whole = whole; merged = merged; reason = h }
    by (signing.SigningError sign.NoMemory) h = absurd h
    by signing.NoSignatureValidityPeriodProvided h = absurd h
    by signing.SoaRecordCouldNotBeDetermined h = absurd h
    by signing.EmptyRecordSlice h = absurd h
    by (signing.Nsec3HashingError x) h = absurd h
    by signing.RrsigRrsMustNotBeSigned h = absurd h
