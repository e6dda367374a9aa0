-- What is made of a zone, and why it isn't.
use Rattle.std.proofs.Common.{◌≡◌, ◌++◌, ◌<◌, ℕ, List, [], ◌∷◌, Err, get_or, length, map, slice_index_or, refl, sym, ◌∙◌, subst, arith, inl, inr}
use Rattle.std.specs.Prelude.{All, Contains, IfErr, Ok, Result}
use Rattle.std.proofs.lemmas.List.Elements.{All-contains}
use Rattle.std.proofs.lemmas.List.{get_or_default}
use Rattle.dsec_spec.specs.CanonicalRecords.{AreOfOneClass}
use Rattle.dsec_spec.specs.Names.{Labels, place}
use Rattle.dsec_spec.specs.Numbers.{IN}
use Rattle.dsec_spec.specs.Records.{Key, Record}
use Rattle.dsec_spec.specs.Signatures.{Period, Signer}
use Rattle.dsec_spec.specs.SignedZones.{IsUnion, sets_to_sign}
use Rattle.dsec_spec.proofs.Members.{in_either, in_more, not_in_none}
use Rattle.dsec_rrsig.specs.declared.error.SignError.TheVariants as sign
use Rattle.dsec_rrsig.specs.declared.error.SigningError.{SigningError}
use Rattle.dsec_rrsig.specs.declared.error.SigningError.TheVariants as signing
use Rattle.dsec_rrsig.specs.declared.signing_key.SigningKey.{SigningKey}
use Rattle.dsec_sign.specs.Refusals.{IsSetsRefusal}
use Rattle.dsec_sign.specs.SignerFaults.{SomeRose}
use Rattle.dsec_sign.specs.ZoneSigning.{IsZoneRefusal, RefusesSets, zone_period}
use Rattle.dsec_sign.specs.declared.config.SigningConfig.{SigningConfig}
use Rattle.dsec_signing.specs.KeySets.{of_stand_in}
use Rattle.dsec_signing.specs.Making.{AnswersSigning, unsigned_of}
use Rattle.dsec_signing.specs.Signed.{Hinders, key_record}
use Rattle.dsec_signing.specs.declared.words.SignWords.{SignWords}
use Rattle.dsec_signing.proofs.Adding.{from_union}

-- ---- the class

record_in : (source : List Record) (words : SignWords) (r : Record) → All (λ (x : Record). x.class ≡ IN) source → Contains (source ++ key_record words ∷ []) r → r.class ≡ IN
record_in source words r h there = elim (in_either r source (key_record words ∷ []) there) [
  | inl old ↦ All-contains (λ (x : Record). x.class ≡ IN) source r h old
  | inr last ↦ elim (in_more (key_record words) r [] last) [
    | inl e ↦ subst (λ (x : Record). x.class ≡ IN) e refl
    | inr none ↦ absurd (not_in_none r none)
  ]
]

-- a zone of records of class IN and the key's is of one class
pub of_one_class : (words : SignWords) (source zone : List Record) → All (λ (x : Record). x.class ≡ IN) source → IsUnion source (key_record words ∷ []) zone → AreOfOneClass zone
of_one_class words source zone h union i j d before within =
    let a = record_in source words (get_or zone i d) h (from_union source (key_record words ∷ []) zone (get_or zone i d) union (there i d (omega (arith, before, within)))) in
    let b = record_in source words (get_or zone j d) h (from_union source (key_record words ∷ []) zone (get_or zone j d) union (there j d within)) in
    a ∙ sym b
  where
    there : (k : ℕ) (d : Record) → k < length zone → Contains zone (get_or zone k d)
    there k d l = (k, l, get_or_default zone k (get_or zone k d) d l)

-- ---- refusals

-- what hinders signing is told, but for want of memory
pub hindered : (words : SignWords) (source : List Record) (error : SigningError) → Hinders words source error → AnswersSigning (λ (made : List Record). made) words source (Err (unsigned_of error))
hindered words source signing.OutOfMemory why = tt
hindered words source signing.NoSignatureValidityPeriodProvided why = record { told = λ e. cc; why = why }
hindered words source signing.SoaRecordCouldNotBeDetermined why = record { told = λ e. cc; why = why }
hindered words source signing.EmptyRecordSlice why = record { told = λ e. cc; why = why }
hindered words source signing.MultipleTtlValues why = record { told = λ e. cc; why = why }
hindered words source (signing.Nsec3HashingError error) why = record { told = λ e. cc; why = why }
hindered words source signing.RrsigRrsMustNotBeSigned why = record { told = λ e. cc; why = why }
hindered words source (signing.InvalidSignatureValidityPeriod inception expiration) why = record { told = λ e. cc; why = why }
hindered words source (signing.SigningError error) why = record { told = λ e. cc; why = why }

-- ---- the stand-in's key has no faults

sets_refusal : (sets : List (List Record)) (signers : List Signer) (period : Period) (cause : Type 0) (error : SigningError) → (cause → ⊥) → IsSetsRefusal sets signers period cause error
    → IsSetsRefusal sets signers period ⊥ error
sets_refusal sets signers period cause signing.MultipleTtlValues never h = h
sets_refusal sets signers period cause (signing.InvalidSignatureValidityPeriod inception expiration) never h = h
sets_refusal sets signers period cause (signing.SigningError sign.Failed) never h = absurd (never h.1)
sets_refusal sets signers period cause (signing.SigningError sign.NoMemory) never h = absurd h
sets_refusal sets signers period cause signing.OutOfMemory never h = tt
sets_refusal sets signers period cause signing.NoSignatureValidityPeriodProvided never h = absurd h
sets_refusal sets signers period cause signing.SoaRecordCouldNotBeDetermined never h = absurd h
sets_refusal sets signers period cause signing.EmptyRecordSlice never h = absurd h
sets_refusal sets signers period cause signing.RrsigRrsMustNotBeSigned never h = absurd h
sets_refusal sets signers period cause (signing.Nsec3HashingError error) never h = absurd h

zone_refusal_by : (config : SigningConfig) (signers : List Signer) (cause : Type 0) (apex : Labels) (zone old new : List Record) (error : SigningError) → (cause → ⊥)
    → RefusesSets config signers cause apex zone old new error → RefusesSets config signers ⊥ apex zone old new error
zone_refusal_by config signers cause apex zone old new error never h =
    record { adds = h.adds; whole = h.whole; merged = h.merged; reason = sets_refusal (sets_to_sign (place apex) h.whole) signers (zone_period config) cause error never h.reason }

-- a refusal that no fault caused
pub zone_refusal : (config : SigningConfig) (signers : List Signer) (cause : Type 0) (apex : Labels) (zone old new : List Record) (error : SigningError) → (cause → ⊥)
    → IsZoneRefusal config signers cause apex zone old new error → IsZoneRefusal config signers ⊥ apex zone old new error
zone_refusal config signers cause apex zone old new signing.OutOfMemory never h = h
zone_refusal config signers cause apex zone old new signing.SoaRecordCouldNotBeDetermined never h = h
zone_refusal config signers cause apex zone old new (signing.Nsec3HashingError error) never h = h
zone_refusal config signers cause apex zone old new signing.MultipleTtlValues never h = zone_refusal_by config signers cause apex zone old new signing.MultipleTtlValues never h
zone_refusal config signers cause apex zone old new (signing.InvalidSignatureValidityPeriod inception expiration) never h =
    zone_refusal_by config signers cause apex zone old new (signing.InvalidSignatureValidityPeriod inception expiration) never h
zone_refusal config signers cause apex zone old new (signing.SigningError error) never h = zone_refusal_by config signers cause apex zone old new (signing.SigningError error) never h
zone_refusal config signers cause apex zone old new signing.NoSignatureValidityPeriodProvided never h = zone_refusal_by config signers cause apex zone old new signing.NoSignatureValidityPeriodProvided never h
zone_refusal config signers cause apex zone old new signing.EmptyRecordSlice never h = zone_refusal_by config signers cause apex zone old new signing.EmptyRecordSlice never h
zone_refusal config signers cause apex zone old new signing.RrsigRrsMustNotBeSigned never h = zone_refusal_by config signers cause apex zone old new signing.RrsigRrsMustNotBeSigned never h

-- no count of a key without faults rose
pub none_rose : (old new : List (SigningKey Key)) → SomeRose (λ key. 0) old new → ⊥
none_rose old new h = some_key old h.at h.within (λ d. let rose = h.rose d in omega (arith, rose))
  where
    some_key : (keys : List (SigningKey Key)) (k : ℕ) → k < length keys → ((d : SigningKey Key) → ⊥) → ⊥
    some_key [] k l never = omega (arith, l)
    some_key (key ∷ keys) k l never = never key

-- the one key is the signer that it was
pub same_signer : (old : SigningKey Key) (new : List (SigningKey Key)) → map of_stand_in new ≡ of_stand_in old ∷ [] → of_stand_in (slice_index_or new 0 old) ≡ of_stand_in old
same_signer old [] e = absurd cc
same_signer old (key ∷ keys) e = first_same e
  where
    first_same : {x y : Signer} {xs ys : List Signer} → x ∷ xs ≡ y ∷ ys → x ≡ y
    first_same f = cc

-- so no refusal was caused by one
pub zone_why : {T : Type 0} (result : Result T SigningError) (config : SigningConfig) (signers others : List Signer) (cause : Type 0) (apex : Labels) (zone old new : List Record) → (cause → ⊥) → signers ≡ others
    → IfErr result (λ e. IsZoneRefusal config signers cause apex zone old new e) → IfErr result (λ e. IsZoneRefusal config others ⊥ apex zone old new e)
zone_why (Ok x) config signers others cause apex zone old new never same h = tt
zone_why (Err e) config signers others cause apex zone old new never same h =
    subst (λ (by : List Signer). IsZoneRefusal config by ⊥ apex zone old new e) same (zone_refusal config signers cause apex zone old new e never h)
