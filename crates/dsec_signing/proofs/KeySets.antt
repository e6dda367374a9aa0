-- The DNSKEY set at a zone's apex, by the places of its records.
use Rattle.std.proofs.Common.{◌≡◌, ℕ, ◌+◌, ◌<◌, ◌&&◌, ◌==◌, ◌≤◌, Bool, true, false, cond, List, [], ◌∷◌, ◌++◌, length, take, get_or, Option, Some, None, refl, sym, ap, ◌∙◌, subst, append-nil, length-append, eqb-true, arith}
use Rattle.std.specs.Prelude.{All, Contains, IfErr, Result, Ok, Err, slice_get}
use Rattle.std.specs.Int.{w16, to_be_bytes}
use Rattle.std.proofs.lemmas.List.Elements.{All-append, All-cons, All-nil, filter_more}
use Rattle.std.proofs.lemmas.Option.{slice_get-get_or}
use Rattle.dsec_spec.specs.Names.{Place, place, same_place}
use Rattle.dsec_spec.specs.Numbers.{IN, DNSKEY, RRSIG}
use Rattle.dsec_spec.specs.Signatures.{Period}
use Rattle.dsec_spec.specs.Records.{Key, Record, key_octets}
use Rattle.dsec_spec.specs.RecordData.{IsReadable, plain}
use Rattle.dsec_spec.proofs.CanonicalNames.{same_place_decides}
use Rattle.dsec_spec.proofs.Choosing.{both}
use Rattle.dsec_spec.proofs.Members.{first_in, from_filter}
use Rattle.dsec_rrsig.specs.Errors.{of_rrset_error}
use Rattle.dsec_rrsig.specs.Made.{IsSetRefusal}
use Rattle.dsec_rrsig.specs.Messages.{first_type}
use Rattle.dsec_rrsig.specs.declared.error.SignError.TheVariants as sign
use Rattle.dsec_rrsig.specs.declared.error.SigningError.{SigningError}
use Rattle.dsec_rrsig.specs.declared.error.SigningError.TheVariants as signing
use Rattle.dsec_sorted.specs.declared.rrset.RrsetError.{RrsetError}
use Rattle.dsec_sorted.specs.declared.rrset.RrsetError.TheVariants as rrset
use Rattle.dsec_sorted.specs.Sets.{AreOfOneSet, and_then, differ_in_ttl, records_at}
use Rattle.dsec_signing.specs.Signed.{IsKeySetRefusal, is_apex_key, keys_at}

record IsApexKey (apex : Place) (r : Record) : Type 0 where
  pub owner : place r.owner ≡ apex
  pub class : r.class ≡ IN
  pub rtype : r.rtype ≡ DNSKEY

apex_key : (apex : Place) (r : Record) → is_apex_key apex r ≡ true → IsApexKey apex r
apex_key apex r h =
    let p = both (same_place (place r.owner) apex && (r.class == IN)) (r.rtype == DNSKEY) h in
    let q = both (same_place (place r.owner) apex) (r.class == IN) p.0 in
    record { owner = (same_place_decides (place r.owner) apex).0 q.0; class = eqb-true r.class IN q.1; rtype = eqb-true r.rtype DNSKEY p.1 }

-- they are one set
pub of_one_set : (apex : Place) (records : List Record) → AreOfOneSet (keys_at apex records)
of_one_set apex records r s hr hs =
    let a = apex_key apex r (from_filter (is_apex_key apex) records r hr).0 in
    let b = apex_key apex s (from_filter (is_apex_key apex) records s hs).0 in
    (a.owner ∙ sym b.owner, a.class ∙ sym b.class, a.rtype ∙ sym b.rtype)

then_append : (o : Option Record) (xs ys : List Record) → and_then o (xs ++ ys) ≡ and_then o xs ++ ys
then_append None xs ys = refl
then_append (Some r) xs ys = refl

at_append : (records : List Record) (places more : List ℕ) → records_at records (places ++ more) ≡ records_at records places ++ records_at records more
at_append records [] more = refl
at_append records (k ∷ places) more =
    ap (and_then (slice_get records k)) (at_append records places more) ∙ then_append (slice_get records k) (records_at records places) (records_at records more)

at_place : (records : List Record) (k : ℕ) (it : Record) → k < length records → records_at records (k ∷ []) ≡ get_or records k it ∷ []
at_place records k it l = ap (λ (o : Option Record). and_then o []) (slice_get-get_or records k it l)

-- one more record was looked at, and its place noted if it is a key at the apex
noted_at : (apex : Place) (records : List Record) (places more : List ℕ) (k : ℕ) (it : Record) (is_key : Bool) → k < length records → it ≡ get_or records k it → is_key ≡ is_apex_key apex it
    → more ≡ places ++ cond is_key (k ∷ []) [] → records_at records places ≡ keys_at apex (take k records) → records_at records more ≡ keys_at apex (take (k + 1) records)
noted_at apex records places more k it is_key l is test added before =
    ap (records_at records) added
    ∙ at_append records places (cond is_key (k ∷ []) [])
    ∙ (λ i. before i ++ last i)
    ∙ sym (filter_more (is_apex_key apex) records k it l)
  where
    by : (b : Bool) → records_at records (cond b (k ∷ []) []) ≡ cond b (get_or records k it ∷ []) []
    by true = at_place records k it l
    by false = refl

    last : records_at records (cond is_key (k ∷ []) []) ≡ cond (is_apex_key apex (get_or records k it)) (get_or records k it ∷ []) []
    last = by is_key ∙ ap (λ (b : Bool). cond b (get_or records k it ∷ []) []) (test ∙ ap (is_apex_key apex) is)

pub noted : (apex : Place) (records : List Record) (places more : List ℕ) (at k : ℕ) (it : Record) (is_key : Bool) → at ≡ k → k < length records → it ≡ get_or records k it → is_key ≡ is_apex_key apex it
    → more ≡ places ++ cond is_key (at ∷ []) [] → records_at records places ≡ keys_at apex (take k records) → records_at records more ≡ keys_at apex (take (k + 1) records)
noted apex records places more at k it is_key same l is test added before =
    noted_at apex records places more k it is_key l is test (added ∙ ap (λ (n : ℕ). places ++ cond is_key (n ∷ []) []) same) before

-- its place is one of the records
pub noted_within : (records : List Record) (places more : List ℕ) (k : ℕ) (is_key : Bool) → k < length records → more ≡ places ++ cond is_key (k ∷ []) []
    → All (λ (at : ℕ). at < length records) places → All (λ (at : ℕ). at < length records) more
noted_within records places more k is_key l added before = subst (All (λ (at : ℕ). at < length records)) (sym added) (by is_key)
  where
    by : (b : Bool) → All (λ (at : ℕ). at < length records) (places ++ cond b (k ∷ []) [])
    by true = All-append (λ (at : ℕ). at < length records) places (k ∷ []) before (All-cons (λ (at : ℕ). at < length records) k [] l (All-nil (λ (at : ℕ). at < length records)))
    by false = subst (All (λ (at : ℕ). at < length records)) (sym (append-nil places)) before

-- ---- the record of a key

-- its data can be read
pub key_readable : (key : Key) → length key.public_key ≤ 64 → IsReadable DNSKEY (key_octets key)
key_readable key short = record {
  parts = plain (to_be_bytes w16 key.flags ++ key.protocol ∷ key.algorithm ∷ []) ∷ plain key.public_key ∷ [];
  are = record {
    fit = (refl, (tt, tt));
    is = ap (λ (x : List ℕ). to_be_bytes w16 key.flags ++ key.protocol ∷ key.algorithm ∷ x) (sym (append-nil key.public_key));
  };
  at_most =
      let front = to_be_bytes w16 key.flags ++ key.protocol ∷ key.algorithm ∷ [] in
      let four : length front ≡ 4 = refl in
      let size : length (key_octets key) ≡ length front + length key.public_key = length-append front key.public_key in omega (arith, four, size, short);
}

-- ---- why it isn't signed

first_of_keys : (apex : Place) (records keys : List Record) → keys ≡ keys_at apex records → first_type keys ≡ RRSIG → ⊥
first_of_keys apex records [] e f = omega (arith, f)
first_of_keys apex records (r ∷ keys) e f =
    let in_keys : Contains (keys_at apex records) r = subst (λ (all : List Record). Contains all r) e (first_in r keys) in
    let key = apex_key apex r (from_filter (is_apex_key apex) records r in_keys).0 in
    let clash : DNSKEY ≡ RRSIG = sym key.rtype ∙ f in omega (arith, clash)

-- a refusal to sign the set of these records is one of the key set
pub refusal_of_set : (apex : Place) (records keys : List Record) (period : Period) (cause : Type 0) (error : SigningError) → (cause → ⊥) → keys ≡ keys_at apex records → IsSetRefusal (first_type keys) period cause error
    → IsKeySetRefusal period (keys_at apex records) error
refusal_of_set apex records keys period cause signing.RrsigRrsMustNotBeSigned never e why = absurd (first_of_keys apex records keys e why)
refusal_of_set apex records keys period cause (signing.InvalidSignatureValidityPeriod inception expiration) never e why = (why.1, why.2, why.3)
refusal_of_set apex records keys period cause signing.OutOfMemory never e why = tt
refusal_of_set apex records keys period cause (signing.SigningError sign.Failed) never e why = absurd (never why.2)
refusal_of_set apex records keys period cause (signing.SigningError sign.NoMemory) never e why = absurd why
refusal_of_set apex records keys period cause signing.NoSignatureValidityPeriodProvided never e why = absurd why
refusal_of_set apex records keys period cause signing.SoaRecordCouldNotBeDetermined never e why = absurd why
refusal_of_set apex records keys period cause signing.EmptyRecordSlice never e why = absurd why
refusal_of_set apex records keys period cause signing.MultipleTtlValues never e why = absurd why
refusal_of_set apex records keys period cause (signing.Nsec3HashingError error) never e why = absurd why

-- and so is one to take them as a set
pub refusal_of_records : (keys set : List Record) (places : List ℕ) (period : Period) (error : RrsetError) → set ≡ keys → (places ≡ [] → set ≡ [])
    → ((error ≡ rrset.EmptyRecordSlice) → places ≡ []) → ((error ≡ rrset.MultipleTtlValues) → differ_in_ttl set ≡ true) → IsKeySetRefusal period keys (of_rrset_error error)
refusal_of_records keys set places period rrset.EmptyRecordSlice same none empty ttls = sym same ∙ none (empty refl)
refusal_of_records keys set places period rrset.MultipleTtlValues same none empty ttls = ap differ_in_ttl (sym same) ∙ ttls refl

-- what follows of an error
pub if_err : {T E : Type 0} (P Q : E → Type 0) (result : Result T E) → ((e : E) → P e → Q e) → IfErr result P → IfErr result Q
if_err P Q (Ok x) on h = tt
if_err P Q (Err e) on h = on e h
