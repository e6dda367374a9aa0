-- Why a zone isn't signed by its own key, step by step.
use Rattle.std.proofs.Common.{◌≡◌, ◌<◌, ◌≤◌, ◌==◌, ◌+◌, ◌++◌, ℕ, zero, suc, List, [], ◌∷◌, Bool, true, false, Option, Some, None, cond, get_or, if◌then◌else◌, length, take, refl, sym, ◌∙◌, subst, arith}
use Rattle.std.specs.Io.KnownBytes.{Keeps}
use Rattle.std.specs.Prelude.{⊤, filter}
use Rattle.std.proofs.lemmas.Bool.{eqb-true}
use Rattle.std.proofs.lemmas.List.Elements.{filter_more}
use Rattle.dsec_spec.specs.Names.{Labels, place}
use Rattle.dsec_spec.specs.Numbers.{DNSKEY}
use Rattle.dsec_spec.specs.Records.{Key, Record, key_of}
use Rattle.dsec_spec.specs.Signatures.{Period, Signer}
use Rattle.dsec_spec.specs.SignedZones.{sets_to_sign}
use Rattle.dsec_rrsig.specs.Made.{IsSetRefusal}
use Rattle.dsec_rrsig.specs.declared.error.SignError.TheVariants as sign
use Rattle.dsec_rrsig.specs.declared.error.SigningError.{SigningError}
use Rattle.dsec_rrsig.specs.declared.error.SigningError.TheVariants as signing
use Rattle.dsec_sign.specs.Refusals.{IsSetsRefusal}
use Rattle.dsec_sign.specs.ZoneSigning.{IsZoneRefusal, RefusesSets, zone_period}
use Rattle.dsec_sign.specs.declared.config.SigningConfig.{SigningConfig}
use Rattle.dsec_sorted.specs.declared.config.DenialConfig.TheVariants as configs
use Rattle.dsec_uses_signer.specs.Refusals.{LeavesUnsigned, RefusesData, RefusesKey, RefusesKeySet, RefusesText, RefusesWrite, RefusesZone, for_key, for_key_set, for_sets, no_zone, of_signing, unsigned}
use Rattle.dsec_uses_signer.specs.Whole.{IsOwnKey, config, is_key}
use Rattle.dsec_uses_signer.specs.declared.refusal.Refusal.{Refusal}
use Rattle.dsec_uses_signer.specs.declared.refusal.Refusal.TheVariants as refusals

-- ---- the records of keys

fewer_in_front : (zone : List Record) (n : ℕ) → length (filter is_key (take n zone)) ≤ length (filter is_key zone)
fewer_in_front zone zero = omega arith
fewer_in_front [] (suc n) = omega arith
fewer_in_front (r ∷ zone) (suc n) = by_test (is_key r) (filter is_key (take n zone)) (filter is_key zone) (fewer_in_front zone n)
  where
    by_test : (b : Bool) (few all : List Record) → length few ≤ length all → length (cond b (r ∷ few) few) ≤ length (cond b (r ∷ all) all)
    by_test true few all fewer = omega (arith, fewer)
    by_test false few all fewer = fewer

-- several in a front are several
pub several_in_front : (zone : List Record) (n : ℕ) → 1 < length (filter is_key (take n zone)) → 1 < length (filter is_key zone)
several_in_front zone n several = let fewer = fewer_in_front zone n in omega (arith, fewer, several)

-- so are those with one more
pub several_here : (zone : List Record) (n : ℕ) (keys : List Record) (one : Record) → n < length zone → one ≡ get_or zone n one → keys ≡ filter is_key (take n zone)
    → 1 < length (keys ++ cond (is_key one) (one ∷ []) []) → 1 < length (filter is_key zone)
several_here zone n keys one inside here are several =
    let more : filter is_key (take (n + 1) zone) ≡ keys ++ cond (is_key one) (one ∷ []) [] =
    filter_more is_key zone n one inside ∙ (λ i. sym are i ++ cond (is_key (sym here i)) (sym here i ∷ []) []) in
    several_in_front zone (n + 1) (subst (λ (l : List Record). 1 < length l) (sym more) several)

-- the only record of a key is one
pub own_is_key : (zone : List Record) (own : Record) → filter is_key zone ≡ own ∷ [] → own.rtype ≡ DNSKEY
own_is_key [] own only = absurd cc
own_is_key (r ∷ zone) own only = by_test (is_key r) (filter is_key zone) refl only (λ e. own_is_key zone own e)
  where
    first_same : {x y : Record} {xs ys : List Record} → x ∷ xs ≡ y ∷ ys → x ≡ y
    first_same e = cc

    by_test : (b : Bool) (others : List Record) → is_key r ≡ b → cond b (r ∷ others) others ≡ own ∷ [] → (others ≡ own ∷ [] → own.rtype ≡ DNSKEY) → own.rtype ≡ DNSKEY
    by_test true others is e back = subst (λ (x : Record). x.rtype ≡ DNSKEY) (first_same e) (eqb-true r.rtype DNSKEY is)
    by_test false others is e back = back e

-- and its data say one
pub key_in : (octets : List ℕ) (rtype : ℕ) (key : Key) → rtype ≡ DNSKEY → Some key ≡ (if rtype == DNSKEY then key_of octets else None) → key_of octets ≡ Some key
key_in octets rtype key is said = sym (subst (λ (t : ℕ). Some key ≡ (if t == DNSKEY then key_of octets else None)) is said)

-- where it is refused, so is the zone
pub only_refused : (zone : List Record) (own : Record) (key : Key) (why : Refusal) → filter is_key zone ≡ own ∷ [] → key_of own.rdata ≡ Some key → RefusesData key why → RefusesKey zone why
only_refused zone own key refusals.NoKey only is h = absurd h
only_refused zone own key refusals.SeveralKeys only is h = absurd h
only_refused zone own key refusals.NoMemory only is h = tt
only_refused zone own key refusals.ForeignKey only is h = record { own = own; key = key; only = only; is = is; refused = h }
only_refused zone own key refusals.OtherKey only is h = record { own = own; key = key; only = only; is = is; refused = h }
only_refused zone own key (refusals.Text refused) only is h = absurd h
only_refused zone own key refusals.SeveralClasses only is h = absurd h
only_refused zone own key (refusals.Unsigned error) only is h = absurd h
only_refused zone own key refusals.Write only is h = absurd h

-- ---- whatever made a signer fail

sets_anyhow : (sets : List (List Record)) (signers : List Signer) (period : Period) (cause : Type 0) (error : SigningError) → IsSetsRefusal sets signers period cause error
    → IsSetsRefusal sets signers period ⊤ error
sets_anyhow sets signers period cause signing.MultipleTtlValues h = h
sets_anyhow sets signers period cause (signing.InvalidSignatureValidityPeriod inception expiration) h = h
sets_anyhow sets signers period cause (signing.SigningError sign.Failed) h = (h.0, tt)
sets_anyhow sets signers period cause (signing.SigningError sign.NoMemory) h = absurd h
sets_anyhow sets signers period cause signing.OutOfMemory h = tt
sets_anyhow sets signers period cause signing.NoSignatureValidityPeriodProvided h = absurd h
sets_anyhow sets signers period cause signing.SoaRecordCouldNotBeDetermined h = absurd h
sets_anyhow sets signers period cause signing.EmptyRecordSlice h = absurd h
sets_anyhow sets signers period cause signing.RrsigRrsMustNotBeSigned h = absurd h
sets_anyhow sets signers period cause (signing.Nsec3HashingError error) h = absurd h

by_sets : (c : SigningConfig) (signers : List Signer) (cause : Type 0) (apex : Labels) (zone left : List Record) (error : SigningError)
    → RefusesSets c signers cause apex zone zone left error → RefusesSets c signers ⊤ apex zone zone left error
by_sets c signers cause apex zone left error h =
    record { adds = h.adds; whole = h.whole; merged = h.merged; reason = sets_anyhow (sets_to_sign (place apex) h.whole) signers (zone_period c) cause error h.reason }

-- a zone's refusal is told, but for want of memory
told_zone : (c : SigningConfig) (by : Signer) (cause : Type 0) (apex : Labels) (zone left : List Record) (error : SigningError)
    → IsZoneRefusal c (by ∷ []) cause apex zone zone left error → RefusesZone c by apex zone left (of_signing error)
told_zone c by cause apex zone left signing.OutOfMemory h = h
told_zone c by cause apex zone left signing.SoaRecordCouldNotBeDetermined h = h
told_zone c by cause apex zone left (signing.Nsec3HashingError error) h = h
told_zone c by cause apex zone left signing.MultipleTtlValues h = by_sets c (by ∷ []) cause apex zone left signing.MultipleTtlValues h
told_zone c by cause apex zone left (signing.InvalidSignatureValidityPeriod inception expiration) h =
    by_sets c (by ∷ []) cause apex zone left (signing.InvalidSignatureValidityPeriod inception expiration) h
told_zone c by cause apex zone left (signing.SigningError error) h = by_sets c (by ∷ []) cause apex zone left (signing.SigningError error) h
told_zone c by cause apex zone left signing.NoSignatureValidityPeriodProvided h = by_sets c (by ∷ []) cause apex zone left signing.NoSignatureValidityPeriodProvided h
told_zone c by cause apex zone left signing.EmptyRecordSlice h = by_sets c (by ∷ []) cause apex zone left signing.EmptyRecordSlice h
told_zone c by cause apex zone left signing.RrsigRrsMustNotBeSigned h = by_sets c (by ∷ []) cause apex zone left signing.RrsigRrsMustNotBeSigned h

-- the same of the one signer
pub zone_refused : (c : SigningConfig) (signers : List Signer) (by : Signer) (cause : Type 0) (apex : Labels) (zone left : List Record) (error : SigningError) → signers ≡ by ∷ []
    → IsZoneRefusal c signers cause apex zone zone left error → RefusesZone c by apex zone left (of_signing error)
zone_refused c signers by cause apex zone left error same h =
    told_zone c by cause apex zone left error (subst (λ (x : List Signer). IsZoneRefusal c x cause apex zone zone left error) same h)

-- so is that of the key's record
pub key_set_refused : (c : SigningConfig) (own : Record) (cause : Type 0) (error : SigningError) → IsSetRefusal own.rtype (zone_period c) cause error → RefusesKeySet c own (of_signing error)
key_set_refused c own cause signing.OutOfMemory h = tt
key_set_refused c own cause (signing.SigningError sign.Failed) h = (h.0, h.1, tt)
key_set_refused c own cause (signing.SigningError sign.NoMemory) h = absurd h
key_set_refused c own cause (signing.InvalidSignatureValidityPeriod inception expiration) h = h
key_set_refused c own cause signing.RrsigRrsMustNotBeSigned h = h
key_set_refused c own cause signing.SoaRecordCouldNotBeDetermined h = absurd h
key_set_refused c own cause (signing.Nsec3HashingError error) h = absurd h
key_set_refused c own cause signing.MultipleTtlValues h = absurd h
key_set_refused c own cause signing.NoSignatureValidityPeriodProvided h = absurd h
key_set_refused c own cause signing.EmptyRecordSlice h = absurd h

-- ---- the program's own

-- by the program's own configuration
own_config : (c : SigningConfig) → c.denial ≡ configs.Nsec → c.inception ≡ 0 → c.expiration ≡ 1000 → c ≡ config
own_config c denial inception expiration = λ i. record { denial = denial i; inception = inception i; expiration = expiration i }

-- a refusal of its sets, or of its key's record
pub for_its_sets : (zone left : List Record) (own : Record) (by : Signer) (c : SigningConfig) (apex : Labels) (why : Refusal) → IsOwnKey zone own by
    → c.denial ≡ configs.Nsec → c.inception ≡ 0 → c.expiration ≡ 1000 → apex ≡ own.owner → RefusesZone c by apex zone left why → LeavesUnsigned zone why
for_its_sets zone left own by c apex why is denial inception expiration at h =
    for_sets own by left is (subst (λ (x : SigningConfig). RefusesZone x by own.owner zone left why) (own_config c denial inception expiration)
    (subst (λ (x : Labels). RefusesZone c by x zone left why) at h))

pub for_its_key_set : (zone : List Record) (own : Record) (by : Signer) (c : SigningConfig) (why : Refusal) → IsOwnKey zone own by
    → c.denial ≡ configs.Nsec → c.inception ≡ 0 → c.expiration ≡ 1000 → RefusesKeySet c own why → LeavesUnsigned zone why
for_its_key_set zone own by c why is denial inception expiration h =
    for_key_set own by is (subst (λ (x : SigningConfig). RefusesKeySet x own why) (own_config c denial inception expiration) h)

-- no zone is refused for a failed write
no_write : (zone : List Record) → LeavesUnsigned zone refusals.Write → ⊥
no_write zone (for_key h) = h.refused
no_write zone (for_sets own by left is h) = h
no_write zone (for_key_set own by is h) = h

-- what is kept is the same
pub kept_same : (octets : Option (List ℕ)) → Keeps octets octets
kept_same None = tt
kept_same (Some octets) = refl

-- where nothing was sent yet, a refusal is one of the text
pub unwritten : (text : List ℕ) (count : ℕ) (octets : Option (List ℕ)) (why : Refusal) → RefusesText text why → Keeps octets octets → RefusesWrite text count count octets octets why
unwritten text count octets refusals.Write (no_zone h) k = absurd h
unwritten text count octets refusals.Write (unsigned zone says h) k = absurd (no_write zone h)
unwritten text count octets refusals.NoMemory h k = refl
unwritten text count octets (refusals.Text refused) h k = (h, k, refl)
unwritten text count octets refusals.NoKey h k = (h, k, refl)
unwritten text count octets refusals.SeveralKeys h k = (h, k, refl)
unwritten text count octets refusals.ForeignKey h k = (h, k, refl)
unwritten text count octets refusals.OtherKey h k = (h, k, refl)
unwritten text count octets refusals.SeveralClasses h k = (h, k, refl)
unwritten text count octets (refusals.Unsigned error) h k = (h, k, refl)
