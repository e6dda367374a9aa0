-- What the command makes of a zone's records, and why it makes nothing.
use Rattle.std.specs.Prelude.{◌≡◌, ◌≢◌, ◌==◌, ◌&&◌, ◌∷◌, [], List, Bool, false, true, filter, ⊤}
use Rattle.dsec_spec.specs.Names.{Labels, Place, place, same_place}
use Rattle.dsec_spec.specs.Numbers.{IN, DNSKEY}
use Rattle.dsec_spec.specs.Records.{Key, Record, key_octets}
use Rattle.dsec_spec.specs.Signatures.{IsSignature, IsValidPeriod, Period, Signer}
use Rattle.dsec_spec.specs.SignedZones.{IsUnion}
use Rattle.dsec_sorted.specs.Sets.{differ_in_ttl}
use Rattle.dsec_rrsig.specs.Keys.{stand_in_signs}
use Rattle.dsec_rrsig.specs.declared.error.SigningError.{SigningError}
use Rattle.dsec_rrsig.specs.declared.error.SigningError.TheVariants as signing
use Rattle.dsec_signing.specs.declared.words.SignWords.{SignWords}
use Rattle.dsec_signing.specs.declared.words.Denial.{Denial}
use Rattle.dsec_signing.specs.declared.words.Denial.TheVariants as denials
use Rattle.dsec_sorted.specs.declared.config.DenialConfig.{DenialConfig}
use Rattle.dsec_sorted.specs.declared.config.DenialConfig.TheVariants as configs
use Rattle.dsec_sign.specs.declared.config.SigningConfig.{SigningConfig}
use Rattle.dsec_sign.specs.ZoneSigning.{IsZoneRefusal, SignsZone}

-- a key's DNSKEY record at the apex, with a TTL of this project's choice (RFC 4034 2.1)
abbrev pub dnskey_record : Labels → Key → Record
dnskey_record apex key = record { owner = apex; class = IN; rtype = DNSKEY; ttl = 3600; rdata = key_octets key }

-- that of the words
abbrev pub key_record : SignWords → Record
key_record words = dnskey_record words.apex words.key

-- who signs, and for how long
abbrev pub signer_of : SignWords → Signer
signer_of words = record { owner = words.apex; key = words.key }

abbrev pub period_of : SignWords → Period
period_of words = record { inception = words.inception; expiration = words.expiration }

-- the DNSKEY set at the apex, which isn't signed with the zone's other sets
abbrev pub is_apex_key : Place → Record → Bool
is_apex_key apex r = same_place (place r.owner) apex && (r.class == IN) && (r.rtype == DNSKEY)

abbrev pub keys_at : Place → List Record → List Record
keys_at apex records = filter (is_apex_key apex) records

-- The DNSKEY set is signed: its records are of one TTL, signatures may have the period, and this is the one over the set (RFC 4035 2.2).
pub record IsKeySetSigned (by : Signer) (period : Period) (keys : List Record) (signature : Record) : Type 0 where
  pub ttl : differ_in_ttl keys ≡ false
  pub valid : IsValidPeriod period
  pub made : IsSignature stand_in_signs period (keys, by) signature

-- why it isn't: there is none, its records differ in TTL, or no signature may have the period
abbrev pub IsKeySetRefusal : Period → List Record → SigningError → Type 0
IsKeySetRefusal period keys signing.EmptyRecordSlice = keys ≡ []
IsKeySetRefusal period keys signing.MultipleTtlValues = differ_in_ttl keys ≡ true
IsKeySetRefusal period keys (signing.InvalidSignatureValidityPeriod inception expiration) =
    (IsValidPeriod period → ⊥) × (inception ≡ period.inception) × (expiration ≡ period.expiration)
IsKeySetRefusal period keys signing.OutOfMemory = ⊤
IsKeySetRefusal period keys _ = ⊥

-- the chain that the words ask for: NSEC3 records without iterations, salt and Opt-Out (RFC 9276 3.1)
abbrev pub denial_of : Denial → DenialConfig
denial_of denials.Nsec = configs.Nsec
denial_of denials.Nsec3 = configs.Nsec3 (record { iterations = 0; salt = []; opt_out = false })

-- how the zone is signed
abbrev pub config_of : SignWords → SigningConfig
config_of words = record { denial = denial_of words.denial; inception = words.inception; expiration = words.expiration }

-- The zone's records and the key's, of duplicates the first, and these signed: with the chain and the signatures.
pub record IsZoneSigned (words : SignWords) (source zone whole : List Record) : Type 0 where
  pub with_key : IsUnion source (key_record words ∷ []) zone
  pub signed : SignsZone stand_in_signs (config_of words) (signer_of words ∷ []) words.apex zone zone whole

-- What is made of a zone's records: the key's record is added; then the chain that the words ask for and the signatures, where nothing
-- stands against it; then the signature over the DNSKEY set. All stand in canonical order.
pub record IsMade (words : SignWords) (source made : List Record) : Type 0 where
  pub zone : List Record
  pub whole : List Record
  pub zone_signed : IsZoneSigned words source zone whole
  pub signature : Record
  pub keys_signed : IsKeySetSigned (signer_of words) (period_of words) (keys_at (place words.apex) whole) signature
  pub all : IsUnion whole (signature ∷ []) made

-- why nothing is made, or memory is wanted: the zone isn't signed, the stand-in's key having no faults; or its DNSKEY set isn't
pub data Hinders (words : SignWords) (source : List Record) : SigningError → Type 0 where
  of_zone : (zone left : List Record) (error : SigningError) → IsUnion source (key_record words ∷ []) zone
      → IsZoneRefusal (config_of words) (signer_of words ∷ []) ⊥ words.apex zone zone left error → Hinders words source error
  of_keys : (zone whole : List Record) (error : SigningError) → IsZoneSigned words source zone whole
      → IsKeySetRefusal (period_of words) (keys_at (place words.apex) whole) error → Hinders words source error

-- why nothing is made; want of memory is no such reason
pub record IsUnsigned (words : SignWords) (source : List Record) (error : SigningError) : Type 0 where
  pub told : error ≢ signing.OutOfMemory
  pub why : Hinders words source error
