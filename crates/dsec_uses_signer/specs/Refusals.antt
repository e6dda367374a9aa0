-- Why the zone of a text isn't signed by its own key.
use Rattle.std.specs.Prelude.{◌≡◌, ◌<◌, ◌⊎◌, ◌∷◌, [], ⊤, ℕ, List, Option, Some, Err, filter, length}
use Rattle.std.specs.Io.KnownBytes.{Keeps}
use Rattle.dsec_spec.specs.CanonicalRecords.{AreOfOneClass}
use Rattle.dsec_spec.specs.Names.{Labels}
use Rattle.dsec_spec.specs.Outside.{risen}
use Rattle.dsec_spec.specs.Records.{Key, Record, key_of}
use Rattle.dsec_spec.specs.Signatures.{Signer}
use Rattle.dsec_spec.specs.Signed.{IsZoneKey}
use Rattle.dsec_rrsig.specs.Keys.{HasAlgorithm, HasProtocol, IsShort}
use Rattle.dsec_rrsig.specs.Made.{IsSetRefusal}
use Rattle.dsec_rrsig.specs.declared.error.SigningError.{SigningError}
use Rattle.dsec_rrsig.specs.declared.error.SigningError.TheVariants as signing
use Rattle.dsec_sign.specs.ZoneSigning.{AddsChain, IsZoneRefusal, zone_period}
use Rattle.dsec_sign.specs.declared.config.SigningConfig.{SigningConfig}
use Rattle.dsec_signing.specs.Zone.{SaysSource}
use Rattle.dsec_signing.specs.declared.error.SourceError.{SourceError}
use Rattle.dsec_signing.specs.declared.error.SourceError.TheVariants as sources
use Rattle.dsec_uses_signer.specs.Whole.{IsOwnKey, SaysZone, config, is_key}
use Rattle.dsec_uses_signer.specs.declared.refusal.Refusal.{Refusal}
use Rattle.dsec_uses_signer.specs.declared.refusal.Refusal.TheVariants as refusals

-- a refusal of text, and one of signing; want of memory is told as such
abbrev pub of_source : SourceError → Refusal
of_source (sources.Refused refused) = refusals.Text refused
of_source sources.NoMemory = refusals.NoMemory

abbrev pub of_signing : SigningError → Refusal
of_signing signing.OutOfMemory = refusals.NoMemory
of_signing error = refusals.Unsigned error

-- why a text says no zone; memory may be wanted at any time, here and below
abbrev pub SaysNone : List ℕ → Refusal → Type 0
SaysNone text (refusals.Text refused) = SaysSource text (Err refused)
SaysNone text refusals.NoMemory = ⊤
SaysNone text _ = ⊥

-- the signer takes the key, for its protocol, its algorithm and its length
pub record IsOfSigner (key : Key) : Type 0 where
  pub protocol : HasProtocol key
  pub algorithm : HasAlgorithm key
  pub short : IsShort key

-- why nobody signs by a key: the signer doesn't take it, or it isn't for zone data (RFC 4034 2.1.1)
abbrev pub RefusesData : Key → Refusal → Type 0
RefusesData key refusals.ForeignKey = IsOfSigner key → ⊥
RefusesData key refusals.OtherKey = IsZoneKey key → ⊥
RefusesData key refusals.NoMemory = ⊤
RefusesData key _ = ⊥

-- the zone's only key is refused so
pub record RefusesOnly (zone : List Record) (why : Refusal) : Type 0 where
  pub own : Record
  pub key : Key
  pub only : filter is_key zone ≡ own ∷ []
  pub is : key_of own.rdata ≡ Some key
  pub refused : RefusesData key why

-- why a zone has no key of its own: it has none, or several, or the only one is refused
abbrev pub RefusesKey : List Record → Refusal → Type 0
RefusesKey zone refusals.NoKey = filter is_key zone ≡ []
RefusesKey zone refusals.SeveralKeys = 1 < length (filter is_key zone)
RefusesKey zone refusals.NoMemory = ⊤
RefusesKey zone why = RefusesOnly zone why

-- why the sets of a zone but its keys aren't signed, and these records are left; a signer may fail. Where memory was wanted the zone is left, or its
-- whole chain was added
abbrev pub RefusesZone : SigningConfig → Signer → Labels → List Record → List Record → Refusal → Type 0
RefusesZone c by apex zone left refusals.SeveralClasses = (AreOfOneClass zone → ⊥) × (left ≡ zone)
RefusesZone c by apex zone left (refusals.Unsigned error) = IsZoneRefusal c (by ∷ []) ⊤ apex zone zone left error
RefusesZone c by apex zone left refusals.NoMemory = (left ≡ zone) ⊎ AddsChain c.denial apex zone zone left
RefusesZone c by apex zone left _ = ⊥

-- why the record of the key isn't; a signer may fail here too
abbrev pub RefusesKeySet : SigningConfig → Record → Refusal → Type 0
RefusesKeySet c own (refusals.Unsigned error) = IsSetRefusal own.rtype (zone_period c) ⊤ error
RefusesKeySet c own refusals.NoMemory = ⊤
RefusesKeySet c own _ = ⊥

-- why a zone isn't signed by its own key: it has none, or its other sets aren't signed, or behind them that of its key
pub data LeavesUnsigned (zone : List Record) (why : Refusal) : Type 0 where
  for_key : RefusesKey zone why → LeavesUnsigned zone why
  for_sets : (own : Record) (by : Signer) (left : List Record) → IsOwnKey zone own by → RefusesZone config by own.owner zone left why → LeavesUnsigned zone why
  for_key_set : (own : Record) (by : Signer) → IsOwnKey zone own by → RefusesKeySet config own why → LeavesUnsigned zone why

-- why the zone of a text isn't: the text says none, or one that isn't signed
pub data RefusesText (text : List ℕ) (why : Refusal) : Type 0 where
  no_zone : SaysNone text why → RefusesText text why
  unsigned : (zone : List Record) → SaysZone text zone → LeavesUnsigned zone why → RefusesText text why

-- why it isn't written: a write failed, once; or the zone isn't signed, and nothing went out. Memory may be wanted before and in between.
-- The counts are of failed writes, and the octets what went out, before and after
abbrev pub RefusesWrite : List ℕ → ℕ → ℕ → Option (List ℕ) → Option (List ℕ) → Refusal → Type 0
RefusesWrite text old new before after refusals.Write = new ≡ risen old
RefusesWrite text old new before after refusals.NoMemory = new ≡ old
RefusesWrite text old new before after why = RefusesText text why × Keeps before after × (new ≡ old)
