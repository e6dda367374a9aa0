-- What the program makes of a zone text.
use Rattle.std.specs.Prelude.{◌≡◌, ◌==◌, ◌∷◌, [], ℕ, List, Bool, Option, Some, None, Ok, filter}
use Rattle.std.specs.Io.KnownBytes.{Appends}
use Rattle.dsec_spec.specs.Numbers.{DNSKEY}
use Rattle.dsec_spec.specs.Outside.{SentFront}
use Rattle.dsec_spec.specs.Records.{Record, key_of}
use Rattle.dsec_spec.specs.Signatures.{IsSignature, Period, Signer}
use Rattle.dsec_spec.specs.Signed.{IsZoneKey}
use Rattle.dsec_spec.specs.SignedZones.{IsUnion}
use Rattle.dsec_record_text.specs.Parts.{SentPart}
use Rattle.dsec_record_text.specs.RecordText.{records_text}
use Rattle.dsec_record_text.specs.TextBack.{ReadsAs}
use Rattle.dsec_rrsig.specs.Keys.{stand_in_signs}
use Rattle.dsec_sign.specs.ZoneSigning.{SignsZone, zone_period}
use Rattle.dsec_sign.specs.declared.config.SigningConfig.{SigningConfig}
use Rattle.dsec_sorted.specs.declared.config.DenialConfig.TheVariants as configs
use Rattle.dsec_signing.specs.Zone.{SaysSource}

abbrev pub is_key : Record → Bool
is_key r = r.rtype == DNSKEY

-- a record as a list, if there is one
abbrev pub listed : Option Record → List Record
listed None = []
listed (Some r) = r ∷ []

-- the record is the only one of a key, which is for zone data, and this signs by that key as its owner (RFC 4034 2, 2.1.1, 3.1.7)
pub record IsOwnKey (zone : List Record) (own : Record) (by : Signer) : Type 0 where
  pub only : filter is_key zone ≡ own ∷ []
  pub owner : by.owner ≡ own.owner
  pub key : key_of own.rdata ≡ Some by.key
  pub zone_key : IsZoneKey by.key

-- by NSEC, with signatures that count from the moment 0 to the moment 1000 (RFC 4034 3.1.5)
abbrev pub config : SigningConfig
config = record { denial = configs.Nsec; inception = 0; expiration = 1000 }

-- the signature over the record of a key by that key was added
pub record SignsKey (period : Period) (own : Record) (by : Signer) (old new : List Record) : Type 0 where
  pub signature : Record
  pub made : IsSignature stand_in_signs period (own ∷ [], by) signature
  pub added : IsUnion old (signature ∷ []) new

-- The zone is signed by its own key: its NSEC records and a signature of each set that is to be signed, that of its key among them, but for CDS and
-- CDNSKEY sets at the apex (RFC 4035 2), were added, and nothing else.
pub record SignsWhole (zone made : List Record) : Type 0 where
  pub own : Record
  pub by : Signer
  pub is_own : IsOwnKey zone own by
  pub signed : List Record
  pub is_signed : SignsZone stand_in_signs config (by ∷ []) own.owner zone zone signed
  pub key_signed : SignsKey (zone_period config) own by signed made

-- the text says a zone, of these records, which stand in canonical order, of duplicates the first
pub record SaysZone (text : List ℕ) (zone : List Record) : Type 0 where
  pub source : List Record
  pub says : SaysSource text (Ok source)
  pub sorted : IsUnion [] source zone

-- the text says a zone, and this is that zone signed
pub record SignsText (text : List ℕ) (made : List Record) : Type 0 where
  pub zone : List Record
  pub says : SaysZone text zone
  pub whole : SignsWhole zone made

-- the text of such a zone went out, which reads back as the zone
pub record WritesSigned (text : List ℕ) (before after : Option (List ℕ)) : Type 0 where
  pub made : List Record
  pub signs : SignsText text made
  pub sent : Appends before after (records_text made)
  pub back : ReadsAs (records_text made) made

-- a front of that text did
pub record WritesFront (text : List ℕ) (before after : Option (List ℕ)) : Type 0 where
  pub made : List Record
  pub signs : SignsText text made
  pub sent : SentFront before after (records_text made)

-- a front of it, and not all
pub record WritesPart (text : List ℕ) (before after : Option (List ℕ)) : Type 0 where
  pub made : List Record
  pub signs : SignsText text made
  pub sent : SentPart before after (records_text made)
