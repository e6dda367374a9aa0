-- How calls ask signers: how often, and for signatures over which messages.
use Rattle.std.specs.Prelude.{◌≡◌, ◌<◌, ◌⊎◌, ◌∷◌, [], ℕ, List, Option, Result, Ok, Err, OnOk, length, map, take}
use Rattle.std.specs.List.{AllZip}
use Rattle.dsec_spec.specs.Names.{Labels, place}
use Rattle.dsec_spec.specs.Records.{Key, Record}
use Rattle.dsec_spec.specs.Signatures.{Period}
use Rattle.dsec_spec.specs.SignedZones.{IsUnion, sets_to_sign}
use Rattle.dsec_rrsig.specs.Asks.{Asked, asked_for, asked_of, asked_untold}
use Rattle.dsec_rrsig.specs.Made.{message_for}
use Rattle.dsec_rrsig.specs.declared.error.SignError.{SignError}
use Rattle.dsec_rrsig.specs.declared.error.SigningError.{SigningError}
use Rattle.dsec_rrsig.specs.declared.error.SigningError.TheVariants as signing
use Rattle.dsec_rrsig.specs.declared.signing_key.SigningKey.{SigningKey}
use Rattle.dsec_sign.specs.ZoneChains.{IsChainOf}
use Rattle.dsec_sign.specs.ZoneSigning.{zone_period}
use Rattle.dsec_sign.specs.declared.config.SigningConfig.{SigningConfig}

-- keys, as they were asked so far
abbrev pub all_asked : {I : Type 0} → (I → Key) → (I → ℕ) → (I → Option (List (List ℕ))) → List (SigningKey I) → List Asked
all_asked key_of times_of given_of keys = map (asked_of key_of times_of given_of) keys

-- a signer was asked once more, for its signature over the set: for one over the message of RFC 4034 3.1.8.1
abbrev pub asked_to_sign : Period → List Record → Asked → Asked
asked_to_sign period set before = asked_for (message_for before.by period set) before

-- and so for each of sets, in order
abbrev pub asked_for_each : Period → List (List Record) → Asked → Asked
asked_for_each period [] before = before
asked_for_each period (set ∷ sets) before = asked_for_each period sets (asked_to_sign period set before)

-- each signer was asked for its signature over each of the sets, and for nothing else
abbrev pub AreAsked : Period → List (List Record) → List Asked → List Asked → Type 0
AreAsked period sets old new = new ≡ map (asked_for_each period sets) old

-- a signer was asked for its signatures over the first so many of the sets, and for nothing else; of the last of these, which is one of the
-- sets, it doesn't tell that where memory was wanted
pub record AskedAtMost (period : Period) (sets : List (List Record)) (before now : Asked) : Type 0 where
  pub many : ℕ
  pub is : (now ≡ asked_for_each period (take many sets) before) ⊎ ((many < length sets) × (now ≡ asked_untold (asked_for_each period (take many sets) before)))

-- each of signers was
abbrev pub AreAskedAtMost : Period → List (List Record) → List Asked → List Asked → Type 0
AreAskedAtMost period sets old new = AllZip (AskedAtMost period sets) old new

-- to sign sets each key is asked once for each set; where there are no signatures, for the first of them at most
abbrev pub AskSignings : {T : Type 0} → Period → List (List Record) → List Asked → List Asked → Result T SignError → Type 0
AskSignings period sets old new (Ok value) = AreAsked period sets old new
AskSignings period sets old new (Err error) = AreAskedAtMost period sets old new

-- the same where signing is refused for it: where a set is refused itself, or the period, no key is asked
abbrev pub AskRefusals : {T : Type 0} → Period → List (List Record) → List Asked → List Asked → Result T SigningError → Type 0
AskRefusals period sets old new (Ok value) = AreAsked period sets old new
AskRefusals period sets old new (Err (signing.SigningError error)) = AreAskedAtMost period sets old new
AskRefusals period sets old new (Err signing.OutOfMemory) = AreAskedAtMost period sets old new
AskRefusals period sets old new (Err error) = new ≡ old

-- the same of a zone and its chain, merged
pub record AskMerged {T : Type 0} (config : SigningConfig) (apex : Labels) (zone : List Record) (old new : List Asked) (result : Result T SigningError) : Type 0 where
  pub chain : List Record
  pub made : IsChainOf config.denial apex zone chain
  pub whole : List Record
  pub merged : IsUnion zone chain whole
  pub asks : AskRefusals (zone_period config) (sets_to_sign (place apex) whole) old new result

-- To sign a zone each key is asked once for each set of zone and chain merged that is signed. Where these aren't merged no key is asked
abbrev pub AskZone : {T : Type 0} → SigningConfig → Labels → List Record → List Asked → List Asked → Result T SigningError → Type 0
AskZone config apex zone old new result = (OnOk result ⊥ × (new ≡ old)) ⊎ AskMerged config apex zone old new result
