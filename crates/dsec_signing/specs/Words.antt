-- The words of the command `sign`.
use Rattle.std.specs.Prelude.{ℕ, ◌&&◌, nat_lt, nat_le, List, [], ◌∷◌, length, Option, Some, None, codes, if◌then◌else◌}
use Rattle.std.specs.Str.{bytes_eq}
use Rattle.dsec_spec.specs.Reading.{◌>>=◌}
use Rattle.dsec_spec.specs.Records.{Key}
use Rattle.dsec_word.specs.Numbers.{number_of}
use Rattle.dsec_word.specs.Words.{hex_in, name_in}
use Rattle.dsec_signing.specs.declared.words.Denial.{Denial}
use Rattle.dsec_signing.specs.declared.words.Denial.TheVariants as denials
use Rattle.dsec_signing.specs.declared.words.SignWords.{SignWords}

-- the key of these octets, if there are 1 to 64: one for zone data and a secure entry point, of algorithm 13 (RFC 4034 2.1)
abbrev pub key_by : List ℕ → Option Key
key_by octets =
    if nat_lt 0 (length octets) && nat_le (length octets) 64 then Some (record { flags = 257; protocol = 3; algorithm = 13; public_key = octets }) else None

-- a key in hex
abbrev pub key_in : List ℕ → Option Key
key_in word = do
  octets ← hex_in word
  key_by octets

-- a moment in seconds, in decimal digits, below 2 ^ 32 (RFC 4034 3.1.5)
abbrev pub moment_in : List ℕ → Option ℕ
moment_in word = number_of 4294967295 word

-- how the zone is to deny what it hasn't
abbrev pub denial_in : List ℕ → Option Denial
denial_in word = if bytes_eq word (codes "nsec") then Some denials.Nsec else if bytes_eq word (codes "nsec3") then Some denials.Nsec3 else None

-- the words after `sign`: apex, key, inception, expiration, denial
abbrev pub words_in : List ℕ → List ℕ → List ℕ → List ℕ → List ℕ → Option SignWords
words_in apex key inception expiration denial = do
  apex ← name_in apex
  key ← key_in key
  inception ← moment_in inception
  expiration ← moment_in expiration
  denial ← denial_in denial
  Some (record { apex = apex; key = key; inception = inception; expiration = expiration; denial = denial })

-- what words say, if they are those of the command
abbrev pub sign_in : List (List ℕ) → Option SignWords
sign_in (command ∷ apex ∷ key ∷ inception ∷ expiration ∷ denial ∷ []) =
    if bytes_eq command (codes "sign") then words_in apex key inception expiration denial else None
sign_in _ = None
