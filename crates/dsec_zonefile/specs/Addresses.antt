-- Addresses as text.
use Rattle.std.specs.Prelude.{◌≡◌, ℕ, ◌+◌, List, [], ◌∷◌, take, drop, position, Bool, Option, Some, ◌==◌}
use Rattle.std.specs.Option.{option_map}
use Rattle.std.specs.Net.Addr.{octets_of}
use Rattle.std.specs.Net.Grammar.{IsColonHex}
use Rattle.std.specs.Net.Reader.{read_ipv6, whole_value}
use Rattle.dsec_spec.specs.Reading.{◌>>=◌}
use Rattle.dsec_word.specs.Numbers.{number_of}

-- `.`
abbrev pub is_dot : ℕ → Bool
is_dot octet = octet == 46

-- the number below 256 before the first dot, and the text after the dot
abbrev pub before_dot : List ℕ → Option (ℕ × List ℕ)
before_dot text = do
  at ← position is_dot text
  number ← number_of 255 (take at text)
  Some (number, drop (at + 1) text)

-- the octets of an IPv4 address: four decimal numbers below 256 with dots between them (RFC 1035 3.4.1)
abbrev pub ipv4_in : List ℕ → Option (List ℕ)
ipv4_in text = do
  a ← before_dot text
  b ← before_dot a.1
  c ← before_dot b.1
  d ← number_of 255 c.1
  Some (a.0 ∷ b.0 ∷ c.0 ∷ d ∷ [])

-- a text writes the octets of an IPv6 address: eight groups of hex digits, some of them as `::`, the last two as an
-- IPv4 address where so wanted (RFC 4291 2.2)
abbrev pub WritesIpv6 : List ℕ → List ℕ → Type 0
WritesIpv6 text octets = (segments : List ℕ) × IsColonHex text segments × (octets ≡ octets_of segments)

-- the octets of the IPv6 address that a text writes: the function that `WritesIpv6` is the graph of
abbrev pub ipv6_in : List ℕ → Option (List ℕ)
ipv6_in text = option_map octets_of (whole_value (read_ipv6 text))
