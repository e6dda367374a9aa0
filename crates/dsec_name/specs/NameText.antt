-- Names as text (RFC 1035 5.1): what it is for a text to write a name.
use Rattle.std.specs.Prelude.{◌≢◌, ℕ, ◌+◌, ◌-◌, ◌*◌, ◌<◌, ◌≤◌, List, [], ◌∷◌, ◌++◌, length}
use Rattle.std.specs.Char.{IsAsciiDigit, IsNotAsciiDigit}
use Rattle.dsec_spec.specs.Names.{Labels}

-- the number that three digits write
abbrev pub number_of : ℕ → ℕ → ℕ → ℕ
number_of a b c = 100 * (a - 48) + 10 * (b - 48) + (c - 48)

-- a text writes an octet: as itself, unless it is `.` (46) or `\` (92); as `\` and the octet, where
-- that is no digit; or as `\` and three digits of its value
pub data WritesOctet : ℕ → List ℕ → Type 0 where
  plain : (octet : ℕ) → octet ≢ 46 → octet ≢ 92 → WritesOctet octet (octet ∷ [])
  quoted : (octet : ℕ) → IsNotAsciiDigit octet → WritesOctet octet (92 ∷ octet ∷ [])
  numbered : (a b c : ℕ) → IsAsciiDigit a → IsAsciiDigit b → IsAsciiDigit c → number_of a b c ≤ 255 → WritesOctet (number_of a b c) (92 ∷ a ∷ b ∷ c ∷ [])

-- a text writes octets, one after the other
pub data WritesOctets : List ℕ → List ℕ → Type 0 where
  none : WritesOctets [] []
  more : (octet : ℕ) (octets first rest : List ℕ) → WritesOctet octet first → WritesOctets octets rest → WritesOctets (octet ∷ octets) (first ++ rest)

-- a text writes labels: each has an octet at least, and between two of them is a `.`
pub data WritesLabels : Labels → List ℕ → Type 0 where
  last : (label text : List ℕ) → 0 < length label → WritesOctets label text → WritesLabels (label ∷ []) text
  before : (label : List ℕ) (labels : Labels) (text rest : List ℕ) → 0 < length label → WritesOctets label text → WritesLabels labels rest → WritesLabels (label ∷ labels) (text ++ 46 ∷ rest)

-- a text writes a name: the root is a lone `.`, and any other is its labels, with or without a `.` at the end
pub data WritesName : Labels → List ℕ → Type 0 where
  root : WritesName [] (46 ∷ [])
  open_ended : (labels : Labels) (text : List ℕ) → WritesLabels labels text → WritesName labels text
  ended : (labels : Labels) (text : List ℕ) → WritesLabels labels text → WritesName labels (text ++ 46 ∷ [])

-- a text writes a name in a zone: the root is a lone `.`; labels without a `.` at the end are relative to
-- the origin, whose labels follow; with a `.` at the end they are the name (RFC 1035 5.1)
pub data WritesNameIn (origin : Labels) : Labels → List ℕ → Type 0 where
  root : WritesNameIn origin [] (46 ∷ [])
  relative : (labels : Labels) (text : List ℕ) → WritesLabels labels text → WritesNameIn origin (labels ++ origin) text
  absolute : (labels : Labels) (text : List ℕ) → WritesLabels labels text → WritesNameIn origin labels (text ++ 46 ∷ [])
