-- The text of a name as it is shown (RFC 1035 5.1).
use Rattle.std.specs.Prelude.{ℕ, ◌+◌, ◌/◌, ◌%◌, List, [], ◌∷◌, ◌++◌, Bool, ◌||◌, ◌==◌, if◌then◌else◌}
use Rattle.std.specs.Char.{is_ascii_alphanumeric}
use Rattle.std.specs.List.{flat_map}
use Rattle.dsec_spec.specs.Names.{Labels}

-- whether an octet is shown as itself: a letter, a digit, `-`, `_` or `*`
abbrev pub is_shown : ℕ → Bool
is_shown octet = is_ascii_alphanumeric octet || (octet == 45 || (octet == 95 || octet == 42))

-- an octet as shown: as itself, or as `\` and its value in three digits
abbrev pub octet_text : ℕ → List ℕ
octet_text octet = if is_shown octet then octet ∷ [] else 92 ∷ (48 + octet / 100) ∷ (48 + octet / 10 % 10) ∷ (48 + octet % 10) ∷ []

-- a label's octets as shown
abbrev pub octets_text : List ℕ → List ℕ
octets_text label = flat_map octet_text label

-- a label as shown, with a `.` after it
abbrev pub label_text : List ℕ → List ℕ
label_text label = octets_text label ++ 46 ∷ []

-- a name as shown: its labels, or `.` for the root
abbrev pub name_text : Labels → List ℕ
name_text [] = 46 ∷ []
name_text (label ∷ name) = flat_map label_text (label ∷ name)
