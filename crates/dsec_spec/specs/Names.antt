-- Domain names, and where they stand in the tree below the root (RFC 1035 3.1, RFC 4034 6.1).
use Rattle.std.specs.Prelude.{◌≡◌, ℕ, ◌+◌, ◌<◌, ◌≤◌, ◌&&◌, nat_lt, List, [], ◌∷◌, ◌++◌, length, take, map, reverse, sum_by, All, Bool, if◌then◌else◌}
use Rattle.std.specs.List.{flat_map}
use Rattle.std.specs.Char.{to_ascii_lowercase}
use Rattle.std.specs.Str.{bytes_eq}
use Rattle.std.specs.Cmp.Lexicographic.{slice_cmp, pointwise}
use Rattle.std.specs.Ordering.{nat_cmp, on}
use Rattle.std.specs.declared.cmp.Ordering.{Ordering}
use Rattle.std.specs.declared.cmp.Ordering.TheVariants.{Less}

-- a name's labels, the leftmost first and without the root's, each the octets as they came (RFC 1035 3.1)
abbrev pub Labels : Type 0
Labels = List (List ℕ)

-- a label has 1 to 63 octets (RFC 1035 2.3.4)
pub record IsLabel (label : List ℕ) : Type 0 where
  pub not_empty : 0 < length label
  pub at_most : length label ≤ 63

-- how many octets a name has on the wire: each label's with its length, and the root's (RFC 1035 3.1)
abbrev pub wire_length : Labels → ℕ
wire_length name = sum_by (λ label. length label + 1) name + 1

-- a name on the wire has at most 255 octets (RFC 1035 2.3.4)
pub record IsName (name : Labels) : Type 0 where
  pub labels : All IsLabel name
  pub at_most : wire_length name ≤ 255

-- a label on the wire: its length, and its octets (RFC 1035 3.1)
abbrev pub label_octets : List ℕ → List ℕ
label_octets label = length label ∷ label

-- a name on the wire, uncompressed: its labels, and the root's length 0 (RFC 1035 3.1)
abbrev pub wire_octets : Labels → List ℕ
wire_octets name = flat_map label_octets name ++ 0 ∷ []

-- a name in lower case (RFC 4034 6.2)
abbrev pub lower : Labels → Labels
lower name = map (map to_ascii_lowercase) name

-- a name's canonical octets: uncompressed and in lower case (RFC 4034 6.2)
abbrev pub canonical_octets : Labels → List ℕ
canonical_octets name = wire_octets (lower name)

-- where a name stands in the tree: its labels from the root down, in lower case. Names are equal
-- where their places are (RFC 4343 3)
abbrev pub Place : Type 0
Place = List (List ℕ)

-- the place of a name
abbrev pub place : Labels → Place
place name = reverse (lower name)

-- whether two places are the same
abbrev pub same_place : Place → Place → Bool
same_place = pointwise bytes_eq

-- the canonical order: from the root down, each label as a string of octets, a missing one first (RFC 4034 6.1)
abbrev pub place_cmp : Place → Place → Ordering
place_cmp = slice_cmp (slice_cmp nat_cmp)

-- the canonical order of names (RFC 4034 6.1)
abbrev pub name_cmp : Labels → Labels → Ordering
name_cmp = on place place_cmp

-- m comes before n in the canonical order
abbrev pub Before : Place → Place → Type 0
Before m n = place_cmp m n ≡ Less

-- n is z, or a name under it (RFC 1034 3.1)
pub record IsAtOrBelow (n z : Place) : Type 0 where
  pub under : Place
  pub is : n ≡ z ++ under

-- n is a name under z, and not z (RFC 1034 3.1)
pub record IsStrictlyBelow (n z : Place) : Type 0 where
  pub next : List ℕ
  pub under : Place
  pub is : n ≡ z ++ next ∷ under

-- whether n is z, or a name under it
abbrev pub is_below : Place → Place → Bool
is_below n z = same_place (take (length z) n) z

-- whether n is a name under z, and not z
abbrev pub is_strictly_below : Place → Place → Bool
is_strictly_below n z = is_below n z && nat_lt (length z) (length n)

-- the label of a wildcard, `*` (RFC 4592 2.1.1)
abbrev pub asterisk : List ℕ
asterisk = 42 ∷ []

-- how many labels a name has, the root's among them
abbrev pub label_count : Labels → ℕ
label_count name = length name + 1

-- how many labels an RRSIG record counts: neither the root's nor a leftmost `*` (RFC 4034 3.1.3)
abbrev pub rrsig_label_count : Labels → ℕ
rrsig_label_count [] = 0
rrsig_label_count (label ∷ name) = if bytes_eq label asterisk then length name else length name + 1
