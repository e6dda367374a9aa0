-- Names in messages, which may end in a pointer to an earlier place (RFC 1035 4.1.4).
use Rattle.std.specs.Prelude.{◌≡◌, ℕ, zero, suc, ◌+◌, ◌-◌, ◌*◌, ◌<◌, ◌≤◌, ◌==◌, nat_lt, nat_le, List, [], ◌∷◌, length, drop, slice_range, Option, Some, None, if◌then◌else◌}
use Rattle.dsec_spec.specs.Reading.{◌>>=◌}
use Rattle.dsec_spec.specs.Names.{Labels, IsLabel, IsName, label_octets}

-- these octets stand at this place of the message
abbrev pub IsAt : List ℕ → ℕ → List ℕ → Type 0
IsAt message at octets = slice_range message at (at + length octets) ≡ octets

-- A name stands at a place, by so many pointers, and the message goes on after it: the root's 0; a label and
-- the rest of the name; or two octets that point to a smaller place, where the rest stands (RFC 1035 4.1.4).
pub data IsNameAt (message : List ℕ) : ℕ → ℕ → Labels → ℕ → Type 0 where
  root_there : (at : ℕ) → IsAt message at (0 ∷ []) → IsNameAt message 0 at [] (at + 1)
  label_there : (pointers at : ℕ) (label : List ℕ) (others : Labels) (after : ℕ) → IsLabel label → IsAt message at (label_octets label)
      → IsNameAt message pointers (at + 1 + length label) others after → IsNameAt message pointers at (label ∷ others) after
  pointer_there : (pointers at high low : ℕ) (labels : Labels) (after : ℕ) → 192 ≤ high → IsAt message at (high ∷ low ∷ []) → (high - 192) * 256 + low < at
      → IsNameAt message pointers ((high - 192) * 256 + low) labels after → IsNameAt message (suc pointers) at labels (at + 2)

-- a name that may be read there: by at most 255 pointers, and with at most 255 octets on the wire
pub record IsReadableName (message : List ℕ) (at : ℕ) (name : Labels) (after : ℕ) : Type 0 where
  pub pointers : ℕ
  pub stands : IsNameAt message pointers at name after
  pub few : pointers ≤ 255
  pub short : IsName name

-- what a name begins with: the root's 0, a label of so many octets, or a pointer to a place
pub data Head : Type 0 where
  root : Head
  label : ℕ → Head
  pointer : ℕ → Head

-- a pointer, by its first octet and those after it; it stands at a place and leads to a smaller one
abbrev pub pointer_in : ℕ → ℕ → List ℕ → Option Head
pointer_in at high [] = None
pointer_in at high (low ∷ octets) = let target = (high - 192) * 256 + low in if nat_lt target at then Some (pointer target) else None

-- the head at the front of these octets, which stand at this place
abbrev pub head_in : ℕ → List ℕ → Option Head
head_in at [] = None
head_in at (first ∷ octets) =
    if first == 0 then Some root else
    if nat_lt first 64 then (if nat_le first (length octets) then Some (label first) else None) else
    if nat_lt first 192 then None else pointer_in at first octets

-- the head at a place
abbrev pub head_at : List ℕ → ℕ → Option Head
head_at message at = head_in at (drop at message)

-- a name that was read, and the place after it
abbrev pub NameRead : Type 0
NameRead = Labels × ℕ

-- a label in front of what was read
abbrev pub with_label : List ℕ → NameRead → Option NameRead
with_label first name = Some (first ∷ name.0, name.1)

-- what was read, with the place after the pointer that led to it
abbrev pub ending_at : ℕ → NameRead → Option NameRead
ending_at after name = Some (name.0, after)

-- what follows a head: `others` reads the rest, by at most so many pointers and octets
abbrev pub after_head : (ℕ → ℕ → ℕ → Option NameRead) → List ℕ → ℕ → ℕ → ℕ → Head → Option NameRead
after_head others message at pointers room root = Some ([], at + 1)
after_head others message at pointers room (label size) =
    if nat_lt room (size + 2) then None else
    others (at + 1 + size) pointers (room - (size + 1)) >>= with_label (slice_range message (at + 1) (at + 1 + size))
after_head others message at zero room (pointer target) = None
after_head others message at (suc pointers) room (pointer target) = others target pointers room >>= ending_at (at + 2)

-- the name at a place, read in at most so many steps
unfoldable pub name_within : ℕ → List ℕ → ℕ → ℕ → ℕ → Option NameRead
name_within zero message at pointers room = None
name_within (suc steps) message at pointers room = head_at message at >>= after_head (name_within steps message) message at pointers room

-- the name at a place: the one that `IsReadableName` speaks of; 255 pointers, 127 labels and the root are 383 steps
unfoldable pub name_at : List ℕ → ℕ → Option NameRead
name_at message at = name_within 383 message at 255 255
