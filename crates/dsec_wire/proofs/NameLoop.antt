-- The octets of a name, collected head by head, as a loop does.
use Rattle.std.proofs.Common.{◌≡◌, Result, Ok, Err, IsOk, OnOk, ℕ, suc, ◌-◌, ◌+◌, ◌≤◌, ◌<◌, List, [], ◌∷◌, ◌++◌, length, take, drop, Option, Some, None, refl, sym, ap, ◌∙◌, append_assoc, arith}
use Rattle.std.specs.Prelude.{unwrap_or, slice_range}
use Rattle.std.specs.Option.{option_map}
use Rattle.std.proofs.lemmas.List.{length-take-le}
use Rattle.std.proofs.lemmas.Bool.{false≢true, le-ltb, lt-ltb}
use Rattle.dsec_spec.specs.Names.{label_octets, wire_octets}
use Rattle.dsec_spec.specs.Reading.{◌>>=◌}
use Rattle.dsec_spec.specs.WireNames.{root, label, pointer, head_at, NameRead, with_label, ending_at, name_within}
use Rattle.dsec_spec.proofs.HeadLemmas.{head_says, after_first}
use Rattle.dsec_wire.specs.NameOctets.{OctetsRead, uncompressed}

-- what was read before, and what is still read
abbrev pub with_front : List ℕ → Option ℕ → Option NameRead → Option OctetsRead
with_front front after read = read >>= λ name. Some (front ++ wire_octets name.0, unwrap_or after name.1)

label_moves : (front : List ℕ) (after : Option ℕ) (text : List ℕ) (read : Option NameRead) → with_front front after (read >>= with_label text) ≡ with_front (front ++ label_octets text) after read
label_moves front after text (Some x) = ap (λ (octets : List ℕ). Some (octets, unwrap_or after x.1)) (simp append_assoc)
label_moves front after text None = refl

end_moves : (front : List ℕ) (after : Option ℕ) (end : ℕ) (read : Option NameRead) → with_front front after (read >>= ending_at end) ≡ with_front front (Some (unwrap_or after end)) read
end_moves front after end (Some x) = refl
end_moves front after end None = refl

-- a label's octets, at its place
from_label : (m : List ℕ) (at size : ℕ) → head_at m at ≡ Some (label size) → (others : List ℕ) × (drop at m ≡ size ∷ others) × (size ≤ length others)
    × (slice_range m at (at + 1 + size) ≡ size ∷ take size others)
from_label m at size h =
    let says = head_says at (drop at m) (label size) h in
    let k : at + 1 + size - at ≡ suc size = omega arith in
    (says.0, says.1, says.4, ap (λ (i : ℕ). take i (drop at m)) k ∙ ap (take (suc size)) says.1)

label_here : (m : List ℕ) (at size : ℕ) → head_at m at ≡ Some (label size) → slice_range m at (at + 1 + size) ≡ label_octets (slice_range m (at + 1) (at + 1 + size))
label_here m at size h =
    let from = from_label m at size h in
    let behind : drop (at + 1) m ≡ from.0 = after_first m at size from.0 from.1 in
    let n : at + 1 + size - (at + 1) ≡ size = omega arith in
    let long : length (take size from.0) ≡ size = length-take-le size from.0 from.2 in
    let text : slice_range m (at + 1) (at + 1 + size) ≡ take size from.0 = ap (λ (i : ℕ). take i (drop (at + 1) m)) n ∙ ap (take size) behind in
    from.3 ∙ (ap (λ (i : ℕ). i ∷ take size from.0) (sym long) ∙ ap label_octets (sym text))

pub length-label_here : (m : List ℕ) (at size : ℕ) → head_at m at ≡ Some (label size) → length (slice_range m at (at + 1 + size)) ≡ size + 1
length-label_here m at size h =
    let from = from_label m at size h in
    omega (arith, ap length from.3, length-take-le size from.0 from.2)

turn : (limit k : ℕ) → k < limit → limit - k ≡ suc (limit - (k + 1))
turn limit k below = omega arith

-- each of these at turn k of a loop of so many turns that has kept the rest as it was
pub starts : (limit : ℕ) (m : List ℕ) (at most room : ℕ) → with_front [] None (name_within (limit - 0) m at most room) ≡ option_map uncompressed (name_within limit m at most room)
starts limit m at most room = let all : limit - 0 ≡ limit = omega arith in rw all (nothing_in_front (name_within limit m at most room))
  where
    nothing_in_front : (read : Option NameRead) → with_front [] None read ≡ option_map uncompressed read
    nothing_in_front (Some x) = refl
    nothing_in_front None = refl

pub ends_without_head : (limit k : ℕ) (m : List ℕ) (at most room : ℕ) (front : List ℕ) (after : Option ℕ) (total : Option OctetsRead) → k < limit → head_at m at ≡ None
    → with_front front after (name_within (limit - k) m at most room) ≡ total → total ≡ None
unfolding name_within
ends_without_head limit k m at most room front after total below h so_far =
    sym so_far ∙ rw (turn limit k below, h) refl

pub ends_without_room : (limit k : ℕ) (m : List ℕ) (at most room size : ℕ) (front : List ℕ) (after : Option ℕ) (total : Option OctetsRead) → k < limit → head_at m at ≡ Some (label size) → room < size + 2
    → with_front front after (name_within (limit - k) m at most room) ≡ total → total ≡ None
unfolding name_within
ends_without_room limit k m at most room size front after total below h short so_far =
    sym so_far ∙ rw (turn limit k below, h, lt-ltb _ _ short) refl

pub ends_without_pointer : (limit k : ℕ) (m : List ℕ) (at most room target : ℕ) (front : List ℕ) (after : Option ℕ) (total : Option OctetsRead) → k < limit → head_at m at ≡ Some (pointer target) → most ≡ 0
    → with_front front after (name_within (limit - k) m at most room) ≡ total → total ≡ None
unfolding name_within
ends_without_pointer limit k m at most room target front after total below h none so_far =
    sym so_far ∙ rw (turn limit k below, none, h) refl

pub ends_at_root : (limit k : ℕ) (m : List ℕ) (at most room : ℕ) (front : List ℕ) (after : Option ℕ) (total : Option OctetsRead) → k < limit → head_at m at ≡ Some root
    → with_front front after (name_within (limit - k) m at most room) ≡ total → total ≡ Some (front ++ 0 ∷ [], unwrap_or after (at + 1))
unfolding name_within
ends_at_root limit k m at most room front after total below h so_far =
    sym so_far ∙ rw (turn limit k below, h) refl

pub goes_on_label : (limit k : ℕ) (m : List ℕ) (at most room size left : ℕ) (front : List ℕ) (after : Option ℕ) (total : Option OctetsRead) → k < limit → head_at m at ≡ Some (label size) → size + 2 ≤ room
    → left ≡ room - (size + 1)
    → with_front front after (name_within (limit - k) m at most room) ≡ total
    → with_front (front ++ slice_range m at (at + 1 + size)) after (name_within (limit - (k + 1)) m (at + 1 + size) most left) ≡ total
unfolding name_within
goes_on_label limit k m at most room size left front after total below h fits less so_far =
    let text = slice_range m (at + 1) (at + 1 + size) in
    let rest = name_within (limit - (k + 1)) m (at + 1 + size) most (room - (size + 1)) in
    let start = rw (turn limit k below, h, le-ltb _ _ fits) at so_far in
    rw (less, label_here m at size h) (sym (label_moves front after text rest) ∙ start)

pub goes_on_pointer : (limit k : ℕ) (m : List ℕ) (at most fewer room target : ℕ) (front : List ℕ) (after : Option ℕ) (total : Option OctetsRead) → k < limit → head_at m at ≡ Some (pointer target) → most ≡ suc fewer
    → with_front front after (name_within (limit - k) m at most room) ≡ total
    → with_front front (Some (unwrap_or after (at + 2))) (name_within (limit - (k + 1)) m target fewer room) ≡ total
unfolding name_within
goes_on_pointer limit k m at most fewer room target front after total below h one so_far =
    let rest = name_within (limit - (k + 1)) m target fewer room in
    let start = rw (turn limit k below, one, h) at so_far in
    sym (end_moves front after (at + 2) rest) ∙ start

pub ends_at_limit : (limit k : ℕ) (m : List ℕ) (at most room : ℕ) (front : List ℕ) (after : Option ℕ) (total : Option OctetsRead) → limit ≤ k
    → with_front front after (name_within (limit - k) m at most room) ≡ total → total ≡ None
unfolding name_within
ends_at_limit limit k m at most room front after total past so_far =
    let none : limit - k ≡ 0 = omega arith in
    sym so_far ∙ rw none refl

-- what holds at an `Ok` that came
pub from_on_ok : {T E P : Type 0} (r : Result T E) → IsOk r → OnOk r P → P
from_on_ok (Ok x) ok p = p
from_on_ok (Err e) ok p = absurd (false≢true ok)
