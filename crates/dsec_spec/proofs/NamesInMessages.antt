-- `name_at` reads exactly the names that may be read at a place, and each ends within the message.
use Rattle.std.proofs.Common.{◌≡◌, ℕ, zero, suc, ◌+◌, ◌-◌, ◌*◌, ◌<◌, ◌≤◌, ltb, List, [], ◌∷◌, ◌++◌, length, take, drop, Some, refl, sym, ap, subst, ◌∙◌, arith, length-drop}
use Rattle.std.specs.Prelude.{All, slice_range}
use Rattle.std.proofs.lemmas.Bool.{ltb-false, le-ltb}
use Rattle.std.proofs.lemmas.List.{take_at, length-take-le, take-append-drop}
use Rattle.std.proofs.lemmas.List.Elements.{All-nil, All-cons}
use Rattle.std.proofs.lemmas.List.Sums.{sum_by-cons}
use Rattle.std.proofs.lemmas.Option.{some_pair_parts}
use Rattle.dsec_spec.specs.Names.{Labels, IsLabel, wire_length, label_octets}
use Rattle.dsec_spec.specs.WireNames.{IsAt, IsNameAt, root_there, label_there, pointer_there, IsReadableName, Head, root, label, pointer, head_in, head_at, NameRead, with_label, ending_at, after_head, name_within, name_at}
use Rattle.dsec_spec.proofs.ReadingLemmas.{from_bind, unrefused, read_as}
use Rattle.dsec_spec.proofs.WireNameLemmas.{labels_within}
use Rattle.dsec_spec.proofs.HeadLemmas.{at_from_drop, drop_from_at, after_first, head_says, head_of_label, head_of_pointer}

-- ---- what is read may be read

-- a name that stands at a place by at most so many pointers, with at most so many octets, ending within the message
pub record StandsWithin (m : List ℕ) (at most room : ℕ) (read : NameRead) : Type 0 where
  pub pointers : ℕ
  pub stands : IsNameAt m pointers at read.0 read.1
  pub few : pointers ≤ most
  pub labels : All IsLabel read.0
  pub fits : wire_length read.0 ≤ room
  pub within : read.1 ≤ length m

abbrev IsSound : ℕ → List ℕ → Type 0
IsSound steps m = (at most room : ℕ) (read : NameRead) → 1 ≤ room → name_within steps m at most room ≡ Some read → StandsWithin m at most room read

root_sound : (m : List ℕ) (at most room : ℕ) (others : List ℕ) → 1 ≤ room → drop at m ≡ 0 ∷ others → StandsWithin m at most room ([], at + 1)
root_sound m at most room others one e =
    let n : length (drop at m) ≡ suc (length others) = ap length e in
    record {
      pointers = 0;
      stands = root_there at (at_from_drop m at (0 ∷ []) others e);
      few = omega arith;
      labels = All-nil IsLabel;
      fits = one;
      within = omega (arith, n, length-drop at m);
    }

-- a label at its place, by the octets from there on
label_here : (m : List ℕ) (at size : ℕ) (others : List ℕ) → drop at m ≡ size ∷ others → 0 < size → size < 64 → size ≤ length others
    → (IsLabel (slice_range m (at + 1) (at + 1 + size))) × IsAt m at (label_octets (slice_range m (at + 1) (at + 1 + size))) × (length (slice_range m (at + 1) (at + 1 + size)) ≡ size)
label_here m at size others e some few fits =
    let behind : drop (at + 1) m ≡ others = after_first m at size others e in
    let n : at + 1 + size - (at + 1) ≡ size = omega arith in
    let text : slice_range m (at + 1) (at + 1 + size) ≡ take size others = rw (n, behind) refl in
    let long : length (take size others) ≡ size = length-take-le size others fits in
    let here : drop at m ≡ label_octets (take size others) ++ drop size others =
    e ∙ (ap (λ (x : List ℕ). size ∷ x) (sym (take-append-drop size others)) ∙ ap (λ (k : ℕ). k ∷ (take size others ++ drop size others)) (sym long)) in
    rw text (record { not_empty = rw long some; at_most = omega (arith, long, few) }, at_from_drop m at (label_octets (take size others)) (drop size others) here, long)

label_sound : (steps : ℕ) (m : List ℕ) → IsSound steps m → (at most room size : ℕ) (read : NameRead) → 1 ≤ room
    → (others : List ℕ) × (drop at m ≡ size ∷ others) × (0 < size) × (size < 64) × (size ≤ length others)
    → after_head (name_within steps m) m at most room (label size) ≡ Some read → StandsWithin m at most room read
label_sound steps m sound at most room size read one says e =
    let u = unrefused (ltb room (size + 2)) _ _ e in
    let enough : size + 2 ≤ room = ltb-false _ _ u.0 in
    let b = from_bind (name_within steps m (at + 1 + size) most (room - (size + 1))) (with_label (slice_range m (at + 1) (at + 1 + size))) read u.1 in
    let tail = sound (at + 1 + size) most (room - (size + 1)) b.0 (omega arith) b.1 in
    let here = label_here m at size says.0 says.1 says.2 says.3 says.4 in
    let text = slice_range m (at + 1) (at + 1 + size) in
    read_as (StandsWithin m at most room) (text ∷ b.0.0, b.0.1) read b.2
    (record {
      pointers = tail.pointers;
      stands = label_there tail.pointers at text b.0.0 b.0.1 here.0 here.1 (subst (λ (k : ℕ). IsNameAt m tail.pointers (at + 1 + k) b.0.0 b.0.1) (sym here.2) tail.stands);
      few = tail.few;
      labels = All-cons IsLabel text b.0.0 here.0 tail.labels;
      fits = omega (arith, sum_by-cons (λ (l : List ℕ). length l + 1) text b.0.0, here.2, tail.fits, enough);
      within = tail.within;
    })

pointer_sound : (steps : ℕ) (m : List ℕ) → IsSound steps m → (at most room target : ℕ) (read : NameRead) → 1 ≤ room
    → (high : ℕ) × (low : ℕ) × (others : List ℕ) × (drop at m ≡ high ∷ low ∷ others) × (192 ≤ high) × (target ≡ (high - 192) * 256 + low) × (target < at)
    → after_head (name_within steps m) m at most room (pointer target) ≡ Some read → StandsWithin m at most room read
pointer_sound steps m sound at zero room target read one says e = absurd cc
pointer_sound steps m sound at (suc most) room target read one says e =
    let b = from_bind (name_within steps m target most room) (ending_at (at + 2)) read e in
    let tail = sound target most room b.0 one b.1 in
    let n : length (drop at m) ≡ suc (suc (length says.2)) = ap length says.3 in
    read_as (StandsWithin m at (suc most) room) (b.0.0, at + 2) read b.2
    (record {
      pointers = suc tail.pointers;
      stands = pointer_there tail.pointers at says.0 says.1 b.0.0 b.0.1 says.4 (at_from_drop m at (says.0 ∷ says.1 ∷ []) says.2 says.3) (subst (λ (k : ℕ). k < at) says.5 says.6)
          (subst (λ (k : ℕ). IsNameAt m tail.pointers k b.0.0 b.0.1) says.5 tail.stands);
      few = omega (arith, tail.few);
      labels = tail.labels;
      fits = tail.fits;
      within = omega (arith, n, length-drop at m);
    })

after_head_sound : (steps : ℕ) (m : List ℕ) → IsSound steps m → (at most room : ℕ) (h : Head) (read : NameRead) → 1 ≤ room → head_at m at ≡ Some h
    → after_head (name_within steps m) m at most room h ≡ Some read → StandsWithin m at most room read
after_head_sound steps m sound at most room root read one is e =
    let says = head_says at (drop at m) root is in
    read_as (StandsWithin m at most room) ([], at + 1) read e (root_sound m at most room says.0 one says.1)
after_head_sound steps m sound at most room (label size) read one is e =
    label_sound steps m sound at most room size read one (head_says at (drop at m) (label size) is) e
after_head_sound steps m sound at most room (pointer target) read one is e =
    pointer_sound steps m sound at most room target read one (head_says at (drop at m) (pointer target) is) e

name_within_sound : (steps : ℕ) (m : List ℕ) → IsSound steps m
unfolding name_within
name_within_sound zero m at most room read one e = absurd cc
name_within_sound (suc steps) m at most room read one e =
    let b = from_bind (head_at m at) (after_head (name_within steps m) m at most room) read e in
    after_head_sound steps m (name_within_sound steps m) at most room b.0 read one b.1 b.2

-- what is read at a place stands there
pub name_at_stands : (m : List ℕ) (at : ℕ) (read : NameRead) → name_at m at ≡ Some read → StandsWithin m at 255 255 read
unfolding name_at
name_at_stands m at read e = name_within_sound 383 m at 255 255 read (omega arith) e

-- and is a name that may be read there
pub from_name_at : (m : List ℕ) (at : ℕ) (name : Labels) (after : ℕ) → name_at m at ≡ Some (name, after) → IsReadableName m at name after
from_name_at m at name after e =
    let s = name_at_stands m at (name, after) e in
    record { pointers = s.pointers; stands = s.stands; few = s.few; short = record { labels = s.labels; at_most = s.fits } }

-- a name that is read ends within the message
pub name_at_within : (m : List ℕ) (at : ℕ) (name : Labels) (after : ℕ) → name_at m at ≡ Some (name, after) → after ≤ length m
name_at_within m at name after e = (name_at_stands m at (name, after) e).within

-- ---- what may be read is read

-- the octets of the label at a place
text_of_label : (m : List ℕ) (at : ℕ) (text : List ℕ) → IsAt m at (label_octets text) → slice_range m (at + 1) (at + 1 + length text) ≡ text
text_of_label m at text is =
    let others = drop (length (label_octets text)) (drop at m) in
    let behind : drop (at + 1) m ≡ text ++ others = after_first m at (length text) (text ++ others) (drop_from_at m at (label_octets text) is) in
    let n : at + 1 + length text - (at + 1) ≡ length text = omega arith in
    rw (n, behind) (take_at text others (length text) refl)

root_head : (m : List ℕ) (at : ℕ) → IsAt m at (0 ∷ []) → head_at m at ≡ Some root
root_head m at is = ap (head_in at) (drop_from_at m at (0 ∷ []) is)

label_head : (m : List ℕ) (at : ℕ) (text : List ℕ) → IsLabel text → IsAt m at (label_octets text) → head_at m at ≡ Some (label (length text))
label_head m at text label_is is =
    ap (head_in at) (drop_from_at m at (label_octets text) is) ∙ head_of_label at text (drop (length (label_octets text)) (drop at m)) label_is

pointer_head : (m : List ℕ) (at high low : ℕ) → 192 ≤ high → IsAt m at (high ∷ low ∷ []) → (high - 192) * 256 + low < at → head_at m at ≡ Some (pointer ((high - 192) * 256 + low))
pointer_head m at high low from is below =
    ap (head_in at) (drop_from_at m at (high ∷ low ∷ []) is) ∙ head_of_pointer at high low (drop 2 (drop at m)) from below

stands_read : (m : List ℕ) (pointers at : ℕ) (name : Labels) (after : ℕ) → IsNameAt m pointers at name after
    → (steps most room : ℕ) → pointers + length name < steps → pointers ≤ most → wire_length name ≤ room → name_within steps m at most room ≡ Some (name, after)
unfolding name_within
stands_read m _ _ _ _ (root_there at is) zero most room enough few fits = absurd (omega arith)
stands_read m _ _ _ _ (root_there at is) (suc steps) most room enough few fits = rw (root_head m at is) refl
stands_read m _ _ _ _ (label_there pointers at text others after label_is is tail) zero most room enough few fits = absurd (omega arith)
stands_read m _ _ _ _ (label_there pointers at text others after label_is is tail) (suc steps) most room enough few fits =
    let sum = sum_by-cons (λ (l : List ℕ). length l + 1) text others in
    let left : length text + 2 ≤ room = omega (arith, sum, fits) in
    let others_read = stands_read m pointers (at + 1 + length text) others after tail steps most (room - (length text + 1)) (omega arith) few (omega (arith, sum, fits)) in
    rw (label_head m at text label_is is, le-ltb room (length text + 2) left, others_read, text_of_label m at text is) refl
stands_read m _ _ _ _ (pointer_there pointers at high low labels after from is below tail) zero most room enough few fits = absurd (omega arith)
stands_read m _ _ _ _ (pointer_there pointers at high low labels after from is below tail) (suc steps) zero room enough few fits = absurd (omega arith)
stands_read m _ _ _ _ (pointer_there pointers at high low labels after from is below tail) (suc steps) (suc most) room enough few fits =
    let others_read = stands_read m pointers ((high - 192) * 256 + low) labels after tail steps most room (omega arith) (omega arith) fits in
    rw (pointer_head m at high low from is below, others_read) refl

-- a name that may be read at a place is what `name_at` reads there
pub name_at_reads : (m : List ℕ) (at : ℕ) (name : Labels) (after : ℕ) → IsReadableName m at name after → name_at m at ≡ Some (name, after)
unfolding name_at
name_at_reads m at name after readable =
    stands_read m readable.pointers at name after readable.stands 383 255 255
    (omega (arith, labels_within name readable.short.labels, readable.short.at_most, readable.few)) readable.few readable.short.at_most

-- so a place has one name at most
pub one_name_at : (m : List ℕ) (at : ℕ) (name other : Labels) (after beyond : ℕ) → IsReadableName m at name after → IsReadableName m at other beyond → (name ≡ other) × (after ≡ beyond)
one_name_at m at name other after beyond first second =
    some_pair_parts name other after beyond (sym (name_at_reads m at name after first) ∙ name_at_reads m at other beyond second)
