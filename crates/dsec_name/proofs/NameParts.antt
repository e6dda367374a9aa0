-- A name's octets, label by label.
use Rattle.std.proofs.Common.{◌≡◌, ℕ, zero, suc, ◌+◌, ◌*◌, ◌≤◌, List, [], ◌∷◌, ◌++◌, length, take, drop, refl, sym, ap, ◌∙◌, arith, length-append, length-drop}
use Rattle.std.specs.Prelude.{map, All, Some, true, false, nat_eq}
use Rattle.std.specs.Str.{bytes_eq}
use Rattle.std.specs.Cmp.Lexicographic.{pointwise}
use Rattle.std.specs.Char.{to_ascii_lowercase}
use Rattle.std.proofs.Math.Seq.{take-append_seam, drop-append_seam}
use Rattle.std.proofs.lemmas.List.{length-map, map-append}
use Rattle.std.proofs.lemmas.List.Elements.{All-head, All-tail}
use Rattle.std.proofs.lemmas.List.Sums.{sum_by-cons}
use Rattle.std.proofs.lemmas.Bool.Decides.{nat_tests}
use Rattle.dsec_spec.specs.Names.{Labels, lower, IsLabel, IsName, wire_length, asterisk, rrsig_label_count}
use Rattle.dsec_name.specs.Keys.{labels_within, labels_of, labels_octets, IsWhole}
use Rattle.dsec_name.specs.Parts.{parent_of}

room : (n m : ℕ) (xs : List ℕ) → length xs ≤ n → length xs ≤ m → labels_within n xs ≡ labels_within m xs
room zero zero xs a b = refl
room zero (suc m) [] a b = refl
room zero (suc m) (k ∷ xs) a b = absurd (omega arith)
room (suc n) zero [] a b = refl
room (suc n) zero (k ∷ xs) a b = absurd (omega arith)
room (suc n) (suc m) [] a b = refl
room (suc n) (suc m) (k ∷ xs) a b =
    ap (λ (ls : Labels). take k xs ∷ ls) (room n m (drop k xs) (omega (arith, length-drop k xs)) (omega (arith, length-drop k xs)))

-- the first label, and the others
pub labels_of-cons : (k : ℕ) (octets : List ℕ) → labels_of (k ∷ octets) ≡ take k octets ∷ labels_of (drop k octets)
labels_of-cons k octets =
    ap (λ (ls : Labels). take k octets ∷ ls) (room (length octets) (length (drop k octets)) (drop k octets) (omega (arith, length-drop k octets)) (omega arith))

-- labels are what their octets are made of
pub labels_of-octets : (name : Labels) → labels_of (labels_octets name) ≡ name
labels_of-octets [] = refl
labels_of-octets (label ∷ name) =
    labels_of-cons (length label) (label ++ labels_octets name)
    ∙ rw (take-append_seam label (labels_octets name), drop-append_seam label (labels_octets name))
    (ap (λ (ls : Labels). label ∷ ls) (labels_of-octets name))

pub length-octets : (name : Labels) → length (labels_octets name) + 1 ≡ wire_length name
length-octets [] = refl
length-octets (label ∷ name) =
    omega (arith, length-octets name, length-append label (labels_octets name), sum_by-cons (λ (x : List ℕ). length x + 1) label name)

pub IsWhole-octets : (name : Labels) → IsName name → IsWhole (labels_octets name)
IsWhole-octets name h =
    record { whole = ap labels_octets (sym (labels_of-octets name)); name = rw (labels_of-octets name) h }

pub IsName-tail : (label : List ℕ) (name : Labels) → IsName (label ∷ name) → IsName name
IsName-tail label name h =
    record { labels = All-tail IsLabel label name h.labels; at_most = let w = h.at_most in omega (arith, sum_by-cons (λ (x : List ℕ). length x + 1) label name) }

-- each label of a name takes two octets at least
pub few_labels : (name : Labels) → All IsLabel name → length name * 2 + 1 ≤ wire_length name
few_labels [] h = omega arith
few_labels (label ∷ name) h =
    let first = (All-head IsLabel label name h).not_empty in
    omega (arith, few_labels name (All-tail IsLabel label name h), sum_by-cons (λ (x : List ℕ). length x + 1) label name)

-- a name whose octets begin with a length
pub record IsSplit (name : Labels) (k : ℕ) (after : List ℕ) : Type 0 where
  pub label : List ℕ
  pub rest : Labels
  pub is : name ≡ label ∷ rest
  pub long : k ≡ length label
  pub octets : after ≡ label ++ labels_octets rest
  pub named : IsName rest

pub split_name : (name : Labels) (k : ℕ) (after : List ℕ) → IsName name → labels_octets name ≡ k ∷ after → IsSplit name k after
split_name [] k after h e = absurd (let f : 0 ≡ suc (length after) = ap length e in omega arith)
split_name (label ∷ name) k after h e =
    record {
      label = label;
      rest = name;
      is = refl;
      long = let f : length label ∷ (label ++ labels_octets name) ≡ k ∷ after = e in cc;
      octets = let f : length label ∷ (label ++ labels_octets name) ≡ k ∷ after = e in cc;
      named = IsName-tail label name h;
    }

-- a length is no letter
low_length : (n : ℕ) → n ≤ 63 → to_ascii_lowercase n ≡ n
low_length n h = grind (arith, nat_tests)

-- a name's octets in lower case are those of the name in lower case
pub lower-octets : (name : Labels) → All IsLabel name → map to_ascii_lowercase (labels_octets name) ≡ labels_octets (lower name)
lower-octets [] h = refl
lower-octets (label ∷ name) h =
    let k : to_ascii_lowercase (length label) ≡ length (map to_ascii_lowercase label) = low_length (length label) (All-head IsLabel label name h).at_most ∙ sym (length-map label to_ascii_lowercase) in
    rw (map-append to_ascii_lowercase label (labels_octets name), k, lower-octets name (All-tail IsLabel label name h)) refl

pub whole_split : (octets : List ℕ) (k : ℕ) (after : List ℕ) → IsWhole octets → octets ≡ k ∷ after → IsSplit (labels_of octets) k after
whole_split octets k after h e = split_name (labels_of octets) k after h.name (sym h.whole ∙ e)

-- the octets after the first label are the others
pub others : (name : Labels) (k : ℕ) (after octets : List ℕ) → (s : IsSplit name k after) → octets ≡ drop k after → octets ≡ labels_octets s.rest
others name k after octets s e = e ∙ (ap (λ (n : ℕ). drop n after) s.long ∙ (ap (drop (length s.label)) s.octets ∙ drop-append_seam s.label (labels_octets s.rest)))

pub parent_split : (name : Labels) (k : ℕ) (after : List ℕ) → (s : IsSplit name k after) → parent_of name ≡ Some s.rest
parent_split name k after s = ap parent_of s.is

-- whether the octets begin with a lone `*`
star : (label octets : List ℕ) → pointwise nat_eq (1 ∷ 42 ∷ []) (take 2 (length label ∷ (label ++ octets))) ≡ bytes_eq label asterisk
star [] octets = refl
star (c ∷ []) octets = grind (arith, nat_tests)
star (c ∷ d ∷ label) octets = grind (arith, nat_tests)

pub rrsig_star : (name : Labels) → pointwise nat_eq (1 ∷ 42 ∷ []) (take 2 (labels_octets name)) ≡ true → rrsig_label_count name + 1 ≡ length name
rrsig_star [] e = cc
rrsig_star (label ∷ name) e =
    let yes : bytes_eq label asterisk ≡ true = sym (star label (labels_octets name)) ∙ e in
    rw yes (omega arith)

pub rrsig_plain : (name : Labels) → pointwise nat_eq (1 ∷ 42 ∷ []) (take 2 (labels_octets name)) ≡ false → rrsig_label_count name ≡ length name
rrsig_plain [] e = refl
rrsig_plain (label ∷ name) e =
    let no : bytes_eq label asterisk ≡ false = sym (star label (labels_octets name)) ∙ e in
    rw no (omega arith)

-- the octets after a name's first label are a name's labels
pub whole_rest : (octets : List ℕ) (k : ℕ) (after rest : List ℕ) → IsWhole octets → octets ≡ k ∷ after → rest ≡ drop k after → IsWhole rest
whole_rest octets k after rest h e is =
    let s = whole_split octets k after h e in
    rw (others (labels_of octets) k after rest s is) (IsWhole-octets s.rest s.named)

less_left : (i : ℕ) (names rest : Labels) (label : List ℕ) → label ∷ rest ≡ drop i names → rest ≡ drop (suc i) names
less_left zero names rest label e = ap (drop 1) e
less_left (suc i) [] rest label e = absurd cc
less_left (suc i) (name ∷ names) rest label e = less_left i names rest label e

-- one label less of what is left
pub drop_next : (i : ℕ) (names rest : Labels) (label : List ℕ) → label ∷ rest ≡ drop i names → rest ≡ drop (i + 1) names
drop_next i names rest label e = let n : suc i ≡ i + 1 = omega arith in less_left i names rest label e ∙ ap (λ (k : ℕ). drop k names) n

-- where no label is left, none is later
pub drop_end : (i k : ℕ) (names : Labels) → [] ≡ drop i names → i ≤ k → [] ≡ drop k names
drop_end zero zero names e h = e
drop_end zero (suc k) [] e h = refl
drop_end zero (suc k) (name ∷ names) e h = absurd cc
drop_end (suc i) zero names e h = absurd (omega arith)
drop_end (suc i) (suc k) [] e h = refl
drop_end (suc i) (suc k) (name ∷ names) e h = drop_end i k names e (omega arith)

pub length-whole : (octets : List ℕ) → IsWhole octets → length octets + 1 ≡ wire_length (labels_of octets)
length-whole octets h = ap (λ (x : List ℕ). length x + 1) h.whole ∙ length-octets (labels_of octets)
