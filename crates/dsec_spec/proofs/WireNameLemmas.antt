-- The octets of names, read back.
use Rattle.std.proofs.Common.{◌≡◌, ℕ, zero, suc, ◌+◌, ◌*◌, ◌<◌, ◌≤◌, inl, inr, ltb, eqb, List, [], ◌∷◌, ◌++◌, length, take, drop, Some, refl, sym, ap, ◌∙◌, arith, append_assoc, length-append}
use Rattle.std.specs.Prelude.{All, map}
use Rattle.std.specs.Char.{to_ascii_lowercase}
use Rattle.std.proofs.lemmas.Str.Ascii.{lowercase-lowercase}
use Rattle.std.specs.List.{flat_map}
use Rattle.std.proofs.lemmas.Bool.{ltb-false, eqb-true, eqb-false, le-ltb, ne_eqb}
use Rattle.std.proofs.lemmas.List.{length-map, take_at, drop_at, length-take-le, take-append-drop}
use Rattle.std.proofs.lemmas.List.Elements.{All-nil, All-cons, All-head, All-tail, All-map, All-weaker}
use Rattle.std.proofs.lemmas.List.Sums.{sum_by-cons}
use Rattle.std.proofs.lemmas.Option.{some_pair_parts}
use Rattle.dsec_spec.specs.Names.{Labels, IsLabel, IsName, wire_length, label_octets, wire_octets, lower, canonical_octets}
use Rattle.dsec_spec.specs.RecordData.{octets_in, labels_in, name_in}
use Rattle.dsec_spec.proofs.ReadingLemmas.{chosen, read_as, from_bind, unrefused}

-- octets in front of others are read, by their number
pub octets_in-append : (n : ℕ) (p x : List ℕ) → length p ≡ n → octets_in n (p ++ x) ≡ Some (p, x)
octets_in-append n p x e =
    rw (le-ltb (length (p ++ x)) n (omega (arith, length-append p x)), take_at p x n e, drop_at p x n e) refl

-- octets that were read are so many, and stand in front of the others
pub from_octets_in : (n : ℕ) (y p x : List ℕ) → octets_in n y ≡ Some (p, x) → (length p ≡ n) × (y ≡ p ++ x)
from_octets_in n y p x e =
    let u = unrefused (ltb (length y) n) (Some (take n y, drop n y)) (p, x) e in
    let parts = some_pair_parts (take n y) p (drop n y) x u.1 in
    (rw (sym parts.0) (length-take-le n y (ltb-false _ _ u.0)), rw (sym parts.0, sym parts.1) (sym (take-append-drop n y)))

-- a name has at most half as many labels as octets
pub labels_within : (name : Labels) → All IsLabel name → 2 * length name + 1 ≤ wire_length name
labels_within [] all = omega arith
labels_within (label ∷ name) all =
    let some = (All-head IsLabel label name all).not_empty in
    let others = labels_within name (All-tail IsLabel label name all) in
    omega (arith, sum_by-cons (λ (l : List ℕ). length l + 1) label name, some, others)

-- a name's first label and what follows it
pub wire_octets-cons : (label : List ℕ) (name : Labels) (x : List ℕ) → wire_octets (label ∷ name) ++ x ≡ length label ∷ (label ++ (wire_octets name ++ x))
wire_octets-cons label name x = simp append_assoc refl

-- labels in front of octets are read
pub labels_in-wire_octets : (n : ℕ) (name : Labels) (x : List ℕ) → All IsLabel name → length name < n → labels_in n (wire_octets name ++ x) ≡ Some (name, x)
unfolding labels_in
labels_in-wire_octets zero name x all less = absurd (omega arith)
labels_in-wire_octets (suc n) [] x all less = refl
labels_in-wire_octets (suc n) (label ∷ name) x all less =
    let first = All-head IsLabel label name all in
    let others = labels_in-wire_octets n name x (All-tail IsLabel label name all) (omega arith) in
    ap (labels_in (suc n)) (wire_octets-cons label name x)
    ∙ rw (ne_eqb (length label) 0 (λ e. omega (arith, first.not_empty)), le-ltb 63 (length label) first.at_most, octets_in-append (length label) label (wire_octets name ++ x) refl, others) refl

-- a name in front of octets is read
pub name_in-wire_octets : (name : Labels) (x : List ℕ) → IsName name → name_in (wire_octets name ++ x) ≡ Some (name, x)
unfolding name_in
name_in-wire_octets name x is =
    let few : length name < 128 = omega (arith, labels_within name is.labels, is.at_most) in
    rw (labels_in-wire_octets 128 name x is.labels few, le-ltb 255 (wire_length name) is.at_most) refl

-- octets that have a label's number at their front are that label and the others
wire_octets-from_cons : (size : ℕ) (label y rest : List ℕ) (name : Labels) (x : List ℕ) → length label ≡ size → y ≡ label ++ rest → rest ≡ wire_octets name ++ x → size ∷ y ≡ wire_octets (label ∷ name) ++ x
wire_octets-from_cons size label y rest name x n e f =
    (rw (sym n, e, f) refl) ∙ sym (wire_octets-cons label name x)

-- labels that were read are labels, and stand in front of the others
pub from_labels_in : (n : ℕ) (y : List ℕ) (name : Labels) (x : List ℕ) → labels_in n y ≡ Some (name, x) → (All IsLabel name) × (y ≡ wire_octets name ++ x)
unfolding labels_in
from_labels_in zero y name x e = absurd cc
from_labels_in (suc n) [] name x e = absurd cc
from_labels_in (suc n) (size ∷ y) name x e =
    let P : Labels × List ℕ → Type 0 = λ read. (All IsLabel read.0) × (size ∷ y ≡ wire_octets read.0 ++ read.1) in
    elim (chosen (eqb size 0) _ _ _ e) [
      | inl p ↦ read_as P ([], y) (name, x) p.1 (All-nil IsLabel, rw (eqb-true size 0 p.0) refl)
      | inr p ↦
          let u = unrefused (ltb 63 size) _ _ p.1 in
          let label = from_bind (octets_in size y) _ _ u.1 in
          let others = from_bind (labels_in n label.0.1) _ _ label.2 in
          let front = from_octets_in size y label.0.0 label.0.1 label.1 in
          let after = from_labels_in n label.0.1 others.0.0 others.0.1 others.1 in
          let is : IsLabel label.0.0 = record {
            not_empty = grind (arith, eqb-false size 0 p.0, front.0);
            at_most = omega (arith, ltb-false 63 size u.0, front.0);
          } in
          read_as P (label.0.0 ∷ others.0.0, others.0.1) (name, x) others.2 (
            All-cons IsLabel label.0.0 others.0.0 is after.0,
            wire_octets-from_cons size label.0.0 y label.0.1 others.0.0 others.0.1 front.0 front.1 after.1,
          )
    ]

-- a name that was read is one, and stands in front of the others
pub from_name_in : (y : List ℕ) (name : Labels) (x : List ℕ) → name_in y ≡ Some (name, x) → IsName name × (y ≡ wire_octets name ++ x)
unfolding name_in
from_name_in y name x e =
    let b = from_bind (labels_in 128 y) _ _ e in
    let u = unrefused (ltb 255 (wire_length b.0.0)) _ _ b.2 in
    let read = from_labels_in 128 y b.0.0 b.0.1 b.1 in
    read_as (λ (r : Labels × List ℕ). IsName r.0 × (y ≡ wire_octets r.0 ++ r.1)) b.0 (name, x) u.1
    (record { labels = read.0; at_most = ltb-false 255 _ u.0 }, read.1)

-- a name has as many octets as its length says
pub length-wire_octets : (name : Labels) → length (wire_octets name) ≡ wire_length name
length-wire_octets [] = refl
length-wire_octets (label ∷ name) =
    let e = length-wire_octets name in
    let f : length (wire_octets (label ∷ name)) ≡ suc (length (label ++ wire_octets name)) = ap (λ (x : List ℕ). suc (length x)) (append_assoc label (flat_map label_octets name) (0 ∷ [])) in
    omega (arith, e, f, length-append label (wire_octets name), sum_by-cons (λ (l : List ℕ). length l + 1) label name)

-- octets begin with one name at most
pub same_names : (m n : Labels) (x y : List ℕ) → IsName m → IsName n → wire_octets m ++ x ≡ wire_octets n ++ y → (m ≡ n) × (x ≡ y)
same_names m n x y hm hn e =
    some_pair_parts m n x y (sym (name_in-wire_octets m x hm) ∙ ap name_in e ∙ name_in-wire_octets n y hn)

-- lower case is in lower case
pub lower_label-lower_label : (label : List ℕ) → map to_ascii_lowercase (map to_ascii_lowercase label) ≡ map to_ascii_lowercase label
lower_label-lower_label [] = refl
lower_label-lower_label (c ∷ label) = rw (lowercase-lowercase c, lower_label-lower_label label) refl

-- a name in lower case is in lower case
pub lower-lower : (name : Labels) → lower (lower name) ≡ lower name
lower-lower [] = refl
lower-lower (label ∷ name) = rw (lower_label-lower_label label, lower-lower name) refl

-- a name in lower case is as long as the name
pub wire_length-lower : (name : Labels) → wire_length (lower name) ≡ wire_length name
wire_length-lower [] = refl
wire_length-lower (label ∷ name) =
    let size = λ (l : List ℕ). length l + 1 in
    omega (arith, sum_by-cons size (map to_ascii_lowercase label) (lower name), sum_by-cons size label name, wire_length-lower name, length-map label to_ascii_lowercase)

-- a label in lower case is a label
pub IsLabel-lower : (label : List ℕ) → IsLabel label → IsLabel (map to_ascii_lowercase label)
IsLabel-lower label is =
    let e = length-map label to_ascii_lowercase in
    record { not_empty = omega (arith, is.not_empty); at_most = omega (arith, is.at_most) }

-- a name in lower case is a name
pub IsName-lower : (name : Labels) → IsName name → IsName (lower name)
IsName-lower name is = record {
  labels = All-map IsLabel (map to_ascii_lowercase) name (All-weaker IsLabel (λ (l : List ℕ). IsLabel (map to_ascii_lowercase l)) IsLabel-lower name is.labels);
  at_most = omega (arith, wire_length-lower name, is.at_most);
}

-- a name's canonical octets are as many as its octets
pub length-canonical_octets : (name : Labels) → length (canonical_octets name) ≡ length (wire_octets name)
length-canonical_octets name = length-wire_octets (lower name) ∙ wire_length-lower name ∙ sym (length-wire_octets name)

-- names with the same canonical octets are the same in lower case
pub same_lower : (m n : Labels) → IsName m → IsName n → canonical_octets m ≡ canonical_octets n → lower m ≡ lower n
same_lower m n hm hn e =
    (same_names (lower m) (lower n) [] [] (IsName-lower m hm) (IsName-lower n hn) (ap (λ (x : List ℕ). x ++ []) e)).0
