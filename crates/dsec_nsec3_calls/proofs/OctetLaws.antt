-- The octets of names above a name (RFC 1035 3.1, RFC 4034 6.2).
use Rattle.std.proofs.Common.{◌≡◌, ℕ, zero, suc, ◌+◌, ◌-◌, ◌≤◌, List, ◌∷◌, [], ◌++◌, map, take, drop, length, length-append, refl, sym, ap, ◌∙◌, arith, append_assoc}
use Rattle.std.specs.Char.{to_ascii_lowercase}
use Rattle.std.specs.List.{flat_map}
use Rattle.std.proofs.lemmas.List.{length-map, reverse-reverse}
use Rattle.dsec_spec.specs.Names.{Labels, lower, place, label_octets, wire_octets, canonical_octets}
use Rattle.dsec_spec.specs.SignedBytes.{rightmost}
use Rattle.dsec_spec.proofs.PlaceLemmas.{front_of_place}
use Rattle.dsec_nsec3_calls.specs.Views.{place_octets}

-- the canonical octets of a name are those of its place
pub octets_of_place : (name : Labels) → canonical_octets name ≡ place_octets (place name)
octets_of_place name = ap wire_octets (sym (reverse-reverse (lower name)))

drop_map : (k : ℕ) (xs : Labels) → drop k (lower xs) ≡ lower (drop k xs)
drop_map zero xs = refl
drop_map (suc k) [] = refl
drop_map (suc k) (x ∷ xs) = drop_map k xs

-- a name's octets without so many labels are those of the name of so many labels fewer
pub above_octets : (name : Labels) (depth k : ℕ) (octets rest : List ℕ) → k ≡ length name - depth
    → octets ≡ canonical_octets name → ((n : Labels) → octets ≡ wire_octets n → k ≤ length n → rest ≡ wire_octets (drop k n)) → rest ≡ place_octets (take depth (place name))
above_octets name depth k octets rest e whole given =
    given (lower name) whole (let l = length-map name (map to_ascii_lowercase) in omega (arith, l, e))
    ∙ (ap wire_octets (drop_map k name ∙ ap (λ (j : ℕ). lower (drop j name)) e)
    ∙ (octets_of_place (rightmost depth name) ∙ ap place_octets (front_of_place depth name)))

-- octets of a name of so many labels and one more are those of its next label, and of the rest
pub first_label : (k : List ℕ) (m : Labels) → wire_octets (k ∷ m) ≡ length k ∷ (k ++ wire_octets m)
first_label k m = append_assoc (label_octets k) (flat_map label_octets m) (0 ∷ [])

pub record Front (octets rest : List ℕ) : Type 0 where
  pub label : List ℕ
  pub is : octets ≡ length label ∷ (label ++ rest)

pub front_of : (name : Labels) (i : ℕ) → suc i ≤ length name → Front (wire_octets (drop i name)) (wire_octets (drop (i + 1) name))
front_of [] i h = absurd (omega arith)
front_of (k ∷ name) zero h = record { label = k; is = first_label k name }
front_of (k ∷ name) (suc i) h =
    let f = front_of name i (omega arith) in
    record { label = f.label; is = f.is ∙ ap (λ (j : ℕ). length f.label ∷ (f.label ++ wire_octets (drop j (k ∷ name)))) (over i) }
  where
    over : (i : ℕ) → suc (i + 1) ≡ suc i + 1
    over i = omega arith

drop_front : (l r : List ℕ) → drop (length l) (l ++ r) ≡ r
drop_front [] r = refl
drop_front (x ∷ l) r = drop_front l r

-- so many octets after the first are passed over
pub front_parts : (octets rest after : List ℕ) (size : ℕ) → Front octets rest → octets ≡ size ∷ after → (size ≤ length after) × (drop size after ≡ rest)
front_parts octets rest after size f e =
    let w : length f.label ∷ (f.label ++ rest) ≡ size ∷ after = sym f.is ∙ e in
    let n : length f.label ≡ size = cc in
    let t : f.label ++ rest ≡ after = cc in
    let l = ap length t in
    (omega (arith, n, l, length-append f.label rest), ap (λ (k : ℕ). drop k after) (sym n) ∙ (ap (drop (length f.label)) (sym t) ∙ drop_front f.label rest))
