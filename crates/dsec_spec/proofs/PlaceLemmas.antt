-- The place of a name, and those of names above it.
use Rattle.std.proofs.Common.{◌≡◌, ℕ, ◌-◌, ◌≤◌, inl, inr, ◌++◌, length, map, take, drop, reverse, sym, ap, ◌∙◌, arith}
use Rattle.std.specs.Char.{to_ascii_lowercase}
use Rattle.std.proofs.lemmas.Bool.{cases_lt}
use Rattle.std.proofs.lemmas.List.{length-drop, length-map, length-reverse, map-append, reverse-append, take-append-drop, take_all, take_at}
use Rattle.dsec_spec.specs.Names.{Labels, lower, place}
use Rattle.dsec_spec.specs.SignedBytes.{rightmost}

-- a place has as many labels as its name
pub length_of_place : (name : Labels) → length (place name) ≡ length name
length_of_place name = length-reverse (lower name) ∙ length-map name (map to_ascii_lowercase)

-- the labels behind the first k come first in a place
place_cut : (k : ℕ) (name : Labels) → place name ≡ place (drop k name) ++ place (take k name)
place_cut k name =
    ap place (sym (take-append-drop k name))
    ∙ (ap reverse (map-append (map to_ascii_lowercase) (take k name) (drop k name)) ∙ reverse-append (lower (take k name)) (lower (drop k name)))

-- the place of so many labels next to the root is so many labels of the place
pub front_of_place : (labels : ℕ) (name : Labels) → place (rightmost labels name) ≡ take labels (place name)
front_of_place labels name = elim (cases_lt (length name) labels) [
  | inl more ↦ all (omega (arith, more))
  | inr less ↦
      let k = length name - labels in
      let long : length (place (drop k name)) ≡ labels = omega (arith, less, length_of_place (drop k name), length-drop k name) in
      sym (ap (take labels) (place_cut k name) ∙ take_at (place (drop k name)) (place (take k name)) labels long)
]
  where
    all : length name ≤ labels → place (rightmost labels name) ≡ take labels (place name)
    all le =
        let none : length name - labels ≡ 0 = omega (arith, le) in
        ap (λ (k : ℕ). place (drop k name)) none ∙ sym (take_all labels (place name) (omega (arith, le, length_of_place name)))
