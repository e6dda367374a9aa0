-- The root's place has no label.
use Rattle.std.proofs.Common.{◌≡◌, ◌↔◌, Bool, false, IsTrue, List, ℕ, [], ◌∷◌, ◌++◌, map, refl}
use Rattle.std.specs.Char.{to_ascii_lowercase}
use Rattle.std.proofs.lemmas.Bool.{false_from_ne_true}
use Rattle.std.proofs.lemmas.List.{reverse-append}
use Rattle.dsec_spec.specs.Names.{Labels, Place, lower, place, same_place}

not_root : (m : Place) (label : List ℕ) → same_place [] (m ++ label ∷ []) ≡ false
not_root [] label = refl
not_root (k ∷ m) label = refl

-- whether a name is the root, as a test of its place
pub root_told : (zone : Labels) (root : Bool) → (IsTrue root ↔ (zone ≡ [])) → root ≡ same_place [] (place zone)
root_told [] root h = h.1 refl
root_told (label ∷ rest) root h =
    rw (reverse-append (map to_ascii_lowercase label ∷ []) (lower rest), not_root (place rest) (map to_ascii_lowercase label)) (false_from_ne_true root (λ t. let e = h.0 t in cc))
