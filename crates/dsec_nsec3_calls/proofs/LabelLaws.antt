-- The owners of NSEC3 records: a label that writes a hash, above the zone's name (RFC 5155 3, 3.3).
use Rattle.std.proofs.Common.{◌≡◌, ℕ, ◌-◌, ◌*◌, ◌/◌, ◌%◌, ◌^◌, Bool, true, false, List, [], ◌∷◌, ◌++◌, length, map, take, Option, Some, None, refl, sym, ap, ◌∙◌, arith}
use Rattle.std.specs.Prelude.{nat_le, if◌then◌else◌}
use Rattle.std.specs.Char.{to_ascii_lowercase}
use Rattle.std.proofs.lemmas.Bool.{true≢false}
use Rattle.std.proofs.lemmas.Grind.{common_steps}
use Rattle.std.proofs.lemmas.Bool.Decides.{nat_tests}
use Rattle.std.proofs.lemmas.List.{length-map, reverse-append, take_at}
use Rattle.dsec_spec.specs.Reading.{◌>>=◌}
use Rattle.dsec_spec.specs.Base32hex.{digit_of, digits_of, number_of, characters_in, octets_in_base32hex}
use Rattle.dsec_spec.specs.Names.{Labels, Place, lower, place, same_place, is_below, label_count}
use Rattle.dsec_spec.specs.RecordViews.{Nsec3}
use Rattle.dsec_spec.proofs.CanonicalNames.{same_place_decides}
use Rattle.dsec_spec.proofs.PlaceLemmas.{length_of_place}
use Rattle.dsec_nsec3.specs.Counting.{HashLimits, HashedSighting, ignored, by_label, by_owner}
use Rattle.dsec_nsec3_calls.specs.Views.{is_label_above}

-- a character in lower case has the same five bits
lower_digit : (c : ℕ) → digit_of (to_ascii_lowercase c) ≡ digit_of c
lower_digit c = grind (arith, common_steps, nat_tests)

lower_characters : (label : List ℕ) → characters_in (map to_ascii_lowercase label) ≡ characters_in label
lower_characters [] = refl
lower_characters (c ∷ label) =
    ap (λ (o : Option ℕ). o >>= λ digit. (characters_in (map to_ascii_lowercase label) >>= λ digits. Some (digit ∷ digits))) (lower_digit c)
    ∙ ap (λ (o : Option (List ℕ)). digit_of c >>= λ digit. (o >>= λ digits. Some (digit ∷ digits))) (lower_characters label)

-- a label in lower case writes the same octets
pub lower_writes : (label : List ℕ) → octets_in_base32hex (map to_ascii_lowercase label) ≡ octets_in_base32hex label
lower_writes label =
    ap (λ (n : ℕ). let left = 5 * n % 8 in (characters_in (map to_ascii_lowercase label) >>= λ digits. (if nat_le 5 left then None else Some (digits_of 256 (5 * n / 8) (number_of 32 digits / 2 ^ left))))) (length-map label to_ascii_lowercase)
    ∙ ap (λ (o : Option (List ℕ)). let left = 5 * length label % 8 in (o >>= λ digits. (if nat_le 5 left then None else Some (digits_of 256 (5 * length label / 8) (number_of 32 digits / 2 ^ left))))) (lower_characters label)

-- the place of a label and a name ends with the label
place_more : (label : List ℕ) (rest : Labels) → place (label ∷ rest) ≡ place rest ++ map to_ascii_lowercase label ∷ []
place_more label rest = reverse-append (map to_ascii_lowercase label ∷ []) (lower rest)

-- a name of one label more than the zone's is under it exactly where it is a label above it
pub one_more : (owner zone : Labels) → label_count owner - 1 ≡ label_count zone → is_below (place owner) (place zone) ≡ is_label_above (place zone) owner
one_more [] zone e = absurd (omega (arith, e))
one_more (label ∷ rest) zone e =
    let long : length (place rest) ≡ length (place zone) = omega (arith, e, length_of_place rest, length_of_place zone) in
    ap (λ (p : Place). same_place p (place zone)) (ap (take (length (place zone))) (place_more label rest) ∙ take_at (place rest) (map to_ascii_lowercase label ∷ []) (length (place zone)) long)

-- a name of another number of labels isn't
pub not_one_more : (owner zone : Labels) → (label_count owner - 1 ≡ label_count zone → ⊥) → false ≡ is_label_above (place zone) owner
not_one_more [] zone other = refl
not_one_more (label ∷ rest) zone other = by (same_place (place rest) (place zone)) (λ t. (same_place_decides (place rest) (place zone)).0 t)
  where
    by : (same : Bool) → (same ≡ true → place rest ≡ place zone) → false ≡ same
    by false h = refl
    by true h =
        let e = h refl in
        absurd (other (omega (arith, ap length e, length_of_place rest, length_of_place zone)))

module _ (limits : HashLimits) (zone : Place) (says : Nsec3) where
  -- an owner elsewhere doesn't count
  pub elsewhere : (owner : Labels) → is_label_above zone owner ≡ false → ignored ≡ by_owner limits zone owner (Some says)
  elsewhere [] e = refl
  elsewhere (label ∷ rest) e = rw e refl

  -- one above the zone's name counts by its label, which may be in lower case
  pub above : (owner : Labels) (sighting : HashedSighting) → is_label_above zone owner ≡ true
      → ((label : List ℕ) (rest : Labels) → owner ≡ label ∷ rest → sighting ≡ by_label limits zone (map to_ascii_lowercase label) says) → sighting ≡ by_owner limits zone owner (Some says)
  above [] sighting e h = absurd (true≢false (sym e))
  above (label ∷ rest) sighting e h = rw e (h label rest refl ∙ by_lower label)
    where
      by_lower : (text : List ℕ) → by_label limits zone (map to_ascii_lowercase text) says ≡ by_label limits zone text says
      by_lower text = rw (lower_writes text) refl
