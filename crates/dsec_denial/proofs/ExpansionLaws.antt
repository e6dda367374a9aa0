-- Whether a set is a wildcard's expansion is told by the labels that its signature counts (RFC 4034 3.1.3).
use Rattle.std.proofs.Common.{◌≡◌, ℕ, suc, ◌+◌, ◌-◌, ◌<◌, Bool, true, false, List, [], ◌∷◌, length, drop, refl, sym, ap, ◌∙◌, arith, inl, inr, map}
use Rattle.std.specs.Prelude.{nat_lt, if◌then◌else◌}
use Rattle.std.specs.Str.{bytes_eq}
use Rattle.std.specs.Bool.{Decides}
use Rattle.std.specs.Char.{to_ascii_lowercase}
use Rattle.std.proofs.lemmas.List.{length-map}
use Rattle.std.proofs.lemmas.Bool.{true≢false, cases_lt, and_left}
use Rattle.std.proofs.lemmas.Bool.Decides.{Decides-and, Decides-like, Decides-ltb, Decides-not, same_from_decides, nat_tests}
use Rattle.std.proofs.lemmas.Slice.Eq.{bytes_eq-Decides}
use Rattle.dsec_spec.specs.Names.{Labels, lower, place, asterisk, rrsig_label_count}
use Rattle.dsec_spec.specs.SignedBytes.{rightmost, signed_owner}
use Rattle.dsec_spec.specs.Answering.{is_expansion}
use Rattle.dsec_spec.proofs.CanonicalNames.{same_place_decides, place-lower}
use Rattle.dsec_spec.proofs.SignedBytesLaws.{length-rightmost, signed_owner_of_fewer}

-- only the asterisk is the asterisk in lower case
only_asterisk : (label : List ℕ) → map to_ascii_lowercase label ≡ asterisk → label ≡ asterisk
only_asterisk [] e = absurd cc
only_asterisk (c ∷ d ∷ rest) e = let lengths : suc (suc (length (map to_ascii_lowercase rest))) ≡ 1 = ap length e in absurd (omega (arith, lengths))
only_asterisk (c ∷ []) e =
    let lowered : to_ascii_lowercase c ≡ 42 = cc in
    let same : c ≡ 42 = grind (arith, nat_tests) in
    ap (λ (o : ℕ). o ∷ []) same

-- an expansion's labels are more than the signature counts, and its place is another than the signed owner's
abbrev Elsewhere : ℕ → Labels → Type 0
Elsewhere labels owner = (labels < length owner) × (place owner ≡ place (signed_owner labels owner) → ⊥)

expansion_decides : (labels : ℕ) (owner : Labels) → Decides (is_expansion labels owner) (Elsewhere labels owner)
expansion_decides labels owner =
    Decides-and _ _ (Decides-ltb labels (length owner)) (Decides-not _ (same_place_decides (place owner) (place (signed_owner labels owner))))

-- the first label and how many labels there are, where the place is the wildcard's
at_wildcard : (labels : ℕ) (label : List ℕ) (name : Labels) → labels < suc (length name) → place (label ∷ name) ≡ place (signed_owner labels (label ∷ name))
    → (label ≡ asterisk) × (length name ≡ labels)
at_wildcard labels label name fewer e =
    let wildcard : place (label ∷ name) ≡ place (asterisk ∷ rightmost labels (label ∷ name)) = e ∙ ap place (signed_owner_of_fewer labels (label ∷ name) fewer) in
    let letters : map to_ascii_lowercase label ∷ lower name ≡ asterisk ∷ lower (rightmost labels (label ∷ name)) = (place-lower (label ∷ name) (asterisk ∷ rightmost labels (label ∷ name))).1 wildcard in
    let first : map to_ascii_lowercase label ≡ asterisk = cc in
    let others : lower name ≡ lower (rightmost labels (label ∷ name)) = cc in
    let lengths : length (lower name) ≡ length (lower (rightmost labels (label ∷ name))) = ap length others in
    let left : length (rightmost labels (label ∷ name)) ≡ labels = length-rightmost labels (label ∷ name) (omega (arith, fewer)) in
    (only_asterisk label first, omega (arith, lengths, left, length-map name (map to_ascii_lowercase), length-map (rightmost labels (label ∷ name)) (map to_ascii_lowercase)))

-- a wildcard whose labels are all counted, but the asterisk, is signed under its own name
own_name : (name : Labels) → signed_owner (length name) (asterisk ∷ name) ≡ asterisk ∷ name
own_name name =
    let one : suc (length name) - length name ≡ 1 = omega arith in
    signed_owner_of_fewer (length name) (asterisk ∷ name) (omega arith) ∙ ap (λ (n : ℕ). asterisk ∷ drop n (asterisk ∷ name)) one

-- a wildcard's expansion is told by how many labels the signature counts (RFC 4034 3.1.3, RFC 4035 5.3.4)
pub expansion_counts : (labels : ℕ) (owner : Labels) → is_expansion labels owner ≡ nat_lt labels (rrsig_label_count owner)
expansion_counts labels [] = let none : nat_lt labels 0 ≡ false = grind (arith, nat_tests) in and_left _ _ none ∙ sym none
expansion_counts labels (label ∷ name) = by (bytes_eq label asterisk) refl
  where
    by : (b : Bool) → bytes_eq label asterisk ≡ b → is_expansion labels (label ∷ name) ≡ nat_lt labels (if b then length name else length name + 1)
    by true e = same_from_decides _ _ (Decides-like _ there back (expansion_decides labels (label ∷ name))) (Decides-ltb labels (length name))
      where
        star : label ≡ asterisk
        star = (bytes_eq-Decides label asterisk).0 e

        there : Elsewhere labels (label ∷ name) → labels < length name
        there h = elim (cases_lt labels (length name)) [
          | inl fewer ↦ fewer
          | inr all ↦
              let counted : labels ≡ length name = omega (arith, all, h.0) in
              absurd (h.1 (rw (counted, star) (ap place (sym (own_name name)))))
        ]

        back : labels < length name → Elsewhere labels (label ∷ name)
        back fewer =
            let within : labels < suc (length name) = omega (arith, fewer) in
            (within, λ same. let counted = (at_wildcard labels label name within same).1 in absurd (omega (arith, fewer, counted)))
    by false e = same_from_decides _ _ (Decides-like _ there back (expansion_decides labels (label ∷ name))) (Decides-ltb labels (length name + 1))
      where
        there : Elsewhere labels (label ∷ name) → labels < length name + 1
        there h = omega (arith, h.0)

        back : labels < length name + 1 → Elsewhere labels (label ∷ name)
        back fewer =
            let within : labels < suc (length name) = omega (arith, fewer) in
            (within, λ same. true≢false (sym ((bytes_eq-Decides label asterisk).1 (at_wildcard labels label name within same).0) ∙ e))
