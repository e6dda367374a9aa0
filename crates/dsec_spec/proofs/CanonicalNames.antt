-- Canonical octets are equal exactly where names are.
use Rattle.std.proofs.Common.{◌≡◌, ◌↔◌, ℕ, suc, List, [], ◌∷◌, ◌++◌, refl, sym, ap, ◌∙◌, arith, append_assoc, length, length-append, reverse, IsTrue}
use Rattle.std.proofs.lemmas.List.{reverse-reverse}
use Rattle.std.proofs.lemmas.Slice.Eq.{bytes_eq-Decides, slice_eq-Decides}
use Rattle.dsec_spec.specs.Names.{Labels, Place, place, same_place, lower, label_octets, wire_octets, canonical_octets}
use Rattle.std.specs.List.{flat_map}

-- two lists of one length in front of lists that are equal as a whole are equal
same_front : {A : Type 0} (xs ys us vs : List A) → length xs ≡ length ys → xs ++ us ≡ ys ++ vs → (xs ≡ ys) × (us ≡ vs)
same_front [] [] us vs l e = (refl, e)
same_front [] (y ∷ ys) us vs l e = absurd (omega (arith, l))
same_front (x ∷ xs) [] us vs l e = absurd (omega (arith, l))
same_front (x ∷ xs) (y ∷ ys) us vs l e =
    let first : x ≡ y = cc in
    let others : xs ++ us ≡ ys ++ vs = cc in
    let both = same_front xs ys us vs (omega (arith, l)) others in
    let front : xs ≡ ys = both.0 in
    (cc, both.1)

-- a name's first label stands in front of the rest of its octets
wire_octets-cons : (k : List ℕ) (m : Labels) → wire_octets (k ∷ m) ≡ length k ∷ (k ++ wire_octets m)
wire_octets-cons k m = append_assoc (label_octets k) (flat_map label_octets m) (0 ∷ [])

-- the root's octet alone isn't a label and more
root_alone : (l : List ℕ) (n : Labels) → 0 ∷ [] ≡ length l ∷ (l ++ wire_octets n) → ⊥
root_alone l n e =
    let lengths : 1 ≡ suc (length (l ++ wire_octets n)) = ap length e in
    absurd (omega (arith, lengths, length-append l (wire_octets n), length-append (flat_map label_octets n) (0 ∷ [])))

-- names with the same octets on the wire are the same, letter for letter
pub wire_octets_injective : (m n : Labels) → wire_octets m ≡ wire_octets n → m ≡ n
wire_octets_injective [] [] e = refl
wire_octets_injective [] (l ∷ n) e = absurd (root_alone l n (e ∙ wire_octets-cons l n))
wire_octets_injective (k ∷ m) [] e = absurd (root_alone k m (sym e ∙ wire_octets-cons k m))
wire_octets_injective (k ∷ m) (l ∷ n) e =
    let whole : length k ∷ (k ++ wire_octets m) ≡ length l ∷ (l ++ wire_octets n) = sym (wire_octets-cons k m) ∙ (e ∙ wire_octets-cons l n) in
    let lengths : length k ≡ length l = cc in
    let tails : k ++ wire_octets m ≡ l ++ wire_octets n = cc in
    let both = same_front k l (wire_octets m) (wire_octets n) lengths tails in
    let first : k ≡ l = both.0 in
    let others : m ≡ n = wire_octets_injective m n both.1 in
    cc

-- names are equal where they are in lower case
pub place-lower : (m n : Labels) → (lower m ≡ lower n) ↔ (place m ≡ place n)
place-lower m n = (λ e. ap reverse e, λ e. sym (reverse-reverse (lower m)) ∙ (ap reverse e ∙ reverse-reverse (lower n)))

-- canonical octets are equal exactly where names are
pub canonical_octets_equal : (m n : Labels) → (canonical_octets m ≡ canonical_octets n) ↔ (place m ≡ place n)
canonical_octets_equal m n =
    (λ e. (place-lower m n).0 (wire_octets_injective (lower m) (lower n) e), λ e. ap wire_octets ((place-lower m n).1 e))

-- the test for the same place decides whether places are equal
pub same_place_decides : (p q : Place) → IsTrue (same_place p q) ↔ (p ≡ q)
same_place_decides p q = slice_eq-Decides bytes_eq-Decides p q (same_place p q) refl
