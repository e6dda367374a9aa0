-- What the head of a name in a message says of the octets there.
use Rattle.std.proofs.Common.{◌≡◌, ℕ, ◌+◌, ◌-◌, ◌*◌, ◌<◌, ◌≤◌, inl, inr, ltb, eqb, List, [], ◌∷◌, ◌++◌, length, take, drop, Some, refl, sym, ap, subst, ◌∙◌, arith, length-append}
use Rattle.std.specs.Prelude.{nat_le}
use Rattle.std.proofs.lemmas.Bool.{ltb-false, ltb-true, eqb-false, eqb-true, leb-true, le-leb, le-ltb, lt-ltb, ne_eqb}
use Rattle.std.proofs.lemmas.List.{take_at, take-append-drop, drop-drop}
use Rattle.dsec_spec.specs.Names.{IsLabel}
use Rattle.dsec_spec.specs.WireNames.{IsAt, Head, root, label, pointer, pointer_in, head_in}
use Rattle.dsec_spec.proofs.ReadingLemmas.{chosen, read_as}

-- octets stand at a place where the message goes on with them there
pub at_from_drop : (m : List ℕ) (at : ℕ) (octets others : List ℕ) → drop at m ≡ octets ++ others → IsAt m at octets
at_from_drop m at octets others e =
    let n : at + length octets - at ≡ length octets = omega arith in
    rw (n, e) (take_at octets others (length octets) refl)

pub drop_from_at : (m : List ℕ) (at : ℕ) (octets : List ℕ) → IsAt m at octets → drop at m ≡ octets ++ drop (length octets) (drop at m)
drop_from_at m at octets e =
    let n : at + length octets - at ≡ length octets = omega arith in
    let front : take (length octets) (drop at m) ≡ octets = subst (λ (k : ℕ). take k (drop at m) ≡ octets) n e in
    sym (take-append-drop (length octets) (drop at m)) ∙ ap (λ (x : List ℕ). x ++ drop (length octets) (drop at m)) front

-- the octets behind the first
pub after_first : (m : List ℕ) (at first : ℕ) (others : List ℕ) → drop at m ≡ first ∷ others → drop (at + 1) m ≡ others
after_first m at first others e = sym (drop-drop 1 at m) ∙ ap (drop 1) e

-- what a head says of the octets from its place on
abbrev pub Says : ℕ → List ℕ → Head → Type 0
Says at octets root = (others : List ℕ) × (octets ≡ 0 ∷ others)
Says at octets (label size) = (others : List ℕ) × (octets ≡ size ∷ others) × (0 < size) × (size < 64) × (size ≤ length others)
Says at octets (pointer target) =
    (high : ℕ) × (low : ℕ) × (others : List ℕ) × (octets ≡ high ∷ low ∷ others) × (192 ≤ high) × (target ≡ (high - 192) * 256 + low) × (target < at)

pointer_says : (at high : ℕ) (others : List ℕ) (h : Head) → 192 ≤ high → pointer_in at high others ≡ Some h → Says at (high ∷ others) h
pointer_says at high [] h from e = absurd cc
pointer_says at high (low ∷ others) h from e =
    elim (chosen (ltb ((high - 192) * 256 + low) at) _ _ _ e) [
      | inl p ↦ read_as (Says at (high ∷ low ∷ others)) (pointer ((high - 192) * 256 + low)) h p.1 (high, low, others, refl, from, refl, ltb-true _ _ p.0)
      | inr p ↦ absurd (let e' = p.1 in cc)
    ]

pub head_says : (at : ℕ) (octets : List ℕ) (h : Head) → head_in at octets ≡ Some h → Says at octets h
head_says at [] h e = absurd cc
head_says at (first ∷ others) h e =
    elim (chosen (eqb first 0) _ _ _ e) [
      | inl p ↦ read_as (Says at (first ∷ others)) root h p.1 (others, ap (λ (n : ℕ). n ∷ others) (eqb-true first 0 p.0))
      | inr p ↦ elim (chosen (ltb first 64) _ _ _ p.1) [
        | inl q ↦ elim (chosen (nat_le first (length others)) _ _ _ q.1) [
          | inl r ↦
              let some : 0 < first = grind (arith, eqb-false first 0 p.0) in
              read_as (Says at (first ∷ others)) (label first) h r.1 (others, refl, some, ltb-true _ _ q.0, leb-true _ _ r.0)
          | inr r ↦ absurd (let e' = r.1 in cc)
        ]
        | inr q ↦ elim (chosen (ltb first 192) _ _ _ q.1) [
          | inl r ↦ absurd (let e' = r.1 in cc)
          | inr r ↦ pointer_says at first others h (ltb-false _ _ r.0) r.1
        ]
      ]
    ]

-- the octets of a label are its head
pub head_of_label : (at : ℕ) (text others : List ℕ) → IsLabel text → head_in at (length text ∷ (text ++ others)) ≡ Some (label (length text))
head_of_label at text others is =
    let fits : length text ≤ length (text ++ others) = omega (arith, length-append text others) in
    rw (ne_eqb (length text) 0 (λ e. omega (arith, is.not_empty)), lt-ltb (length text) 64 (omega (arith, is.at_most)), le-leb _ _ fits) refl

-- and so are those of a pointer
pub head_of_pointer : (at high low : ℕ) (others : List ℕ) → 192 ≤ high → (high - 192) * 256 + low < at → head_in at (high ∷ low ∷ others) ≡ Some (pointer ((high - 192) * 256 + low))
head_of_pointer at high low others from below =
    rw (ne_eqb high 0 (λ e. omega arith), le-ltb high 64 (omega arith), le-ltb high 192 from, lt-ltb _ _ below) refl
