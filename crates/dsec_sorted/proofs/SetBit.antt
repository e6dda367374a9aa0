-- One bit set in a run of octets.
use Rattle.std.proofs.Common.{◌≡◌, ◌≢◌, ℕ, ◌-◌, ◌*◌, ◌/◌, ◌%◌, ◌^◌, ◌<◌, true, false, cond, nat_eq, List, length, get_or, refl, ap, inl, inr, ◌⊎◌, arith, w8, bit_or, eqb-true, eq-eqb, get_or-set_other, get_or-set_same, slice_set, zero, suc}
use Rattle.std.specs.Prelude.{replicate}
use Rattle.std.proofs.lemmas.Bool.{cases_lt}
use Rattle.std.proofs.lemmas.Nat.Bits.{bit_at_set_same, bit_at_set_other, bit_at-zero}
use Rattle.dsec_spec.specs.TypeBitmaps.{bit_of}

pub same_or_not : (a b : ℕ) → (a ≡ b) ⊎ (a ≢ b)
same_or_not a b =
    elim (cases_lt a b) [
      | inl h ↦ inr (λ e. absurd (omega arith))
      | inr h ↦ elim (cases_lt b a) [ inl g ↦ inr (λ e. absurd (omega arith)) | inr g ↦ inl (omega arith) ]
    ]

pub differ : (a b : ℕ) → a ≢ b → nat_eq a b ≡ false
differ a b out = elim (nat_eq a b) as (λ t. nat_eq a b ≡ t → t ≡ false) [ true ↦ λ e. absurd (out (eqb-true a b e)) | false ↦ λ e. refl ] refl

pub set_bit_is : (old : List ℕ) (p k : ℕ) → p / 8 < length old → bit_of (slice_set old (p / 8) (bit_or (get_or old (p / 8) 0) (1 * 2 ^ (7 - p % 8) % 2 ^ 8))) k ≡ cond (nat_eq k p) true (bit_of old k)
set_bit_is old p k within =
    elim (same_or_not (k / 8) (p / 8)) [
      | inr apart ↦
          let kp : k ≢ p = λ e. apart (ap (λ (n : ℕ). n / 8) e) in
          rw (differ k p kp, get_or-set_other) refl
      | inl same ↦ elim (same_or_not (k % 8) (p % 8)) [
        | inl low ↦
            let kp : k ≡ p = omega arith in
            rw (kp, eq-eqb p p refl, get_or-set_same, bit_at_set_same w8 (get_or old (p / 8) 0) (7 - p % 8) (omega arith)) refl
        | inr low ↦
            let kp : k ≢ p = λ e. low (ap (λ (n : ℕ). n % 8) e) in
            let other : 7 - k % 8 ≢ 7 - p % 8 = λ e. low (omega arith) in
            rw (differ k p kp, same, get_or-set_same, bit_at_set_other w8 (get_or old (p / 8) 0) (7 - p % 8) (omega arith) (7 - k % 8) other) refl
      ]
    ]

get_or-zeros : (n i : ℕ) → ◌≡◌ {A = ℕ} (get_or (replicate n 0) i 0) 0
get_or-zeros zero i = refl
get_or-zeros (suc n) zero = refl
get_or-zeros (suc n) (suc i) = get_or-zeros n i

pub zeros : (n k : ℕ) → bit_of (replicate n 0) k ≡ false
zeros n k = rw (get_or-zeros n (k / 8), bit_at-zero (7 - k % 8)) refl
