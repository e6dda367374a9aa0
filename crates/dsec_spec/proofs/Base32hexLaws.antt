-- Text in base32hex reads back, and is that of the standard's examples (RFC 4648 10).
use Rattle.std.proofs.Common.{◌≡◌, ℕ, zero, suc, ◌+◌, ◌-◌, ◌*◌, ◌/◌, ◌%◌, ◌^◌, ◌<◌, nat_le, List, [], ◌∷◌, length, map, Option, Some, None, false, refl, sym, ap, ◌∙◌, arith}
use Rattle.std.specs.Prelude.{All}
use Rattle.std.proofs.Math.Nat.{pow-zero, pow-suc}
use Rattle.std.proofs.lemmas.List.{length-map}
use Rattle.std.proofs.lemmas.Nat.{div-mul-add, mod-mul-add, div_below, mod_below, mul-add-lt, div-add-mod', pow_pos, pow-add, shl-shr}
use Rattle.std.proofs.lemmas.Grind.{common_steps}
use Rattle.std.proofs.lemmas.Bool.Decides.{nat_tests}
use Rattle.dsec_spec.specs.Reading.{◌>>=◌}
use Rattle.dsec_spec.specs.Base32hex.{number_of, digits_of, character_of, digit_of, character_count, base32hex, characters_in, octets_in_base32hex}

-- ---- digits and numbers, to any base

pub length-digits_of : (base n x : ℕ) → length (digits_of base n x) ≡ n
unfolding digits_of
length-digits_of base zero x = refl
length-digits_of base (suc n) x = ap (λ (m : ℕ). suc m) (length-digits_of base n x)

module _ (base : ℕ) (some : 0 < base) where
  power_some : (n : ℕ) → 0 < base ^ n
  power_some zero = omega (arith, pow-zero base)
  power_some (suc n) = let h = power_some n in let g = mul-add-lt 0 (base ^ n) 0 base some h in omega (arith, pow-suc base n, g)

  small_mod : (q : ℕ) → q < base → q % base ≡ q
  small_mod q lt = let e : q ≡ 0 * base + q = omega arith in ap (λ (m : ℕ). m % base) e ∙ mod-mul-add 0 base q lt

  digit_is : (q r n : ℕ) → q < base → r < base ^ n → (q * base ^ n + r) / base ^ n % base ≡ q
  digit_is q r n lt low = ap (λ (m : ℕ). m % base) (div-mul-add q (base ^ n) r low) ∙ small_mod q lt

  quotient_is : (k q r n : ℕ) → q < base → r < base ^ n → ((k * base + q) * base ^ n + r) / base ^ n % base ≡ q
  quotient_is k q r n lt low = ap (λ (m : ℕ). m % base) (div-mul-add (k * base + q) (base ^ n) r low) ∙ mod-mul-add k base q lt

  -- what stands before the lowest digits doesn't matter
  pub digits_low : (n k x : ℕ) → x < base ^ n → digits_of base n (k * base ^ n + x) ≡ digits_of base n x
  unfolding digits_of
  digits_low zero k x low = refl
  digits_low (suc n) k x low =
      let q = x / base ^ n in
      let r = x % base ^ n in
      let rest : r < base ^ n = mod_below x (base ^ n) (power_some n) in
      let small : q < base = div_below x (base ^ n) base (power_some n) (omega (arith, pow-suc base n)) in
      let parts : q * base ^ n + r ≡ x = div-add-mod' x (base ^ n) in
      let whole : k * base ^ suc n + x ≡ (k * base + q) * base ^ n + r = ap (λ (p : ℕ). k * p + x) (pow-suc base n) ∙ omega (arith, parts) in
      ap (digits_of base (suc n)) whole
      ∙ (ap (λ (d : ℕ). d ∷ digits_of base n ((k * base + q) * base ^ n + r)) (quotient_is k q r n small rest)
      ∙ (ap (λ (ds : List ℕ). q ∷ ds) (digits_low n (k * base + q) r rest)
      ∙ (sym (ap (λ (ds : List ℕ). q ∷ ds) (digits_low n q r rest))
      ∙ (sym (ap (λ (d : ℕ). d ∷ digits_of base n (q * base ^ n + r)) (digit_is q r n small rest))
      ∙ ap (digits_of base (suc n)) parts))))

  pub number_below : (digits : List ℕ) → All (λ (d : ℕ). d < base) digits → number_of base digits < base ^ length digits
  unfolding number_of
  number_below [] all = omega (arith, pow-zero base)
  number_below (d ∷ digits) all =
      let h = mul-add-lt d (base ^ length digits) (number_of base digits) base (all 0 d (omega arith)) (number_below digits (λ k e lt. all (suc k) e (omega arith))) in
      omega (arith, h, pow-suc base (length digits))

  -- the digits of the number that digits write are these
  pub digits_back : (digits : List ℕ) → All (λ (d : ℕ). d < base) digits → digits_of base (length digits) (number_of base digits) ≡ digits
  unfolding digits_of number_of
  digits_back [] all = refl
  digits_back (d ∷ digits) all =
      let others = λ (k e : ℕ) (lt : k < length digits). all (suc k) e (omega arith) in
      let low = number_below digits others in
      ap (λ (e : ℕ). e ∷ digits_of base (length digits) (d * base ^ length digits + number_of base digits)) (digit_is d (number_of base digits) (length digits) (all 0 d (omega arith)) low)
      ∙ ap (λ (ds : List ℕ). d ∷ ds) (digits_low (length digits) d (number_of base digits) low ∙ digits_back digits others)

  -- the number that its digits write is the number, where they are enough
  pub number_back : (n x : ℕ) → x < base ^ n → number_of base (digits_of base n x) ≡ x
  unfolding digits_of number_of
  number_back zero x low = omega (arith, pow-zero base, low)
  number_back (suc n) x low =
      let q = x / base ^ n in
      let r = x % base ^ n in
      let rest : r < base ^ n = mod_below x (base ^ n) (power_some n) in
      let small : q < base = div_below x (base ^ n) base (power_some n) (omega (arith, pow-suc base n)) in
      let parts : q * base ^ n + r ≡ x = div-add-mod' x (base ^ n) in
      let first : q % base ≡ q = small_mod q small in
      let tail : digits_of base n x ≡ digits_of base n r = ap (digits_of base n) (sym parts) ∙ digits_low n q r rest in
      let size = length-digits_of base n x in
      let others : number_of base (digits_of base n x) ≡ r = ap (number_of base) tail ∙ number_back n r rest in
      ap (λ (e : ℕ). e * base ^ length (digits_of base n x) + number_of base (digits_of base n x)) first
      ∙ (ap (λ (m : ℕ). q * base ^ m + number_of base (digits_of base n x)) size
      ∙ (ap (λ (m : ℕ). q * base ^ n + m) others ∙ parts))

  pub digits_below : (n x : ℕ) → All (λ (d : ℕ). d < base) (digits_of base n x)
  unfolding digits_of
  digits_below zero x k d lt = absurd (omega arith)
  digits_below (suc n) x zero d lt = mod_below (x / base ^ n) base some
  digits_below (suc n) x (suc k) d lt = digits_below n x k d (omega arith)

-- ---- text

character_read : (d : ℕ) → d < 32 → digit_of (character_of d) ≡ Some d
character_read d low = grind (arith, common_steps, nat_tests)

digits_read : (digits : List ℕ) → All (λ (d : ℕ). d < 32) digits → characters_in (map character_of digits) ≡ Some digits
digits_read [] all = refl
digits_read (d ∷ digits) all =
    ap (λ (o : Option ℕ). o >>= λ digit. (characters_in (map character_of digits) >>= λ others. Some (digit ∷ others))) (character_read d (all 0 d (omega arith)))
    ∙ ap (λ (o : Option (List ℕ)). o >>= λ others. Some (d ∷ others)) (digits_read digits (λ k e lt. all (suc k) e (omega arith)))

-- eight bits each, and five bits each
eights : (n : ℕ) → 256 ^ n ≡ 2 ^ (8 * n)
eights zero = pow-zero 256 ∙ sym (pow-zero 2)
eights (suc n) = pow-suc 256 n ∙ (ap (λ (m : ℕ). m * 256) (eights n) ∙ (sym (pow-add 2 (8 * n) 8) ∙ ap (λ (m : ℕ). 2 ^ m) (omega arith)))

fives : (n : ℕ) → 32 ^ n ≡ 2 ^ (5 * n)
fives zero = pow-zero 32 ∙ sym (pow-zero 2)
fives (suc n) = pow-suc 32 n ∙ (ap (λ (m : ℕ). m * 32) (fives n) ∙ (sym (pow-add 2 (5 * n) 5) ∙ ap (λ (m : ℕ). 2 ^ m) (omega arith)))

-- so many characters as octets take, and so many bits are added
pub length-base32hex : (octets : List ℕ) → length (base32hex octets) ≡ character_count (length octets)
length-base32hex octets =
    length-map (digits_of 32 (character_count (length octets)) (number_of 256 octets * 2 ^ (5 * character_count (length octets) - 8 * length octets))) character_of
    ∙ length-digits_of 32 (character_count (length octets)) (number_of 256 octets * 2 ^ (5 * character_count (length octets) - 8 * length octets))

-- the octets of a text by its digits, and by how many bits are left over
octets_by : (text digits octets : List ℕ) (left size : ℕ) → characters_in text ≡ Some digits → 5 * length text % 8 ≡ left → left < 5 → 5 * length text / 8 ≡ size
    → digits_of 256 size (number_of 32 digits / 2 ^ left) ≡ octets → octets_in_base32hex text ≡ Some octets
octets_by text digits octets left size read is few whole back = rw (read, is, whole, at_most left few) (ap Some back)
  where
    at_most : (n : ℕ) → n < 5 → nat_le 5 n ≡ false
    at_most n lt = grind (arith, common_steps, nat_tests)

-- what is written reads back
pub base32hex_back : (octets : List ℕ) → All (λ o. o < 256) octets → octets_in_base32hex (base32hex octets) ≡ Some octets
base32hex_back octets all =
    let m = length octets in
    let n = character_count m in
    let s = 5 * n - 8 * m in
    let number = number_of 256 octets in
    let low : number < 256 ^ m = number_below 256 (omega arith) octets all in
    let bits : 8 * m + s ≡ 5 * n = omega arith in
    let few : s < 5 = omega arith in
    let power : 256 ^ m * 2 ^ s ≡ 32 ^ n = ap (λ (p : ℕ). p * 2 ^ s) (eights m) ∙ (sym (pow-add 2 (8 * m) s) ∙ (ap (λ (k : ℕ). 2 ^ k) bits ∙ sym (fives n))) in
    let fits : number * 2 ^ s < 32 ^ n = omega (arith, mul-add-lt number (2 ^ s) 0 (256 ^ m) low (pow_pos s), power) in
    let size : length (base32hex octets) ≡ n = length-base32hex octets in
    let left : 5 * length (base32hex octets) % 8 ≡ s = omega (arith, size, bits, few) in
    let whole : 5 * length (base32hex octets) / 8 ≡ m = omega (arith, size, bits, few) in
    let again : number_of 32 (digits_of 32 n (number * 2 ^ s)) ≡ number * 2 ^ s = number_back 32 (omega arith) n (number * 2 ^ s) fits in
    octets_by (base32hex octets) (digits_of 32 n (number * 2 ^ s)) octets s m (digits_read (digits_of 32 n (number * 2 ^ s)) (digits_below 32 (omega arith) n (number * 2 ^ s))) left few whole
    (ap (λ (k : ℕ). digits_of 256 m (k / 2 ^ s)) again ∙ (ap (digits_of 256 m) (shl-shr number s) ∙ digits_back 256 (omega arith) octets all))

-- "", "f", "fo", "foo", "foob", "fooba", "foobar"
example0 : base32hex [] ≡ []
unfolding digits_of number_of
example0 = refl

example1 : base32hex (102 ∷ []) ≡ 99 ∷ 111 ∷ []
unfolding digits_of number_of
example1 = refl

example2 : base32hex (102 ∷ 111 ∷ []) ≡ 99 ∷ 112 ∷ 110 ∷ 103 ∷ []
unfolding digits_of number_of
example2 = refl

example3 : base32hex (102 ∷ 111 ∷ 111 ∷ []) ≡ 99 ∷ 112 ∷ 110 ∷ 109 ∷ 117 ∷ []
unfolding digits_of number_of
example3 = refl

example4 : base32hex (102 ∷ 111 ∷ 111 ∷ 98 ∷ []) ≡ 99 ∷ 112 ∷ 110 ∷ 109 ∷ 117 ∷ 111 ∷ 103 ∷ []
unfolding digits_of number_of
example4 = refl

example5 : base32hex (102 ∷ 111 ∷ 111 ∷ 98 ∷ 97 ∷ []) ≡ 99 ∷ 112 ∷ 110 ∷ 109 ∷ 117 ∷ 111 ∷ 106 ∷ 49 ∷ []
unfolding digits_of number_of
example5 = refl

example6 : base32hex (102 ∷ 111 ∷ 111 ∷ 98 ∷ 97 ∷ 114 ∷ []) ≡ 99 ∷ 112 ∷ 110 ∷ 109 ∷ 117 ∷ 111 ∷ 106 ∷ 49 ∷ 101 ∷ 56 ∷ []
unfolding digits_of number_of
example6 = refl

-- either case is read; spare bits are dropped; 1, 3 and 6 characters are refused
read6 : octets_in_base32hex (67 ∷ 80 ∷ 78 ∷ 77 ∷ 85 ∷ 79 ∷ 74 ∷ 49 ∷ 69 ∷ 57 ∷ []) ≡ Some (102 ∷ 111 ∷ 111 ∷ 98 ∷ 97 ∷ 114 ∷ [])
unfolding digits_of number_of
read6 = refl

refused1 : octets_in_base32hex (99 ∷ []) ≡ None
unfolding digits_of number_of
refused1 = refl

refused3 : octets_in_base32hex (99 ∷ 112 ∷ 110 ∷ []) ≡ None
unfolding digits_of number_of
refused3 = refl

refused6 : octets_in_base32hex (99 ∷ 112 ∷ 110 ∷ 109 ∷ 117 ∷ 111 ∷ []) ≡ None
unfolding digits_of number_of
refused6 = refl
