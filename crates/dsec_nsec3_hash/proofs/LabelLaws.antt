-- The octets of a label, read character by character (RFC 4648 7).
use Rattle.std.proofs.Common.{◌≡◌, ℕ, zero, suc, ◌+◌, ◌-◌, ◌*◌, ◌/◌, ◌%◌, ◌^◌, ◌<◌, ◌≤◌, nat_le, List, [], ◌∷◌, ◌++◌, length, get_or, drop, Option, Some, None, false, true, refl, sym, ap, ◌∙◌, arith, append_assoc, length-append}
use Rattle.std.specs.Prelude.{All, if◌then◌else◌}
use Rattle.std.proofs.Math.Nat.{pow-zero, pow-suc}
use Rattle.std.proofs.lemmas.List.{append-nil, drop_all}
use Rattle.std.proofs.lemmas.List.Elements.{All-append}
use Rattle.std.proofs.lemmas.Nat.{pow-add, div-mul-add, mod_below, div_below, div-add-mod', pow_pos}
use Rattle.std.proofs.lemmas.Grind.{common_steps}
use Rattle.std.proofs.lemmas.Bool.Decides.{nat_tests}
use Rattle.dsec_spec.specs.Reading.{◌>>=◌}
use Rattle.dsec_spec.specs.Base32hex.{number_of, digits_of, digit_of, characters_in, octets_in_base32hex}
use Rattle.dsec_spec.proofs.Base32hexLaws.{digits_back}

number_more : (base : ℕ) (xs : List ℕ) (y : ℕ) → number_of base (xs ++ y ∷ []) ≡ number_of base xs * base + y
unfolding number_of
number_more base [] y = ap (λ (p : ℕ). y * p + 0) (pow-zero base) ∙ omega arith
number_more base (x ∷ xs) y =
    let power : base ^ length (xs ++ y ∷ []) ≡ base ^ length xs * base = ap (λ (n : ℕ). base ^ n) (length-append xs (y ∷ []) ∙ omega arith) ∙ pow-suc base (length xs) in
    ap (λ (p : ℕ). x * p + number_of base (xs ++ y ∷ [])) power ∙ omega (arith, number_more base xs y)

-- so many characters are read: what they write is in the octets, but for so many bits that are held
pub record HasRead (label : List ℕ) (i held bits : ℕ) (octets : List ℕ) : Type 0 where
  pub digits : List ℕ
  pub reads : characters_in label ≡ (characters_in (drop i label) >>= λ others. Some (digits ++ others))
  pub small : All (λ (o : ℕ). o < 256) octets
  pub size : 8 * length octets + bits ≡ 5 * i
  pub few : bits < 8
  pub low : held < 2 ^ bits
  pub number : number_of 256 octets * 2 ^ bits + held ≡ number_of 32 digits

self_bind : (o : Option (List ℕ)) → o ≡ (o >>= λ others. Some others)
self_bind None = refl
self_bind (Some xs) = refl

pub none_read : (label : List ℕ) → HasRead label 0 0 0 []
unfolding number_of
none_read label = record {
  digits = [];
  reads = self_bind (characters_in label);
  small = λ k d lt. absurd (omega arith);
  size = omega arith;
  few = omega arith;
  low = omega (arith, pow-zero 2);
  number = omega (arith, pow-zero 2);
}

-- the digit of the next character goes to the others
read_more : (label : List ℕ) (i five : ℕ) (digits : List ℕ) → i < length label → digit_of (get_or label i 0) ≡ Some five
    → characters_in label ≡ (characters_in (drop i label) >>= λ others. Some (digits ++ others))
    → characters_in label ≡ (characters_in (drop (i + 1) label) >>= λ others. Some ((digits ++ five ∷ []) ++ others))
read_more label i five digits below is reads =
    reads ∙ (ap (λ (text : List ℕ). characters_in text >>= λ others. Some (digits ++ others)) (at label i below)
    ∙ (ap (λ (o : Option ℕ). (o >>= λ digit. (characters_in (drop (i + 1) label) >>= λ others. Some (digit ∷ others))) >>= λ others. Some (digits ++ others)) is
    ∙ rest (characters_in (drop (i + 1) label))))
  where
    next : (k : ℕ) → k + 1 ≡ suc k
    next k = omega arith

    one : (xs : List ℕ) (k : ℕ) → k < length xs → drop k xs ≡ get_or xs k 0 ∷ drop (suc k) xs
    one [] k h = absurd (omega arith)
    one (y ∷ xs) zero h = refl
    one (y ∷ xs) (suc k) h = one xs k (omega arith)

    at : (xs : List ℕ) (k : ℕ) → k < length xs → drop k xs ≡ get_or xs k 0 ∷ drop (k + 1) xs
    at xs k h = rw (next k) (one xs k h)

    rest : (o : Option (List ℕ)) → ((o >>= λ others. Some (five ∷ others)) >>= λ others. Some (digits ++ others)) ≡ (o >>= λ others. Some ((digits ++ five ∷ []) ++ others))
    rest None = refl
    rest (Some others) = ap Some (sym (append_assoc digits (five ∷ []) others))

-- fewer bits than an octet are held
pub bits_more : (label octets : List ℕ) (i held bits five : ℕ) → i < length label → digit_of (get_or label i 0) ≡ Some five → five < 32 → bits < 3
    → HasRead label i held bits octets → HasRead label (i + 1) (held * 32 + five) (bits + 5) octets
bits_more label octets i held bits five below is small few h =
    let power : 2 ^ (bits + 5) ≡ 2 ^ bits * 32 = pow-add 2 bits 5 in
    let low = h.low in
    let size = h.size in
    let number = h.number in
    record {
      digits = h.digits ++ five ∷ [];
      reads = read_more label i five h.digits below is h.reads;
      small = h.small;
      size = omega (arith, size);
      few = omega (arith, few);
      low = omega (arith, low, small, power);
      number = ap (λ (p : ℕ). number_of 256 octets * p + (held * 32 + five)) power
          ∙ (parts (number_of 256 octets) (2 ^ bits) held ∙ (ap (λ (n : ℕ). n * 32 + five) number ∙ sym (number_more 32 h.digits five)));
    }
  where
    parts : (n p m : ℕ) → n * (p * 32) + (m * 32 + five) ≡ (n * p + m) * 32 + five
    parts n p m = omega arith

-- an octet is whole
pub octet_more : (label octets : List ℕ) (i held bits five : ℕ) → i < length label → digit_of (get_or label i 0) ≡ Some five → five < 32 → 3 ≤ bits
    → HasRead label i held bits octets
    → HasRead label (i + 1) ((held * 32 + five) % 2 ^ (bits - 3)) (bits - 3) (octets ++ (held * 32 + five) / 2 ^ (bits - 3) ∷ [])
octet_more label octets i held bits five below is small enough h = by (bits - 3) (omega arith)
  where
    parts : (n b p m : ℕ) → (n * 256 + b) * p + m ≡ n * (p * 256) + (b * p + m)
    parts n b p m = omega arith

    again : (n p m : ℕ) → n * (p * 256) + (m * 32 + five) ≡ (n * (p * 8) + m) * 32 + five
    again n p m = omega arith

    by : (left : ℕ) → bits ≡ left + 3
        → HasRead label (i + 1) ((held * 32 + five) % 2 ^ left) left (octets ++ (held * 32 + five) / 2 ^ left ∷ [])
    by left e =
        let p = 2 ^ left in
        let value = held * 32 + five in
        let some : 0 < p = pow_pos left in
        let eight : 2 ^ bits ≡ p * 8 = ap (λ (n : ℕ). 2 ^ n) e ∙ pow-add 2 left 3 in
        let low = h.low in
        let size = h.size in
        let few = h.few in
        let number = h.number in
        let fits : value < 256 * p = omega (arith, low, small, eight) in
        let octet : value / p < 256 = div_below value p 256 some fits in
        let whole : value / p * p + value % p ≡ value = div-add-mod' value p in
        let all : All (λ (o : ℕ). o < 256) (value / p ∷ []) = only (value / p) octet in
        record {
          digits = h.digits ++ five ∷ [];
          reads = read_more label i five h.digits below is h.reads;
          small = All-append (λ (o : ℕ). o < 256) octets (value / p ∷ []) h.small all;
          size = omega (arith, size, e, length-append octets (value / p ∷ []));
          few = omega (arith, few, e);
          low = mod_below value p some;
          number = ap (λ (n : ℕ). n * p + value % p) (number_more 256 octets (value / p))
              ∙ (parts (number_of 256 octets) (value / p) p (value % p)
              ∙ (ap (λ (n : ℕ). number_of 256 octets * (p * 256) + n) whole
              ∙ (again (number_of 256 octets) p held
              ∙ (sym (ap (λ (n : ℕ). (number_of 256 octets * n + held) * 32 + five) eight)
              ∙ (ap (λ (n : ℕ). n * 32 + five) number ∙ sym (number_more 32 h.digits five))))));
        }
      where
        only : (x : ℕ) → x < 256 → All (λ (o : ℕ). o < 256) (x ∷ [])
        only x lt zero d k = lt
        only x lt (suc j) d k = absurd (omega arith)

-- no character of another kind is read
pub no_digit : (label octets : List ℕ) (i held bits : ℕ) → i < length label → digit_of (get_or label i 0) ≡ None → HasRead label i held bits octets → octets_in_base32hex label ≡ None
no_digit label octets i held bits below is h =
    ap (λ (o : Option (List ℕ)). o >>= λ digits. (if nat_le 5 (5 * length label % 8) then None else Some (digits_of 256 (5 * length label / 8) (number_of 32 digits / 2 ^ (5 * length label % 8)))))
    (h.reads ∙ ap (λ (o : Option (List ℕ)). o >>= λ others. Some (h.digits ++ others)) (none label i below is))
  where
    none : (xs : List ℕ) (k : ℕ) → k < length xs → digit_of (get_or xs k 0) ≡ None → characters_in (drop k xs) ≡ None
    none [] k lt e = absurd (omega arith)
    none (x ∷ xs) zero lt e = rw e refl
    none (x ∷ xs) (suc k) lt e = none xs k (omega arith) e

-- at the end all is read, but for the bits that are left over
all_read : (label octets : List ℕ) (i held bits : ℕ) → length label ≤ i → (h : HasRead label i held bits octets) → characters_in label ≡ Some h.digits
all_read label octets i held bits done h =
    h.reads ∙ (ap (λ (text : List ℕ). characters_in text >>= λ others. Some (h.digits ++ others)) (drop_all i label done) ∙ ap Some (append-nil h.digits))

octets_by : (label digits octets : List ℕ) (left size : ℕ) (short : nat_le 5 left ≡ false) → characters_in label ≡ Some digits → 5 * length label % 8 ≡ left
    → 5 * length label / 8 ≡ size → digits_of 256 size (number_of 32 digits / 2 ^ left) ≡ octets → octets_in_base32hex label ≡ Some octets
octets_by label digits octets left size short reads is whole back = rw (reads, is, whole, short) (ap Some back)

pub whole : (label octets : List ℕ) (i held bits : ℕ) → length label ≡ i → bits < 5 → HasRead label i held bits octets → octets_in_base32hex label ≡ Some octets
whole label octets i held bits done few h =
    let size = h.size in
    let eight = h.few in
    octets_by label h.digits octets bits (length octets) (at_most bits few) (all_read label octets i held bits (omega (arith, done)) h) (omega (arith, size, done, eight)) (omega (arith, size, done, eight))
    (ap (λ (n : ℕ). digits_of 256 (length octets) (n / 2 ^ bits)) (sym h.number)
    ∙ (ap (digits_of 256 (length octets)) (div-mul-add (number_of 256 octets) (2 ^ bits) held h.low) ∙ digits_back 256 (omega arith) octets h.small))
  where
    at_most : (n : ℕ) → n < 5 → nat_le 5 n ≡ false
    at_most n lt = grind (arith, common_steps, nat_tests)

pub refused : (label octets : List ℕ) (i held bits : ℕ) → length label ≡ i → 5 ≤ bits → HasRead label i held bits octets → octets_in_base32hex label ≡ None
refused label octets i held bits done many h =
    let size = h.size in
    let eight = h.few in
    by (5 * length label % 8) (omega (arith, size, done, eight, many)) (characters_in label) h.digits (all_read label octets i held bits (omega (arith, done)) h)
  where
    at_least : (n : ℕ) → 5 ≤ n → nat_le 5 n ≡ true
    at_least n le = grind (arith, common_steps, nat_tests)

    by : (left : ℕ) → 5 ≤ left → (o : Option (List ℕ)) (digits : List ℕ) → o ≡ Some digits
        → (o >>= λ ds. (if nat_le 5 left then None else Some (digits_of 256 (5 * length label / 8) (number_of 32 ds / 2 ^ left)))) ≡ None
    by left le o digits e = rw (e, at_least left le) refl

-- what is held with five bits more, where an octet is whole
pub fits : (held bits five : ℕ) → held < 2 ^ bits → five < 32 → 3 ≤ bits → held * 32 + five < 2 ^ (bits - 3) * 256
fits held bits five low small enough = by (bits - 3) (omega arith)
  where
    by : (left : ℕ) → bits ≡ left + 3 → held * 32 + five < 2 ^ left * 256
    by left e = let eight : 2 ^ bits ≡ 2 ^ left * 8 = ap (λ (n : ℕ). 2 ^ n) e ∙ pow-add 2 left 3 in omega (arith, low, small, eight)

pub upper_below : (value bits : ℕ) → value < 2 ^ bits * 256 → value / 2 ^ bits < 256
upper_below value bits fits = div_below value (2 ^ bits) 256 (pow_pos bits) (omega (arith, fits))
