-- Groups of five octets, written as eight characters each, are the octets in base32hex.
use Rattle.std.proofs.Common.{◌≡◌, ℕ, ◌+◌, ◌-◌, ◌*◌, ◌/◌, ◌^◌, ◌<◌, List, [], ◌∷◌, ◌++◌, length, get_or, take, drop, map, sym, ap, ◌∙◌, arith, append_assoc, length-append}
use Rattle.std.specs.Prelude.{All}
use Rattle.std.proofs.Math.Nat.{pow-zero}
use Rattle.std.proofs.lemmas.List.{append-nil, map-append, take-append-drop}
use Rattle.std.proofs.lemmas.List.Elements.{All-append}
use Rattle.std.proofs.lemmas.Nat.{pow-add}
use Rattle.dsec_spec.specs.Base32hex.{number_of, digits_of, character_of, base32hex}
use Rattle.dsec_spec.proofs.Base32hexLaws.{length-digits_of, digits_below, digits_back, number_back}

number_append : (base : ℕ) (xs ys : List ℕ) → number_of base (xs ++ ys) ≡ number_of base xs * base ^ length ys + number_of base ys
unfolding number_of
number_append base [] ys = omega arith
number_append base (x ∷ xs) ys =
    let power : base ^ length (xs ++ ys) ≡ base ^ length xs * base ^ length ys = ap (λ (n : ℕ). base ^ n) (length-append xs ys) ∙ pow-add base (length xs) (length ys) in
    ap (λ (p : ℕ). x * p + number_of base (xs ++ ys)) power ∙ omega (arith, number_append base xs ys)

-- some groups were written, and so many octets are left
pub record HasWritten (old out hash rest : List ℕ) : Type 0 where
  pub digits : List ℕ
  pub is : out ≡ old ++ map character_of digits
  pub small : All (λ (d : ℕ). d < 32) digits
  pub size : 5 * length digits + 8 * length rest ≡ 160
  pub number : number_of 32 digits * 256 ^ length rest + number_of 256 rest ≡ number_of 256 hash

pub none_written : (old hash : List ℕ) → length hash ≡ 20 → HasWritten old old hash hash
unfolding number_of
none_written old hash e = record {
  digits = [];
  is = sym (append-nil old);
  small = λ k d lt. absurd (omega arith);
  size = omega (arith, e);
  number = omega arith;
}

pub group_written : (old out hash rest group after : List ℕ) (bits : ℕ) → rest ≡ group ++ after → length group ≡ 5 → bits ≡ number_of 256 group → bits < 32 ^ 8
    → HasWritten old out hash rest → HasWritten old (out ++ map character_of (digits_of 32 8 bits)) hash after
group_written old out hash rest group after bits front five is low w =
    let eight = digits_of 32 8 bits in
    let count : length rest ≡ 5 + length after = ap length front ∙ (length-append group after ∙ ap (λ (n : ℕ). n + length after) five) in
    let long : length eight ≡ 8 = length-digits_of 32 8 bits in
    let split : number_of 256 rest ≡ number_of 256 group * 256 ^ length after + number_of 256 after = ap (number_of 256) front ∙ number_append 256 group after in
    let joined : number_of 32 (w.digits ++ eight) ≡ number_of 32 w.digits * 32 ^ 8 + bits =
    number_append 32 w.digits eight ∙ (ap (λ (n : ℕ). number_of 32 w.digits * 32 ^ n + number_of 32 eight) long ∙ ap (λ (n : ℕ). number_of 32 w.digits * 32 ^ 8 + n) (number_back 32 (omega arith) 8 bits low)) in
    let power : 256 ^ length rest ≡ 32 ^ 8 * 256 ^ length after = ap (λ (n : ℕ). 256 ^ n) count ∙ pow-add 256 5 (length after) in
    let value = w.number in
    record {
      digits = w.digits ++ eight;
      is = ap (λ (xs : List ℕ). xs ++ map character_of eight) w.is ∙ (append_assoc old (map character_of w.digits) (map character_of eight) ∙ ap (λ (xs : List ℕ). old ++ xs) (sym (map-append character_of w.digits eight)));
      small = All-append (λ (d : ℕ). d < 32) w.digits eight w.small (digits_below 32 (omega arith) 8 bits);
      size = let s = w.size in omega (arith, s, count, long, length-append w.digits eight);
      number = ap (λ (n : ℕ). n * 256 ^ length after + number_of 256 after) joined
          ∙ (parts (number_of 32 w.digits) bits (256 ^ length after) (number_of 256 after)
          ∙ (sym (ap (λ (p : ℕ). number_of 32 w.digits * p + (bits * 256 ^ length after + number_of 256 after)) power)
          ∙ (sym (ap (λ (n : ℕ). number_of 32 w.digits * 256 ^ length rest + n) (split ∙ ap (λ (n : ℕ). n * 256 ^ length after + number_of 256 after) (sym is))) ∙ value)));
    }
  where
    parts : (n bits p m : ℕ) → (n * 32 ^ 8 + bits) * p + m ≡ n * (32 ^ 8 * p) + (bits * p + m)
    parts n bits p m = omega arith

in_the_end : (old out hash : List ℕ) → length hash ≡ 20 → HasWritten old out hash [] → out ≡ old ++ base32hex hash
unfolding number_of
in_the_end old out hash e w =
    let many : length w.digits ≡ 32 = let s = w.size in omega (arith, s) in
    let number : number_of 32 w.digits ≡ number_of 256 hash = let v = w.number in omega (arith, v, pow-zero 256) in
    w.is ∙ ap (λ (xs : List ℕ). old ++ map character_of xs)
    (sym (digits_back 32 (omega arith) w.digits w.small) ∙ (ap (λ (n : ℕ). digits_of 32 n (number_of 32 w.digits)) many ∙ (ap (digits_of 32 32) number ∙ by (length hash) e)))
  where
    by : (n : ℕ) → n ≡ 20 → digits_of 32 32 (number_of 256 hash) ≡ digits_of 32 ((8 * n + 4) / 5) (number_of 256 hash * 2 ^ (5 * ((8 * n + 4) / 5) - 8 * n))
    by n is = rw is (ap (digits_of 32 32) (omega arith))

-- fewer octets than a group are none
pub all_written : (old out hash rest : List ℕ) → length hash ≡ 20 → length rest < 5 → HasWritten old out hash rest → out ≡ old ++ base32hex hash
all_written old out hash [] e few w = in_the_end old out hash e w
all_written old out hash (x ∷ rest) e few w = absurd (let s = w.size in omega (arith, s, few))

-- the number of five octets
pub five_octets : (group : List ℕ) → length group ≡ 5 → (((get_or group 0 0 * 256 + get_or group 1 0) * 256 + get_or group 2 0) * 256 + get_or group 3 0) * 256 + get_or group 4 0 ≡ number_of 256 group
unfolding number_of
five_octets [] e = absurd (omega (arith, e))
five_octets (a ∷ []) e = absurd (omega (arith, e))
five_octets (a ∷ b ∷ []) e = absurd (omega (arith, e))
five_octets (a ∷ b ∷ c ∷ []) e = absurd (omega (arith, e))
five_octets (a ∷ b ∷ c ∷ d ∷ []) e = absurd (omega (arith, e))
five_octets (a ∷ b ∷ c ∷ d ∷ f ∷ []) e = omega (arith, pow-zero 256)
five_octets (a ∷ b ∷ c ∷ d ∷ f ∷ g ∷ group) e = absurd (omega (arith, e))

pub split_group : (rest group after : List ℕ) → group ≡ take 5 rest → after ≡ drop 5 rest → rest ≡ group ++ after
split_group rest group after front back = sym (take-append-drop 5 rest) ∙ (ap (λ (xs : List ℕ). xs ++ drop 5 rest) (sym front) ∙ ap (λ (xs : List ℕ). group ++ xs) (sym back))
