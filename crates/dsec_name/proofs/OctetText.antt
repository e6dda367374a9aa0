-- An octet's text: what is read is what is written, and the other way round.
use Rattle.std.proofs.Common.{◌≡◌, ◌≢◌, ℕ, ◌<◌, ◌≤◌, List, [], ◌∷◌, ◌++◌, length, refl, sym, ap, subst, arith, length-append}
use Rattle.std.specs.Prelude.{true, false, ◌&&◌, Option, Some, None, nat_le, ◌==◌, if◌then◌else◌}
use Rattle.std.specs.Char.{is_ascii_digit, IsAsciiDigit, IsNotAsciiDigit}
use Rattle.std.proofs.lemmas.Bool.Decides.{nat_tests, Decides-eqb}
use Rattle.dsec_spec.specs.Reading.{◌>>=◌}
use Rattle.dsec_name.specs.NameText.{number_of, WritesOctet}
use Rattle.dsec_name.specs.NameText.WritesOctet.{plain, quoted, numbered}
use Rattle.dsec_name.specs.TextReading.{read_number, read_digits, read_escape, read_octet}

pub nothing : {A X : Type 0} (x : A) → None ≡ Some x → X
nothing x e = absurd cc

pub test_no : (a b : ℕ) → (a == b) ≡ false → a ≢ b
test_no a b h e = let t = (Decides-eqb a b).1 e in absurd cc

pub test_yes : (a b : ℕ) → (a == b) ≡ true → a ≡ b
test_yes a b h = (Decides-eqb a b).0 h

pub no_test : (a b : ℕ) → a ≢ b → (a == b) ≡ false
no_test a b h = grind (arith, nat_tests)

pub digit_yes : (c : ℕ) → is_ascii_digit c ≡ true → IsAsciiDigit c
digit_yes c h = grind (arith, nat_tests)

pub digit_no : (c : ℕ) → is_ascii_digit c ≡ false → IsNotAsciiDigit c
digit_no c h = grind (arith, nat_tests)

pub yes_digit : (c : ℕ) → IsAsciiDigit c → is_ascii_digit c ≡ true
yes_digit c h = grind (arith, nat_tests)

pub no_digit : (c : ℕ) → IsNotAsciiDigit c → is_ascii_digit c ≡ false
no_digit c h = grind (arith, nat_tests)

pub le_yes : (a b : ℕ) → nat_le a b ≡ true → a ≤ b
le_yes a b h = grind (arith, nat_tests)

pub yes_le : (a b : ℕ) → a ≤ b → nat_le a b ≡ true
yes_le a b h = grind (arith, nat_tests)

-- the front of a text writes this octet, and this is the text after it
pub record HasOctet (octet : ℕ) (text rest : List ℕ) : Type 0 where
  pub first : List ℕ
  pub writes : WritesOctet octet first
  pub is : text ≡ first ++ rest

-- three digits
pub record HasNumber (a b c octet : ℕ) : Type 0 where
  pub second : IsAsciiDigit b
  pub third : IsAsciiDigit c
  pub at_most : number_of a b c ≤ 255
  pub is : octet ≡ number_of a b c

pub has_number : (a b c octet : ℕ) → read_number a b c ≡ Some octet → HasNumber a b c octet
has_number a b c octet e =
    elim (is_ascii_digit b) as (λ t. is_ascii_digit b ≡ t → (if t && (is_ascii_digit c && nat_le (number_of a b c) 255) then Some (number_of a b c) else None) ≡ Some octet → HasNumber a b c octet) [
      | false ↦ λ f g. nothing octet g
      | true ↦ λ f g.
          elim (is_ascii_digit c) as (λ t. is_ascii_digit c ≡ t → (if t && nat_le (number_of a b c) 255 then Some (number_of a b c) else None) ≡ Some octet → HasNumber a b c octet) [
            | false ↦ λ h k. nothing octet k
            | true ↦ λ h k.
                elim (nat_le (number_of a b c) 255) as (λ t. nat_le (number_of a b c) 255 ≡ t → (if t then Some (number_of a b c) else None) ≡ Some octet → HasNumber a b c octet) [
                  | false ↦ λ l m. nothing octet m
                  | true ↦ λ l m. record { second = digit_yes b f; third = digit_yes c h; at_most = le_yes (number_of a b c) 255 l; is = cc }
                ] refl k
          ] refl g
    ] refl e

number_written : (a b c : ℕ) (text : List ℕ) (p : ℕ × List ℕ) → IsAsciiDigit a → (read : Option ℕ) → ((octet : ℕ) → read ≡ Some octet → HasNumber a b c octet) → (read >>= λ octet. Some (octet, text)) ≡ Some p → HasOctet p.0 (92 ∷ a ∷ b ∷ c ∷ text) p.1
number_written a b c text p d None h e = nothing p e
number_written a b c text p d (Some octet) h e =
    let n = h octet refl in
    let same : (octet, text) ≡ p = cc in
    let w = subst (λ (x : ℕ). WritesOctet x (92 ∷ a ∷ b ∷ c ∷ [])) (sym n.is) (numbered a b c d n.second n.third n.at_most) in
    subst (λ (q : ℕ × List ℕ). HasOctet q.0 (92 ∷ a ∷ b ∷ c ∷ text) q.1) same (record { first = 92 ∷ a ∷ b ∷ c ∷ []; writes = w; is = refl })

digits_written : (a : ℕ) (text : List ℕ) (p : ℕ × List ℕ) → IsAsciiDigit a → read_digits a text ≡ Some p → HasOctet p.0 (92 ∷ a ∷ text) p.1
digits_written a [] p d e = nothing p e
digits_written a (b ∷ []) p d e = nothing p e
digits_written a (b ∷ c ∷ text) p d e = number_written a b c text p d (read_number a b c) (has_number a b c) e

escape_written : (text : List ℕ) (p : ℕ × List ℕ) → read_escape text ≡ Some p → HasOctet p.0 (92 ∷ text) p.1
escape_written [] p e = nothing p e
escape_written (a ∷ text) p e =
    elim (is_ascii_digit a) as (λ t. is_ascii_digit a ≡ t → (if t then read_digits a text else Some (a, text)) ≡ Some p → HasOctet p.0 (92 ∷ a ∷ text) p.1) [
      | true ↦ λ f g. digits_written a text p (digit_yes a f) g
      | false ↦ λ f g.
          let same : (a, text) ≡ p = cc in
          subst (λ (q : ℕ × List ℕ). HasOctet q.0 (92 ∷ a ∷ text) q.1) same (record { first = 92 ∷ a ∷ []; writes = quoted a (digit_no a f); is = refl })
    ] refl e

-- what is read is written
pub octet_written : (text : List ℕ) (p : ℕ × List ℕ) → read_octet text ≡ Some p → HasOctet p.0 text p.1
octet_written [] p e = nothing p e
octet_written (c ∷ text) p e =
    elim (c == 46) as (λ t. (c == 46) ≡ t → (if t then None else if c == 92 then read_escape text else Some (c, text)) ≡ Some p → HasOctet p.0 (c ∷ text) p.1) [
      | true ↦ λ f g. nothing p g
      | false ↦ λ f g.
          elim (c == 92) as (λ t. (c == 92) ≡ t → (if t then read_escape text else Some (c, text)) ≡ Some p → HasOctet p.0 (c ∷ text) p.1) [
            | true ↦ λ h k. subst (λ (x : ℕ). HasOctet p.0 (x ∷ text) p.1) (sym (test_yes c 92 h)) (escape_written text p k)
            | false ↦ λ h k.
                let same : (c, text) ≡ p = cc in
                subst (λ (q : ℕ × List ℕ). HasOctet q.0 (c ∷ text) q.1) same (record { first = c ∷ []; writes = plain c (test_no c 46 f) (test_no c 92 h); is = refl })
          ] refl g
    ] refl e

-- what is written is read
pub octet_read : (octet : ℕ) (first rest : List ℕ) → WritesOctet octet first → read_octet (first ++ rest) ≡ Some (octet, rest)
octet_read _ _ rest (plain octet dot slash) = rw (no_test octet 46 dot, no_test octet 92 slash) refl
octet_read _ _ rest (quoted octet n) = rw (no_digit octet n) refl
octet_read _ _ rest (numbered a b c x y z at_most) = rw (yes_digit a x, yes_digit b y, yes_digit c z, yes_le (number_of a b c) 255 at_most) refl

-- an octet's text begins with no `.`
pub record HasHead (first : List ℕ) : Type 0 where
  pub head : ℕ
  pub tail : List ℕ
  pub is : first ≡ head ∷ tail
  pub no_dot : (head == 46) ≡ false

pub octet_head : (octet : ℕ) (first : List ℕ) → WritesOctet octet first → HasHead first
octet_head _ _ (plain octet dot slash) = record { head = octet; tail = []; is = refl; no_dot = no_test octet 46 dot }
octet_head _ _ (quoted octet n) = record { head = 92; tail = octet ∷ []; is = refl; no_dot = refl }
octet_head _ _ (numbered a b c x y z at_most) = record { head = 92; tail = a ∷ b ∷ c ∷ []; is = refl; no_dot = refl }

pub octet_shorter : (text : List ℕ) (p : ℕ × List ℕ) → read_octet text ≡ Some p → length p.1 < length text
octet_shorter text p e =
    let h = octet_written text p e in
    let f = octet_head p.0 h.first h.writes in
    let l = ap (λ (x : List ℕ). length x) h.is in
    let m = ap (λ (x : List ℕ). length x) f.is in
    omega (arith, length-append h.first p.1)
