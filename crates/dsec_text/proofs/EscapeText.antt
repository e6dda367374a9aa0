-- An octet in zone text: what is read is what is written, and the other way round.
use Rattle.std.proofs.Common.{◌≡◌, ℕ, ◌<◌, ◌≤◌, List, [], ◌∷◌, ◌++◌, length, refl, sym, ap, subst, arith, length-append}
use Rattle.std.specs.Prelude.{Bool, true, false, Option, Some, None, ◌==◌, if◌then◌else◌}
use Rattle.std.specs.Char.{is_ascii_digit, IsAsciiDigit}
use Rattle.dsec_spec.specs.Reading.{◌>>=◌}
use Rattle.dsec_name.specs.TextReading.{read_number}
use Rattle.dsec_name.proofs.OctetText.{HasNumber, has_number, nothing, test_no, test_yes, no_test, digit_yes, digit_no, yes_digit, no_digit, yes_le}
use Rattle.dsec_name.specs.NameText.{number_of}
use Rattle.dsec_text.specs.Escapes.{is_plain, is_line_end, WritesOctet, digits_at, escape_at, octet_at}
use Rattle.dsec_text.specs.Escapes.WritesOctet.{plain, escaped, numbered}

-- the front of a text writes this octet
pub record HasOctet (quoted : Bool) (text : List ℕ) (p : ℕ × ℕ) : Type 0 where
  pub first : List ℕ
  pub rest : List ℕ
  pub writes : WritesOctet quoted p.0 first
  pub size : p.1 ≡ length first
  pub is : text ≡ first ++ rest

number_written : (quoted : Bool) (a b c : ℕ) (text : List ℕ) (p : ℕ × ℕ) → IsAsciiDigit a → (read : Option ℕ) → ((octet : ℕ) → read ≡ Some octet → HasNumber a b c octet) → (read >>= λ octet. Some (octet, 4)) ≡ Some p → HasOctet quoted (92 ∷ a ∷ b ∷ c ∷ text) p
number_written quoted a b c text p d None h e = nothing p e
number_written quoted a b c text p d (Some octet) h e =
    let n = h octet refl in
    let same : (octet, 4) ≡ p = cc in
    let w = subst (λ (x : ℕ). WritesOctet quoted x (92 ∷ a ∷ b ∷ c ∷ [])) (sym n.is) (numbered a b c d n.second n.third n.at_most) in
    subst (λ (q : ℕ × ℕ). HasOctet quoted (92 ∷ a ∷ b ∷ c ∷ text) q) same (record { first = 92 ∷ a ∷ b ∷ c ∷ []; rest = text; writes = w; size = refl; is = refl })

digits_written : (quoted : Bool) (a : ℕ) (text : List ℕ) (p : ℕ × ℕ) → IsAsciiDigit a → digits_at a text ≡ Some p → HasOctet quoted (92 ∷ a ∷ text) p
digits_written quoted a [] p d e = nothing p e
digits_written quoted a (b ∷ []) p d e = nothing p e
digits_written quoted a (b ∷ c ∷ text) p d e = number_written quoted a b c text p d (read_number a b c) (has_number a b c) e

escape_written : (quoted : Bool) (text : List ℕ) (p : ℕ × ℕ) → escape_at text ≡ Some p → HasOctet quoted (92 ∷ text) p
escape_written quoted [] p e = nothing p e
escape_written quoted (a ∷ text) p e =
    elim (is_ascii_digit a) as (λ t. is_ascii_digit a ≡ t → (if t then digits_at a text else if is_line_end a then None else Some (a, 2)) ≡ Some p → HasOctet quoted (92 ∷ a ∷ text) p) [
      | true ↦ λ f g. digits_written quoted a text p (digit_yes a f) g
      | false ↦ λ f g.
          elim (is_line_end a) as (λ t. is_line_end a ≡ t → (if t then None else Some (a, 2)) ≡ Some p → HasOctet quoted (92 ∷ a ∷ text) p) [
            | true ↦ λ h k. nothing p k
            | false ↦ λ h k.
                let same : (a, 2) ≡ p = cc in
                subst (λ (q : ℕ × ℕ). HasOctet quoted (92 ∷ a ∷ text) q) same (record { first = 92 ∷ a ∷ []; rest = text; writes = escaped a (digit_no a f) (test_no a 10 h); size = refl; is = refl })
          ] refl g
    ] refl e

-- what is read is written
pub octet_written : (quoted : Bool) (text : List ℕ) (p : ℕ × ℕ) → octet_at quoted text ≡ Some p → HasOctet quoted text p
octet_written quoted [] p e = nothing p e
octet_written quoted (c ∷ text) p e =
    elim (is_plain quoted c) as (λ t. is_plain quoted c ≡ t → (if t then Some (c, 1) else if c == 92 then escape_at text else None) ≡ Some p → HasOctet quoted (c ∷ text) p) [
      | true ↦ λ f g.
          let same : (c, 1) ≡ p = cc in
          subst (λ (q : ℕ × ℕ). HasOctet quoted (c ∷ text) q) same (record { first = c ∷ []; rest = text; writes = plain c f; size = refl; is = refl })
      | false ↦ λ f g.
          elim (c == 92) as (λ t. (c == 92) ≡ t → (if t then escape_at text else None) ≡ Some p → HasOctet quoted (c ∷ text) p) [
            | true ↦ λ h k. subst (λ (x : ℕ). HasOctet quoted (x ∷ text) p) (sym (test_yes c 92 h)) (escape_written quoted text p k)
            | false ↦ λ h k. nothing p k
          ] refl g
    ] refl e

-- a `\` doesn't stand for itself
backslash : (quoted : Bool) → is_plain quoted 92 ≡ false
backslash true = refl
backslash false = refl

-- what is written is read
pub octet_read : (quoted : Bool) (octet : ℕ) (first rest : List ℕ) → WritesOctet quoted octet first → octet_at quoted (first ++ rest) ≡ Some (octet, length first)
octet_read quoted _ _ rest (plain octet itself) = rw itself refl
octet_read quoted _ _ rest (escaped octet n end) = rw (backslash quoted, no_digit octet n, no_test octet 10 end) refl
octet_read quoted _ _ rest (numbered a b c x y z at_most) = rw (backslash quoted, yes_digit a x, yes_digit b y, yes_digit c z, yes_le (number_of a b c) 255 at_most) refl

some_octet : (quoted : Bool) (octet : ℕ) (first : List ℕ) → WritesOctet quoted octet first → 0 < length first
some_octet quoted _ _ (plain octet itself) = omega arith
some_octet quoted _ _ (escaped octet n end) = omega arith
some_octet quoted _ _ (numbered a b c x y z at_most) = omega arith

-- an octet takes one at least, and no more than there are
pub octet_sized : (quoted : Bool) (text : List ℕ) (p : ℕ × ℕ) → octet_at quoted text ≡ Some p → (0 < p.1) × (p.1 ≤ length text)
octet_sized quoted text p e =
    let h = octet_written quoted text p e in
    let some = some_octet quoted p.0 h.first h.writes in
    let l = ap (λ (x : List ℕ). length x) h.is in
    let size = h.size in
    (omega arith, omega (arith, length-append h.first h.rest))
