-- The words of a key's line are plain.
use Rattle.std.proofs.Common.{◌≡◌, ℕ, zero, suc, List, [], ◌∷◌, ◌++◌, ◌<◌, ◌+◌, ◌/◌, ◌%◌, ◌*◌, ◌^◌, ◌&&◌, length, refl, sym, ap, ◌∙◌, true, false, Bool, arith, cond, length-append, append_assoc, replicate, slice_index, map}
use Rattle.std.specs.Prelude.{nat_lt, ◌==◌, decimal, All}
use Rattle.std.specs.List.{flat_map, list_all}
use Rattle.std.specs.Char.{to_ascii_lowercase}
use Rattle.std.specs.Cmp.{first_so, second_so}
use Rattle.std.specs.Str.{IsAscii}
use Rattle.std.specs.Str.Parse.{AllDigits}
use Rattle.std.proofs.Math.Bool.{not}
use Rattle.std.proofs.lemmas.Bool.{lt-ltb, ltb-true}
use Rattle.std.proofs.lemmas.Fmt.{decimal_is_IsNumeral}
use Rattle.std.proofs.lemmas.List.Folds.{list_all-append}
use Rattle.std.proofs.lemmas.List.Sums.{AllPass-from_list_all, list_all-from_AllPass}
use Rattle.std.proofs.lemmas.Str.Ascii.{IsAscii-cons, IsAscii-nil}
use Rattle.std.proofs.lemmas.Str.Parse.{digit_from_value}
use Rattle.std.proofs.lemmas.Grind.{common_steps}
use Rattle.std.proofs.lemmas.Bool.Decides.{nat_tests}
use Rattle.base64.specs.Engines.{standard}
use Rattle.base64.specs.GeneralPurpose.{encode_of, engine_symbols}
use Rattle.base64.specs.Rfc4648.{encode_symbols, padding_len}
use Rattle.dsec_spec.specs.Names.{Labels, canonical_octets, label_octets}
use Rattle.dsec_name.specs.NameDisplay.{is_shown, label_text, name_text, octet_text, octets_text}
use Rattle.dsec_bind.proofs.PlainWords.{IsPlainWord, is_plain, plain_octet}

-- whether a number is an octet
abbrev pub small : ℕ → Bool
small octet = nat_lt octet 256

-- what all octets are
pub all_small : (x : List ℕ) → All (λ octet. octet < 256) x → list_all small x ≡ true
all_small x h = list_all-from_AllPass small x (λ k d l. lt-ltb _ 256 (h k d l))

-- ---- numbers

digits_plain : (word : List ℕ) → AllDigits 10 word → list_all is_plain word ≡ true
digits_plain [] h = refl
digits_plain (b ∷ bs) h =
    let digit = digit_from_value b h.0 in
    λ i. plain_octet b (omega (arith, digit)) (omega (arith, digit)) (λ e. omega (arith, digit, e)) i && digits_plain bs h.1 i

pub decimal_plain : (n : ℕ) → n < 2 ^ 64 → IsPlainWord (decimal n)
decimal_plain n l =
    let numeral = decimal_is_IsNumeral n l in
    record { some = numeral.0.0; octets = digits_plain (decimal n) numeral.0.1 }

-- ---- base64

-- the symbols of base64
abbrev symbols : List ℕ
symbols = engine_symbols standard

symbol_plain : (i : ℕ) → i < 64 → is_plain (slice_index symbols i) ≡ true
symbol_plain i l = AllPass-from_list_all is_plain symbols refl i 0 l

-- no octet is written as nothing
pub nothing_written : encode_of standard [] ≡ []
unfolding encode_symbols
nothing_written = refl

symbols_plain : (x : List ℕ) → list_all small x ≡ true → list_all is_plain (encode_symbols symbols x) ≡ true
unfolding encode_symbols
symbols_plain [] e = refl
symbols_plain (a ∷ []) e =
    let la : a < 256 = ltb-true a 256 (first_so (small a) true e) in
    λ i. symbol_plain (a / 4) (omega (arith, la)) i && (symbol_plain (a % 4 * 16) (omega arith) i && true)
symbols_plain (a ∷ b ∷ []) e =
    let la : a < 256 = ltb-true a 256 (first_so (small a) (small b && true) e) in
    let lb : b < 256 = ltb-true b 256 (first_so (small b) true (second_so (small a) (small b && true) e)) in
    λ i. symbol_plain (a / 4) (omega (arith, la)) i && (symbol_plain (a % 4 * 16 + b / 16) (omega (arith, lb)) i && (symbol_plain (b % 16 * 4) (omega arith) i && true))
symbols_plain (a ∷ b ∷ c ∷ x) e =
    let more = second_so (small a) (small b && (small c && list_all small x)) e in
    let last = second_so (small b) (small c && list_all small x) more in
    let la : a < 256 = ltb-true a 256 (first_so (small a) (small b && (small c && list_all small x)) e) in
    let lb : b < 256 = ltb-true b 256 (first_so (small b) (small c && list_all small x) more) in
    let lc : c < 256 = ltb-true c 256 (first_so (small c) (list_all small x) last) in
    λ i. symbol_plain (a / 4) (omega (arith, la)) i && (symbol_plain (a % 4 * 16 + b / 16) (omega (arith, lb)) i && (symbol_plain (b % 16 * 4 + c / 64) (omega (arith, lc)) i
    && (symbol_plain (c % 64) (omega arith) i && symbols_plain x (second_so (small c) (list_all small x) last) i)))

padding_plain : (n : ℕ) → list_all is_plain (replicate n 61) ≡ true
padding_plain zero = refl
padding_plain (suc n) = padding_plain n

some_symbols : (x : List ℕ) → 0 < length x → 0 < length (encode_symbols symbols x)
unfolding encode_symbols
some_symbols [] l = absurd (omega (arith, l))
some_symbols (a ∷ []) l = omega arith
some_symbols (a ∷ b ∷ []) l = omega arith
some_symbols (a ∷ b ∷ c ∷ x) l = omega arith

pub base64_plain : (x : List ℕ) → 0 < length x → list_all small x ≡ true → IsPlainWord (encode_of standard x)
base64_plain x l e =
    let padding = replicate (padding_len (length x)) 61 in
    let sum = length-append (encode_symbols symbols x) padding in
    record {
      some = omega (arith, sum, some_symbols x l);
      octets = list_all-append is_plain (encode_symbols symbols x) padding ∙ (λ i. symbols_plain x e i && padding_plain (padding_len (length x)) i);
    }

-- ---- names

shown_plain : (b : ℕ) → is_shown b ≡ true → is_plain b ≡ true
shown_plain b e = grind (arith, common_steps, nat_tests)

digit_plain : (d : ℕ) → d < 10 → is_plain (48 + d) ≡ true
digit_plain d l = plain_octet (48 + d) (omega arith) (omega (arith, l)) (λ e. omega (arith, l, e))

octet_by : (b : ℕ) (t : Bool) → is_shown b ≡ t → b < 256
    → list_all is_plain (cond t (b ∷ []) (92 ∷ (48 + b / 100) ∷ (48 + b / 10 % 10) ∷ (48 + b % 10) ∷ [])) ≡ true
octet_by b true e l = λ i. shown_plain b e i && true
octet_by b false e l = λ i. digit_plain (b / 100) (omega (arith, l)) i && (digit_plain (b / 10 % 10) (omega arith) i && (digit_plain (b % 10) (omega arith) i && true))

octets_plain : (label : List ℕ) → list_all small label ≡ true → list_all is_plain (octets_text label) ≡ true
octets_plain [] e = refl
octets_plain (b ∷ bs) e =
    list_all-append is_plain (octet_text b) (octets_text bs)
    ∙ (λ i. octet_by b (is_shown b) refl (ltb-true b 256 (first_so (small b) (list_all small bs) e)) i && octets_plain bs (second_so (small b) (list_all small bs) e) i)

label_plain : (label : List ℕ) → list_all small label ≡ true → list_all is_plain (label_text label) ≡ true
label_plain label e = list_all-append is_plain (octets_text label) (46 ∷ []) ∙ (λ i. octets_plain label e i && true)

abbrev small_labels : Labels → Bool
small_labels name = list_all (λ label. list_all small label) name

labels_plain : (name : Labels) → small_labels name ≡ true → list_all is_plain (flat_map label_text name) ≡ true
labels_plain [] e = refl
labels_plain (label ∷ name) e =
    list_all-append is_plain (label_text label) (flat_map label_text name)
    ∙ (λ i. label_plain label (first_so (list_all small label) (small_labels name) e) i && labels_plain name (second_so (list_all small label) (small_labels name) e) i)

some_labels : (label : List ℕ) (name : Labels) → 0 < length (flat_map label_text (label ∷ name))
some_labels label name =
    let a = length-append (label_text label) (flat_map label_text name) in
    let b = length-append (octets_text label) (46 ∷ []) in
    omega (arith, a, b)

pub name_plain : (name : Labels) → small_labels name ≡ true → IsPlainWord (name_text name)
name_plain [] e = record { some = omega arith; octets = refl }
name_plain (label ∷ name) e = record { some = some_labels label name; octets = labels_plain (label ∷ name) e }

lower_small_by : (b : ℕ) → small (to_ascii_lowercase b) ≡ true → small b ≡ true
lower_small_by b e = grind (arith, common_steps, nat_tests)

lower_label : (label : List ℕ) → list_all small (map to_ascii_lowercase label) ≡ true → list_all small label ≡ true
lower_label [] e = refl
lower_label (b ∷ bs) e =
    let rest = list_all small (map to_ascii_lowercase bs) in
    λ i. lower_small_by b (first_so (small (to_ascii_lowercase b)) rest e) i && lower_label bs (second_so (small (to_ascii_lowercase b)) rest e) i

lower_labels : (name : Labels) (back : List ℕ) → list_all small (flat_map label_octets (map (map to_ascii_lowercase) name) ++ back) ≡ true → small_labels name ≡ true
lower_labels [] back e = refl
lower_labels (label ∷ name) back e =
    let lowered = map to_ascii_lowercase label in
    let first = label_octets lowered in
    let rest = flat_map label_octets (map (map to_ascii_lowercase) name) in
    let others = rest ++ back in
    let both : (list_all small first && list_all small others) ≡ true = sym (list_all-append small first others) ∙ sym (ap (list_all small) (append_assoc first rest back)) ∙ e in
    let own = second_so (small (length lowered)) (list_all small lowered) (first_so (list_all small first) (list_all small others) both) in
    λ i. lower_label label own i && lower_labels name back (second_so (list_all small first) (list_all small others) both) i

-- the octets of a name, by its canonical ones
pub labels_small : (name : Labels) → list_all small (canonical_octets name) ≡ true → small_labels name ≡ true
labels_small name e = lower_labels name (0 ∷ []) e

-- plain words are ASCII
pub plain_ascii : (word : List ℕ) → list_all is_plain word ≡ true → IsAscii word
plain_ascii [] e = IsAscii-nil
plain_ascii (b ∷ bs) e =
    let own = first_so (is_plain b) (list_all is_plain bs) e in
    let high : b < 127 = ltb-true b 127 (first_so (nat_lt b 127) (not (b == 59)) (second_so (nat_lt 32 b) (nat_lt b 127 && not (b == 59)) own)) in
    IsAscii-cons b bs (omega (arith, high)) (plain_ascii bs (second_so (is_plain b) (list_all is_plain bs) e))
