-- A name's text is a word, which begins like no other item, and reads as the name in any zone.
use Rattle.std.proofs.Common.{◌≡◌, ℕ, List, [], ◌∷◌, ◌++◌, ◌<◌, ◌+◌, ◌/◌, ◌%◌, refl, sym, ap, ◌∙◌, subst, true, false, Bool, arith, cond, Some, None, append_assoc, length-append}
use Rattle.std.specs.Prelude.{All, ◌==◌, ◌||◌, Ok, codes, if◌then◌else◌}
use Rattle.std.specs.Char.{IsAsciiDigit}
use Rattle.std.specs.List.{flat_map}
use Rattle.std.specs.Str.{bytes_eq}
use Rattle.std.specs.Result.{result_ok}
use Rattle.std.proofs.lemmas.List.Elements.{All-head, All-tail}
use Rattle.std.proofs.lemmas.Grind.{common_steps}
use Rattle.std.proofs.lemmas.Bool.Decides.{nat_tests}
use Rattle.dsec_spec.specs.Names.{Labels}
use Rattle.dsec_name.specs.NameText.{number_of}
use Rattle.dsec_name.specs.NameDisplay.{is_shown, octet_text, octets_text, label_text, name_text}
use Rattle.dsec_name.specs.TextReading.{name_of_text_in}
use Rattle.dsec_text.specs.Escapes.{is_blank, WritesOctet, WritesOctets}
use Rattle.dsec_text.specs.Escapes.WritesOctet.{plain, numbered}
use Rattle.dsec_text.specs.Escapes.WritesOctets.{none, more}
use Rattle.dsec_text.specs.Words.{is_backslash, plain_of}
use Rattle.dsec_zonefile.specs.Lines.{begins_with_dollar}
use Rattle.dsec_zonefile.specs.Words.{name_in}
use Rattle.dsec_record_text.proofs.PlainWords.{IsWord, bare, shown_plain}

abbrev IsOctet : ℕ → Type 0
IsOctet octet = octet < 256

abbrev AreOctets : List ℕ → Type 0
AreOctets label = All (λ octet. octet < 256) label

-- ---- as a word

pub writes_both : (a b x y : List ℕ) → WritesOctets false a x → WritesOctets false b y → WritesOctets false (a ++ b) (x ++ y)
writes_both _ b _ y none w = w
writes_both _ b _ y (more octet octets first rest o os) w =
    subst (λ (text : List ℕ). WritesOctets false (octet ∷ (octets ++ b)) text) (sym (append_assoc first rest y))
    (more octet (octets ++ b) first (rest ++ y) o (writes_both octets b rest y os w))

first_digit : (octet : ℕ) → octet < 256 → IsAsciiDigit (48 + octet / 100)
first_digit octet h = (omega arith, omega arith)

second_digit : (octet : ℕ) → IsAsciiDigit (48 + octet / 10 % 10)
second_digit octet = (omega arith, omega arith)

third_digit : (octet : ℕ) → IsAsciiDigit (48 + octet % 10)
third_digit octet = (omega arith, omega arith)

digits_value : (octet : ℕ) → octet < 256 → number_of (48 + octet / 100) (48 + octet / 10 % 10) (48 + octet % 10) ≡ octet
digits_value octet h = omega arith

escaped_text : ℕ → List ℕ
escaped_text octet = 92 ∷ (48 + octet / 100) ∷ (48 + octet / 10 % 10) ∷ (48 + octet % 10) ∷ []

octet_by : (octet : ℕ) (t : Bool) → is_shown octet ≡ t → octet < 256
    → WritesOctet false octet (cond t (octet ∷ []) (92 ∷ (48 + octet / 100) ∷ (48 + octet / 10 % 10) ∷ (48 + octet % 10) ∷ []))
octet_by octet true e l = plain octet (shown_plain octet e)
octet_by octet false e l =
    let value = digits_value octet l in
    subst (λ (x : ℕ). WritesOctet false x (92 ∷ (48 + octet / 100) ∷ (48 + octet / 10 % 10) ∷ (48 + octet % 10) ∷ [])) value
    (numbered (48 + octet / 100) (48 + octet / 10 % 10) (48 + octet % 10) (first_digit octet l) (second_digit octet) (third_digit octet) (omega arith))

label_written : (label : List ℕ) → AreOctets label → WritesOctets false label (octets_text label)
label_written [] h = none
label_written (octet ∷ label) h =
    more octet label (octet_text octet) (octets_text label) (octet_by octet (is_shown octet) refl (All-head IsOctet octet label h)) (label_written label (All-tail IsOctet octet label h))

-- the octets that the labels' text writes
abbrev shown_octets : Labels → List ℕ
shown_octets name = flat_map (λ (label : List ℕ). label ++ 46 ∷ []) name

dot : WritesOctets false (46 ∷ []) (46 ∷ [])
dot = more 46 [] (46 ∷ []) [] (plain 46 refl) none

labels_written : (name : Labels) → All AreOctets name → WritesOctets false (shown_octets name) (flat_map label_text name)
labels_written [] h = none
labels_written (label ∷ name) h =
    writes_both (label ++ 46 ∷ []) (shown_octets name) (label_text label) (flat_map label_text name)
    (writes_both label (46 ∷ []) (octets_text label) (46 ∷ []) (label_written label (All-head AreOctets label name h)) dot)
    (labels_written name (All-tail AreOctets label name h))

pub owner_word : (name : Labels) → All AreOctets name → IsWord (name_text name)
owner_word [] h = record { octets = 46 ∷ []; some = omega arith; writes = dot }
owner_word (label ∷ name) h = record {
  octets = shown_octets (label ∷ name);
  some = (let a = length-append (label_text label) (flat_map label_text name) in let b = length-append (octets_text label) (46 ∷ []) in omega (arith, a, b));
  writes = labels_written (label ∷ name) h;
}

-- ---- its first octet

abbrev may_begin : ℕ → Bool
may_begin c = is_shown c || ((c == 46) || (c == 92))

-- the first octet is none that begins another item
pub record HasFirst (text : List ℕ) : Type 0 where
  pub head : ℕ
  pub tail : List ℕ
  pub is : text ≡ head ∷ tail
  pub begins : may_begin head ≡ true

octet_first : (octet : ℕ) (t : Bool) (rest : List ℕ) → is_shown octet ≡ t → HasFirst (cond t (octet ∷ []) (escaped_text octet) ++ rest)
unfolding escaped_text
octet_first octet true rest e = record { head = octet; tail = rest; is = refl; begins = ap (λ (t : Bool). t || ((octet == 46) || (octet == 92))) e }
octet_first octet false rest e = record { head = 92; tail = _; is = refl; begins = refl }

put_behind : (text rest : List ℕ) → HasFirst text → HasFirst (text ++ rest)
put_behind text rest h = record { head = h.head; tail = h.tail ++ rest; is = ap (λ (x : List ℕ). x ++ rest) h.is; begins = h.begins }

label_first : (label : List ℕ) → HasFirst (label_text label)
unfolding escaped_text
label_first [] = record { head = 46; tail = []; is = refl; begins = refl }
label_first (octet ∷ label) =
    put_behind (octets_text (octet ∷ label)) (46 ∷ []) (octet_first octet (is_shown octet) (octets_text label) refl)

pub name_first : (name : Labels) → HasFirst (name_text name)
name_first [] = record { head = 46; tail = []; is = refl; begins = refl }
name_first (label ∷ name) = put_behind (label_text label) (flat_map label_text name) (label_first label)

no_blank : (c : ℕ) → may_begin c ≡ true → is_blank c ≡ false
no_blank c e = grind (arith, common_steps, nat_tests)

no_dollar : (c : ℕ) → may_begin c ≡ true → (c == 36) ≡ false
no_dollar c e = grind (arith, common_steps, nat_tests)

no_at : (c : ℕ) → may_begin c ≡ true → (c == 64) ≡ false
no_at c e = grind (arith, common_steps, nat_tests)

pub first_no_blank : (text : List ℕ) (h : HasFirst text) → is_blank h.head ≡ false
first_no_blank text h = no_blank h.head h.begins

dollar_by : (c : ℕ) (cs : List ℕ) (t : Bool) → (c == 36) ≡ false → begins_with_dollar (cond t None (Some (c ∷ cs))) ≡ false
dollar_by c cs true e = refl
dollar_by c cs false e = e

pub begins_no_dollar : (text : List ℕ) → HasFirst text → begins_with_dollar (plain_of (bare text)) ≡ false
begins_no_dollar text h =
    ap (λ (x : List ℕ). begins_with_dollar (plain_of (bare x))) h.is
    ∙ dollar_by h.head h.tail (is_backslash h.head || _) (no_dollar h.head h.begins)

is_no_at : (text : List ℕ) → HasFirst text → bytes_eq text (codes "@") ≡ false
is_no_at text h =
    ap (λ (x : List ℕ). bytes_eq x (codes "@")) h.is
    ∙ rw (no_at h.head h.begins) refl

-- ---- as a name

-- the text of a name reads as the name, whatever the origin is
pub owner_back : (origin name : Labels) → name_of_text_in origin (name_text name) ≡ Ok name → name_in origin (bare (name_text name)) ≡ Some name
owner_back origin name read =
    ap (λ (t : Bool). if t then Some origin else result_ok (name_of_text_in origin (name_text name))) (is_no_at (name_text name) (name_first name))
    ∙ ap result_ok read
