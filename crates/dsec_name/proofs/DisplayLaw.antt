-- What a name shows writes the name.
use Rattle.std.proofs.Common.{◌≡◌, ◌≢◌, ℕ, ◌+◌, ◌/◌, ◌%◌, ◌<◌, List, [], ◌∷◌, ◌++◌, length, refl, sym, ap, ◌∙◌, subst, arith, append_assoc}
use Rattle.std.specs.Prelude.{All, true, false, if◌then◌else◌}
use Rattle.std.specs.Char.{IsAsciiDigit}
use Rattle.std.specs.List.{flat_map}
use Rattle.std.proofs.lemmas.List.{append-nil, take_at, drop_at}
use Rattle.std.proofs.lemmas.List.Elements.{All-cons, All-nil, All-head, All-tail, All-take, All-drop}
use Rattle.dsec_spec.specs.Names.{Labels, IsLabel}
use Rattle.dsec_name.specs.Keys.{labels_octets}
use Rattle.dsec_name.specs.NameText.{number_of, WritesOctet, WritesOctets, WritesLabels, WritesName, WritesNameIn}
use Rattle.dsec_name.specs.NameText.WritesOctet.{plain, numbered}
use Rattle.dsec_name.specs.NameText.WritesOctets.{none, more}
use Rattle.dsec_name.specs.NameText.WritesLabels.{last, before}
use Rattle.dsec_name.specs.NameText.WritesName.{root as lone_dot, ended}
use Rattle.dsec_name.specs.NameText.WritesNameIn.{root, absolute}
use Rattle.dsec_name.specs.NameDisplay.{is_shown, octet_text, octets_text, label_text, name_text}

no_special : (octet other : ℕ) → is_shown octet ≡ true → is_shown other ≡ false → octet ≢ other
no_special octet other e f same = let g : is_shown octet ≡ is_shown other = ap is_shown same in absurd cc

first_digit : (octet : ℕ) → octet < 256 → IsAsciiDigit (48 + octet / 100)
first_digit octet h = (omega arith, omega arith)

second_digit : (octet : ℕ) → IsAsciiDigit (48 + octet / 10 % 10)
second_digit octet = (omega arith, omega arith)

third_digit : (octet : ℕ) → IsAsciiDigit (48 + octet % 10)
third_digit octet = (omega arith, omega arith)

digits_value : (octet : ℕ) → octet < 256 → number_of (48 + octet / 100) (48 + octet / 10 % 10) (48 + octet % 10) ≡ octet
digits_value octet h = omega arith

octet_shown : (octet : ℕ) → octet < 256 → WritesOctet octet (octet_text octet)
octet_shown octet h =
    elim (is_shown octet) as (λ b. is_shown octet ≡ b → WritesOctet octet (if b then octet ∷ [] else 92 ∷ (48 + octet / 100) ∷ (48 + octet / 10 % 10) ∷ (48 + octet % 10) ∷ [])) [
      | true ↦ λ e. plain octet (no_special octet 46 e refl) (no_special octet 92 e refl)
      | false ↦ λ e.
          let value = digits_value octet h in
          subst (λ (x : ℕ). WritesOctet x (92 ∷ (48 + octet / 100) ∷ (48 + octet / 10 % 10) ∷ (48 + octet % 10) ∷ [])) value
          (numbered (48 + octet / 100) (48 + octet / 10 % 10) (48 + octet % 10) (first_digit octet h) (second_digit octet) (third_digit octet) (omega arith))
    ] refl

octets_shown : (label : List ℕ) → All (λ (x : ℕ). x < 256) label → WritesOctets label (octets_text label)
octets_shown [] h = none
octets_shown (octet ∷ label) h =
    more octet label (octet_text octet) (octets_text label) (octet_shown octet (All-head (λ (x : ℕ). x < 256) octet label h)) (octets_shown label (All-tail (λ (x : ℕ). x < 256) octet label h))

-- a text that writes the labels, and a `.` after it are what is shown
record ShowsLabels (name : Labels) : Type 0 where
  text : List ℕ
  writes : WritesLabels name text
  is : flat_map label_text name ≡ text ++ 46 ∷ []

one_shown : (label : List ℕ) → 0 < length label → WritesOctets label (octets_text label) → ShowsLabels (label ∷ [])
one_shown label some w = record { text = octets_text label; writes = last label (octets_text label) some w; is = append-nil (label_text label) }

more_shown : (label : List ℕ) (name : Labels) → 0 < length label → WritesOctets label (octets_text label) → ShowsLabels name → ShowsLabels (label ∷ name)
more_shown label name some w l =
    record {
      text = octets_text label ++ 46 ∷ l.text;
      writes = before label name (octets_text label) l.text some w l.writes;
      is = ap (λ (x : List ℕ). label_text label ++ x) l.is
          ∙ (append_assoc (octets_text label) (46 ∷ []) (l.text ++ 46 ∷ [])
          ∙ sym (append_assoc (octets_text label) (46 ∷ l.text) (46 ∷ [])));
    }

-- octets of a label, and of the others
label_fits : (label : List ℕ) (name : Labels) → All (λ (x : ℕ). x < 256) (labels_octets (label ∷ name)) → All (λ (x : ℕ). x < 256) label × All (λ (x : ℕ). x < 256) (labels_octets name)
label_fits label name g =
    let octets = All-tail (λ (x : ℕ). x < 256) (length label) (label ++ labels_octets name) g in (
      subst (λ (x : List ℕ). All (λ (y : ℕ). y < 256) x) (take_at label (labels_octets name) (length label) refl) (All-take (λ (x : ℕ). x < 256) (length label) (label ++ labels_octets name) octets),
      subst (λ (x : List ℕ). All (λ (y : ℕ). y < 256) x) (drop_at label (labels_octets name) (length label) refl) (All-drop (λ (x : ℕ). x < 256) (length label) (label ++ labels_octets name) octets),
    )

labels_shown : (label : List ℕ) (name : Labels) → All IsLabel (label ∷ name) → All (λ (x : ℕ). x < 256) (labels_octets (label ∷ name)) → ShowsLabels (label ∷ name)
labels_shown label [] h g =
    one_shown label (All-head IsLabel label [] h).not_empty (octets_shown label (label_fits label [] g).0)
labels_shown label (next ∷ name) h g =
    let fits = label_fits label (next ∷ name) g in
    more_shown label (next ∷ name) (All-head IsLabel label (next ∷ name) h).not_empty (octets_shown label fits.0)
    (labels_shown next name (All-tail IsLabel label (next ∷ name) h) fits.1)

pub name_shown_in : (origin name : Labels) → All IsLabel name → All (λ (x : ℕ). x < 256) (labels_octets name) → WritesNameIn origin name (name_text name)
name_shown_in origin [] h g = root
name_shown_in origin (label ∷ name) h g =
    let l = labels_shown label name h g in
    subst (λ (x : List ℕ). WritesNameIn origin (label ∷ name) x) (sym l.is) (absolute (label ∷ name) l.text l.writes)

abbrev AreOctets : List ℕ → Type 0
AreOctets label = All (λ octet. octet < 256) label

pub octets_fit : (name : Labels) → All (λ (x : ℕ). x < 256) (labels_octets name) → All AreOctets name
octets_fit [] g = All-nil AreOctets
octets_fit (label ∷ name) g = let fits = label_fits label name g in All-cons AreOctets label name fits.0 (octets_fit name fits.1)

pub name_shown : (name : Labels) → All IsLabel name → All (λ (x : ℕ). x < 256) (labels_octets name) → WritesName name (name_text name)
name_shown [] h g = lone_dot
name_shown (label ∷ name) h g =
    let l = labels_shown label name h g in
    subst (λ (x : List ℕ). WritesName (label ∷ name) x) (sym l.is) (ended (label ∷ name) l.text l.writes)
