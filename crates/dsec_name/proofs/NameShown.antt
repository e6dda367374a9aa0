-- A name's text, label by label.
use Rattle.std.proofs.Common.{◌≡◌, ℕ, true, List, [], ◌∷◌, ◌++◌, take, drop, refl, sym, ap, ◌∙◌, append_assoc}
use Rattle.std.proofs.lemmas.Bool.{and_parts}
use Rattle.std.specs.List.{flat_map, list_all}
use Rattle.std.specs.Fmt.{HasWritten}
use Rattle.std.specs.declared.fmt.Formatter.{Formatter}
use Rattle.dsec_spec.specs.Names.{Labels}
use Rattle.dsec_name.specs.Keys.{labels_of, labels_octets}
use Rattle.dsec_name.specs.NameDisplay.{is_shown, label_text, name_text, octets_text}
use Rattle.dsec_name.proofs.NameParts.{labels_of-cons, labels_of-octets}

-- g is f after the front of the labels was written, and these are left
pub record IsShown {W : Type 0} (took : W → List ℕ → W → Type 0) (f g : Formatter W) (left all : Labels) : Type 0 where
  pub front : List ℕ
  pub wrote : HasWritten took f front g
  pub whole : front ++ flat_map label_text left ≡ flat_map label_text all

pub shown_step : (front : List ℕ) (k : ℕ) (octets : List ℕ) (all : Labels) → front ++ flat_map label_text (labels_of (k ∷ octets)) ≡ flat_map label_text all → (front ++ label_text (take k octets)) ++ flat_map label_text (labels_of (drop k octets)) ≡ flat_map label_text all
shown_step front k octets all e =
    append_assoc front (label_text (take k octets)) (flat_map label_text (labels_of (drop k octets)))
    ∙ (ap (λ (x : Labels). front ++ flat_map label_text x) (sym (labels_of-cons k octets)) ∙ e)

-- the text of a name that isn't the root
pub shown_name : (name : Labels) (octets : List ℕ) → (name ≡ [] → ⊥) → octets ≡ labels_octets name → flat_map label_text (labels_of octets) ≡ name_text name
shown_name [] octets h e = absurd (h refl)
shown_name (label ∷ name) octets h e = ap (λ (x : List ℕ). flat_map label_text (labels_of x)) e ∙ ap (λ (x : Labels). flat_map label_text x) (labels_of-octets (label ∷ name))

-- a label each of whose octets is shown as itself
pub plain_label : (label : List ℕ) → list_all is_shown label ≡ true → octets_text label ≡ label
plain_label [] e = refl
plain_label (x ∷ label) e =
    let both = and_parts (is_shown x) (list_all is_shown label) e in
    rw both.0 (ap (λ (xs : List ℕ). x ∷ xs) (plain_label label both.1))
