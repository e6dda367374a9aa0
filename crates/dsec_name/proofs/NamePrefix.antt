-- A name at the front of octets, read label by label.
use Rattle.std.proofs.Common.{◌≡◌, ◌↔◌, ℕ, ◌-◌, ◌+◌, ◌≤◌, ◌<◌, List, [], ◌∷◌, ◌++◌, length, take, drop, Some, None, refl, sym, ap, ◌∙◌, arith, append_assoc, length-append}
use Rattle.std.specs.Prelude.{map}
use Rattle.std.specs.Char.{to_ascii_lowercase}
use Rattle.std.specs.List.{flat_map}
use Rattle.std.proofs.lemmas.List.{take_at, drop_at}
use Rattle.std.proofs.lemmas.Option.{same_Some}
use Rattle.dsec_spec.specs.Names.{Labels, IsName, place, lower, wire_length, label_octets, wire_octets}
use Rattle.dsec_spec.specs.RecordData.{name_in}
use Rattle.dsec_spec.proofs.CanonicalNames.{place-lower}
use Rattle.dsec_spec.proofs.ReadingLemmas.{from_bind}
use Rattle.dsec_spec.proofs.WireNameLemmas.{from_name_in}
use Rattle.dsec_spec.proofs.StepLemmas.{HasLabels, HasLabels-nil, HasLabels-push, name_in-labels, name_in-no_end, name_in-long_label, name_in-short_label, name_in-too_long}
use Rattle.dsec_name.specs.Keys.{labels_of, labels_octets, IsWhole}
use Rattle.dsec_name.specs.NamePrefix.{labels_size_in}
use Rattle.dsec_name.proofs.NameParts.{labels_of-octets, labels_of-cons, length-octets, lower-octets, IsWhole-octets}

-- labels were read, at most 254 octets, and these octets are left
pub record NameBegins (octets rest : List ℕ) : Type 0 where
  pub labels : Labels
  pub has : HasLabels octets labels rest
  pub short : length octets ≤ length rest + 254

pub name_starts : (octets : List ℕ) → NameBegins octets octets
name_starts octets = record { labels = []; has = HasLabels-nil octets; short = omega arith }

-- the octets that are read and left
taken : (octets : List ℕ) (labels : Labels) (rest : List ℕ) → HasLabels octets labels rest → length octets + 1 ≡ wire_length labels + length rest
taken octets labels rest has =
    omega (arith, ap length has.is, length-append (flat_map label_octets labels) rest, length-octets labels)

pub name_ends : (octets after : List ℕ) → NameBegins octets (0 ∷ after) → labels_size_in octets ≡ Some (length octets - (length after + 1))
name_ends octets after begins =
    let n = taken octets begins.labels (0 ∷ after) begins.has in
    let m : length (labels_octets begins.labels) ≡ length octets - (length after + 1) = omega (arith, length-octets begins.labels) in
    rw (name_in-labels octets begins.labels after begins.has (omega (arith, begins.short)), m) refl

pub name_never_ends : (octets : List ℕ) → NameBegins octets [] → labels_size_in octets ≡ None
name_never_ends octets begins = rw (name_in-no_end octets begins.labels begins.has) refl

pub name_long_label : (octets : List ℕ) (size : ℕ) (after : List ℕ) → NameBegins octets (size ∷ after) → 63 < size → labels_size_in octets ≡ None
name_long_label octets size after begins long = rw (name_in-long_label octets begins.labels size after begins.has long) refl

pub name_short_label : (octets : List ℕ) (size : ℕ) (after : List ℕ) → NameBegins octets (size ∷ after) → length after < size → labels_size_in octets ≡ None
name_short_label octets size after begins short = rw (name_in-short_label octets begins.labels size after begins.has short) refl

pub name_too_long : (octets : List ℕ) (size : ℕ) (after : List ℕ) → NameBegins octets (size ∷ after) → 0 < size → size ≤ 63 → size ≤ length after → 255 ≤ length octets - length (drop size after) → labels_size_in octets ≡ None
name_too_long octets size after begins some few fits long =
    let has = HasLabels-push octets begins.labels size after begins.has some few fits in
    let n = taken octets (begins.labels ++ take size after ∷ []) (drop size after) has in
    rw (name_in-too_long octets (begins.labels ++ take size after ∷ []) (drop size after) has (omega arith)) refl

pub name_goes_on : (octets : List ℕ) (size : ℕ) (after : List ℕ) → NameBegins octets (size ∷ after) → 0 < size → size ≤ 63 → size ≤ length after → length octets - length (drop size after) < 255 → NameBegins octets (drop size after)
name_goes_on octets size after begins some few fits short = record {
  labels = begins.labels ++ take size after ∷ [];
  has = HasLabels-push octets begins.labels size after begins.has some few fits;
  short = omega arith;
}

pub empty : (x : List ℕ) → length x ≡ 0 → x ≡ []
empty [] e = refl
empty (first ∷ x) e = absurd (omega arith)

-- the name at the front, by the size of its labels
pub record HasPrefix (x : List ℕ) (size : ℕ) : Type 0 where
  pub name : Labels
  pub read : name_in x ≡ Some (name, drop (size + 1) x)
  pub octets : take size x ≡ labels_octets name
  pub good : IsName name

pub from_labels_size : (x : List ℕ) (size : ℕ) → labels_size_in x ≡ Some size → HasPrefix x size
from_labels_size x size e =
    let b = from_bind (name_in x) (λ (name : Labels × List ℕ). Some (length (labels_octets name.0))) size e in
    let n : length (labels_octets b.0.0) ≡ size = same_Some _ _ b.2 in
    let read = from_name_in x b.0.0 b.0.1 b.1 in
    let long : length (wire_octets b.0.0) ≡ size + 1 = omega (arith, length-append (labels_octets b.0.0) (0 ∷ []), n) in
    record {
      name = b.0.0;
      read = b.1 ∙ ap (λ (y : List ℕ). Some (b.0.0, y)) (sym (ap (drop (size + 1)) read.1 ∙ drop_at (wire_octets b.0.0) b.0.1 (size + 1) long));
      octets = ap (take size) (read.1 ∙ append_assoc (labels_octets b.0.0) (0 ∷ []) b.0.1) ∙ take_at (labels_octets b.0.0) (0 ∷ b.0.1) size n;
      good = read.0;
    }

-- what stands before and after the root's octet
pub prefix_whole : (x labels : List ℕ) (size : ℕ) → labels_size_in x ≡ Some size → labels ≡ take size x → IsWhole labels
prefix_whole x labels size e is =
    let has = from_labels_size x size e in
    rw (is ∙ has.octets) (IsWhole-octets has.name has.good)

pub prefix_read : (x labels rest : List ℕ) (size : ℕ) → labels_size_in x ≡ Some size → labels ≡ take size x → rest ≡ drop (size + 1) x → Some (labels_of labels, rest) ≡ name_in x
prefix_read x labels rest size e is after =
    let has = from_labels_size x size e in
    let name : labels_of labels ≡ has.name = ap labels_of (is ∙ has.octets) ∙ labels_of-octets has.name in
    rw (name, after) (sym has.read)

-- octets of names are alike but for case exactly where the names are one
pub same_octets : (m n : Labels) (x y : List ℕ) → x ≡ labels_octets m → y ≡ labels_octets n → IsName m → IsName n
    → (map to_ascii_lowercase x ≡ map to_ascii_lowercase y) ↔ (place m ≡ place n)
same_octets m n x y is_m is_n hm hn =
    let a : map to_ascii_lowercase x ≡ labels_octets (lower m) = ap (map to_ascii_lowercase) is_m ∙ lower-octets m hm.labels in
    let b : map to_ascii_lowercase y ≡ labels_octets (lower n) = ap (map to_ascii_lowercase) is_n ∙ lower-octets n hn.labels in (
      λ e. (place-lower m n).0 (sym (labels_of-octets (lower m)) ∙ (ap labels_of (sym a ∙ (e ∙ b)) ∙ labels_of-octets (lower n))),
      λ e. a ∙ (ap labels_octets ((place-lower m n).1 e) ∙ sym b),
    )

-- one label more is counted
pub counts_label : (k : ℕ) (after : List ℕ) → length (labels_of (k ∷ after)) ≡ length (labels_of (drop k after)) + 1
counts_label k after = ap length (labels_of-cons k after) ∙ omega arith
