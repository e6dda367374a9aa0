-- Data added as they are signed, field by field.
use Rattle.std.proofs.Common.{◌≡◌, ℕ, ◌+◌, ◌≤◌, ◌<◌, List, [], ◌∷◌, ◌++◌, length, take, drop, get_or, Option, Some, None, refl, sym, ap, ◌∙◌, append_assoc}
use Rattle.std.specs.Prelude.{map, IsTrue, unwrap_or}
use Rattle.std.specs.Option.{is_some, option_map}
use Rattle.std.specs.List.{flat_map}
use Rattle.std.specs.Char.{to_ascii_lowercase}
use Rattle.std.proofs.lemmas.Bool.{false≢true}
use Rattle.std.proofs.lemmas.List.{append-nil, drop_all, map-append}
use Rattle.std.proofs.lemmas.Option.{same_Some}
use Rattle.dsec_spec.specs.Layouts as layouts
use Rattle.dsec_spec.specs.Layouts.{lowered_name, kept_name, octets, string, bitmap, rest}
use Rattle.dsec_spec.specs.Names.{IsName, wire_octets, canonical_octets}
use Rattle.dsec_spec.specs.RecordData.{Part, lowered, kept, plain, part_octets, canonical_part, Fits, parts_in}
use Rattle.dsec_spec.proofs.CanonicalDataLemmas.{canonical_in-cons, canonical_in-none}
use Rattle.dsec_name.specs.Keys.{labels_octets}
use Rattle.dsec_name.proofs.NameParts.{lower-octets}
use Rattle.dsec_wire.specs.declared.layout.Field.{Field}
use Rattle.dsec_wire.specs.Canonical.{canonical_in, canonical_piece}
use Rattle.dsec_wire.specs.Fields.{field_view, part_size_in}
use Rattle.dsec_wire.proofs.FieldLoops.{fields_from, from_part_size, no_part}

-- a name's octets in lower case are its canonical octets
lowered_octets : (name : List (List ℕ)) → IsName name → map to_ascii_lowercase (wire_octets name) ≡ canonical_octets name
lowered_octets name is = map-append to_ascii_lowercase (labels_octets name) (0 ∷ []) ∙ ap (λ (x : List ℕ). x ++ 0 ∷ []) (lower-octets name is.labels)

-- so a part's octets are signed by their field alone
pub piece_of_part : (field : layouts.Field) (part : Part) → Fits field part → canonical_piece field (part_octets part) ≡ canonical_part part
piece_of_part lowered_name (lowered name) fits = lowered_octets name fits
piece_of_part kept_name (kept name) fits = refl
piece_of_part (octets n) (plain x) fits = refl
piece_of_part string (plain x) fits = refl
piece_of_part bitmap (plain x) fits = refl
piece_of_part rest (plain x) fits = refl
piece_of_part _ _ fits = absurd fits

-- octets that were added, and those that fields still take
abbrev pub canonical_left : List ℕ → List layouts.Field → List ℕ → Option (List ℕ)
canonical_left front fields x = option_map (λ z. front ++ z) (canonical_in fields x)

pub canonical_step : (fields : List Field) (i : ℕ) (d : Field) (front x : List ℕ) (size : ℕ) → i < length fields → part_size_in (field_view (get_or fields i d)) x ≡ Some size
    → canonical_left (front ++ canonical_piece (field_view (get_or fields i d)) (take size x)) (map field_view (drop (i + 1) fields)) (drop size x) ≡ canonical_left front (map field_view (drop i fields)) x
canonical_step fields i d front x size below e =
    let field = field_view (get_or fields i d) in
    let takes = from_part_size field x size e in
    let piece : canonical_piece field (take size x) ≡ canonical_part takes.part = ap (canonical_piece field) (sym takes.octets) ∙ piece_of_part field takes.part takes.fits in
    let cons = canonical_in-cons field (map field_view (drop (i + 1) fields)) x (drop size x) takes.part takes.read in
    let whole : canonical_left front (map field_view (drop i fields)) x ≡ canonical_left front (field ∷ map field_view (drop (i + 1) fields)) x = ap (λ (fs : List layouts.Field). canonical_left front fs x) (fields_from fields i d below) in
    sym (whole ∙ (ap (option_map (λ z. front ++ z)) cons ∙ (regroup (canonical_part takes.part) (canonical_in (map field_view (drop (i + 1) fields)) (drop size x))
    ∙ ap (λ (p : List ℕ). canonical_left (front ++ p) (map field_view (drop (i + 1) fields)) (drop size x)) (sym piece))))
  where
    regroup : (p : List ℕ) (o : Option (List ℕ)) → option_map (λ z. front ++ z) (option_map (λ z. p ++ z) o) ≡ option_map (λ z. (front ++ p) ++ z) o
    regroup p (Some z) = ap (λ (y : List ℕ). Some y) (sym (append_assoc front p z))
    regroup p None = refl

pub canonical_stuck : (fields : List Field) (i : ℕ) (d : Field) (front x : List ℕ) → i < length fields → part_size_in (field_view (get_or fields i d)) x ≡ None
    → canonical_left front (map field_view (drop i fields)) x ≡ None
canonical_stuck fields i d front x below e =
    let field = field_view (get_or fields i d) in
    ap (λ (fs : List layouts.Field). canonical_left front fs x) (fields_from fields i d below)
    ∙ ap (option_map (λ z. front ++ z)) (canonical_in-none field (map field_view (drop (i + 1) fields)) x (no_part field x e))

-- a field of readable data takes some
pub takes_some : (fields : List Field) (i : ℕ) (d : Field) (front x before all : List ℕ) → i < length fields
    → canonical_left front (map field_view (drop i fields)) x ≡ canonical_left before (map field_view fields) all
    → IsTrue (is_some (parts_in (map field_view fields) all)) → (size : ℕ) × (part_size_in (field_view (get_or fields i d)) x ≡ Some size)
takes_some fields i d front x before all below so_far readable =
    elim (part_size_in (field_view (get_or fields i d)) x) as (λ o. part_size_in (field_view (get_or fields i d)) x ≡ o → (size : ℕ) × (part_size_in (field_view (get_or fields i d)) x ≡ Some size)) [
      | Some size ↦ λ e. (size, e)
      | None ↦ λ e. absurd (not_read (parts_in (map field_view fields) all) readable (sym so_far ∙ canonical_stuck fields i d front x below e))
    ] refl
  where
    not_read : (o : Option (List Part)) → IsTrue (is_some o) → option_map (λ z. before ++ z) (option_map (flat_map canonical_part) o) ≡ None → ⊥
    not_read (Some parts) h e = absurd cc
    not_read None h e = absurd (false≢true h)

-- at the end of readable data all is added
pub canonical_end : (fields : List Field) (i : ℕ) (front x before all : List ℕ) → length fields ≤ i
    → canonical_left front (map field_view (drop i fields)) x ≡ canonical_left before (map field_view fields) all
    → IsTrue (is_some (parts_in (map field_view fields) all)) → canonical_left before (map field_view fields) all ≡ Some front
unfolding parts_in
canonical_end fields i front x before all past so_far readable =
    let last : canonical_left front (map field_view (drop i fields)) x ≡ canonical_left front [] x = ap (λ (fs : List Field). canonical_left front (map field_view fs) x) (drop_all i fields past) in
    nothing_left x (sym last ∙ so_far)
  where
    not_read : (o : Option (List Part)) → IsTrue (is_some o) → None ≡ option_map (λ z. before ++ z) (option_map (flat_map canonical_part) o) → ⊥
    not_read (Some parts) h e = absurd cc
    not_read None h e = absurd (false≢true h)

    nothing_left : (y : List ℕ) → canonical_left front [] y ≡ canonical_left before (map field_view fields) all → canonical_left before (map field_view fields) all ≡ Some front
    nothing_left [] e = sym e ∙ ap (λ (z : List ℕ). Some z) (append-nil front)
    nothing_left (first ∷ y) e = absurd (not_read (parts_in (map field_view fields) all) readable e)

-- what was added are the canonical data
pub canonical_added : (front more x : List ℕ) (read : Option (List ℕ)) → option_map (λ z. front ++ z) read ≡ Some more → more ≡ front ++ unwrap_or read x
canonical_added front more x (Some z) e = sym (same_Some (front ++ z) more e)
canonical_added front more x None e = absurd cc
