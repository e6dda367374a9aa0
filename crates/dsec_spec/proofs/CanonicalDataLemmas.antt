-- The canonical form of records' data.
use Rattle.std.proofs.Common.{◌≡◌, ◌↔◌, ℕ, ◌≤◌, ◌⊎◌, inl, inr, Bool, true, false, List, [], ◌∷◌, ◌++◌, length, Option, Some, None, refl, sym, ap, ◌∙◌, subst, arith, length-append}
use Rattle.std.specs.Prelude.{map, unwrap_or}
use Rattle.std.specs.List.{flat_map, list_all}
use Rattle.std.specs.Option.{option_map}
use Rattle.std.proofs.lemmas.Bool.{false≢true, and_parts}
use Rattle.std.proofs.lemmas.List.{append-nil}
use Rattle.dsec_spec.specs.Reading.{◌>>=◌}
use Rattle.dsec_spec.specs.Numbers.{DS, NSEC, DNSKEY, NSEC3, NSEC3PARAM}
use Rattle.dsec_spec.specs.Names.{wire_octets, lower}
use Rattle.dsec_spec.specs.Layouts.{Field, lowered_name, kept_name, octets, string, bitmap, rest, layout_of}
use Rattle.dsec_spec.specs.RecordData.{Part, lowered, kept, plain, part_octets, canonical_part, Fits, AllFit, IsData, IsReadable, part_in, parts_in, parts_of, canonical_data}
use Rattle.dsec_spec.proofs.WireNameLemmas.{lower-lower, IsName-lower, length-canonical_octets}
use Rattle.dsec_spec.proofs.RecordDataLemmas.{same_parts, parts_of-data, from_parts_of}

-- a part with its name in lower case, where it is signed so
abbrev pub lower_part : Part → Part
lower_part (lowered name) = lowered (lower name)
lower_part (kept name) = kept name
lower_part (plain x) = plain x

-- a part is signed as the octets of the part in lower case
pub part_octets-lower_part : (part : Part) → part_octets (lower_part part) ≡ canonical_part part
part_octets-lower_part (lowered name) = refl
part_octets-lower_part (kept name) = refl
part_octets-lower_part (plain x) = refl

-- a part in lower case is signed as the part
pub canonical_part-lower_part : (part : Part) → canonical_part (lower_part part) ≡ canonical_part part
canonical_part-lower_part (lowered name) = ap wire_octets (lower-lower name)
canonical_part-lower_part (kept name) = refl
canonical_part-lower_part (plain x) = refl

-- a part is signed as so many octets as it has
pub length-canonical_part : (part : Part) → length (canonical_part part) ≡ length (part_octets part)
length-canonical_part (lowered name) = length-canonical_octets name
length-canonical_part (kept name) = refl
length-canonical_part (plain x) = refl

-- a part in lower case is what the field says
pub Fits-lower_part : (field : Field) (part : Part) → Fits field part → Fits field (lower_part part)
Fits-lower_part lowered_name (lowered name) fits = IsName-lower name fits
Fits-lower_part kept_name (kept name) fits = fits
Fits-lower_part (octets n) (plain x) fits = fits
Fits-lower_part string (plain x) fits = fits
Fits-lower_part bitmap (plain x) fits = fits
Fits-lower_part rest (plain x) fits = fits
Fits-lower_part _ _ fits = absurd fits

-- parts in lower case are what the fields say
pub AllFit-lower_part : (fields : List Field) (parts : List Part) → AllFit fields parts → AllFit fields (map lower_part parts)
AllFit-lower_part [] [] fit = tt
AllFit-lower_part (field ∷ fields) (part ∷ parts) fit = (Fits-lower_part field part fit.0, AllFit-lower_part fields parts fit.1)
AllFit-lower_part _ _ fit = absurd fit

-- functions that agree at each element join the same
flat_map-map_agree : (f g : Part → List ℕ) (h : Part → Part) → ((part : Part) → f (h part) ≡ g part) → (parts : List Part) → flat_map f (map h parts) ≡ flat_map g parts
flat_map-map_agree f g h same [] = refl
flat_map-map_agree f g h same (part ∷ parts) = rw (same part, flat_map-map_agree f g h same parts) refl

-- parts are signed as so many octets as they have
length-flat_map-canonical_part : (parts : List Part) → length (flat_map canonical_part parts) ≡ length (flat_map part_octets parts)
length-flat_map-canonical_part [] = refl
length-flat_map-canonical_part (part ∷ parts) =
    omega (arith, length-append (canonical_part part) (flat_map canonical_part parts), length-append (part_octets part) (flat_map part_octets parts), length-canonical_part part, length-flat_map-canonical_part parts)

-- canonical data are the parts as they are signed
pub canonical_data-data : (rtype : ℕ) (parts : List Part) (rdata : List ℕ) → IsData rtype parts rdata → canonical_data rtype rdata ≡ flat_map canonical_part parts
canonical_data-data rtype parts rdata is =
    ap (λ (o : Option (List Part)). unwrap_or (option_map (flat_map canonical_part) o) rdata) (parts_of-data rtype parts rdata is)

-- data of which nothing is read are their own canonical data
pub canonical_data-unread : (rtype : ℕ) (rdata : List ℕ) → parts_of rtype rdata ≡ None → canonical_data rtype rdata ≡ rdata
canonical_data-unread rtype rdata none =
    ap (λ (o : Option (List Part)). unwrap_or (option_map (flat_map canonical_part) o) rdata) none

-- data have parts, or nothing is read of them
data_or_unread : (rtype : ℕ) (rdata : List ℕ) → ((parts : List Part) × IsData rtype parts rdata) ⊎ (parts_of rtype rdata ≡ None)
data_or_unread rtype rdata =
    elim (parts_of rtype rdata) as (λ o. parts_of rtype rdata ≡ o → ((parts : List Part) × IsData rtype parts rdata) ⊎ (parts_of rtype rdata ≡ None)) [
      | Some parts ↦ λ e. inl (parts, from_parts_of rtype parts rdata e)
      | None ↦ λ e. inr e
    ] refl

-- canonical data are as many octets as the data
pub length-canonical_data : (rtype : ℕ) (rdata : List ℕ) → length (canonical_data rtype rdata) ≡ length rdata
length-canonical_data rtype rdata =
    elim (data_or_unread rtype rdata) [
      | inl h ↦ ap length (canonical_data-data rtype h.0 rdata h.1) ∙ length-flat_map-canonical_part h.0 ∙ sym (ap length h.1.is)
      | inr none ↦ ap length (canonical_data-unread rtype rdata none)
    ]

-- canonical data are data of the same type, with the parts in lower case
pub canonical_data_is : (rtype : ℕ) (parts : List Part) (rdata : List ℕ) → IsData rtype parts rdata → IsData rtype (map lower_part parts) (canonical_data rtype rdata)
canonical_data_is rtype parts rdata is = record {
  fit = AllFit-lower_part (layout_of rtype) parts is.fit;
  is = canonical_data-data rtype parts rdata is ∙ sym (flat_map-map_agree part_octets canonical_part lower_part part_octets-lower_part parts);
}

-- canonical data of readable data are readable
pub IsReadable-canonical_data : (rtype : ℕ) (rdata : List ℕ) → IsReadable rtype rdata → IsReadable rtype (canonical_data rtype rdata)
IsReadable-canonical_data rtype rdata readable = record {
  parts = map lower_part readable.parts;
  are = canonical_data_is rtype readable.parts rdata readable.are;
  at_most = subst (λ (n : ℕ). n ≤ 65535) (sym (length-canonical_data rtype rdata)) readable.at_most;
}

-- canonical data are their own canonical data
pub canonical_data-canonical_data : (rtype : ℕ) (rdata : List ℕ) → canonical_data rtype (canonical_data rtype rdata) ≡ canonical_data rtype rdata
canonical_data-canonical_data rtype rdata =
    elim (data_or_unread rtype rdata) [
      | inl h ↦
          canonical_data-data rtype (map lower_part h.0) (canonical_data rtype rdata) (canonical_data_is rtype h.0 rdata h.1)
          ∙ flat_map-map_agree canonical_part canonical_part lower_part canonical_part-lower_part h.0
          ∙ sym (canonical_data-data rtype h.0 rdata h.1)
      | inr none ↦ ap (canonical_data rtype) (canonical_data-unread rtype rdata none)
    ]

-- data have the same canonical form just where their parts are the same in lower case
pub same_canonical_data : (rtype : ℕ) (a b : List Part) (x y : List ℕ) → IsData rtype a x → IsData rtype b y → (canonical_data rtype x ≡ canonical_data rtype y) ↔ (map lower_part a ≡ map lower_part b)
same_canonical_data rtype a b x y ha hb =
    let ca = canonical_data_is rtype a x ha in
    let cb = canonical_data_is rtype b y hb in (
      λ e. same_parts rtype (map lower_part a) (map lower_part b) (canonical_data rtype y) (subst (λ (z : List ℕ). IsData rtype (map lower_part a) z) e ca) cb,
      λ e. ca.is ∙ ap (flat_map part_octets) e ∙ sym cb.is,
    )

-- what fields read, as it is signed
abbrev pub canonical_in : List Field → List ℕ → Option (List ℕ)
canonical_in fields x = option_map (flat_map canonical_part) (parts_in fields x)

-- canonical data are what the layout's fields read, as it is signed, or the data
pub canonical_data-canonical_in : (rtype : ℕ) (rdata : List ℕ) → canonical_data rtype rdata ≡ unwrap_or (canonical_in (layout_of rtype) rdata) rdata
canonical_data-canonical_in rtype rdata = refl

-- no field is signed as nothing
pub canonical_in-nil : canonical_in [] [] ≡ Some []
unfolding parts_in
canonical_in-nil = refl

-- a field's part as it is signed, in front of the others
pub canonical_in-cons : (field : Field) (fields : List Field) (x y : List ℕ) (part : Part) → part_in field x ≡ Some (part, y) → canonical_in (field ∷ fields) x ≡ option_map (λ z. canonical_part part ++ z) (canonical_in fields y)
unfolding parts_in
canonical_in-cons field fields x y part e = rw e (in_front part (parts_in fields y))
  where
    in_front : (part : Part) (others : Option (List Part)) → option_map (flat_map canonical_part) (others >>= λ o. Some (part ∷ o)) ≡ option_map (λ z. canonical_part part ++ z) (option_map (flat_map canonical_part) others)
    in_front part (Some o) = refl
    in_front part None = refl

-- where the first field takes nothing, nothing is read
pub canonical_in-none : (field : Field) (fields : List Field) (x : List ℕ) → part_in field x ≡ None → canonical_in (field ∷ fields) x ≡ None
unfolding parts_in
canonical_in-none field fields x e = rw e refl

-- a field whose octets signatures take as they came
abbrev pub is_kept : Field → Bool
is_kept lowered_name = false
is_kept _ = true

-- a part of such a field is signed as it came
canonical_part-kept : (field : Field) (part : Part) → is_kept field ≡ true → Fits field part → canonical_part part ≡ part_octets part
canonical_part-kept field (kept name) all fits = refl
canonical_part-kept field (plain x) all fits = refl
canonical_part-kept lowered_name (lowered name) all fits = absurd (false≢true all)
canonical_part-kept _ (lowered name) all fits = absurd fits

-- parts of such fields are signed as they came
canonical_parts-kept : (fields : List Field) (parts : List Part) → list_all is_kept fields ≡ true → AllFit fields parts → flat_map canonical_part parts ≡ flat_map part_octets parts
canonical_parts-kept [] [] all fit = refl
canonical_parts-kept (field ∷ fields) (part ∷ parts) all fit =
    let tests = and_parts (is_kept field) (list_all is_kept fields) all in
    rw (canonical_part-kept field part tests.0 fit.0, canonical_parts-kept fields parts tests.1 fit.1) refl
canonical_parts-kept _ _ all fit = absurd fit

-- a type whose layout has no name that is lowered keeps its data
pub canonical_data-kept : (rtype : ℕ) (rdata : List ℕ) → list_all is_kept (layout_of rtype) ≡ true → canonical_data rtype rdata ≡ rdata
canonical_data-kept rtype rdata all =
    elim (data_or_unread rtype rdata) [
      | inl h ↦ canonical_data-data rtype h.0 rdata h.1 ∙ canonical_parts-kept (layout_of rtype) h.0 all h.1.fit ∙ sym h.1.is
      | inr none ↦ canonical_data-unread rtype rdata none
    ]

-- opaque data are their own canonical data
pub canonical_data-opaque : (rtype : ℕ) (rdata : List ℕ) → layout_of rtype ≡ rest ∷ [] → canonical_data rtype rdata ≡ rdata
canonical_data-opaque rtype rdata opaque = canonical_data-kept rtype rdata (ap (list_all is_kept) opaque)

-- the next name of an NSEC record keeps its letters (RFC 6840 5.1)
pub canonical_data-nsec : (rdata : List ℕ) → canonical_data NSEC rdata ≡ rdata
canonical_data-nsec rdata = canonical_data-kept NSEC rdata refl

-- data of an NSEC3 record are their own canonical data
pub canonical_data-nsec3 : (rdata : List ℕ) → canonical_data NSEC3 rdata ≡ rdata
canonical_data-nsec3 rdata = canonical_data-kept NSEC3 rdata refl

-- data of an NSEC3PARAM record are their own canonical data
pub canonical_data-nsec3param : (rdata : List ℕ) → canonical_data NSEC3PARAM rdata ≡ rdata
canonical_data-nsec3param rdata = canonical_data-kept NSEC3PARAM rdata refl

-- data of a DNSKEY record are their own canonical data
pub canonical_data-dnskey : (rdata : List ℕ) → canonical_data DNSKEY rdata ≡ rdata
canonical_data-dnskey rdata = canonical_data-kept DNSKEY rdata refl

-- data of a DS record are their own canonical data
pub canonical_data-ds : (rdata : List ℕ) → canonical_data DS rdata ≡ rdata
canonical_data-ds rdata = canonical_data-kept DS rdata refl

-- octets up to the length of data are opaque data
pub opaque_readable : (rtype : ℕ) (rdata : List ℕ) → layout_of rtype ≡ rest ∷ [] → length rdata ≤ 65535 → IsReadable rtype rdata
opaque_readable rtype rdata opaque most = record {
  parts = plain rdata ∷ [];
  are = record {
    fit = subst (λ (fields : List Field). AllFit fields (plain rdata ∷ [])) (sym opaque) (tt, tt);
    is = sym (append-nil rdata);
  };
  at_most = most;
}
