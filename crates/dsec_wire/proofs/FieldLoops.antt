-- Data taken field by field.
use Rattle.std.proofs.Common.{◌≡◌, ℕ, suc, ◌+◌, ◌≤◌, ◌<◌, List, [], ◌∷◌, ◌++◌, length, take, drop, get_or, Option, Some, None, false, refl, sym, ap, ◌∙◌, subst, arith, add-one, append_assoc, drop-cons}
use Rattle.std.specs.Prelude.{map, ◌==◌, nat_lt, if◌then◌else◌}
use Rattle.std.specs.Option.{is_some}
use Rattle.std.proofs.lemmas.List.{append-nil, take_at, drop_at, drop_all}
use Rattle.std.proofs.lemmas.Bool.{ne_eqb, eq-eqb, lt-ltb, le-ltb}
use Rattle.std.proofs.lemmas.Option.{same_Some}
use Rattle.std.specs.List.{flat_map}
use Rattle.std.specs.Bool.{OnFalse}
use Rattle.dsec_spec.specs.Layouts as layouts
use Rattle.dsec_spec.specs.Layouts.{layout_of}
use Rattle.dsec_spec.specs.Messages.{part_at, parts_at, data_at}
use Rattle.dsec_spec.specs.Reading.{◌>>=◌}
use Rattle.dsec_spec.specs.RecordData.{Part, part_octets, Fits, part_in, parts_in}
use Rattle.dsec_spec.proofs.ReadingLemmas.{from_bind}
use Rattle.dsec_spec.proofs.RecordDataLemmas.{from_part_in}
use Rattle.dsec_wire.specs.declared.layout.Field.{Field}
use Rattle.dsec_wire.specs.declared.error.MessageError.{MessageError}
use Rattle.dsec_wire.specs.declared.error.MessageError.TheVariants.{ParseError, NoMemory}
use Rattle.dsec_wire.specs.Errors.{wants_memory}
use Rattle.dsec_wire.specs.DataReading.{Pushed, pushed_part}
use Rattle.dsec_wire.specs.Fields.{field_view, part_size_in}

-- a field takes so many octets from the front
pub record TakesPart (field : layouts.Field) (x : List ℕ) (size : ℕ) : Type 0 where
  pub part : Part
  pub read : part_in field x ≡ Some (part, drop size x)
  pub octets : part_octets part ≡ take size x
  pub fits : Fits field part

pub from_part_size : (field : layouts.Field) (x : List ℕ) (size : ℕ) → part_size_in field x ≡ Some size → TakesPart field x size
from_part_size field x size e =
    let b = from_bind (part_in field x) (λ (part : Part × List ℕ). Some (length (part_octets part.0))) size e in
    let n : length (part_octets b.0.0) ≡ size = same_Some _ _ b.2 in
    let read = from_part_in field x b.0.0 b.0.1 b.1 in
    record {
      part = b.0.0;
      read = b.1 ∙ ap (λ (y : List ℕ). Some (b.0.0, y)) (sym (drop_at (part_octets b.0.0) b.0.1 size n) ∙ ap (drop size) (sym read.1));
      octets = sym (take_at (part_octets b.0.0) b.0.1 size n) ∙ ap (take size) (sym read.1);
      fits = read.0;
    }

pub no_part : (field : layouts.Field) (x : List ℕ) → part_size_in field x ≡ None → part_in field x ≡ None
no_part field x e = elim (part_in field x) as (λ o. (o >>= λ part. Some (length (part_octets part.0))) ≡ None → o ≡ None) [
  | Some part ↦ λ f. absurd cc
  | None ↦ λ f. refl
] e

-- the fields from the i-th on
pub fields_from : (fields : List Field) (i : ℕ) (d : Field) → i < length fields → map field_view (drop i fields) ≡ field_view (get_or fields i d) ∷ map field_view (drop (i + 1) fields)
fields_from fields i d below =
    let n : i + 1 ≡ suc i = add-one i in
    rw n (ap (map field_view) (drop-cons fields i d below))

pub takes_step : (fields : List Field) (i : ℕ) (d : Field) (rest : List ℕ) (size : ℕ) → i < length fields → part_size_in (field_view (get_or fields i d)) rest ≡ Some size
    → is_some (parts_in (map field_view (drop (i + 1) fields)) (drop size rest)) ≡ is_some (parts_in (map field_view (drop i fields)) rest)
unfolding parts_in
takes_step fields i d rest size below e =
    let takes = from_part_size (field_view (get_or fields i d)) rest size e in
    rw (fields_from fields i d below, takes.read) (same (parts_in (map field_view (drop (i + 1) fields)) (drop size rest)) takes.part)
  where
    same : (others : Option (List Part)) (part : Part) → is_some others ≡ is_some (others >>= λ o. Some (part ∷ o))
    same (Some o) part = refl
    same None part = refl

pub takes_none : (fields : List Field) (i : ℕ) (d : Field) (rest : List ℕ) → i < length fields → part_size_in (field_view (get_or fields i d)) rest ≡ None
    → is_some (parts_in (map field_view (drop i fields)) rest) ≡ false
unfolding parts_in
takes_none fields i d rest below e = rw (fields_from fields i d below, no_part (field_view (get_or fields i d)) rest e) refl

pub takes_end : (fields : List Field) (i : ℕ) (rest : List ℕ) → length fields ≤ i → is_some (parts_in (map field_view (drop i fields)) rest) ≡ (length rest == 0)
unfolding parts_in
takes_end fields i rest past = rw (drop_all i fields past) (none rest)
  where
    none : (x : List ℕ) → is_some (parts_in [] x) ≡ (length x == 0)
    none [] = refl
    none (first ∷ x) = sym (ne_eqb (suc (length x)) 0 (λ e. omega arith))

-- octets that were read, and those that fields still read in the message
abbrev pub data_left : List ℕ → List layouts.Field → List ℕ → ℕ → ℕ → Option (List ℕ)
data_left front fields m at end = parts_at fields m at end >>= λ parts. Some (front ++ flat_map part_octets parts)

-- a part and the parts after it, added to what was read
part_and_others : (front : List ℕ) (o : Option (Part × ℕ)) (others : Part × ℕ → Option (List Part)) (part : Part × ℕ) → o ≡ Some part
    → (others part >>= λ parts. Some ((front ++ part_octets part.0) ++ flat_map part_octets parts)) ≡ ((o >>= λ first. others first >>= λ parts. Some (first.0 ∷ parts)) >>= λ parts. Some (front ++ flat_map part_octets parts))
part_and_others front o others part e = rw e (joined (others part))
  where
    joined : (read : Option (List Part)) → (read >>= λ parts. Some ((front ++ part_octets part.0) ++ flat_map part_octets parts)) ≡ ((read >>= λ parts. Some (part.0 ∷ parts)) >>= λ parts. Some (front ++ flat_map part_octets parts))
    joined (Some parts) = ap (λ (x : List ℕ). Some x) (append_assoc front (part_octets part.0) (flat_map part_octets parts))
    joined None = refl

pub pushed_step : (fields : List Field) (i : ℕ) (d : Field) (m : List ℕ) (at end after : ℕ) (front more : List ℕ) → i < length fields → pushed_part front (field_view (get_or fields i d)) m at end ≡ Some (more, after)
    → data_left more (map field_view (drop (i + 1) fields)) m after end ≡ data_left front (map field_view (drop i fields)) m at end
unfolding parts_at
pushed_step fields i d m at end after front more below e =
    let read = part_at (field_view (get_or fields i d)) m at end in
    let b = from_bind read (λ (part : Part × ℕ). Some (front ++ part_octets part.0, part.1)) (more, after) e in
    let added : (front ++ part_octets b.0.0, b.0.1) ≡ (more, after) = same_Some _ _ b.2 in
    subst (λ (x : Pushed). data_left x.0 (map field_view (drop (i + 1) fields)) m x.1 end ≡ data_left front (map field_view (drop i fields)) m at end) added
    (rw (fields_from fields i d below) (part_and_others front read (λ part. parts_at (map field_view (drop (i + 1) fields)) m part.1 end) b.0 b.1))

pub pushed_none : (fields : List Field) (i : ℕ) (d : Field) (m : List ℕ) (at end : ℕ) (front : List ℕ) → i < length fields → pushed_part front (field_view (get_or fields i d)) m at end ≡ None
    → data_left front (map field_view (drop i fields)) m at end ≡ None
unfolding parts_at
pushed_none fields i d m at end front below e = rw (fields_from fields i d below, no_part_at (part_at (field_view (get_or fields i d)) m at end) e) refl
  where
    no_part_at : (o : Option (Part × ℕ)) → ◌>>=◌ {A = Part × ℕ} {B = Pushed} o (λ part. Some (front ++ part_octets part.0, part.1)) ≡ None → o ≡ None
    no_part_at (Some part) f = absurd cc
    no_part_at None f = refl

pub pushed_end : (fields : List Field) (i : ℕ) (m : List ℕ) (at end : ℕ) (front : List ℕ) → length fields ≤ i → at ≡ end → data_left front (map field_view (drop i fields)) m at end ≡ Some front
unfolding parts_at
pushed_end fields i m at end front past e = rw (drop_all i fields past, eq-eqb at end e) (ap (λ (x : List ℕ). Some x) (append-nil front))

pub pushed_not_end : (fields : List Field) (i : ℕ) (m : List ℕ) (at end : ℕ) (front : List ℕ) → length fields ≤ i → (at ≡ end → ⊥) → data_left front (map field_view (drop i fields)) m at end ≡ None
unfolding parts_at
pushed_not_end fields i m at end front past e = rw (drop_all i fields past, ne_eqb at end e) refl

pub starts_reading : (fields : List Field) (rtype : ℕ) (m : List ℕ) (at end : ℕ) (front : List ℕ) → map field_view fields ≡ layout_of rtype → front ≡ []
    → data_left front (map field_view (drop 0 fields)) m at end ≡ data_left [] (layout_of rtype) m at end
starts_reading fields rtype m at end front e f = rw (f, e) refl

-- what the fields of the layout read is the data, where they are not too many
pub data_none : (rtype : ℕ) (m : List ℕ) (at end : ℕ) → data_left [] (layout_of rtype) m at end ≡ None → data_at rtype m at end ≡ None
unfolding data_at
data_none rtype m at end e = none (parts_at (layout_of rtype) m at end) e
  where
    none : (o : Option (List Part)) → (o >>= λ parts. Some ([] ++ flat_map part_octets parts)) ≡ None → (o >>= λ parts. if nat_lt 65535 (length (flat_map part_octets parts)) then None else Some (flat_map part_octets parts)) ≡ None
    none (Some parts) f = absurd cc
    none None f = refl

pub data_too_long : (rtype : ℕ) (m : List ℕ) (at end : ℕ) (x : List ℕ) → data_left [] (layout_of rtype) m at end ≡ Some x → 65535 < length x → data_at rtype m at end ≡ None
unfolding data_at
data_too_long rtype m at end x e long =
    let b = from_bind (parts_at (layout_of rtype) m at end) (λ (parts : List Part). Some (flat_map part_octets parts)) x e in
    let is : flat_map part_octets b.0 ≡ x = same_Some _ _ b.2 in
    rw (b.1, is, lt-ltb 65535 (length x) long) refl

pub data_read : (rtype : ℕ) (m : List ℕ) (at end : ℕ) (x : List ℕ) → data_left [] (layout_of rtype) m at end ≡ Some x → length x ≤ 65535 → data_at rtype m at end ≡ Some x
unfolding data_at
data_read rtype m at end x e short =
    let b = from_bind (parts_at (layout_of rtype) m at end) (λ (parts : List Part). Some (flat_map part_octets parts)) x e in
    let is : flat_map part_octets b.0 ≡ x = same_Some _ _ b.2 in
    rw (b.1, is, le-ltb 65535 (length x) short) refl

-- where a part is refused, so are the data
pub data_fails : (error : MessageError) (fields : List Field) (rtype i : ℕ) (d : Field) (m : List ℕ) (start at end : ℕ) (front : List ℕ) → i < length fields
    → OnFalse (wants_memory error) (pushed_part front (field_view (get_or fields i d)) m at end ≡ None)
    → data_left front (map field_view (drop i fields)) m at end ≡ data_left [] (layout_of rtype) m start end
    → OnFalse (wants_memory error) (data_at rtype m start end ≡ None)
data_fails NoMemory fields rtype i d m start at end front below e so_far = tt
data_fails ParseError fields rtype i d m start at end front below e so_far = data_none rtype m start end (sym so_far ∙ pushed_none fields i d m at end front below e)
