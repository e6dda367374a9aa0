-- What is written uncompressed is read at its place: numbers, names, and the parts of data.
use Rattle.std.proofs.Common.{◌≡◌, ℕ, suc, ◌+◌, ◌-◌, ◌*◌, ◌/◌, ◌%◌, ◌^◌, ◌<◌, ◌≤◌, true, false, not, List, [], ◌∷◌, ◌++◌, length, drop, Some, refl, sym, ap, ◌∙◌, arith, append_assoc, length-append}
use Rattle.std.specs.Prelude.{All, slice_range}
use Rattle.std.specs.List.{flat_map}
use Rattle.std.specs.Int.{w16, w32, to_be_bytes}
use Rattle.std.proofs.lemmas.Bool.{and_parts, not-true, le-ltb, eq-eqb}
use Rattle.std.proofs.lemmas.List.{append-nil, drop-drop, drop_at, take_at}
use Rattle.std.proofs.lemmas.List.Elements.{All-head, All-tail}
use Rattle.dsec_spec.specs.Layouts.{Field, lowered_name, kept_name, octets, string, bitmap, rest, layout_of}
use Rattle.dsec_spec.specs.Messages.{part_at, parts_at, data_at}
use Rattle.dsec_spec.specs.Names.{Labels, IsLabel, IsName, label_octets, wire_octets}
use Rattle.dsec_spec.specs.Reading.{u16_at, u32_at}
use Rattle.dsec_spec.specs.RecordData.{Part, lowered, kept, plain, part_octets, Fits, AllFit, IsReadable}
use Rattle.dsec_spec.specs.WireNames.{IsNameAt, root_there, label_there, name_at}
use Rattle.dsec_spec.proofs.HeadLemmas.{at_from_drop}
use Rattle.dsec_spec.proofs.NamesInMessages.{name_at_reads}
use Rattle.dsec_spec.proofs.RecordDataLemmas.{takes_all, ends_well, layout_ends_well, part_in-append, part_in-part_octets}
use Rattle.dsec_spec.proofs.WireNameLemmas.{wire_octets-cons}

-- behind octets that stand at a place, the message goes on with what follows them
pub behind : (m : List ℕ) (at : ℕ) (front others : List ℕ) → drop at m ≡ front ++ others → drop (at + length front) m ≡ others
behind m at front others e = sym (drop-drop (length front) at m) ∙ ap (drop (length front)) e ∙ drop_at front others (length front) refl

-- a number from its two octets
pub two_again : (n : ℕ) → n < 2 ^ 16 → n / 256 % 256 * 256 + n % 256 ≡ n
two_again n small = omega arith

-- and from its four
four_again : (n : ℕ) → n < 2 ^ 32 → ((n / 16777216 % 256 * 256 + n / 65536 % 256) * 256 + n / 256 % 256) * 256 + n % 256 ≡ n
four_again n small = omega arith

-- a number's two octets are read as it
pub u16_at-written : (m : List ℕ) (at n : ℕ) (others : List ℕ) → n < 2 ^ 16 → drop at m ≡ to_be_bytes w16 n ++ others → u16_at m at ≡ Some n
u16_at-written m at n others small e = rw (e, two_again n small) refl

-- and its four octets
pub u32_at-written : (m : List ℕ) (at n : ℕ) (others : List ℕ) → n < 2 ^ 32 → drop at m ≡ to_be_bytes w32 n ++ others → u32_at m at ≡ Some n
u32_at-written m at n others small e = rw (e, four_again n small) refl

-- a name that is written uncompressed stands there, with no pointer
name_stands : (m : List ℕ) (at : ℕ) (name : Labels) (others : List ℕ) → All IsLabel name → drop at m ≡ wire_octets name ++ others → IsNameAt m 0 at name (at + length (wire_octets name))
name_stands m at [] others all e = root_there at (at_from_drop m at (0 ∷ []) others e)
name_stands m at (label ∷ name) others all e =
    let here : drop at m ≡ label_octets label ++ (wire_octets name ++ others) = e ∙ wire_octets-cons label name others in
    let n : at + length (label_octets label) ≡ at + 1 + length label = omega arith in
    let next : drop (at + 1 + length label) m ≡ wire_octets name ++ others = rw (sym n) (behind m at (label_octets label) (wire_octets name ++ others) here) in
    let size : length (wire_octets (label ∷ name)) ≡ suc (length label + length (wire_octets name)) =
    ap length (sym (append-nil (wire_octets (label ∷ name))) ∙ wire_octets-cons label name [])
    ∙ ap suc (length-append label (wire_octets name ++ []) ∙ ap (λ (x : List ℕ). length label + length x) (append-nil (wire_octets name))) in
    let end : at + 1 + length label + length (wire_octets name) ≡ at + length (wire_octets (label ∷ name)) = omega (arith, size) in
    rw (sym end) (label_there 0 at label name (at + 1 + length label + length (wire_octets name)) (All-head IsLabel label name all) (at_from_drop m at (label_octets label) (wire_octets name ++ others) here)
    (name_stands m (at + 1 + length label) name others (All-tail IsLabel label name all) next))

-- and is read there
pub name_at-written : (m : List ℕ) (at : ℕ) (name : Labels) (others : List ℕ) → IsName name → drop at m ≡ wire_octets name ++ others → name_at m at ≡ Some (name, at + length (wire_octets name))
name_at-written m at name others is e =
    name_at_reads m at name (at + length (wire_octets name)) (record { pointers = 0; stands = name_stands m at name others is.labels e; few = omega arith; short = is })

-- the octets from a place up to the end of what stands there
range_there : (m : List ℕ) (at end : ℕ) (front others : List ℕ) → drop at m ≡ front ++ others → end ≡ at + length front → slice_range m at end ≡ front
range_there m at end front others e is =
    let n : end - at ≡ length front = omega arith in
    rw (n, e) (take_at front others (length front) refl)

-- a part of data that others follow is read, and they are left
part_at-before : (field : Field) (part : Part) (m : List ℕ) (at end : ℕ) (after others : List ℕ) → takes_all field ≡ false → Fits field part
    → drop at m ≡ (part_octets part ++ after) ++ others → end ≡ at + length (part_octets part ++ after) → part_at field m at end ≡ Some (part, at + length (part_octets part))
part_at-before lowered_name (lowered name) m at end after others shut fits e is =
    let within : at + length (wire_octets name) ≤ end = omega (arith, is, length-append (wire_octets name) after) in
    rw (name_at-written m at name (after ++ others) fits (e ∙ append_assoc (wire_octets name) after others), le-ltb end (at + length (wire_octets name)) within) refl
part_at-before kept_name (kept name) m at end after others shut fits e is =
    let within : at + length (wire_octets name) ≤ end = omega (arith, is, length-append (wire_octets name) after) in
    rw (name_at-written m at name (after ++ others) fits (e ∙ append_assoc (wire_octets name) after others), le-ltb end (at + length (wire_octets name)) within) refl
part_at-before (octets n) (plain x) m at end after others shut fits e is =
    let place : end - length after ≡ at + length x = omega (arith, is, length-append x after) in
    rw (range_there m at end (x ++ after) others e is, part_in-append (octets n) (plain x) after shut fits, place) refl
part_at-before string (plain x) m at end after others shut fits e is =
    let place : end - length after ≡ at + length x = omega (arith, is, length-append x after) in
    rw (range_there m at end (x ++ after) others e is, part_in-append string (plain x) after shut fits, place) refl
part_at-before bitmap part m at end after others shut fits e is = absurd cc
part_at-before rest part m at end after others shut fits e is = absurd cc
part_at-before _ _ m at end after others shut fits e is = absurd fits

-- the last part is read
part_at-last : (field : Field) (part : Part) (m : List ℕ) (at end : ℕ) (others : List ℕ) → Fits field part
    → drop at m ≡ part_octets part ++ others → end ≡ at + length (part_octets part) → part_at field m at end ≡ Some (part, end)
part_at-last lowered_name (lowered name) m at end others fits e is =
    rw (name_at-written m at name others fits e, sym is, le-ltb end end (omega arith)) refl
part_at-last kept_name (kept name) m at end others fits e is =
    rw (name_at-written m at name others fits e, sym is, le-ltb end end (omega arith)) refl
part_at-last (octets n) (plain x) m at end others fits e is =
    let place : end - 0 ≡ end = omega arith in
    rw (range_there m at end x others e is, part_in-part_octets (octets n) (plain x) fits, place) refl
part_at-last string (plain x) m at end others fits e is =
    let place : end - 0 ≡ end = omega arith in
    rw (range_there m at end x others e is, part_in-part_octets string (plain x) fits, place) refl
part_at-last bitmap (plain x) m at end others fits e is =
    let place : end - 0 ≡ end = omega arith in
    rw (range_there m at end x others e is, part_in-part_octets bitmap (plain x) fits, place) refl
part_at-last rest (plain x) m at end others fits e is =
    let place : end - 0 ≡ end = omega arith in
    rw (range_there m at end x others e is, place) refl
part_at-last _ _ m at end others fits e is = absurd fits

-- parts are read, by fields of which only the last takes all that is left
parts_at-written : (fields : List Field) (parts : List Part) (m : List ℕ) (at end : ℕ) (others : List ℕ) → ends_well fields ≡ true → AllFit fields parts
    → drop at m ≡ flat_map part_octets parts ++ others → end ≡ at + length (flat_map part_octets parts) → parts_at fields m at end ≡ Some parts
unfolding parts_at
parts_at-written [] [] m at end others ends fit e is = rw (eq-eqb at end (omega (arith, is))) refl
parts_at-written [] (part ∷ parts) m at end others ends fit e is = absurd fit
parts_at-written (field ∷ fields) [] m at end others ends fit e is = absurd fit
parts_at-written (field ∷ []) (part ∷ []) m at end others ends fit e is =
    let alone = append-nil (part_octets part) in
    rw (part_at-last field part m at end others fit.0 (rw (sym alone) e) (rw (sym alone) is), eq-eqb end end refl) refl
parts_at-written (field ∷ []) (part ∷ next ∷ parts) m at end others ends fit e is = absurd fit.1
parts_at-written (field ∷ next ∷ fields) (part ∷ parts) m at end others ends fit e is =
    let tests = and_parts (not (takes_all field)) (ends_well (next ∷ fields)) ends in
    let after = flat_map part_octets parts in
    let place = at + length (part_octets part) in
    let first = part_at-before field part m at end after others (not-true (takes_all field) tests.0) fit.0 e is in
    let next_there : drop place m ≡ after ++ others = behind m at (part_octets part) (after ++ others) (e ∙ append_assoc (part_octets part) after others) in
    rw (first, parts_at-written (next ∷ fields) parts m place end others tests.1 fit.1 next_there (omega (arith, is, length-append (part_octets part) after))) refl

-- readable data are read
pub data_at-written : (rtype : ℕ) (rdata m : List ℕ) (at end : ℕ) (others : List ℕ) → IsReadable rtype rdata
    → drop at m ≡ rdata ++ others → end ≡ at + length rdata → data_at rtype m at end ≡ Some rdata
unfolding data_at
data_at-written rtype rdata m at end others readable e is =
    let same = readable.are.is in
    let read = parts_at-written (layout_of rtype) readable.parts m at end others (layout_ends_well rtype) readable.are.fit (rw (sym same) e) (rw (sym same) is) in
    rw (read, sym same, le-ltb 65535 (length rdata) readable.at_most) refl
