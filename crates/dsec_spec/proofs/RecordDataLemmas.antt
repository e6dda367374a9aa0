-- The parts of records' data, read back.
use Rattle.std.proofs.Common.{◌≡◌, ◌↔◌, ℕ, zero, suc, ◌<◌, ◌≤◌, ◌⊎◌, inl, inr, Bool, true, false, not, ◌&&◌, ◌||◌, ltb, eqb, List, [], ◌∷◌, ◌++◌, length, Some, None, refl, sym, ap, ◌∙◌, subst, arith, length-append}
use Rattle.std.specs.Prelude.{All, find, unwrap_or, nat_eq}
use Rattle.std.specs.List.{flat_map, list_any, list_all}
use Rattle.std.specs.Option.{option_map}
use Rattle.std.proofs.lemmas.Bool.{cases_Bool, not-true, true≢false, ltb-false, eqb-false, le-ltb, ne_eqb, or_parts, and_parts}
use Rattle.std.proofs.lemmas.List.{append-nil}
use Rattle.std.proofs.lemmas.List.Elements.{All-nil, All-cons, All-head, All-tail}
use Rattle.std.proofs.lemmas.Option.{same_Some}
use Rattle.dsec_spec.specs.Layouts.{Field, Layout, lowered_name, kept_name, octets, string, bitmap, rest, layouts, layout_of}
use Rattle.dsec_spec.specs.RecordData.{Part, lowered, kept, plain, part_octets, Block, IsBlock, block_octets, IsBitmap, IsString, Fits, AllFit, IsData, IsReadable, octets_in, name_in, blocks_in, part_in, parts_in, parts_of}
use Rattle.dsec_spec.proofs.ReadingLemmas.{from_bind, unrefused, read_as}
use Rattle.dsec_spec.proofs.WireNameLemmas.{octets_in-append, from_octets_in, name_in-wire_octets, from_name_in}

-- blocks are read
pub blocks_in-flat_map : (n : ℕ) (blocks : List Block) → All IsBlock blocks → length blocks ≤ n → blocks_in n (flat_map block_octets blocks) ≡ Some blocks
unfolding blocks_in
blocks_in-flat_map n [] all few = refl
blocks_in-flat_map zero (block ∷ blocks) all few = absurd (omega arith)
blocks_in-flat_map (suc n) (block ∷ blocks) all few =
    let first = All-head IsBlock block blocks all in
    let others = blocks_in-flat_map n blocks (All-tail IsBlock block blocks all) (omega arith) in
    rw (ne_eqb (length block.bits) 0 (λ e. omega (arith, first.not_empty)), le-ltb 32 (length block.bits) first.at_most, octets_in-append (length block.bits) block.bits (flat_map block_octets blocks) refl, others) refl

-- there are no more blocks than octets of them
pub blocks_within : (blocks : List Block) → length blocks ≤ length (flat_map block_octets blocks)
blocks_within [] = omega arith
blocks_within (block ∷ blocks) = omega (arith, blocks_within blocks, length-append block.bits (flat_map block_octets blocks))

-- a bitmap's blocks are read
pub blocks_in-bitmap : (n : ℕ) (blocks : List Block) (x : List ℕ) → IsBitmap blocks x → length x ≤ n → blocks_in n x ≡ Some blocks
blocks_in-bitmap n blocks x is few =
    ap (blocks_in n) is.is ∙ blocks_in-flat_map n blocks is.good (omega (arith, blocks_within blocks, ap length is.is))

-- a window, a number and so many octets in front of blocks are one block more
IsBitmap-cons : (window size : ℕ) (bits x y : List ℕ) (blocks : List Block) → 0 < size → size ≤ 32 → length bits ≡ size → x ≡ bits ++ y → IsBitmap blocks y → IsBitmap (record { window = window; bits = bits } ∷ blocks) (window ∷ size ∷ x)
IsBitmap-cons window size bits x y blocks low high n e others =
    let block : Block = record { window = window; bits = bits } in
    record {
      good = All-cons IsBlock block blocks (record { not_empty = omega arith; at_most = omega arith }) others.good;
      is = rw (sym n, e, others.is) refl;
    }

-- octets whose blocks are read are a bitmap
pub from_blocks_in : (n : ℕ) (x : List ℕ) (blocks : List Block) → blocks_in n x ≡ Some blocks → IsBitmap blocks x
unfolding blocks_in
from_blocks_in n [] blocks e = read_as (λ (b : List Block). IsBitmap b []) [] blocks e (record { good = All-nil IsBlock; is = refl })
from_blocks_in zero (window ∷ x) blocks e = absurd cc
from_blocks_in (suc n) (window ∷ []) blocks e = absurd cc
from_blocks_in (suc n) (window ∷ size ∷ x) blocks e =
    let u = unrefused ((eqb size 0) || ltb 32 size) _ _ e in
    let tests = or_parts (eqb size 0) (ltb 32 size) u.0 in
    let bits = from_bind (octets_in size x) _ _ u.1 in
    let others = from_bind (blocks_in n bits.0.1) _ _ bits.2 in
    let front = from_octets_in size x bits.0.0 bits.0.1 bits.1 in
    read_as (λ (b : List Block). IsBitmap b (window ∷ size ∷ x)) (record { window = window; bits = bits.0.0 } ∷ others.0) blocks others.2
    (IsBitmap-cons window size bits.0.0 x bits.0.1 others.0 (grind (arith, eqb-false size 0 tests.0)) (ltb-false 32 size tests.1) front.0 front.1
    (from_blocks_in n bits.0.1 others.0 others.1))

-- two readings of a bitmap have the same blocks
pub same_blocks : (a b : List Block) (x : List ℕ) → IsBitmap a x → IsBitmap b x → a ≡ b
same_blocks a b x ha hb =
    same_Some a b (sym (blocks_in-bitmap (length x) a x ha (omega arith)) ∙ blocks_in-bitmap (length x) b x hb (omega arith))

-- a field that takes all that is left
abbrev pub takes_all : Field → Bool
takes_all bitmap = true
takes_all rest = true
takes_all _ = false

-- of the fields only the last may take all that is left
abbrev pub ends_well : List Field → Bool
ends_well [] = true
ends_well (field ∷ []) = true
ends_well (field ∷ fields) = not (takes_all field) && ends_well fields

-- a part in front of octets is read
pub part_in-append : (field : Field) (part : Part) (x : List ℕ) → takes_all field ≡ false → Fits field part → part_in field (part_octets part ++ x) ≡ Some (part, x)
part_in-append lowered_name (lowered name) x shut fits = rw (name_in-wire_octets name x fits) refl
part_in-append kept_name (kept name) x shut fits = rw (name_in-wire_octets name x fits) refl
part_in-append (octets n) (plain p) x shut fits = rw (octets_in-append n p x fits) refl
part_in-append string (plain p) x shut fits = rw (fits.is, octets_in-append (length fits.text) fits.text x refl) refl
part_in-append bitmap part x shut fits = absurd (true≢false shut)
part_in-append rest part x shut fits = absurd (true≢false shut)
part_in-append _ _ x shut fits = absurd fits

-- a part alone is read
pub part_in-part_octets : (field : Field) (part : Part) → Fits field part → part_in field (part_octets part) ≡ Some (part, [])
part_in-part_octets bitmap (plain x) fits = rw (blocks_in-bitmap (length x) fits.0 x fits.1 (omega arith)) refl
part_in-part_octets rest (plain x) fits = refl
part_in-part_octets bitmap (lowered name) fits = absurd fits
part_in-part_octets bitmap (kept name) fits = absurd fits
part_in-part_octets rest (lowered name) fits = absurd fits
part_in-part_octets rest (kept name) fits = absurd fits
part_in-part_octets lowered_name part fits = ap (part_in lowered_name) (sym (append-nil (part_octets part))) ∙ part_in-append lowered_name part [] refl fits
part_in-part_octets kept_name part fits = ap (part_in kept_name) (sym (append-nil (part_octets part))) ∙ part_in-append kept_name part [] refl fits
part_in-part_octets (octets n) part fits = ap (part_in (octets n)) (sym (append-nil (part_octets part))) ∙ part_in-append (octets n) part [] refl fits
part_in-part_octets string part fits = ap (part_in string) (sym (append-nil (part_octets part))) ∙ part_in-append string part [] refl fits

-- a string is in front of what follows it
string_fits : (size : ℕ) (text y x : List ℕ) → length text ≡ size → y ≡ text ++ x → IsString (size ∷ text) × (size ∷ y ≡ (size ∷ text) ++ x)
string_fits size text y x n e = (record { text = text; is = rw n refl }, rw e refl)

-- the text of a string of octets has at most 255
pub string_at_most : (x : List ℕ) (is : IsString x) → All (λ o. o < 256) x → length is.text ≤ 255
string_at_most x is small =
    let first = All-head (λ (o : ℕ). o < 256) (length is.text) is.text (subst (All (λ (o : ℕ). o < 256)) is.is small) in omega (arith, first)

-- a part that was read is what its field says, and stands in front of the others
pub from_part_in : (field : Field) (y : List ℕ) (part : Part) (x : List ℕ) → part_in field y ≡ Some (part, x) → Fits field part × (y ≡ part_octets part ++ x)
from_part_in lowered_name y part x e =
    let name = from_bind (name_in y) _ _ e in
    read_as (λ (r : Part × List ℕ). Fits lowered_name r.0 × (y ≡ part_octets r.0 ++ r.1)) (lowered name.0.0, name.0.1) (part, x) name.2
    (from_name_in y name.0.0 name.0.1 name.1)
from_part_in kept_name y part x e =
    let name = from_bind (name_in y) _ _ e in
    read_as (λ (r : Part × List ℕ). Fits kept_name r.0 × (y ≡ part_octets r.0 ++ r.1)) (kept name.0.0, name.0.1) (part, x) name.2
    (from_name_in y name.0.0 name.0.1 name.1)
from_part_in (octets n) y part x e =
    let taken = from_bind (octets_in n y) _ _ e in
    read_as (λ (r : Part × List ℕ). Fits (octets n) r.0 × (y ≡ part_octets r.0 ++ r.1)) (plain taken.0.0, taken.0.1) (part, x) taken.2
    (from_octets_in n y taken.0.0 taken.0.1 taken.1)
from_part_in string [] part x e = absurd cc
from_part_in string (size ∷ y) part x e =
    let text = from_bind (octets_in size y) _ _ e in
    let front = from_octets_in size y text.0.0 text.0.1 text.1 in
    read_as (λ (r : Part × List ℕ). Fits string r.0 × (size ∷ y ≡ part_octets r.0 ++ r.1)) (plain (size ∷ text.0.0), text.0.1) (part, x) text.2
    (string_fits size text.0.0 y text.0.1 front.0 front.1)
from_part_in bitmap y part x e =
    let blocks = from_bind (blocks_in (length y) y) _ _ e in
    read_as (λ (r : Part × List ℕ). Fits bitmap r.0 × (y ≡ part_octets r.0 ++ r.1)) (plain y, []) (part, x) blocks.2
    ((blocks.0, from_blocks_in (length y) y blocks.0 blocks.1), sym (append-nil y))
from_part_in rest y part x e =
    read_as (λ (r : Part × List ℕ). Fits rest r.0 × (y ≡ part_octets r.0 ++ r.1)) (plain y, []) (part, x) e (tt, sym (append-nil y))

-- parts are read, by fields of which only the last takes all that is left
pub parts_in-flat_map : (fields : List Field) (parts : List Part) → ends_well fields ≡ true → AllFit fields parts → parts_in fields (flat_map part_octets parts) ≡ Some parts
unfolding parts_in
parts_in-flat_map [] [] ends fit = refl
parts_in-flat_map [] (part ∷ parts) ends fit = absurd fit
parts_in-flat_map (field ∷ fields) [] ends fit = absurd fit
parts_in-flat_map (field ∷ []) (part ∷ []) ends fit =
    rw (append-nil (part_octets part), part_in-part_octets field part fit.0) refl
parts_in-flat_map (field ∷ []) (part ∷ next ∷ parts) ends fit = absurd fit.1
parts_in-flat_map (field ∷ next ∷ fields) (part ∷ parts) ends fit =
    let tests = and_parts (not (takes_all field)) (ends_well (next ∷ fields)) ends in
    rw (part_in-append field part (flat_map part_octets parts) (not-true (takes_all field) tests.0) fit.0, parts_in-flat_map (next ∷ fields) parts tests.1 fit.1) refl

-- parts that were read are what the fields say, and are all of the octets
pub from_parts_in : (fields : List Field) (x : List ℕ) (parts : List Part) → parts_in fields x ≡ Some parts → AllFit fields parts × (x ≡ flat_map part_octets parts)
unfolding parts_in
from_parts_in [] [] parts e = read_as (λ (ps : List Part). AllFit [] ps × ([] ≡ flat_map part_octets ps)) [] parts e (tt, refl)
from_parts_in [] (first ∷ x) parts e = absurd cc
from_parts_in (field ∷ fields) x parts e =
    let part = from_bind (part_in field x) _ _ e in
    let others = from_bind (parts_in fields part.0.1) _ _ part.2 in
    let front = from_part_in field x part.0.0 part.0.1 part.1 in
    let after = from_parts_in fields part.0.1 others.0 others.1 in
    read_as (λ (ps : List Part). AllFit (field ∷ fields) ps × (x ≡ flat_map part_octets ps)) (part.0.0 ∷ others.0) parts others.2
    ((front.0, after.0), front.1 ∙ ap (λ (z : List ℕ). part_octets part.0.0 ++ z) after.1)

-- what a test says of each row of a table and of what stands for the rest, it says of what is found
table_passes : (found : List ℕ × Layout → Bool) (test : Layout → Bool) (table : List (List ℕ × Layout)) (default : Layout) → list_all (λ row. test row.1) table ≡ true → test default ≡ true → test (unwrap_or (option_map (λ row. row.1) (find found table)) default) ≡ true
table_passes found test [] default rows last = last
table_passes found test (row ∷ table) default rows last =
    let tests = and_parts (test row.1) (list_all (λ row. test row.1) table) rows in
    elim (cases_Bool (found row)) [
      | inl yes_found ↦ rw yes_found tests.0
      | inr not_found ↦ rw not_found (table_passes found test table default tests.1 last)
    ]

-- a test that each layout passes, that of opaque data too, is passed by every type's layout
pub layout_passes : (test : List Field → Bool) → list_all (λ row. test row.1.fields) layouts ≡ true → test (rest ∷ []) ≡ true → (rtype : ℕ) → test (layout_of rtype) ≡ true
layout_passes test rows last rtype =
    table_passes (λ row. list_any (nat_eq rtype) row.0) (λ (row : Layout). test row.fields) layouts (record { fields = rest ∷ []; form = None }) rows last

-- in every type's layout only the last field may take all that is left
pub layout_ends_well : (rtype : ℕ) → ends_well (layout_of rtype) ≡ true
layout_ends_well rtype = layout_passes ends_well refl refl rtype

-- data's parts are read
pub parts_of-data : (rtype : ℕ) (parts : List Part) (rdata : List ℕ) → IsData rtype parts rdata → parts_of rtype rdata ≡ Some parts
parts_of-data rtype parts rdata is =
    ap (parts_in (layout_of rtype)) is.is ∙ parts_in-flat_map (layout_of rtype) parts (layout_ends_well rtype) is.fit

-- parts that were read are the data's
pub from_parts_of : (rtype : ℕ) (parts : List Part) (rdata : List ℕ) → parts_of rtype rdata ≡ Some parts → IsData rtype parts rdata
from_parts_of rtype parts rdata e =
    let read = from_parts_in (layout_of rtype) rdata parts e in
    record { fit = read.0; is = read.1 }

-- the parts that are read are those that data have
pub parts_of_is : (rtype : ℕ) (parts : List Part) (rdata : List ℕ) → (parts_of rtype rdata ≡ Some parts) ↔ IsData rtype parts rdata
parts_of_is rtype parts rdata = (from_parts_of rtype parts rdata, parts_of-data rtype parts rdata)

-- readable data's parts are read
pub parts_of-readable : (rtype : ℕ) (rdata : List ℕ) (readable : IsReadable rtype rdata) → parts_of rtype rdata ≡ Some readable.parts
parts_of-readable rtype rdata readable = parts_of-data rtype readable.parts rdata readable.are

-- data have one reading
pub same_parts : (rtype : ℕ) (a b : List Part) (rdata : List ℕ) → IsData rtype a rdata → IsData rtype b rdata → a ≡ b
same_parts rtype a b rdata ha hb = same_Some a b (sym (parts_of-data rtype a rdata ha) ∙ parts_of-data rtype b rdata hb)

-- data are readable, or nothing is read of them
pub readable_or_not : (rtype : ℕ) (rdata : List ℕ) → length rdata ≤ 65535 → IsReadable rtype rdata ⊎ (parts_of rtype rdata ≡ None)
readable_or_not rtype rdata most =
    elim (parts_of rtype rdata) as (λ o. parts_of rtype rdata ≡ o → IsReadable rtype rdata ⊎ (parts_of rtype rdata ≡ None)) [
      | Some parts ↦ λ e. inl (record { parts = parts; are = from_parts_of rtype parts rdata e; at_most = most })
      | None ↦ λ e. inr e
    ] refl

-- data of which nothing is read are not readable
pub unreadable : (rtype : ℕ) (rdata : List ℕ) → parts_of rtype rdata ≡ None → IsReadable rtype rdata → ⊥
unreadable rtype rdata none readable = let some = parts_of-readable rtype rdata readable in absurd cc
