-- The records of zone text, entry by entry.
use Rattle.std.proofs.Common.{◌≡◌, ℕ, List, [], ◌∷◌, ◌++◌, ◌<◌, ◌≤◌, ◌+◌, length, Option, Some, None, Result, Ok, Err, refl, sym, ap, ◌∙◌, subst, append-nil, append_assoc, length-append, arith}
use Rattle.std.specs.Prelude.{nat_lt, filter_map, IfSome, IsErrOf, Bool, true, false, if◌then◌else◌}
use Rattle.std.specs.Bool.{OnFalse}
use Rattle.std.proofs.lemmas.Bool.{lt-ltb}
use Rattle.std.specs.Io.KnownBytes.{Consumes, IsAtEnd}
use Rattle.dsec_spec.specs.Reading.{Gives}
use Rattle.dsec_spec.specs.Records.{Record}
use Rattle.dsec_outside.proofs.CallerLemmas.{line_past-append, says-taken}
use Rattle.dsec_outside.specs.Limit.{limit, line_past}
use Rattle.dsec_zonefile.specs.Entries as entry_list
use Rattle.dsec_zonefile.specs.Entries.{Answers, HasEntries, IsNext, Reader, ended, found, no_more, refused, stops}
use Rattle.dsec_zonefile.specs.declared.entry.Entry.{Entry}
use Rattle.dsec_zonefile.specs.declared.entry.Entry.TheVariants as entries
use Rattle.dsec_zonefile.specs.declared.error.ZonefileError.{ZonefileError}
use Rattle.dsec_zonefile.specs.declared.error.ZonefileError.TheVariants as zone
use Rattle.dsec_zonefile.proofs.AllEntries.{one_reading}
use Rattle.dsec_anchors.specs.Texts.{CountsReads, added, anchors_in, error_of, is_from_outside, record_in, records_among, records_left, start_of, wants_memory}
use Rattle.dsec_anchors.specs.Texts as texts
use Rattle.dsec_anchors.specs.declared.error.AnchorError.{AnchorError}
use Rattle.dsec_anchors.specs.declared.error.AnchorError.TheVariants.{InplaceError, ReadError, NoMemory}
use Rattle.dsec_zonefile.proofs.EachReading.{found_takes, reading}
use Rattle.dsec_zonefile.specs.Readings.{reading_of}

abbrev Records : Type 0
Records = Result (List Record) AnchorError

-- whatever entries a reader has, the records that it has left are those among them
pub records_are : (reader : Reader) (all : List Entry) (end : Option ℕ) → HasEntries reader all end → records_left reader ≡ records_among all end
records_are reader all end has =
    let same = one_reading reader (reading_of reader).entries all (reading_of reader).end end (reading reader) has in
    λ i. records_among (same.0 i) (same.1 i)

abbrev pub put : Option Record → Records → Records
put None records = records
put (Some it) (Ok records) = Ok (it ∷ records)
put (Some it) (Err error) = Err error

put_among : (it : Entry) (others : List Entry) (end : Option ℕ) → records_among (it ∷ others) end ≡ put (record_in it) (records_among others end)
put_among (entries.Record it) others None = refl
put_among (entries.Record it) others (Some line) = refl
put_among (entries.Include path origin) others None = refl
put_among (entries.Include path origin) others (Some line) = refl

-- an entry comes before the others
by_found : (reader next : Reader) (it : Entry) → IsNext reader (found it next) → records_left reader ≡ put (record_in it) (records_left next)
by_found reader next it is =
    let others = reading_of next in
    records_are reader (it ∷ others.entries) others.end (entry_list.goes_on reader next it others.entries others.end is (reading next)) ∙ put_among it others.entries others.end

by_end : (reader last : Reader) → IsNext reader (ended last) → records_left reader ≡ Ok []
by_end reader last is = records_are reader [] None (no_more reader last is)

by_refusal : (reader : Reader) (line : ℕ) → IsNext reader (refused line) → records_left reader ≡ texts.refused line
by_refusal reader line is = records_are reader [] (Some line) (stops reader line is)

added_more : (front : List Record) (it : Record) (records : Records) → added front (put (Some it) records) ≡ added (front ++ it ∷ []) records
added_more front it (Ok records) = ap (λ (all : List Record). Ok all) (sym (append_assoc front (it ∷ []) records))
added_more front it (Err error) = refl

added_none : (records : Records) → added [] records ≡ records
added_none (Ok records) = refl
added_none (Err error) = refl

-- ---- the loop that reads

-- at first there is none
pub at_first : (front : List Record) (reader : Reader) → front ≡ [] → added front (records_left reader) ≡ records_left reader
at_first front reader e = ap (λ (f : List Record). added f (records_left reader)) e ∙ added_none (records_left reader)

-- an entry's record, if it is one, goes behind those before
goes_on_by : (front : List Record) (reader next : Reader) (it : Entry) → IsNext reader (found it next)
    → added (front ++ filter_map record_in (it ∷ [])) (records_left next) ≡ added front (records_left reader)
goes_on_by front reader next (entries.Record it) is = sym (ap (added front) (by_found reader next (entries.Record it) is) ∙ added_more front it (records_left next))
goes_on_by front reader next (entries.Include path origin) is =
    ap (λ (f : List Record). added f (records_left next)) (append-nil front) ∙ sym (ap (added front) (by_found reader next (entries.Include path origin) is))

pub goes_on : (front more : List Record) (reader next : Reader) (given : Option Entry) (it : Entry) (all : Records) → Answers reader (Ok given) next → given ≡ Some it
    → more ≡ front ++ filter_map record_in (it ∷ []) → added front (records_left reader) ≡ all → added more (records_left next) ≡ all
goes_on front more reader next given it all answers some e inv =
    let is : IsNext reader (found it next) = subst (λ (o : Option Entry). Answers reader (Ok o) next) some answers in
    ap (λ (f : List Record). added f (records_left next)) e ∙ (goes_on_by front reader next it is ∙ inv)

-- and takes octets
pub smaller : (reader next : Reader) (given : Option Entry) (it : Entry) → Answers reader (Ok given) next → given ≡ Some it → length next.text < length reader.text
smaller reader next given it answers some = found_takes reader next it (subst (λ (o : Option Entry). Answers reader (Ok o) next) some answers)

-- the end
pub ends : (front : List Record) (reader last : Reader) (given : Option Entry) (all : Records) → Answers reader (Ok given) last → given ≡ None
    → added front (records_left reader) ≡ all → all ≡ Ok front
ends front reader last given all answers none inv =
    let is : IsNext reader (ended last) = subst (λ (o : Option Entry). Answers reader (Ok o) last) none answers in
    sym inv ∙ (ap (added front) (by_end reader last is) ∙ ap (λ (f : List Record). Ok f) (append-nil front))

-- a refusal, or want of memory
pub stops_at : (front : List Record) (reader after : Reader) (error : ZonefileError) (all : Records) → Answers reader (Err error) after
    → added front (records_left reader) ≡ all → OnFalse (wants_memory (error_of error)) (all ≡ Err (error_of error))
stops_at front reader after (zone.Inplace error) all answers inv = sym inv ∙ ap (added front) (by_refusal reader error.line answers.0)
stops_at front reader after zone.NoMemory all answers inv = tt

-- ---- whole texts

-- past the limit the rest doesn't count
pub anchors_in-append : (default : Option ℕ) (text more : List ℕ) → limit < length text → anchors_in default (text ++ more) ≡ anchors_in default text
anchors_in-append default text more l =
    let n : length (text ++ more) ≡ length text + length more = length-append text more in
    rw (lt-ltb limit (length (text ++ more)) (omega (arith, n, l)), lt-ltb limit (length text) l, line_past-append text more l) refl

never_among : (entries : List Entry) (end : Option ℕ) → records_among entries end ≡ Err ReadError → ⊥
never_among entries None e = cc
never_among entries (Some line) e = cc

never_by : (t : Bool) (line : ℕ) (reader : Reader) → (if t then texts.refused line else records_left reader) ≡ Err ReadError → ⊥
never_by true line reader e = cc
never_by false line reader e = never_among (reading_of reader).entries (reading_of reader).end e

-- no text says that a read failed
pub never_read : (default : Option ℕ) (text : List ℕ) → anchors_in default text ≡ Err ReadError → ⊥
never_read default text e = never_by (nat_lt limit (length text)) (line_past text) (start_of default text) e

-- so no answer for a text is that
pub never_failed : (default : Option ℕ) (text : List ℕ) (result : Records) → Gives wants_memory (λ (anchors : List Record). anchors) result (anchors_in default text) → IsErrOf result ReadError → ⊥
never_failed default text (Ok records) gives is = absurd cc
never_failed default text (Err (InplaceError error)) gives is = absurd cc
never_failed default text (Err ReadError) gives is = never_read default text gives
never_failed default text (Err NoMemory) gives is = absurd cc

-- no read fails while a text is understood
pub none_failed : (before now : ℕ) (default : Option ℕ) (text : List ℕ) (result : Records) → now ≡ before → Gives wants_memory (λ (anchors : List Record). anchors) result (anchors_in default text)
    → CountsReads before now result
none_failed before now default text (Ok records) e gives = e
none_failed before now default text (Err (InplaceError error)) e gives = e
none_failed before now default text (Err ReadError) e gives = absurd (never_read default text gives)
none_failed before now default text (Err NoMemory) e gives = e

-- what doesn't come of a text may come of less
more_free : (result defined : Records) → Gives wants_memory (λ (anchors : List Record). anchors) result defined → Gives is_from_outside (λ (anchors : List Record). anchors) result defined
more_free (Ok records) defined gives = gives
more_free (Err (InplaceError error)) defined gives = gives
more_free (Err ReadError) defined gives = tt
more_free (Err NoMemory) defined gives = tt

-- what was read of a source says what all of it says
pub told_all : (left rest : Option (List ℕ)) (content text : List ℕ) (result : Records) → Consumes left rest content → (length content ≤ limit → IsAtEnd rest)
    → text ≡ content → Gives wants_memory (λ (anchors : List Record). anchors) result (anchors_in None text)
    → IfSome left (λ all. Gives is_from_outside (λ (anchors : List Record). anchors) result (anchors_in None all))
told_all left rest content text result taken whole same_text gives = by left (says-taken (anchors_in None) (anchors_in-append None) left rest content taken whole)
  where
    by : (told : Option (List ℕ)) → IfSome told (λ all. anchors_in None all ≡ anchors_in None content)
        → IfSome told (λ all. Gives is_from_outside (λ (anchors : List Record). anchors) result (anchors_in None all))
    by None same = tt
    by (Some all) same = subst (λ (defined : Records). Gives is_from_outside (λ (anchors : List Record). anchors) result defined) (sym same)
        (more_free result (anchors_in None content) (subst (λ (t : List ℕ). Gives wants_memory (λ (anchors : List Record). anchors) result (anchors_in None t)) same_text gives))
