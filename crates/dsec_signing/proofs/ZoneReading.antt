-- Zone text that is to be signed, record by record.
use Rattle.std.proofs.Common.{◌≡◌, ℕ, ◌+◌, ◌-◌, ◌<◌, ◌≤◌, List, [], ◌∷◌, ◌++◌, length, Option, Some, None, Result, Ok, Err, refl, sym, ap, ◌∙◌, subst, append-nil, append_assoc, length-append, eqb-true, arith, inl, inr}
use Rattle.std.specs.Prelude.{◌⊎◌, ◌==◌, ◌&&◌, not, All, IfOk, Bool, true, false, cond}
use Rattle.std.proofs.lemmas.Option.{same_Some}
use Rattle.std.proofs.lemmas.List.Elements.{All-cons, All-nil}
use Rattle.dsec_spec.specs.Numbers.{IN}
use Rattle.dsec_spec.proofs.Choosing.{both}
use Rattle.dsec_zonefile.specs.declared.entry.Entry.TheVariants as entries
use Rattle.dsec_spec.specs.Records.{Record}
use Rattle.dsec_outside.specs.Limit.{limit, line_past}
use Rattle.dsec_zonefile.specs.Entries.{Answers, IsNext, Reader, ended, found, refused}
use Rattle.dsec_zonefile.specs.declared.entry.Entry.{Entry}
use Rattle.dsec_zonefile.proofs.EachReading.{found_takes}
use Rattle.dsec_zonefile.specs.declared.error.ZonefileError.{ZonefileError}
use Rattle.dsec_zonefile.specs.declared.error.ZonefileError.TheVariants as zone
use Rattle.dsec_signing.specs.declared.error.Refused.{Refused}
use Rattle.dsec_signing.specs.declared.error.SourceError.{SourceError}
use Rattle.dsec_signing.specs.declared.error.SourceError.TheVariants as errors
use Rattle.dsec_signing.specs.declared.error.Word.TheVariants as words
use Rattle.dsec_signing.specs.Reading.{Adds, AnswersSource, AnswersZone, Refuses, error_of, refused_at}
use Rattle.dsec_signing.specs.Zone.{SaysSource, SaysZone, at_line, bad, before, fit_in, is_made, goes_on, long, most_records, no_more, short, start_of, too_many, unfit}

abbrev Said : Type 0
Said = Result (List Record) ℕ

-- records before what is said
abbrev pub behind : List Record → Said → Said
behind front (Ok records) = Ok (front ++ records)
behind front (Err line) = Err line

-- Those that were read stand before what is left: whatever that says, they and it are what the whole says; and they are not too many.
pub record Follows (start reader : Reader) (front : List Record) : Type 0 where
  pub within : length front ≤ most_records
  pub says : (said : Said) → SaysZone (most_records - length front) reader said → SaysZone most_records start (behind front said)

behind_none : (said : Said) → behind [] said ≡ said
behind_none (Ok records) = refl
behind_none (Err line) = refl

behind_one : (front : List Record) (r : Record) (said : Said) → behind front (before r said) ≡ behind (front ++ r ∷ []) said
behind_one front r (Ok records) = ap (λ (all : List Record). Ok all) (sym (append_assoc front (r ∷ []) records))
behind_one front r (Err line) = refl

-- at first none was read
pub at_first : (start : Reader) → Follows start start []
at_first start = record { within = omega arith; says = λ said h. subst (SaysZone most_records start) (sym (behind_none said)) h }

-- one more
pub one_more : (start reader next : Reader) (front : List Record) (it : Entry) (r : Record) → IsNext reader (found it next) → fit_in it ≡ Some r → length front < most_records
    → Follows start reader front → Follows start next (front ++ r ∷ [])
one_more start reader next front it r is fit room h =
    let size : length (front ++ r ∷ []) ≡ length front + 1 = length-append front (r ∷ []) in
    let left : (most_records - length (front ++ r ∷ [])) + 1 ≡ most_records - length front = omega (arith, size, room) in record {
      within = omega (arith, size, room);
      says = λ said says. subst (SaysZone most_records start) (behind_one front r said)
          (h.says (before r said) (subst (λ (n : ℕ). SaysZone n reader (before r said)) left (goes_on (most_records - length (front ++ r ∷ [])) reader next it r said is fit says)));
    }

-- no more
pub ends : (start reader last : Reader) (front : List Record) → IsNext reader (ended last) → Follows start reader front → SaysZone most_records start (Ok front)
ends start reader last front is h =
    subst (λ (all : List Record). SaysZone most_records start (Ok all)) (append-nil front) (h.says (Ok []) (no_more (most_records - length front) reader last is))

-- the grammar refuses a line
pub bad_line : (start reader : Reader) (front : List Record) (line : ℕ) → IsNext reader (refused line) → Follows start reader front → SaysZone most_records start (Err line)
bad_line start reader front line is h = h.says (Err line) (bad (most_records - length front) reader line is)

-- an entry may not stand there
pub bad_entry : (start reader next : Reader) (front : List Record) (it : Entry) → IsNext reader (found it next) → (fit_in it ≡ None) ⊎ (most_records ≤ length front)
    → Follows start reader front → SaysZone most_records start (Err next.begun)
bad_entry start reader next front it is (inl none) h = h.says (Err next.begun) (unfit (most_records - length front) reader next it is none)
bad_entry start reader next front it is (inr full) h =
    let none : 0 ≡ most_records - length front = omega (arith, full) in
    h.says (Err next.begun) (subst (λ (n : ℕ). SaysZone n reader (Err next.begun)) none (too_many reader next it is))

-- ---- answers of the calls

-- what was found
pub found_by : (reader after : Reader) (given : Option Entry) (it : Entry) → Answers reader (Ok given) after → given ≡ Some it → IsNext reader (found it after)
found_by reader after given it answers e = subst (λ (o : Option Entry). Answers reader (Ok o) after) e answers

-- the end
pub ended_by : (reader after : Reader) (given : Option Entry) → Answers reader (Ok given) after → given ≡ None → IsNext reader (ended after)
ended_by reader after given answers e = subst (λ (o : Option Entry). Answers reader (Ok o) after) e answers

-- it takes octets
pub smaller : (reader after : Reader) (given : Option Entry) (it : Entry) → Answers reader (Ok given) after → given ≡ Some it → length after.text < length reader.text
smaller reader after given it answers e = found_takes reader after it (found_by reader after given it answers e)

-- the reader refuses a line, or wants memory
pub stops : (X : Type 0) (view : X → List Record) (start reader after : Reader) (front : List Record) (error : ZonefileError) → Answers reader (Err error) after → Follows start reader front
    → AnswersZone view start (Err (error_of error))
stops X view start reader after front (zone.Inplace error) answers h = (refl, bad_line start reader front error.line answers.0 h)
stops X view start reader after front zone.NoMemory answers h = tt

-- an entry is refused, or wants memory
pub stops_at_entry : (X : Type 0) (view : X → List Record) (start reader next : Reader) (front : List Record) (it : Entry) (line : ℕ) (error : SourceError) → IsNext reader (found it next) → line ≡ next.begun
    → Refuses it line front error → Follows start reader front → AnswersZone view start (Err error)
stops_at_entry X view start reader next front it line (errors.Refused refusal) is at keeps h =
    let begun : refusal.line ≡ next.begun = ap (λ (r : Refused). r.line) keeps.0 ∙ at in (
      keeps.0 ∙ ap refused_at (sym (ap (λ (r : Refused). r.line) keeps.0)),
      subst (λ (n : ℕ). SaysZone most_records start (Err n)) (sym begun) (bad_entry start reader next front it is keeps.1 h),
    )
stops_at_entry X view start reader next front it line errors.NoMemory is at keeps h = tt

-- its record was added
pub goes_on_by : (start reader next : Reader) (front more : List Record) (it : Entry) → IsNext reader (found it next) → Adds it front more
    → Follows start reader front → Follows start next more
goes_on_by start reader next front more it is adds h =
    subst (Follows start next) (sym adds.3) (one_more start reader next front it adds.1 is adds.2 adds.0 h)

-- ---- whole texts

-- one that is too long
pub too_long : (content : List ℕ) (line : ℕ) → limit < length content → line ≡ line_past content → SaysSource content (Err (record { line = line; word = words.Size }))
too_long content line l e = subst (λ (n : ℕ). SaysSource content (Err (record { line = n; word = words.Size }))) (sym e) (long content l)

-- one that is read from its start
pub whole_source : (X : Type 0) (view : X → List Record) (content : List ℕ) (reader : Reader) (result : Result X SourceError) → length content ≤ limit → reader ≡ start_of content
    → AnswersZone view reader result → AnswersSource view content result
whole_source X view content reader (Ok x) l e h = short content (Ok (view x)) l (subst (λ (r : Reader). SaysZone most_records r (Ok (view x))) e h)
whole_source X view content reader (Err (errors.Refused refusal)) l e h =
    subst (λ (r : Refused). SaysSource content (Err r)) (sym h.0) (short content (Err refusal.line) l (subst (λ (r : Reader). SaysZone most_records r (Err refusal.line)) e h.1))
whole_source X view content reader (Err errors.NoMemory) l e h = tt

-- ---- the class

fit_class : (it : Entry) (r : Record) → fit_in it ≡ Some r → r.class ≡ IN
fit_class (entries.Include path origin) r e = absurd cc
fit_class (entries.Record one) r e = by ((one.class == IN) && not (is_made one.rtype)) refl e
  where
    by : (t : Bool) → ((one.class == IN) && not (is_made one.rtype)) ≡ t → cond t (Some one) None ≡ Some r → r.class ≡ IN
    by true h f = subst (λ (x : Record). x.class ≡ IN) (same_Some one r f) (eqb-true one.class IN (both (one.class == IN) (not (is_made one.rtype)) h).0)
    by false h f = absurd cc

abbrev AreIn : Said → Type 0
AreIn (Ok records) = All (λ (r : Record). r.class ≡ IN) records
AreIn (Err line) = Unit {0}

before_in : (r : Record) (said : Said) → r.class ≡ IN → AreIn said → AreIn (before r said)
before_in r (Ok records) e h = All-cons (λ (x : Record). x.class ≡ IN) r records e h
before_in r (Err line) e h = tt

zone_class : (room : ℕ) (reader : Reader) (said : Said) → SaysZone room reader said → AreIn said
zone_class _ _ _ (no_more room reader last is) = All-nil (λ (x : Record). x.class ≡ IN)
zone_class _ _ _ (bad room reader line is) = tt
zone_class _ _ _ (unfit room reader next it is none) = tt
zone_class _ _ _ (too_many reader next it is) = tt
zone_class _ _ _ (goes_on room reader next it r said is fit h) = before_in r said (fit_class it r fit) (zone_class room next said h)

abbrev AreInFound : Result (List Record) Refused → Type 0
AreInFound (Ok records) = All (λ (r : Record). r.class ≡ IN) records
AreInFound (Err refusal) = Unit {0}

found_in : (said : Said) → AreIn said → AreInFound (at_line said)
found_in (Ok records) h = h
found_in (Err line) h = tt

source_in : (content : List ℕ) (said : Result (List Record) Refused) → SaysSource content said → AreInFound said
source_in _ _ (long content l) = tt
source_in _ _ (short content said l h) = found_in said (zone_class most_records (start_of content) said h)

-- all records that are read are of class IN
pub read_in : (X : Type 0) (view : X → List Record) (content : List ℕ) (result : Result X SourceError) → AnswersSource view content result → IfOk result (λ x. All (λ (r : Record). r.class ≡ IN) (view x))
read_in X view content (Ok x) h = source_in content (Ok (view x)) h
read_in X view content (Err error) h = tt
