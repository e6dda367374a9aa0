-- What comes next: it is found line by line, and it is one thing alone.
use Rattle.std.proofs.Common.{◌≡◌, ℕ, ◌+◌, ◌-◌, List, length, drop, arith, Option, Some, None, Result, Ok, Err, refl, sym, ap, ◌∙◌, subst}
use Rattle.std.specs.Bool.{OnFalse}
use Rattle.std.proofs.lemmas.List.{drop-drop, drop_all}
use Rattle.std.proofs.lemmas.Option.{same_Some}
use Rattle.dsec_text.specs.Lines.{line_ends}
use Rattle.dsec_zonefile.specs.Entries.{IsNext, Next, Reader, again, at_end, bad, behind, end, ended, entry, found, later, refused, step_of, wants_memory}
use Rattle.dsec_zonefile.specs.Places.{Finds, IsSized, IsWithin, Steps, led, place_behind, reader_at}
use Rattle.dsec_zonefile.specs.Setting.{after, entry_of}
use Rattle.dsec_zonefile.specs.declared.entry.Entry.{Entry}
use Rattle.dsec_zonefile.specs.declared.error.InplaceError.{InplaceError}
use Rattle.dsec_zonefile.specs.declared.error.ZonefileError.{ZonefileError}
use Rattle.dsec_zonefile.specs.declared.error.ZonefileError.TheVariants as errors
use Rattle.dsec_zonefile.specs.declared.place.Place.{Place}
use Rattle.dsec_zonefile.specs.declared.place.Way.{Way}
use Rattle.dsec_zonefile.specs.declared.step.Ahead.{Ahead}
use Rattle.dsec_zonefile.specs.declared.step.Ahead.TheVariants as ahead
use Rattle.dsec_zonefile.specs.declared.step.Step.{Step}

abbrev Stepped : Type 0
Stepped = Result (Option Step) ZonefileError

-- what comes next from a place on comes next from the start
abbrev pub Leads : List ℕ → Place → Place → Type 0
Leads text start place = (next : Next) → IsNext (reader_at text place) next → IsNext (reader_at text start) next

-- at first the place is the start
pub at_start : (text : List ℕ) (start : Place) (way : Way) → led start way ≡ start → IsWithin text start → IsWithin text (led start way) × Leads text start (led start way)
at_start text start way e within =
    (subst (IsWithin text) (sym e) within, λ next h. subst (λ (p : Place). IsNext (reader_at text p) next) e h)

-- a line that was not read: it is refused, or memory is wanting
pub finds_error : (error : ZonefileError) (text : List ℕ) (start place : Place) → OnFalse (wants_memory error) (step_of (reader_at text place) ≡ Err error) → Leads text start place
    → Finds text start (Err error)
finds_error (errors.Inplace error) text start place says on = on (refused error.line) (bad (reader_at text place) error refl says)
finds_error errors.NoMemory text start place says on = tt

-- the reader at the end of a text
end_is : (text : List ℕ) (place : Place) (at lines : ℕ) → at ≡ length text → lines ≡ place.lines + line_ends (drop place.at text) → at_end (reader_at text place) ≡ reader_at text (record { at = at; lines = lines; setting = place.setting; begun = place.begun })
end_is text place at lines e f =
    λ i. record { text = sym (drop_all at text (omega (arith, e))) i; passed = sym f i; setting = place.setting; refused = None; begun = place.begun }

-- no line with a word
pub finds_end : (text : List ℕ) (start place : Place) (at lines : ℕ) → step_of (reader_at text place) ≡ Ok None → at ≡ length text → lines ≡ place.lines + line_ends (drop place.at text) → Leads text start place
    → IsNext (reader_at text start) (ended (reader_at text (record { at = at; lines = lines; setting = place.setting; begun = place.begun })))
finds_end text start place at lines says e f on =
    subst (λ (r : Reader). IsNext (reader_at text start) (ended r)) (end_is text place at lines e f) (on (ended (at_end (reader_at text place))) (end (reader_at text place) refl says))

-- the reader behind a step is the one at the place behind it
reader_behind : (text : List ℕ) (place : Place) (step : Step) → behind (reader_at text place) step ≡ reader_at text (place_behind place step)
reader_behind text place step =
    ap {B = Reader} (λ (rest : List ℕ). record { text = rest; passed = place.lines + step.lines; setting = after place.setting step.said; refused = None; begun = step.begins })
    (drop-drop step.octets place.at text)

-- a line that gives an entry
pub finds_entry : (text : List ℕ) (start place next : Place) (step : Step) (given : Option Entry) (it : Entry)
    → step_of (reader_at text place) ≡ Ok (Some step) → place_behind place step ≡ next → given ≡ entry_of step.said → given ≡ Some it → Leads text start place
    → IsNext (reader_at text start) (found it (reader_at text next))
finds_entry text start place next step given it says e gives is on =
    subst (λ (r : Reader). IsNext (reader_at text start) (found it r)) (reader_behind text place step ∙ ap (reader_at text) e)
    (on (found it (behind (reader_at text place) step)) (entry (reader_at text place) step it refl says (sym gives ∙ is)))

-- a line that gives none
pub goes_on : (text : List ℕ) (start place next : Place) (step : Step) (given : Option Entry)
    → step_of (reader_at text place) ≡ Ok (Some step) → place_behind place step ≡ next → given ≡ entry_of step.said → given ≡ None → Leads text start place → Leads text start next
goes_on text start place next step given says e gives none on n h =
    on n (later (reader_at text place) step n refl says (sym gives ∙ none) (subst (λ (r : Reader). IsNext r n) (sym (reader_behind text place step ∙ ap (reader_at text) e)) h))

-- the place behind a line is within the text
pub within_next : (text : List ℕ) (place next : Place) (step : Step) → IsSized (length text - place.at) (ahead.Step step) → place_behind place step ≡ next → IsWithin text place → IsWithin text next
within_next text place next step sized e within =
    subst (IsWithin text) e (omega (arith, sized.1, within.0), omega (arith, sized.1, sized.2, within.0, within.1))

-- a refusal stays
pub still_refused : (reader : Reader) (line : ℕ) → reader.refused ≡ Some line → IsNext reader (refused line) × (reader ≡ record reader { refused = Some line })
still_refused reader line e = (again reader line e, λ i. record { text = reader.text; passed = reader.passed; setting = reader.setting; refused = e i; begun = reader.begun })

not_refused : (refusal : Option ℕ) (line : ℕ) → refusal ≡ Some line → refusal ≡ None → ⊥
not_refused refusal line a b = let e : Some line ≡ None = sym a ∙ b in absurd cc

not_bad_and_end : (r : Stepped) (error : ZonefileError) → r ≡ Err error → r ≡ Ok None → ⊥
not_bad_and_end r error a b = let e : ◌≡◌ {A = Stepped} (Err error) (Ok None) = sym a ∙ b in absurd cc

not_bad_and_step : (r : Stepped) (error : ZonefileError) (step : Step) → r ≡ Err error → r ≡ Ok (Some step) → ⊥
not_bad_and_step r error step a b = let e : ◌≡◌ {A = Stepped} (Err error) (Ok (Some step)) = sym a ∙ b in absurd cc

not_end_and_step : (r : Stepped) (step : Step) → r ≡ Ok None → r ≡ Ok (Some step) → ⊥
not_end_and_step r step a b = let e : ◌≡◌ {A = Stepped} (Ok None) (Ok (Some step)) = sym a ∙ b in absurd cc

not_entry : (o : Option Entry) (it : Entry) → o ≡ Some it → o ≡ None → ⊥
not_entry o it a b = let e : Some it ≡ None = sym a ∙ b in absurd cc

line_in : ℕ → Stepped → ℕ
line_in other (Err (errors.Inplace error)) = error.line
line_in other r = other

step_in : Step → Stepped → Step
step_in other (Ok (Some step)) = step
step_in other r = other

same_line : (r : Stepped) (a b : InplaceError) → r ≡ Err (errors.Inplace a) → r ≡ Err (errors.Inplace b) → a.line ≡ b.line
unfolding line_in
same_line r a b e f = ap (line_in 0) (sym e ∙ f)

same_step : (r : Stepped) (a b : Step) → r ≡ Ok (Some a) → r ≡ Ok (Some b) → a ≡ b
unfolding step_in
same_step r a b e f = ap (step_in a) (sym e ∙ f)

-- of a reader only one thing comes next
pub one_next : (reader : Reader) (a b : Next) → IsNext reader a → IsNext reader b → a ≡ b
one_next reader _ _ (again _ line e) (again _ other f) = ap refused (same_Some line other (sym e ∙ f))
one_next reader _ _ (again _ line e) (bad _ error n s) = absurd (not_refused reader.refused line e n)
one_next reader _ _ (again _ line e) (end _ n s) = absurd (not_refused reader.refused line e n)
one_next reader _ _ (again _ line e) (entry _ step it n s i) = absurd (not_refused reader.refused line e n)
one_next reader _ _ (again _ line e) (later _ step next n s i h) = absurd (not_refused reader.refused line e n)
one_next reader _ _ (bad _ error n s) (again _ line e) = absurd (not_refused reader.refused line e n)
one_next reader _ _ (bad _ error n s) (bad _ other m t) = ap refused (same_line (step_of reader) error other s t)
one_next reader _ _ (bad _ error n s) (end _ m t) = absurd (not_bad_and_end (step_of reader) (errors.Inplace error) s t)
one_next reader _ _ (bad _ error n s) (entry _ step it m t i) = absurd (not_bad_and_step (step_of reader) (errors.Inplace error) step s t)
one_next reader _ _ (bad _ error n s) (later _ step next m t i h) = absurd (not_bad_and_step (step_of reader) (errors.Inplace error) step s t)
one_next reader _ _ (end _ n s) (again _ line e) = absurd (not_refused reader.refused line e n)
one_next reader _ _ (end _ n s) (bad _ error m t) = absurd (not_bad_and_end (step_of reader) (errors.Inplace error) t s)
one_next reader _ _ (end _ n s) (end _ m t) = refl
one_next reader _ _ (end _ n s) (entry _ step it m t i) = absurd (not_end_and_step (step_of reader) step s t)
one_next reader _ _ (end _ n s) (later _ step next m t i h) = absurd (not_end_and_step (step_of reader) step s t)
one_next reader _ _ (entry _ step it n s i) (again _ line e) = absurd (not_refused reader.refused line e n)
one_next reader _ _ (entry _ step it n s i) (bad _ error m t) = absurd (not_bad_and_step (step_of reader) (errors.Inplace error) step t s)
one_next reader _ _ (entry _ step it n s i) (end _ m t) = absurd (not_end_and_step (step_of reader) step t s)
one_next reader _ _ (entry _ step it n s i) (entry _ other that m t j) =
    let e : step ≡ other = same_step (step_of reader) step other s t in
    let f : it ≡ that = same_Some it that (sym i ∙ ap (λ (x : Step). entry_of x.said) e ∙ j) in
    λ k. found (f k) (behind reader (e k))
one_next reader _ _ (entry _ step it n s i) (later _ other next m t j h) =
    absurd (not_entry (entry_of step.said) it i (ap (λ (x : Step). entry_of x.said) (same_step (step_of reader) step other s t) ∙ j))
one_next reader _ _ (later _ step next n s i h) (again _ line e) = absurd (not_refused reader.refused line e n)
one_next reader _ _ (later _ step next n s i h) (bad _ error m t) = absurd (not_bad_and_step (step_of reader) (errors.Inplace error) step t s)
one_next reader _ _ (later _ step next n s i h) (end _ m t) = absurd (not_end_and_step (step_of reader) step t s)
one_next reader _ _ (later _ step next n s i h) (entry _ other it m t j) =
    absurd (not_entry (entry_of other.said) it j (ap (λ (x : Step). entry_of x.said) (same_step (step_of reader) other step t s) ∙ i))
one_next reader _ _ (later _ step next n s i h) (later _ other that m t j g) =
    let e : other ≡ step = same_step (step_of reader) other step t s in
    one_next (behind reader step) next that h (subst (λ (x : Step). IsNext (behind reader x) that) e g)

-- what stands ahead doesn't depend on where the line before begins
pub steps_alike : (reader : Reader) (n : ℕ) (result : Result Ahead ZonefileError) → Steps (record reader { begun = n }) result → Steps reader result
steps_alike reader n (Ok (ahead.Step step)) h = h
steps_alike reader n (Ok (ahead.End lines)) h = h
steps_alike reader n (Err error) h = h
