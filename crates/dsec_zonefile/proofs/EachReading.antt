-- Each reader has its reading: what comes of it, entry by entry, is what its lines say. And each entry takes octets.
use Rattle.std.proofs.Common.{◌≡◌, ℕ, zero, suc, ◌+◌, ◌-◌, ◌<◌, List, [], ◌∷◌, ◌++◌, length, take, drop, Option, Some, None, Result, Ok, Err, refl, sym, ap, ◌∙◌, subst, arith}
use Rattle.std.specs.Prelude.{slice_range}
use Rattle.std.proofs.lemmas.List.{drop_at, length-drop, take_at}
use Rattle.std.proofs.Math.Seq.{drop-append-add}
use Rattle.dsec_text.specs.Finding.{line_at}
use Rattle.dsec_text.specs.Lines.{first_line_of, first_of, line_ends, line_or, lines_of, moved}
use Rattle.dsec_text.specs.Words.{Word, words_of}
use Rattle.dsec_text.specs.declared.line.BadLine.{BadLine}
use Rattle.dsec_text.specs.declared.line.Span.{Span}
use Rattle.dsec_text.proofs.LineText.{line_begins}
use Rattle.dsec_text.proofs.ReadLemmas.{line_ends-append}
use Rattle.dsec_text.proofs.SpanText.{line_has_word}
use Rattle.dsec_zonefile.specs.Entries.{HasEntries, IsNext, Next, Reader, again, bad, behind, end, ended, entry, first_told, found, goes_on, later, no_more, refused, step_of, stops, told}
use Rattle.dsec_zonefile.specs.Entries as entries
use Rattle.dsec_zonefile.specs.Lines.{said_in}
use Rattle.dsec_zonefile.specs.Readings.{Reading, left_unless, reading_from, reading_of, with_entry, with_line, with_said}
use Rattle.dsec_zonefile.specs.Setting.{after, entry_of}
use Rattle.dsec_zonefile.specs.declared.entry.Entry.{Entry}
use Rattle.dsec_zonefile.specs.declared.error.ZonefileError.{ZonefileError}
use Rattle.dsec_zonefile.specs.declared.error.ZonefileError.TheVariants as errors
use Rattle.dsec_zonefile.specs.declared.setting.Said.{Said}
use Rattle.dsec_zonefile.specs.declared.setting.Setting.{Setting}
use Rattle.dsec_zonefile.specs.declared.step.Step.{Step}

abbrev Stepped : Type 0
Stepped = Result (Option Step) ZonefileError

-- ---- a line takes octets

some_octet : (text : List ℕ) → 0 < length (words_of text) → 0 < length text
some_octet [] l = absurd (omega (arith, l))
some_octet (octet ∷ text) l = omega arith

some_taken : (n : ℕ) (text : List ℕ) → 0 < length (take n text) → (0 < n) × (0 < length text)
some_taken zero text l = absurd (omega (arith, l))
some_taken (suc n) [] l = absurd (omega (arith, l))
some_taken (suc n) (octet ∷ text) l = (omega arith, omega arith)

line_takes : (text : List ℕ) (span : Span) → first_line_of text ≡ Ok (Some span) → length (drop span.end text) < length text
line_takes text span e =
    let some = some_octet (slice_range text span.start span.end) (line_has_word text span e) in
    let taken = some_taken (span.end - span.start) (drop span.start text) some in
    let size = taken.0 in
    let left = taken.1 in
    omega (arith, size, left, length-drop span.start text, length-drop span.end text)

told_takes : (reader : Reader) (span : Span) (line : List ℕ) (said : Option Said) (step : Step) → first_line_of reader.text ≡ Ok (Some span)
    → told reader.passed span line said ≡ Ok (Some step) → length (drop step.octets reader.text) < length reader.text
told_takes reader span line None step is e = absurd cc
told_takes reader span line (Some said) step is e =
    let same : span.end ≡ step.octets = cc in
    subst (λ (n : ℕ). length (drop n reader.text) < length reader.text) same (line_takes reader.text span is)

first_takes : (reader : Reader) (line : Result (Option Span) BadLine) (step : Step) → first_line_of reader.text ≡ line
    → first_told reader line ≡ Ok (Some step) → length (drop step.octets reader.text) < length reader.text
first_takes reader (Err refusal) step is e = absurd cc
first_takes reader (Ok None) step is e = absurd cc
first_takes reader (Ok (Some span)) step is e =
    told_takes reader span (slice_range reader.text span.start span.end) (said_in reader.setting (slice_range reader.text span.start span.end)) step is e

step_takes : (reader : Reader) (step : Step) → step_of reader ≡ Ok (Some step) → length (behind reader step).text < length reader.text
step_takes reader step e = first_takes reader (first_line_of reader.text) step refl e

-- an entry takes octets
abbrev Takes : Reader → Next → Type 0
Takes reader (found it next) = length next.text < length reader.text
Takes reader (ended last) = Unit {0}
Takes reader (refused line) = Unit {0}

takes_more : (reader before : Reader) (next : Next) → length before.text < length reader.text → Takes before next → Takes reader next
takes_more reader before (found it next) l takes = omega (arith, l, takes)
takes_more reader before (ended last) l takes = tt
takes_more reader before (refused line) l takes = tt

next_takes : (reader : Reader) (next : Next) → IsNext reader next → Takes reader next
next_takes reader _ (again _ line e) = tt
next_takes reader _ (bad _ error n s) = tt
next_takes reader _ (end _ n s) = tt
next_takes reader _ (entry _ step it n s i) = step_takes reader step s
next_takes reader _ (later _ step next n s i h) = takes_more reader (behind reader step) next (step_takes reader step s) (next_takes (behind reader step) next h)

-- an entry that comes next takes octets
pub found_takes : (reader next : Reader) (it : Entry) → IsNext reader (found it next) → length next.text < length reader.text
found_takes reader next it is = next_takes reader (found it next) is

-- ---- what comes of a text

abbrev Has : Reader → Reading → Type 0
Has reader reading = HasEntries reader reading.entries reading.end

-- a reader that refused nothing, where what was read last begins on this line
abbrev at_text : ℕ → List ℕ → ℕ → Setting → Reader
at_text begun text passed setting = record { text = text; passed = passed; setting = setting; refused = None; begun = begun }

not_refused : (refusal : Option ℕ) (line : ℕ) → refusal ≡ Some line → refusal ≡ None → ⊥
not_refused refusal line a b = let e : Some line ≡ None = sym a ∙ b in absurd cc

plus_none : (a : ℕ) → a + 0 ≡ a
plus_none a = omega arith

none_plus : (a : ℕ) → 0 + a ≡ a
none_plus a = omega arith

plus_assoc : (a b c : ℕ) → a + (b + c) ≡ (a + b) + c
plus_assoc a b c = omega arith

-- what comes next of one reader comes next of another, and so all that comes
all_comes : (reader other : Reader) (all : List Entry) (last : Option ℕ) → ((next : Next) → IsNext other next → IsNext reader next) → HasEntries other all last → HasEntries reader all last
all_comes reader _ _ _ on (no_more other last h) = no_more reader last (on (ended last) h)
all_comes reader _ _ _ on (stops other line h) = stops reader line (on (refused line) h)
all_comes reader _ _ _ on (goes_on other next it all last h rest) = goes_on reader next it all last (on (found it next) h) rest

-- ---- a line without a word

-- a step behind a line
abbrev step_behind : List ℕ → Step → Step
step_behind line step = record { said = step.said; octets = length line + step.octets; lines = line_ends line + step.lines; begins = step.begins }

abbrev shifted : List ℕ → Stepped → Stepped
shifted line (Ok (Some step)) = Ok (Some (step_behind line step))
shifted line (Ok None) = Ok None
shifted line (Err error) = Err error

slice_behind : (line rest : List ℕ) (a b : ℕ) → slice_range (line ++ rest) (length line + a) (length line + b) ≡ slice_range rest a b
slice_behind line rest a b =
    let size : (length line + b) - (length line + a) ≡ b - a = omega arith in
    λ i. take (size i) (drop-append-add line rest a i)

told_shifted : (passed : ℕ) (line at : List ℕ) (span : Span) (said : Option Said)
    → told passed (record { before = line_ends line + span.before; start = length line + span.start; end = length line + span.end }) at said ≡ shifted line (told (passed + line_ends line) span at said)
told_shifted passed line at span None = λ i. Err (errors.Inplace (record { line = plus_assoc passed (line_ends line) span.before i + 1 }))
told_shifted passed line at span (Some said) = λ i. Ok (Some (record { said = said; octets = length line + span.end; lines = sym (plus_assoc (line_ends line) span.before (line_ends at)) i; begins = plus_assoc passed (line_ends line) span.before i + 1 }))

first_shifted : (begun : ℕ) (line rest : List ℕ) (passed : ℕ) (setting : Setting) (first : Result (Option Span) BadLine)
    → first_told (at_text begun (line ++ rest) passed setting) (moved (length line) (line_ends line) first) ≡ shifted line (first_told (at_text begun rest (passed + line_ends line) setting) first)
first_shifted begun line rest passed setting (Err refusal) = λ i. Err (errors.Inplace (record { line = plus_assoc passed (line_ends line) refusal.before i + 1 }))
first_shifted begun line rest passed setting (Ok None) = refl
first_shifted begun line rest passed setting (Ok (Some span)) =
    ap (λ (at : List ℕ). told passed (record { before = line_ends line + span.before; start = length line + span.start; end = length line + span.end }) at (said_in setting at)) (slice_behind line rest span.start span.end)
    ∙ told_shifted passed line (line_at rest span) span (said_in setting (line_at rest span))

step_shifted : (begun : ℕ) (line rest : List ℕ) (passed : ℕ) (setting : Setting) → lines_of (line ++ rest) ≡ Some line ∷ lines_of rest → words_of line ≡ []
    → step_of (at_text begun (line ++ rest) passed setting) ≡ shifted line (step_of (at_text begun rest (passed + line_ends line) setting))
step_shifted begun line rest passed setting cut none =
    ap (λ (lines : List (Option (List ℕ))). first_told (at_text begun (line ++ rest) passed setting) (first_of lines)) cut
    ∙ ap (λ (words : List Word). first_told (at_text begun (line ++ rest) passed setting) (line_or line words (first_line_of rest))) none
    ∙ first_shifted begun line rest passed setting (first_line_of rest)

behind_shifted : (begun : ℕ) (line rest : List ℕ) (passed : ℕ) (setting : Setting) (step : Step)
    → behind (at_text begun (line ++ rest) passed setting) (step_behind line step) ≡ behind (at_text begun rest (passed + line_ends line) setting) step
behind_shifted begun line rest passed setting step =
    λ i. record { text = drop-append-add line rest step.octets i; passed = plus_assoc passed (line_ends line) step.lines i; setting = after setting step.said; refused = None; begun = step.begins }

end_shifted : (begun : ℕ) (line rest : List ℕ) (passed : ℕ) (setting : Setting) → entries.at_end (at_text begun (line ++ rest) passed setting) ≡ entries.at_end (at_text begun rest (passed + line_ends line) setting)
end_shifted begun line rest passed setting =
    λ i. record { text = []; passed = (ap (λ (n : ℕ). passed + n) (line_ends-append line rest) ∙ plus_assoc passed (line_ends line) (line_ends rest)) i; setting = setting; refused = None; begun = begun }

-- what comes next behind a line without a word comes next
comes_behind : (reader other : Reader) (line : List ℕ) → reader.refused ≡ None → other.refused ≡ None → step_of reader ≡ shifted line (step_of other)
    → ((step : Step) → behind reader (step_behind line step) ≡ behind other step) → entries.at_end reader ≡ entries.at_end other
    → (next : Next) → IsNext other next → IsNext reader next
comes_behind reader other line none free says follows ends _ (again _ number e) = absurd (not_refused other.refused number e free)
comes_behind reader other line none free says follows ends _ (bad _ error n s) = bad reader error none (says ∙ ap (shifted line) s)
comes_behind reader other line none free says follows ends _ (end _ n s) = subst (λ (r : Reader). IsNext reader (ended r)) ends (end reader none (says ∙ ap (shifted line) s))
comes_behind reader other line none free says follows ends _ (entry _ step it n s i) =
    subst (λ (r : Reader). IsNext reader (found it r)) (follows step) (entry reader (step_behind line step) it none (says ∙ ap (shifted line) s) i)
comes_behind reader other line none free says follows ends _ (later _ step next n s i h) =
    later reader (step_behind line step) next none (says ∙ ap (shifted line) s) i (subst (λ (r : Reader). IsNext r next) (sym (follows step)) h)

-- ---- a line with a word

-- the line at the front
abbrev front_span : List ℕ → Span
front_span line = record { before = 0; start = 0; end = length line }

slice_line : (line rest : List ℕ) → slice_range (line ++ rest) 0 (length line) ≡ line
slice_line line rest = let size : length line - 0 ≡ length line = omega arith in ap (λ (n : ℕ). take n (line ++ rest)) size ∙ take_at line rest (length line) refl

step_here : (begun : ℕ) (line rest : List ℕ) (passed : ℕ) (setting : Setting) (word : Word) (words : List Word) → lines_of (line ++ rest) ≡ Some line ∷ lines_of rest → words_of line ≡ word ∷ words
    → step_of (at_text begun (line ++ rest) passed setting) ≡ told passed (front_span line) line (said_in setting line)
step_here begun line rest passed setting word words cut some =
    ap (λ (lines : List (Option (List ℕ))). first_told (at_text begun (line ++ rest) passed setting) (first_of lines)) cut
    ∙ ap (λ (all : List Word). first_told (at_text begun (line ++ rest) passed setting) (line_or line all (first_line_of rest))) some
    ∙ ap (λ (at : List ℕ). told passed (front_span line) at (said_in setting at)) (slice_line line rest)

behind_here : (begun begins : ℕ) (line rest : List ℕ) (passed : ℕ) (setting : Setting) (said : Said)
    → behind (at_text begun (line ++ rest) passed setting) (record { said = said; octets = length line; lines = 0 + line_ends line; begins = begins }) ≡ at_text begins rest (passed + line_ends line) (after setting said)
behind_here begun begins line rest passed setting said =
    λ i. record { text = drop_at line rest (length line) refl i; passed = passed + none_plus (line_ends line) i; setting = after setting said; refused = None; begun = begins }

-- what the line gives comes before what the others say
has_entry : (reader : Reader) (step : Step) (given : Option Entry) (others : Reading) → reader.refused ≡ None → step_of reader ≡ Ok (Some step) → entry_of step.said ≡ given
    → Has (behind reader step) others → Has reader (with_entry given others)
has_entry reader step None others none says gives has = all_comes reader (behind reader step) others.entries others.end (λ next h. later reader step next none says gives h) has
has_entry reader step (Some it) others none says gives has = goes_on reader (behind reader step) it others.entries others.end (entry reader step it none says gives) has

-- a refused line
has_refused : (reader : Reader) → reader.refused ≡ None → step_of reader ≡ Err (errors.Inplace (record { line = reader.passed + 0 + 1 })) → HasEntries reader [] (Some (reader.passed + 1))
has_refused reader none says =
    subst (λ (n : ℕ). HasEntries reader [] (Some (n + 1))) (plus_none reader.passed) (stops reader (reader.passed + 0 + 1) (bad reader (record { line = reader.passed + 0 + 1 }) none says))

has_said : (begun : ℕ) (line rest : List ℕ) (passed : ℕ) (setting : Setting) (said : Option Said) (others : Setting → Reading)
    → step_of (at_text begun (line ++ rest) passed setting) ≡ told passed (front_span line) line said → ((begins : ℕ) (next : Setting) → Has (at_text begins rest (passed + line_ends line) next) (others next))
    → Has (at_text begun (line ++ rest) passed setting) (with_said passed setting said others)
has_said begun line rest passed setting None others says go = has_refused (at_text begun (line ++ rest) passed setting) refl says
has_said begun line rest passed setting (Some said) others says go =
    has_entry (at_text begun (line ++ rest) passed setting) (record { said = said; octets = length line; lines = 0 + line_ends line; begins = passed + 0 + 1 }) (entry_of said) (others (after setting said)) refl says refl
    (subst (λ (r : Reader). Has r (others (after setting said))) (sym (behind_here begun (passed + 0 + 1) line rest passed setting said)) (go (passed + 0 + 1) (after setting said)))

-- ---- each line

has_line : (begun : ℕ) (line rest : List ℕ) (passed : ℕ) (setting : Setting) (words : List Word) (others : Setting → Reading) → words_of line ≡ words → lines_of (line ++ rest) ≡ Some line ∷ lines_of rest
    → ((begins : ℕ) (next : Setting) → Has (at_text begins rest (passed + line_ends line) next) (others next)) → Has (at_text begun (line ++ rest) passed setting) (with_line passed setting line words others)
has_line begun line rest passed setting [] others none cut go =
    all_comes (at_text begun (line ++ rest) passed setting) (at_text begun rest (passed + line_ends line) setting) (others setting).entries (others setting).end
    (comes_behind (at_text begun (line ++ rest) passed setting) (at_text begun rest (passed + line_ends line) setting) line refl refl (step_shifted begun line rest passed setting cut none)
    (behind_shifted begun line rest passed setting) (end_shifted begun line rest passed setting))
    (go begun setting)
has_line begun line rest passed setting (word ∷ words) others some cut go =
    has_said begun line rest passed setting (said_in setting line) others (step_here begun line rest passed setting word words cut some) go

has_lines : (begun : ℕ) (lines : List (Option (List ℕ))) (text : List ℕ) (passed : ℕ) (setting : Setting) → lines_of text ≡ lines → Has (at_text begun text passed setting) (reading_from passed setting lines)
unfolding reading_from
has_lines begun [] text passed setting is =
    no_more (at_text begun text passed setting) (entries.at_end (at_text begun text passed setting))
    (end (at_text begun text passed setting) refl (ap (λ (lines : List (Option (List ℕ))). first_told (at_text begun text passed setting) (first_of lines)) is))
has_lines begun (None ∷ lines) text passed setting is =
    has_refused (at_text begun text passed setting) refl (ap (λ (all : List (Option (List ℕ))). first_told (at_text begun text passed setting) (first_of all)) is)
has_lines begun (Some line ∷ lines) text passed setting is =
    let h = line_begins text line lines is in
    let cut : lines_of (line ++ h.rest) ≡ Some line ∷ lines_of h.rest =
    ap lines_of (sym h.is) ∙ is ∙ ap (λ (others : List (Option (List ℕ))). Some line ∷ others) h.follow in
    subst (λ (t : List ℕ). Has (at_text begun t passed setting) (reading_from passed setting (Some line ∷ lines))) (sym h.is)
    (has_line begun line h.rest passed setting (words_of line) (λ next. reading_from (passed + line_ends line) next lines) refl cut
    (λ begins next. has_lines begins lines h.rest (passed + line_ends line) next (sym h.follow)))

-- each reader has its reading
pub reading : (reader : Reader) → HasEntries reader (reading_of reader).entries (reading_of reader).end
reading reader = by reader.refused refl
  where
    by : (refusal : Option ℕ) → reader.refused ≡ refusal → Has reader (left_unless refusal reader)
    by (Some line) e = stops reader line (again reader line e)
    by None e = subst (λ (r : Reader). Has r (reading_from reader.passed reader.setting (lines_of reader.text)))
        (λ i. record { text = reader.text; passed = reader.passed; setting = reader.setting; refused = sym e i; begun = reader.begun })
        (has_lines reader.begun (lines_of reader.text) reader.text reader.passed reader.setting refl)
