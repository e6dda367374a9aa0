-- What a script's lines say, put behind what was read.
use Rattle.std.proofs.Common.{◌≡◌, ◌+◌, ℕ, List, [], ◌∷◌, ◌++◌, Result, Ok, Err, refl, sym, ap, ◌∙◌, append_assoc, append-nil, subst, ◌⊎◌, inl, inr}
use Rattle.std.specs.Bool.{OnFalse}
use Rattle.std.specs.List.{fold}
use Rattle.dsec_spec.specs.Outside.{with_entry}
use Rattle.dsec_spec.proofs.OutsideLaws.{table-firsts}
use Rattle.dsec_script.specs.declared.error.ScriptError.{ScriptError}
use Rattle.dsec_script.specs.declared.error.ScriptError.TheVariants as errors
use Rattle.dsec_script.specs.declared.error.Word.TheVariants as words
use Rattle.dsec_script.specs.declared.line.Line.{Line}
use Rattle.dsec_script.specs.declared.line.Line.TheVariants as lines
use Rattle.dsec_script.specs.declared.place.Place.{Place}
use Rattle.dsec_script.specs.declared.place.Place.TheVariants as places
use Rattle.dsec_script.specs.declared.script.Script.{Script}
use Rattle.dsec_script.specs.Place.{after, at_line, wants_memory}
use Rattle.dsec_script.specs.Script.{◌>>=◌, at_end, first_replies, nothing, plus, script_from, script_in, with_line}
use Rattle.dsec_script.specs.Text.{lines_of}

-- what was read, and then what the others say
abbrev pub joined : Script → Result Script ScriptError → Result Script ScriptError
joined front read = read >>= λ script. Ok (record {
  anchors = front.anchors ++ script.anchors;
  replies = fold with_entry front.replies script.replies;
  items = front.items ++ script.items;
})

first_by : (read : Result Script ScriptError) → joined nothing read ≡ (read >>= λ script. Ok (first_replies script))
first_by (Err e) = refl
first_by (Ok script) = ap (λ replies. Ok (record { anchors = script.anchors; replies = replies; items = script.items })) (table-firsts script.replies)

-- at first nothing was read
pub at_first : (front : Script) (text : List ℕ) → front ≡ nothing → joined front (script_from 1 places.Start (lines_of text)) ≡ script_in (lines_of text)
at_first front text e = ap (λ (s : Script). joined s (script_from 1 places.Start (lines_of text))) e ∙ first_by (script_from 1 places.Start (lines_of text))

one_more : (front : Script) (place : Place) (said : Line) (read : Result Script ScriptError)
    → joined front (read >>= λ script. Ok (with_line place said script)) ≡ joined (plus front place said) read
one_more front place said (Err e) = refl
one_more front place lines.Passed (Ok script) = refl
one_more front place (lines.Now seconds) (Ok script) = refl
one_more front place (lines.Anchors anchors) (Ok script) =
    ap (λ all. Ok (record { anchors = all; replies = fold with_entry front.replies script.replies; items = front.items ++ script.items })) (sym (append_assoc front.anchors anchors script.anchors))
one_more front place (lines.Reply name rtype kept) (Ok script) = refl
one_more front place (lines.Message octets) (Ok script) =
    ap (λ items. Ok (record { anchors = front.anchors ++ script.anchors; replies = fold with_entry front.replies script.replies; items = items })) (sym (append_assoc front.items _ script.items))

-- a line that says something
pub goes_on : (front : Script) (n : ℕ) (place : Place) (said : Line) (rest line following : List ℕ) (all : Result Script ScriptError)
    → lines_of rest ≡ line ∷ lines_of following → at_line n place line ≡ Ok said
    → joined front (script_from n place (lines_of rest)) ≡ all
    → joined (plus front place said) (script_from (n + 1) (after place said) (lines_of following)) ≡ all
unfolding script_from
goes_on front n place said rest line following all cut e inv =
    sym (one_more front place said (script_from (n + 1) (after place said) (lines_of following)))
    ∙ ap (λ r. joined front (r >>= λ s. script_from (n + 1) (after place s) (lines_of following) >>= λ script. Ok (with_line place s script))) (sym e)
    ∙ ap (λ ls. joined front (script_from n place ls)) (sym cut)
    ∙ inv

-- a line that is refused
pub stops : (front : Script) (n : ℕ) (place : Place) (e : ScriptError) (rest line following : List ℕ) (all : Result Script ScriptError)
    → lines_of rest ≡ line ∷ lines_of following → at_line n place line ≡ Err e
    → joined front (script_from n place (lines_of rest)) ≡ all
    → all ≡ Err e
unfolding script_from
stops front n place e rest line following all cut h inv =
    sym inv ∙ ap (λ ls. joined front (script_from n place ls)) cut
    ∙ ap (λ r. joined front (r >>= λ s. script_from (n + 1) (after place s) (lines_of following) >>= λ script. Ok (with_line place s script))) h

-- the end
pub ends : (front : Script) (n : ℕ) (place : Place) (rest : List ℕ) (all : Result Script ScriptError) → rest ≡ []
    → joined front (script_from n place (lines_of rest)) ≡ all → all ≡ joined front (at_end n place)
unfolding script_from lines_of
ends front n place rest all e inv = sym inv ∙ ap (λ (r : List ℕ). joined front (script_from n place (lines_of r))) e

pub whole : (front : Script) → joined front (Ok nothing) ≡ Ok front
whole front = λ i. Ok (record { anchors = append-nil front.anchors i; replies = front.replies; items = append-nil front.items i })

-- a line that was not read: it is refused, or memory is wanting
pub stops_reading : (front : Script) (n : ℕ) (place : Place) (e : ScriptError) (rest line following : List ℕ) (all : Result Script ScriptError)
    → lines_of rest ≡ line ∷ lines_of following → OnFalse (wants_memory e) (at_line n place line ≡ Err e)
    → joined front (script_from n place (lines_of rest)) ≡ all
    → OnFalse (wants_memory e) (all ≡ Err e)
stops_reading front n place errors.NoMemory rest line following all cut h inv = tt
stops_reading front n place (errors.Refused refusal) rest line following all cut h inv = stops front n place (errors.Refused refusal) rest line following all cut h inv

-- the end without `now`
pub ends_early : (front : Script) (n : ℕ) (place : Place) (rest : List ℕ) (all : Result Script ScriptError) (e : ScriptError) → rest ≡ [] → place ≡ places.Start
    → e ≡ errors.Refused (record { line = n; word = words.End })
    → joined front (script_from n place (lines_of rest)) ≡ all → OnFalse (wants_memory e) (all ≡ Err e)
ends_early front n place rest all e none begins is inv =
    subst (λ (e : ScriptError). OnFalse (wants_memory e) (all ≡ Err e)) (sym is) (ends front n place rest all none inv ∙ ap (λ (p : Place). joined front (at_end n p)) begins)

-- the end after `now`
pub ends_late : (front : Script) (n : ℕ) (place : Place) → ((seconds : ℕ) × (place ≡ places.Head seconds)) ⊎ (((seconds : ℕ) × (place ≡ places.Turn seconds)) ⊎ ((seconds : ℕ) × (place ≡ places.Body seconds))) → joined front (at_end n place) ≡ Ok front
ends_late front n place seen = elim seen [
  | inl h ↦ ap (λ (p : Place). joined front (at_end n p)) h.1 ∙ whole front
  | inr (inl h) ↦ ap (λ (p : Place). joined front (at_end n p)) h.1 ∙ whole front
  | inr (inr h) ↦ ap (λ (p : Place). joined front (at_end n p)) h.1 ∙ whole front
]

-- a line that says something, by what is kept after it
pub goes_on_with : (front added : Script) (n : ℕ) (place next : Place) (said : Line) (rest line following : List ℕ) (all : Result Script ScriptError)
    → lines_of rest ≡ line ∷ lines_of following → at_line n place line ≡ Ok said → added ≡ plus front place said → next ≡ after place said
    → joined front (script_from n place (lines_of rest)) ≡ all
    → joined added (script_from (n + 1) next (lines_of following)) ≡ all
goes_on_with front added n place next said rest line following all cut e is_added is_next inv =
    (λ i. joined (is_added i) (script_from (n + 1) (is_next i) (lines_of following))) ∙ goes_on front n place said rest line following all cut e inv
