-- What a script says, or the first line that is refused.
use Rattle.std.specs.Prelude.{ℕ, ◌+◌, nat_lt, List, [], ◌∷◌, ◌++◌, length, Result, Ok, Err, if◌then◌else◌}
use Rattle.dsec_spec.specs.Groups.{firsts}
use Rattle.dsec_spec.specs.Outside.{same_question, with_entry}
use Rattle.dsec_outside.specs.Limit.{limit, line_past}
use Rattle.dsec_script.specs.declared.error.Word.TheVariants as words
use Rattle.dsec_script.specs.declared.error.ScriptError.{ScriptError}
use Rattle.dsec_script.specs.declared.line.Line.{Line}
use Rattle.dsec_script.specs.declared.line.Line.TheVariants as lines
use Rattle.dsec_script.specs.declared.place.Place.{Place}
use Rattle.dsec_script.specs.declared.place.Place.TheVariants as places
use Rattle.dsec_script.specs.declared.script.Parts.{Parts}
use Rattle.dsec_script.specs.declared.script.Script.{Script}
use Rattle.dsec_script.specs.Place.{after, at_line, moment, opens, refused}
use Rattle.dsec_script.specs.Text.{lines_of}

-- what comes of one answer goes on; a refusal stays
infixl 10 ◌>>=◌
abbrev pub ◌>>=◌ : {A B : Type 0} → Result A ScriptError → (A → Result B ScriptError) → Result B ScriptError
(Ok x) >>= f = f x
(Err e) >>= f = Err e

-- a script that says nothing
abbrev pub nothing : Script
nothing = record { anchors = []; replies = []; items = [] }

-- a script with what a line says, at a place, before what the others say
abbrev pub with_line : Place → Line → Script → Script
with_line place lines.Passed script = script
with_line place (lines.Now seconds) script = script
with_line place (lines.Anchors anchors) script = record script { anchors = anchors ++ script.anchors }
with_line place (lines.Reply name rtype kept) script = record script { replies = record { name = name; rtype = rtype; reply = kept } ∷ script.replies }
with_line place (lines.Message octets) script = record script { items = record { seconds = moment place; opens = opens place; octets = octets } ∷ script.items }

-- the end, which a script without `now` may not have
abbrev pub at_end : ℕ → Place → Result Script ScriptError
at_end n places.Start = refused n words.End
at_end n (places.Head seconds) = Ok nothing
at_end n (places.Turn seconds) = Ok nothing
at_end n (places.Body seconds) = Ok nothing

-- what the lines from this number and this place on say
unfoldable pub script_from : ℕ → Place → List (List ℕ) → Result Script ScriptError
script_from n place [] = at_end n place
script_from n place (line ∷ lines) = do
  said ← at_line n place line
  script ← script_from (n + 1) (after place said) lines
  Ok (with_line place said script)

-- the first reply of a name and a type counts
abbrev pub first_replies : Script → Script
first_replies script = record script { replies = firsts same_question script.replies }

-- what all lines say
abbrev pub script_in : List (List ℕ) → Result Script ScriptError
script_in lines = do
  script ← script_from 1 places.Start lines
  Ok (first_replies script)

-- what a script's octets say
unfoldable pub script_of : List ℕ → Result Script ScriptError
script_of content = if nat_lt limit (length content) then refused (line_past content) words.Size else script_in (lines_of content)

-- the parts that a reader has, as a script
abbrev pub parts_view : Parts → Script
parts_view parts = record { anchors = parts.anchors.items; replies = parts.replies; items = parts.items.items }

-- a script with what a line says, at a place, after what the others say
abbrev pub plus : Script → Place → Line → Script
plus script place lines.Passed = script
plus script place (lines.Now seconds) = script
plus script place (lines.Anchors anchors) = record script { anchors = script.anchors ++ anchors }
plus script place (lines.Reply name rtype kept) = record script { replies = with_entry script.replies (record { name = name; rtype = rtype; reply = kept }) }
plus script place (lines.Message octets) = record script { items = script.items ++ record { seconds = moment place; opens = opens place; octets = octets } ∷ [] }
