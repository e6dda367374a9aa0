-- Where a line stands in a script, and what it says there.
use Rattle.std.specs.Prelude.{ℕ, ◌==◌, List, [], ◌∷◌, Bool, true, false, Option, Some, None, Result, Ok, Err, if◌then◌else◌}
use Rattle.dsec_script.specs.declared.error.Word.{Word}
use Rattle.dsec_script.specs.declared.error.Word.TheVariants as words
use Rattle.dsec_script.specs.declared.error.ScriptError.{ScriptError}
use Rattle.dsec_script.specs.declared.error.ScriptError.TheVariants as errors
use Rattle.dsec_script.specs.declared.line.Keyword.{Keyword}
use Rattle.dsec_script.specs.declared.line.Keyword.TheVariants as keywords
use Rattle.dsec_script.specs.declared.line.Line.{Line}
use Rattle.dsec_script.specs.declared.line.Line.TheVariants as lines
use Rattle.dsec_script.specs.declared.place.Place.{Place}
use Rattle.dsec_script.specs.declared.place.Place.TheVariants as places
use Rattle.dsec_script.specs.Line.{keyword_of, rest_of}
use Rattle.dsec_script.specs.Text.{first_word_of}

-- want of memory, which may come at any time
abbrev pub wants_memory : ScriptError → Bool
wants_memory errors.NoMemory = true
wants_memory (errors.Refused refusal) = false

-- a line is refused, by a word
abbrev pub refused : {A : Type 0} → ℕ → Word → Result A ScriptError
refused n word = Err (errors.Refused (record { line = n; word = word }))

-- what may stand where: `now` anywhere; anchors and replies between the first `now` and a second or a message; messages after a `now`
abbrev pub fits : Keyword → Place → Bool
fits keywords.Now place = true
fits keywords.Anchor places.Start = false
fits keywords.Anchor (places.Head seconds) = true
fits keywords.Anchor (places.Turn seconds) = false
fits keywords.Anchor (places.Body seconds) = false
fits keywords.Reply places.Start = false
fits keywords.Reply (places.Head seconds) = true
fits keywords.Reply (places.Turn seconds) = false
fits keywords.Reply (places.Body seconds) = false
fits keywords.Message places.Start = false
fits keywords.Message (places.Head seconds) = true
fits keywords.Message (places.Turn seconds) = true
fits keywords.Message (places.Body seconds) = true

-- the word for a line that is outside the grammar
abbrev pub word_for : Keyword → Word
word_for keywords.Now = words.Now
word_for keywords.Anchor = words.Anchor
word_for keywords.Reply = words.Reply
word_for keywords.Message = words.Message

-- what was read, or the refusal of the line
abbrev pub or_refused : ℕ → Word → Option Line → Result Line ScriptError
or_refused n word None = refused n word
or_refused n word (Some said) = Ok said

-- a line with a keyword: first its place is judged, then the rest
abbrev pub at_keyword : ℕ → Place → Keyword → List ℕ → Result Line ScriptError
at_keyword n place keyword rest =
    if fits keyword place then or_refused n (word_for keyword) (rest_of keyword rest)
    else refused n words.Order

-- a line by what its first word makes of it
abbrev pub at_first : ℕ → Place → Option Keyword → List ℕ → Result Line ScriptError
at_first n place None rest = refused n words.Other
at_first n place (Some keyword) rest = at_keyword n place keyword rest

-- a line by its first word and what stands after it; one without a word says nothing
abbrev pub at_word : ℕ → Place → Option (List ℕ × List ℕ) → Result Line ScriptError
at_word n place None = Ok lines.Passed
at_word n place (Some found) = at_first n place (keyword_of found.0) found.1

-- whether a line's first octet is `#`
abbrev pub is_comment : List ℕ → Bool
is_comment [] = false
is_comment (octet ∷ line) = octet == 35

-- what the line of this number says, or its refusal
abbrev pub at_line : ℕ → Place → List ℕ → Result Line ScriptError
at_line n place line = if is_comment line then Ok lines.Passed else at_word n place (first_word_of line)

-- after `now`: the first one opens the head, each later one a turn
abbrev pub after_now : Place → ℕ → Place
after_now places.Start seconds = places.Head seconds
after_now (places.Head before) seconds = places.Turn seconds
after_now (places.Turn before) seconds = places.Turn seconds
after_now (places.Body before) seconds = places.Turn seconds

-- after a message
abbrev pub after_message : Place → Place
after_message places.Start = places.Start
after_message (places.Head seconds) = places.Body seconds
after_message (places.Turn seconds) = places.Body seconds
after_message (places.Body seconds) = places.Body seconds

-- the place after a line
abbrev pub after : Place → Line → Place
after place lines.Passed = place
after place (lines.Now seconds) = after_now place seconds
after place (lines.Anchors anchors) = place
after place (lines.Reply name rtype kept) = place
after place (lines.Message octets) = after_message place

-- the moment of a message at a place: that of the last `now`
abbrev pub moment : Place → ℕ
moment places.Start = 0
moment (places.Head seconds) = seconds
moment (places.Turn seconds) = seconds
moment (places.Body seconds) = seconds

-- whether a message here is the first one after a `now`
abbrev pub opens : Place → Bool
opens places.Start = false
opens (places.Head seconds) = true
opens (places.Turn seconds) = true
opens (places.Body seconds) = false
