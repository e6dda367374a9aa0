-- What a line says.
use Rattle.std.specs.Prelude.{ℕ, List, [], ◌∷◌, Option, Some, None, codes, if◌then◌else◌}
use Rattle.std.specs.Option.{option_map}
use Rattle.std.specs.Result.{result_ok}
use Rattle.std.specs.Str.{bytes_eq}
use Rattle.dsec_spec.specs.Reading.{◌>>=◌}
use Rattle.dsec_spec.specs.Numbers.{IN}
use Rattle.dsec_spec.specs.Records.{Record}
use Rattle.dsec_anchors.specs.Texts.{anchors_in}
use Rattle.dsec_word.specs.Numbers.{number_of}
use Rattle.dsec_word.specs.Words.{hex_in, name_in, rtype_in}
use Rattle.dsec_script.specs.declared.line.Keyword.{Keyword}
use Rattle.dsec_script.specs.declared.line.Keyword.TheVariants as keywords
use Rattle.dsec_script.specs.declared.line.Line.{Line}
use Rattle.dsec_script.specs.declared.line.Line.TheVariants as lines
use Rattle.dsec_script.specs.Text.{after_blanks, words_of}

-- what a line's first word makes of it
abbrev pub keyword_of : List ℕ → Option Keyword
keyword_of word =
    if bytes_eq word (codes "now") then Some keywords.Now
    else if bytes_eq word (codes "anchor") then Some keywords.Anchor
    else if bytes_eq word (codes "reply") then Some keywords.Reply
    else if bytes_eq word (codes "message") then Some keywords.Message
    else None

-- after `now`: one number below 2^64, of seconds since 1970
abbrev pub seconds_in : List (List ℕ) → Option ℕ
seconds_in (word ∷ []) = number_of 18446744073709551615 word
seconds_in _ = None

-- after `anchor` and the blanks behind it: zone text by itself, with default class IN, of which all records are anchors
abbrev pub zone_in : List ℕ → Option (List Record)
zone_in rest = result_ok (anchors_in (Some IN) (after_blanks rest))

-- octets in hex, as one word or none
abbrev pub octets_in : List (List ℕ) → Option (List ℕ)
octets_in [] = Some []
octets_in (word ∷ []) = hex_in word
octets_in _ = None

-- a reply's octets, or `fail` for a question that fails
abbrev pub kept_in : List (List ℕ) → Option (Option (List ℕ))
kept_in [] = Some (Some [])
kept_in (word ∷ []) = if bytes_eq word (codes "fail") then Some None else option_map Some (hex_in word)
kept_in _ = None

-- after `reply`: a name, a type, and what is replied
abbrev pub reply_in : List (List ℕ) → Option Line
reply_in (name ∷ rtype ∷ words) = do
  n ← name_in name
  t ← rtype_in rtype
  kept ← kept_in words
  Some (lines.Reply n t kept)
reply_in _ = None

-- what stands after a keyword says, if it is within the grammar
abbrev pub rest_of : Keyword → List ℕ → Option Line
rest_of keywords.Now rest = option_map lines.Now (seconds_in (words_of rest))
rest_of keywords.Anchor rest = option_map lines.Anchors (zone_in rest)
rest_of keywords.Reply rest = reply_in (words_of rest)
rest_of keywords.Message rest = option_map lines.Message (octets_in (words_of rest))
