-- What event a line is.
use Rattle.std.specs.Prelude.{◌≡◌, ℕ, List, ◌++◌, codes, Option, Some, None}
use Rattle.dsec_word.specs.Numbers.{number_of}
use Rattle.dsec_word.specs.Words.{hex_in}
use Rattle.dsec_uses_steps.specs.declared.event.Event.{Event}
use Rattle.dsec_uses_steps.specs.declared.event.Event.TheVariants as events

-- what a reply is: octets that are written in hex, or the word for a failure
abbrev pub SaysReply : List ℕ → Option (List ℕ) → Type 0
SaysReply word (Some octets) = hex_in word ≡ Some octets
SaysReply word None = word ≡ codes "fail"

-- a line is this event: `message <hex>`, `reply <index> <hex>` or `reply <index> fail`, where an index is at most a million
abbrev pub IsEventOf : List ℕ → Event → Type 0
IsEventOf line (events.Message message) = (hex : List ℕ) × (line ≡ codes "message " ++ hex) × (hex_in hex ≡ Some message)
IsEventOf line (events.Reply index reply) =
    (number word : List ℕ) × (line ≡ codes "reply " ++ number ++ codes " " ++ word) × (number_of 1000000 number ≡ Some index) × SaysReply word reply
