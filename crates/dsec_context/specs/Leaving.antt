-- What is answered of a message, and the message that is left, by what judging it came to (RFC 2181 5, RFC 4035 5.3.3).
use Rattle.std.specs.Prelude.{◌≡◌, ◌⊎◌, ℕ, List, Option, Result, Ok, Err}
use Rattle.dsec_nodes.specs.World.{World, Replies, moment}
use Rattle.dsec_nodes.specs.Outcomes.{Outcome}
use Rattle.dsec_nodes.specs.Alone.{alone}
use Rattle.dsec_rewrite.specs.declared.error.RewriteError.{RewriteError}
use Rattle.dsec_rewrite.specs.declared.error.RewriteError.TheVariants as rewriting
use Rattle.dsec_cut.specs.Ended.{Both}
use Rattle.dsec_cut.specs.Cuts.{left_as, to_rewrite_alone}
use Rattle.dsec_found.specs.declared.error.Error.{Error}
use Rattle.dsec_found.specs.declared.error.Error.TheVariants as errors
use Rattle.dsec_found.specs.Errors.{answer_of}

-- why a message isn't rewritten, as it is answered (RFC 1035 4.1, 4.2.2)
abbrev pub error_by : RewriteError → Error
error_by rewriting.ParseError = errors.ParseError
error_by rewriting.PushError = errors.PushError
error_by rewriting.NoMemory = errors.NoMemory

-- an answer, and the message that is left
abbrev pub Handed : Type 0 → Type 0
Handed X = Result X Error × List ℕ

-- what is handed on by what a rewriting comes to: the answer of judging, with the message that is made; or why none is, in its place, and the
-- message as it came
abbrev pub by_rewriting : {X : Type 0} → List ℕ → Result X Error → Result (List ℕ) RewriteError → Handed X
by_rewriting message answer (Ok left) = (answer, left)
by_rewriting message answer (Err e) = (Err (error_by e), message)

-- what is handed on at the moment t by the answer of judging, and by the judged groups by which the message is rewritten, if it is to be
-- (RFC 4035 5.3.3)
abbrev pub handed_on : {X : Type 0} → ℕ → List ℕ → Result X Error → Option Both → Handed X
handed_on t message answer groups = by_rewriting message answer (left_as t message groups)

-- what is handed on of a message by a table of replies, where so many bare CNAME records are followed, and so many aliases: what each way of asking
-- comes to (RFC 4033 5, RFC 4035 5)
abbrev pub handed_alone : World → ℕ → Replies → List ℕ → Handed Outcome
handed_alone w most replies message =
    handed_on (moment w) message (answer_of (alone w most replies message)) (to_rewrite_alone w most replies message)

-- this is handed on; or there was no memory, and the message is as it came
abbrev pub IsHanded : {X : Type 0} → List ℕ → Handed X → Result X Error → List ℕ → Type 0
IsHanded message handed answer left =
    ((answer ≡ handed.0) × (left ≡ handed.1)) ⊎ ((answer ≡ Err errors.NoMemory) × (left ≡ message))
