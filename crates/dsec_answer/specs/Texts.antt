-- What is written for an outcome: a line of its own, and a line for each link of what shows it and of what its denials use.
use Rattle.std.specs.Prelude.{ℕ, ◌==◌, List, [], ◌∷◌, ◌++◌, drop, codes, decimal, Bool, Option, Some, None, Ok, Err, if◌then◌else◌}
use Rattle.std.specs.List.{flat_map, list_any}
use Rattle.dsec_spec.specs.Chain.{Link}
use Rattle.dsec_link.specs.LinkTexts.{link_line}
use Rattle.dsec_cause.specs.Causes.{code_of, text_of}
use Rattle.dsec_cause.specs.declared.cause.Cause.{Cause}
use Rattle.dsec_nodes.specs.Judging.{Finding, is_shown, has_no_set, is_insecure, is_bogus, is_indeterminate, Judged}
use Rattle.dsec_nodes.specs.Outcomes.{State, secure, insecure, bogus, indeterminate, Used, Why, by_groups, by_cause, by_links, by_nothing}
use Rattle.dsec_answer.specs.declared.outcome.Unjudged.{Unjudged}
use Rattle.dsec_answer.specs.declared.outcome.Unjudged.TheVariants.{ShortMessage, FormError, ParseError, PushError}
use Rattle.dsec_answer.specs.Told.{Outcome}

-- the words of the security statuses (RFC 4033 5)
abbrev pub state_text : State → List ℕ
state_text secure = codes "Secure"
state_text insecure = codes "Insecure"
state_text bogus = codes "Bogus"
state_text indeterminate = codes "Indeterminate"

-- a cause as its code and, in quotes, its text; `-` and no text where there is none (RFC 8914 4)
abbrev pub cause_text : Option Cause → List ℕ
cause_text None = codes "- \"\""
cause_text (Some cause) = decimal (code_of cause) ++ codes " \"" ++ text_of cause ++ codes "\""

-- the front of a verdict's line: the message's index and the status
unfoldable pub status_text : ℕ → State → List ℕ
status_text index state = decimal index ++ codes " " ++ state_text state ++ codes " "

-- the line of a verdict, with its cause and the number of questions
unfoldable pub verdict_line : ℕ → State → Option Cause → ℕ → List ℕ
verdict_line index state ede questions = status_text index state ++ cause_text ede ++ codes " questions=" ++ decimal questions ++ 10 ∷ []

-- the names of what a message has no verdict for
abbrev pub error_text : Unjudged → List ℕ
error_text ShortMessage = codes "ShortMessage"
error_text FormError = codes "FormError"
error_text ParseError = codes "ParseError"
error_text PushError = codes "PushError"

-- the line of a message without a verdict
unfoldable pub error_line : ℕ → Unjudged → List ℕ
error_line index why = decimal index ++ codes " error:" ++ error_text why ++ 10 ∷ []

-- the links of a judged group that is shown: those to its zone, and its own set's; any other has none (RFC 4033 2, authentication chain)
abbrev pub links_in : Finding → List Link
links_in (is_shown links last signature) = links ++ last ∷ []
links_in has_no_set = []
links_in (is_insecure cause signed) = []
links_in (is_bogus cause links) = []
links_in is_indeterminate = []

-- the lines of a judged group, the anchor's link first
abbrev pub group_lines : ℕ → Judged → List ℕ
group_lines index j = flat_map (λ link. link_line index link) (links_in j.finding)

-- the line of a group that a denial uses: that of its own link, with another first word
abbrev pub used_line : ℕ → Link → List ℕ
used_line index link = codes "used" ++ drop 4 (link_line index link)

-- the lines of such a group, where it is shown: those of the links to its zone, and its own
abbrev pub used_lines : ℕ → Finding → List ℕ
used_lines index (is_shown links last signature) = flat_map (λ link. link_line index link) links ++ used_line index last
used_lines index has_no_set = []
used_lines index (is_insecure cause signed) = []
used_lines index (is_bogus cause links) = []
used_lines index is_indeterminate = []

-- whether the group at an index is among those that are used
abbrev pub is_among : ℕ → List Used → Bool
is_among index used = list_any (λ u. u.index == index) used

-- the lines of a used group: it has none where it was used before
abbrev pub first_lines : ℕ → List Used → Used → List ℕ
first_lines index before u = if is_among u.index before then [] else used_lines index u.judged.finding

-- the lines of used groups after others, each where it is used first
unfoldable pub used_groups_lines : ℕ → List Used → List Used → List ℕ
used_groups_lines index before [] = []
used_groups_lines index before (u ∷ used) = first_lines index before u ++ used_groups_lines index (before ++ u ∷ []) used

-- the lines of judged groups, and of those that denials beside them use
abbrev pub lines_by : ℕ → Why → List ℕ
lines_by index (by_groups judged used) = flat_map (λ j. group_lines index j) judged ++ used_groups_lines index [] used
lines_by index (by_cause signed) = []
lines_by index (by_links links) = []
lines_by index by_nothing = []

-- the lines of what shows a Secure outcome; any other has none
abbrev pub why_lines : ℕ → State → Why → List ℕ
why_lines index secure why = lines_by index why
why_lines index insecure why = []
why_lines index bogus why = []
why_lines index indeterminate why = []

-- the line of an outcome, and the lines behind it
abbrev pub head_text : ℕ → Outcome → List ℕ
head_text index (Ok v) = verdict_line index v.outcome.state v.outcome.cause v.questions
head_text index (Err why) = error_line index why

abbrev pub rest_text : ℕ → Outcome → List ℕ
rest_text index (Ok v) = why_lines index v.outcome.state v.outcome.why
rest_text index (Err why) = []

-- what is written for an outcome
abbrev pub outcome_text : ℕ → Outcome → List ℕ
outcome_text index (Ok v) = verdict_line index v.outcome.state v.outcome.cause v.questions ++ why_lines index v.outcome.state v.outcome.why
outcome_text index (Err why) = error_line index why
