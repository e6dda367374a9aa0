-- What a message is judged to be by a table of replies: a plain recursion (RFC 4033 5, RFC 4035 4.3, 5).
use Rattle.std.specs.Prelude.{ℕ, ◌==◌, ◌&&◌, List, [], ◌∷◌, ◌++◌, position, slice_get, Bool, Option, Some, None, Result, Ok, Err, if◌then◌else◌}
use Rattle.std.proofs.Math.Bool.{not}
use Rattle.dsec_spec.specs.Reading.{◌>>=◌}
use Rattle.dsec_spec.specs.Names.{Place, place, same_place}
use Rattle.dsec_spec.specs.Numbers.{ANY}
use Rattle.dsec_spec.specs.Records.{Record}
use Rattle.dsec_spec.specs.Messages.{Question, questions_of, answers_of, authorities_of, rcode_of}
use Rattle.dsec_spec.specs.Groups.{Group, groups_of}
use Rattle.dsec_spec.specs.Redirection.{moved}
use Rattle.dsec_alias.specs.States.{map_maybe_secure}
use Rattle.dsec_alias.specs.Following.{AliasEnd, ends_at, ends_bogus}
use Rattle.dsec_nodes.specs.World.{World, Replies}
use Rattle.dsec_nodes.specs.Causes.{TooManyUnsignedCnames}
use Rattle.dsec_nodes.specs.Judging.{Finding, Judged, AllJudged, all, one_bogus, judged_all}
use Rattle.dsec_nodes.specs.Outcomes.{State, Used, Why, by_groups, by_cause, by_links, by_nothing, Outcome, bogus_by, unproved_outcome, by_finding}
use Rattle.dsec_nodes.specs.Aliases.{Beside, alias_path, aliases_on, denials_on, reached}
use Rattle.dsec_nodes.specs.ByDenial.{encloser_of, by_encloser, no_error_in, by_denial}

-- why a message isn't judged: it can't be read (RFC 1035 4.1), or it hasn't one question
pub data Refusal : Type 0 where
  unreadable : Refusal
  not_one_question : Refusal

-- the outcome by what was found of the answer's set (RFC 4033 5, RFC 4035 5.3.4)
abbrev pub by_answer : World → Question → Place → List Judged → Judged → Finding → Outcome
by_answer w question name authorities j f =
    by_finding (λ signature. by_encloser w question name authorities j (encloser_of j.group signature)) f

-- whether a group is at this name and of the question's class and type (RFC 1034 3.7.1)
abbrev pub is_answer : Place → Question → Judged → Bool
is_answer name question j = same_place (place j.group.owner) name && (j.group.class == question.class) && (j.group.rtype == question.rtype)

-- the outcome by the group at an index (RFC 4033 5)
abbrev pub at_answer : World → Question → Place → List Judged → Option Judged → Outcome
at_answer w question name authorities None = unproved_outcome
at_answer w question name authorities (Some j) = by_answer w question name authorities j j.finding

-- the outcome by the first group that answers, or by a denial where there is none (RFC 4035 5.4)
abbrev pub by_answers : World → List ℕ → Question → Place → List Judged → List Judged → Option ℕ → Outcome
by_answers w message question name answers authorities None = by_denial w message question name authorities
by_answers w message question name answers authorities (Some index) = at_answer w question name authorities (slice_get answers index)

-- the outcome at a name: by an answer where there was no error and one type is asked for, or else by a denial (RFC 4035 5)
abbrev pub at_name : World → List ℕ → Question → Place → List Judged → List Judged → Outcome
at_name w message question name answers authorities =
    if no_error_in (rcode_of message) && not (question.rtype == ANY)
    then by_answers w message question name answers authorities (position (is_answer name question) answers)
    else by_denial w message question name authorities

-- why, with the groups of the aliases before it, and those beside them (RFC 1034 3.6.2)
abbrev pub why_after : List Judged → List Used → Why → Why
why_after aliases beside (by_groups js used) = by_groups (aliases ++ js) (beside ++ used)
why_after aliases beside (by_cause signed) = by_cause signed
why_after aliases beside (by_links links) = by_links links
why_after aliases beside by_nothing = by_nothing

-- an outcome, after aliases of this state, which tells no cause (RFC 1034 3.6.2)
abbrev pub after_path : State → List Judged → List Used → Outcome → Outcome
after_path maybe aliases beside o = record { state = map_maybe_secure o.state maybe; cause = o.cause; why = why_after aliases beside o.why }

-- the outcome where the path of names ends (RFC 1034 3.6.2)
abbrev pub at_end : World → List ℕ → Question → List Judged → List Judged → AliasEnd Beside → Outcome
at_end w message question answers authorities (ends_bogus name cause) = bogus_by cause by_nothing
at_end w message question answers authorities (ends_at name maybe path) =
    after_path maybe (aliases_on answers path) (denials_on authorities path)
    (at_name w message (reached question name) (place name) answers authorities)

-- the outcome where no group was bogus, and so many aliases are followed: there has to be one question (RFC 1035 4.1.2)
abbrev pub on_questions : World → ℕ → List ℕ → List Question → List Judged → List Judged → Result Outcome Refusal
on_questions w most message (question ∷ []) answers authorities =
    Ok (at_end w message question answers authorities (alias_path w most question answers authorities))
on_questions w most message _ answers authorities = Err not_one_question

-- the outcome by what judging the answer section's groups came to, and then the authority section's (RFC 4033 5)
abbrev pub on_judged : World → ℕ → List ℕ → List Question → AllJudged → AllJudged → Result Outcome Refusal
on_judged w most message questions (one_bogus cause links) authorities = Ok (bogus_by cause (by_links links))
on_judged w most message questions (all answers) (one_bogus cause links) = Ok (bogus_by cause (by_links links))
on_judged w most message questions (all answers) (all authorities) = on_questions w most message questions answers authorities

-- the outcome by the groups of both sections, those of CNAME records made for a DNAME record moved to it; too many of them are bogus
-- (RFC 6672 3.1)
abbrev pub on_groups : World → ℕ → Replies → List ℕ → List Question → Option (List Group) → List Group → Result Outcome Refusal
on_groups w most replies message questions None authorities = Ok (bogus_by TooManyUnsignedCnames by_nothing)
on_groups w most replies message questions (Some answers) authorities =
    on_judged w most message questions (judged_all w replies answers) (judged_all w replies authorities)

-- the questions and the records of the answer and authority sections, where all records to the latter's end can be read (RFC 1035 4.1)
abbrev pub sections_of : List ℕ → Option (List Question × List Record × List Record)
sections_of message = do
  authorities ← authorities_of message
  answers ← answers_of message
  questions ← questions_of message
  Some (questions.0, answers.0, authorities.0)

-- the outcome by the sections, where they can be read; of bare CNAME records so many are followed, and so many aliases (RFC 6672 3.1)
abbrev pub on_sections : World → ℕ → Replies → List ℕ → Option (List Question × List Record × List Record) → Result Outcome Refusal
on_sections w most replies message None = Err unreadable
on_sections w most replies message (Some s) = on_groups w most replies message s.0 (moved w.anchors most (groups_of s.1)) (groups_of s.2)

-- the outcome of a message by a table of replies, where so many bare CNAME records are followed, and so many aliases: what each way of asking
-- comes to (RFC 4033 5, RFC 4035 5)
abbrev pub alone : World → ℕ → Replies → List ℕ → Result Outcome Refusal
alone w most replies message = on_sections w most replies message (sections_of message)
