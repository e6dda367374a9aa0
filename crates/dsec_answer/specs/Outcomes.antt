-- What comes of the messages of a script, and what is written of them.
use Rattle.std.proofs.Math.Bool.{not}
use Rattle.std.specs.Prelude.{◌≡◌, ◌≤◌, ◌==◌, ◌||◌, ℕ, ◌+◌, nat_lt, List, [], ◌∷◌, ◌++◌, length, Option, Some, None, Result, Ok, Err, IfOk, if◌then◌else◌}
use Rattle.dsec_spec.specs.Records.{Record}
use Rattle.dsec_spec.specs.Accepts.{Accepts}
use Rattle.dsec_spec.specs.Outside.{Table}
use Rattle.dsec_nodes.specs.World.{World}
use Rattle.dsec_nodes.specs.Nodes.{Node}
use Rattle.dsec_nodes.specs.Outcomes as outcomes
use Rattle.dsec_nodes.specs.SoundOutcomes.{IsJustified}
use Rattle.dsec_plain.specs.PlainAnswers.{IsPlainAnswer}
use Rattle.dsec_node.specs.Configs.{default_settings}
use Rattle.dsec_rewrite.specs.declared.error.RewriteError.TheVariants as rewriting
use Rattle.dsec_found.specs.declared.error.Error.{Error}
use Rattle.dsec_found.specs.declared.error.Error.TheVariants as errors
use Rattle.dsec_context.specs.Outside.{replies_of}
use Rattle.dsec_context.specs.Calls.{most_questions}
use Rattle.dsec_context.specs.Setting.{world_at}
use Rattle.dsec_context.specs.Leaving.{handed_alone}
use Rattle.dsec_context.specs.Writing.{CannotBeRewritten}
use Rattle.dsec_answer.specs.declared.outcome.Unjudged.{Unjudged}
use Rattle.dsec_answer.specs.declared.outcome.Unjudged.TheVariants.{ShortMessage, FormError, ParseError, PushError}
use Rattle.dsec_answer.specs.Asked.{WereAsked, WerePut}
use Rattle.dsec_answer.specs.Told.{Outcome}
use Rattle.dsec_answer.specs.Texts.{outcome_text}
use Rattle.dsec_script.specs.declared.items.Item.{Item}
use Rattle.dsec_script.specs.declared.script.Script.{Script}

-- an answer, as it is told; of want of memory nothing is
abbrev pub told_by : Result outcomes.Outcome Error → Option (Result outcomes.Outcome Unjudged)
told_by (Ok o) = Some (Ok o)
told_by (Err errors.FormError) = Some (Err FormError)
told_by (Err errors.ParseError) = Some (Err ParseError)
told_by (Err errors.PushError) = Some (Err PushError)
told_by (Err _) = None

-- an outcome without the number of its questions
abbrev pub without_questions : Outcome → Result outcomes.Outcome Unjudged
without_questions (Ok v) = Ok v.outcome
without_questions (Err why) = Err why

-- what judging the messages of a script goes by: the default settings, at a moment
abbrev pub world_of_script : Accepts → List Record → ℕ → World
world_of_script accepts anchors seconds = world_at accepts anchors default_settings seconds

-- the outcome of a message at a moment, in seconds since 1970, but for its questions: one below 12 octets has no header (RFC 1035 4.1.1), any
-- other one is what the recursion answers by the anchors and by the table's replies, the message being rewritten where that is due (RFC 4033 5,
-- RFC 4035 5.3.3)
abbrev pub outcome_of : Accepts → List Record → Table → ℕ → List ℕ → Option (Result outcomes.Outcome Unjudged)
outcome_of accepts anchors table seconds message =
    if nat_lt (length message) 12 then Some (Err ShortMessage)
    else told_by (handed_alone (world_of_script accepts anchors seconds) default_settings.max_cname_dname (replies_of table) message).0

-- an outcome is the verdict Secure; or the message can't be rewritten, and so it is said
abbrev pub IsSecureOutcome : List Record → List ℕ → Outcome → Type 0
IsSecureOutcome anchors message (Ok v) = v.outcome.state ≡ outcomes.secure
IsSecureOutcome anchors message (Err ParseError) = CannotBeRewritten anchors default_settings.max_cname_dname message rewriting.ParseError
IsSecureOutcome anchors message (Err PushError) = CannotBeRewritten anchors default_settings.max_cname_dname message rewriting.PushError
IsSecureOutcome anchors message (Err _) = ⊥

-- What the outcome of a message is: exactly what the recursion answers, its state, its cause and why; it is justified; it is Secure where the
-- message is an ordinary reply from the zone at the anchor, if it can be rewritten; it took no more questions than a message of its groups may, and
-- just those that judging it a step at a time to its end takes over nodes among those that are kept, which lessen them, and those that it puts
-- itself; and so were these put (RFC 4033 5, RFC 4035 4.3, 4.5, 5)
pub record IsOutcome (accepts : Accepts) (anchors : List Record) (table : Table) (kept puts : List Node) (item : Item) (outcome : Outcome) : Type 0 where
  pub exact : outcome_of accepts anchors table item.seconds item.octets ≡ Some (without_questions outcome)
  pub sound : IfOk outcome (λ v. IsJustified (world_of_script accepts anchors item.seconds) default_settings.max_cname_dname item.octets v.outcome v.outcome.state)
  pub complete : IsPlainAnswer (world_of_script accepts anchors item.seconds) (replies_of table) item.octets → IsSecureOutcome anchors item.octets outcome
  pub few : IfOk outcome (λ v. v.questions ≤ most_questions anchors default_settings.max_cname_dname item.octets)
  pub asked : IfOk outcome (λ v. WereAsked (world_of_script accepts anchors item.seconds) default_settings.max_cname_dname item.octets (replies_of table) kept v.outcome v.questions)
  pub put : WerePut (world_of_script accepts anchors item.seconds) default_settings.max_cname_dname item.octets (replies_of table) kept puts

-- the nodes that are kept for a message, of those that were at the moment before: all at the same moment, none at another and behind a `now`
abbrev pub kept_for : ℕ → Item → List Node → List Node
kept_for moment item kept = if item.opens || not (item.seconds == moment) then [] else kept

-- one outcome for each message, in order, where at this moment these nodes are kept: each message is judged over those that the messages before it
-- have put since the last `now`, at one moment (RFC 4035 4.5)
abbrev pub AreOutcomes : Accepts → List Record → Table → ℕ → List Node → List Item → List Outcome → Type 0
AreOutcomes accepts anchors table moment kept [] [] = Unit {0}
AreOutcomes accepts anchors table moment kept [] (outcome ∷ outcomes) = ⊥
AreOutcomes accepts anchors table moment kept (item ∷ items) [] = ⊥
AreOutcomes accepts anchors table moment kept (item ∷ items) (outcome ∷ outcomes) =
    (puts : List Node) × IsOutcome accepts anchors table (kept_for moment item kept) puts item outcome
    × AreOutcomes accepts anchors table item.seconds (kept_for moment item kept ++ puts) items outcomes

-- the texts of outcomes, the first of which has this index
unfoldable pub texts_from : ℕ → List Outcome → List ℕ
texts_from index [] = []
texts_from index (outcome ∷ outcomes) = outcome_text index outcome ++ texts_from (index + 1) outcomes

-- the text of outcomes of these messages, before which no node is kept
pub record IsText (accepts : Accepts) (anchors : List Record) (table : Table) (items : List Item) (text : List ℕ) : Type 0 where
  pub outcomes : List Outcome
  pub each : AreOutcomes accepts anchors table 0 [] items outcomes
  pub text_is : text ≡ texts_from 0 outcomes

-- the text of the outcomes of a script's messages
abbrev pub IsAnswer : Accepts → Script → List ℕ → Type 0
IsAnswer accepts script text = IsText accepts script.anchors script.replies script.items text
