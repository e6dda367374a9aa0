-- What judging a message over caches and an upstream hands on: its answer, and the judged groups by which the message is rewritten (RFC 4033 5,
-- RFC 4035 4.3, 5.3.3).
use Rattle.std.specs.Prelude.{◌≡◌, ℕ, List, Option, Some, None, Result, Ok, Err}
use Rattle.dsec_spec.specs.Outside.{Table}
use Rattle.dsec_nodes.specs.World.{World, Replies, moment, on_circle}
use Rattle.dsec_nodes.specs.Nodes.{Node}
use Rattle.dsec_nodes.specs.Machine.{Question as Asked, Input}
use Rattle.dsec_nodes.specs.Outcomes.{Outcome}
use Rattle.dsec_nodes.specs.Alone.{Refusal, not_one_question}
use Rattle.dsec_found.specs.declared.error.Error.{Error}
use Rattle.dsec_found.specs.declared.error.Error.TheVariants.{FormError}
use Rattle.dsec_course.specs.Course.{Course, end_with, asked_in}
use Rattle.dsec_course.specs.Advancing.{begun}
use Rattle.dsec_course.specs.Hearing.{first_run, AreHeard, after_heard}
use Rattle.dsec_node.specs.Caches.{Lasting}
use Rattle.dsec_cut.specs.Ended.{Both}
use Rattle.dsec_cut.specs.Cuts.{to_rewrite, to_rewrite_alone}
use Rattle.dsec_core.specs.Validating.{Validating}
use Rattle.dsec_context.specs.Verdicts.{Verdict}
use Rattle.dsec_context.specs.Outside.{Outside, WasHeld}
use Rattle.dsec_context.specs.Finding.{LeadTo}
use Rattle.dsec_context.specs.Serving.{calls_in}
use Rattle.dsec_context.specs.Calls.{IsCall}

-- the answer, and the judged groups of both sections by which the message is rewritten, if it is (RFC 4035 5.3.3)
pub record Judgement : Type 0 where
  pub answer : Result Verdict Error
  pub groups : Option Both

-- the groups by which a message is rewritten that was judged so far; one that wasn't begun isn't
abbrev pub groups_of : Option Validating → Option Both
groups_of None = None
groups_of (Some it) = to_rewrite (on_circle it.moment) it.course

-- an answer, with the groups of a course
abbrev pub judgement_at : World → Course → Result Verdict Error → Judgement
judgement_at w c answer = record { answer = answer; groups = to_rewrite (moment w) c }

-- Judging came to this end by the inputs that it heard, whose nodes were held when the call began or were put on the way, and what caches that forget none
-- held then, if they found memory; its questions are these, it put these nodes, and these are the groups by which the message is rewritten (RFC 4035 4.3, 4.5, 5.3.3)
pub record IsToRewrite (w : World) (most : ℕ) (message : List ℕ) (held : Node → Type 0) (first last : Option Lasting) (asked : List Asked) (puts : List Node) (end : Result Outcome Refusal) (groups : Option Both) : Type 0 where
  pub course : Course
  pub begins : begun w.anchors most message ≡ Ok course
  pub inputs : List Input
  pub heard : AreHeard w held (first_run w course) inputs
  pub found : LeadTo first (calls_in w (first_run w course) inputs) last
  pub are : asked ≡ asked_in (after_heard w (first_run w course) inputs).course
  pub puts_are : puts ≡ (after_heard w (first_run w course) inputs).puts
  pub ends : (after_heard w (first_run w course) inputs).step ≡ end_with end
  pub groups_are : groups ≡ to_rewrite (moment w) (after_heard w (first_run w course) inputs).course

-- an outcome, and a refusal of what hasn't one question, come with the groups by which the message is rewritten; no other answer has any
abbrev pub HandsOn : World → ℕ → List ℕ → (Node → Type 0) → Option Lasting → Option Lasting → List Asked → List Node → Result Verdict Error → Option Both → Type 0
HandsOn w most message held first last asked puts (Ok v) groups = IsToRewrite w most message held first last asked puts (Ok v.outcome) groups
HandsOn w most message held first last asked puts (Err FormError) groups = IsToRewrite w most message held first last asked puts (Err not_one_question) groups
HandsOn w most message held first last asked puts (Err _) groups = groups ≡ None

-- What judging promises: its answer is that of a call, and by the questions and the nodes of this call these are the groups by which the message is rewritten
-- (RFC 4033 5, RFC 4035 4.3, 5.3.3)
pub record IsJudging (w : World) (most : ℕ) (message : List ℕ) (table : Option Table) (before after : Outside) (j : Judgement) : Type 0 where
  pub call : IsCall w most message table before after j.answer
  pub hands_on : HandsOn w most message (WasHeld w.accepts before.held) before.lasting after.lasting call.asked call.puts j.answer j.groups

-- these groups come with an outcome, and with a refusal of what hasn't one question
abbrev pub ComesWith : Option Both → Result Verdict Error → Option Both → Type 0
ComesWith told (Ok v) groups = groups ≡ told
ComesWith told (Err FormError) groups = groups ≡ told
ComesWith told (Err _) groups = groups ≡ None

-- by a table the groups by which a message is rewritten are those of the recursion (RFC 4035 5.3.3)
abbrev pub GroupsAgree : World → ℕ → Replies → List ℕ → Judgement → Type 0
GroupsAgree w most replies message j = ComesWith (to_rewrite_alone w most replies message) j.answer j.groups
