-- What holds of the judged groups of a message after each of the inputs that it has heard.
use Rattle.std.proofs.Common.{◌≡◌, ℕ, Bool, List, [], ◌∷◌, Ok}
use Rattle.dsec_nodes.specs.World.{World, Replies}
use Rattle.dsec_nodes.specs.Nodes.{Node, Kept}
use Rattle.dsec_nodes.specs.Machine.{Input, begin}
use Rattle.dsec_nodes.specs.Likeness.{Likeness}
use Rattle.dsec_nodes.specs.InStep.{AskedOf}
use Rattle.dsec_course.specs.Course.{Course, for_nothing, asked_in}
use Rattle.dsec_course.specs.Advancing.{begun}
use Rattle.dsec_course.specs.Hearing.{Run, first_run, ran_on, AreHeard, after_heard, IsOfTable, HoldsRun}
use Rattle.dsec_course.proofs.BeginningLaws.{begun_in_step, begun_sound, begun_waits}
use Rattle.dsec_course.proofs.RunLaws.{run_begins, run_goes_on, run_of_table}
use Rattle.dsec_course.proofs.TraceLaws.{input_kept}
use Rattle.dsec_cut.specs.Ended.{Both, whole_where, only_where, judged_alone}
use Rattle.dsec_cut.proofs.WholeLaws.{EndsJudged, step_ends_judged}
use Rattle.dsec_cut.proofs.AloneLaws.{LeadsTo, begun_leads, step_leads}
use Rattle.dsec_cut.proofs.WhereLaws.{SaysNoOfNone}

-- the judged groups of a course: at its end they are the message's and sound, and those of the recursion where it was of a table
pub record HoldsJudged (w : World) (most : ℕ) (message : List ℕ) (c : Course) : Type 0 where
  pub judged : EndsJudged w most message c
  pub leads : LeadsTo w most message c

first_judged : (w : World) (most : ℕ) (message : List ℕ) (c : Course) → begun w.anchors most message ≡ Ok c → HoldsJudged w most message (first_run w c).course
first_judged w most message c e =
    let waits = (begun_waits w.anchors most message c e).begins in
    record {
      judged = step_ends_judged w most message c begin (begun_sound w most message c e) waits tt;
      leads = step_leads w most message c begin (begun_in_step w most message c e) (begun_leads w most message c e) waits;
    }

heard_judged : (w : World) (most : ℕ) (message : List ℕ) (held : Node → Type 0) (inputs : List Input) (r : Run)
    → ((n : Node) → held n → Kept w.accepts n) → HoldsRun w most message held r → HoldsJudged w most message r.course → AreHeard w held r inputs
    → HoldsJudged w most message (after_heard w r inputs).course
heard_judged w most message held [] r kept h j a = j
heard_judged w most message held (i ∷ inputs) r kept h j a =
    heard_judged w most message held inputs (ran_on w r i) kept (run_goes_on w most message held r i kept h a.0 a.1) (record {
      judged = step_ends_judged w most message r.course i h.sound.0 a.0 (input_kept w held r.puts i kept h.traced.kept a.1);
      leads = step_leads w most message r.course i h.goes.in_step j.leads.leads a.0;
    }) a.2

-- Whatever a message has heard, at its end its judged groups are all those of the message, each of them sound
pub run_judged : (w : World) (most : ℕ) (message : List ℕ) (held : Node → Type 0) (c : Course) (inputs : List Input)
    → ((n : Node) → held n → Kept w.accepts n) → begun w.anchors most message ≡ Ok c → AreHeard w held (first_run w c) inputs
    → EndsJudged w most message (after_heard w (first_run w c) inputs).course
run_judged w most message held c inputs kept e heard =
    (heard_judged w most message held inputs (first_run w c) kept (run_begins w most message held c kept e) (first_judged w most message c e) heard).judged

-- and where all that it has heard is of a table, they are those of the recursion
pub run_judged_alone : (w : World) (most : ℕ) (message : List ℕ) (held : Node → Type 0) (c : Course) (inputs : List Input)
    → ((n : Node) → held n → Kept w.accepts n) → begun w.anchors most message ≡ Ok c → AreHeard w held (first_run w c) inputs
    → HoldsRun w most message held (after_heard w (first_run w c) inputs) → (after_heard w (first_run w c) inputs).course.waits ≡ for_nothing
    → (test : Both → Bool) → SaysNoOfNone test → (like : Likeness) (replies : Replies) → ((n : Node) → held n → IsOfTable like w replies n)
    → AskedOf replies (asked_in (after_heard w (first_run w c) inputs).course)
    → whole_where test (after_heard w (first_run w c) inputs).course ≡ only_where test (judged_alone w most replies message)
run_judged_alone w most message held c inputs kept e heard h over test says like replies of asked =
    let r = after_heard w (first_run w c) inputs in
    (heard_judged w most message held inputs (first_run w c) kept (run_begins w most message held c kept e) (first_judged w most message c e) heard).leads.ends
    over test says like replies (run_of_table like w most message held r replies h of asked)
