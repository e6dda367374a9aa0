-- How many questions a message takes, and which nodes it puts, by the call that judged it; and how many by a table alone.
use Rattle.std.proofs.Common.{◌≡◌, ◌⊎◌, ◌≤◌, ℕ, List, [], ◌++◌, length, Option, Some, None, IfOk, Result, Ok, Err, inl, inr, refl, ap, ◌∙◌, subst, append-nil}
use Rattle.std.specs.Prelude.{Contains}
use Rattle.dsec_spec.specs.Accepts.{Accepts}
use Rattle.dsec_spec.specs.Outside.{Table}
use Rattle.dsec_nodes.specs.World.{World, Replies}
use Rattle.dsec_nodes.specs.Nodes.{Node}
use Rattle.dsec_nodes.specs.Outcomes.{Outcome}
use Rattle.dsec_nodes.specs.Alone.{Refusal, alone}
use Rattle.dsec_node.specs.Caches.{Held}
use Rattle.dsec_course.specs.Course.{Course, CourseStep, asked_in, end_with}
use Rattle.dsec_course.specs.Advancing.{begun}
use Rattle.dsec_course.specs.Hearing.{put_by, first_run, after_heard}
use Rattle.dsec_spec.proofs.Members.{in_front, in_back}
use Rattle.dsec_course.proofs.BeginningLaws.{refused_alone}
use Rattle.dsec_course.proofs.RunLaws.{ends_from_nothing}
use Rattle.dsec_found.specs.declared.error.Error.{Error}
use Rattle.dsec_context.specs.Verdicts.{Verdict}
use Rattle.dsec_context.specs.Outside.{Outside, WasHeld, HoldsMore, replies_of}
use Rattle.dsec_context.specs.Judgements.{Judgement, HandsOn, IsJudging}
use Rattle.dsec_context.specs.Calls.{IsAnswer, WereHeard, most_questions}
use Rattle.dsec_context.proofs.CallLaws.{heard_few}
use Rattle.dsec_context.proofs.ServingLaws.{of_no_caches}
use Rattle.dsec_context.proofs.JudgementLaws.{groups_sound}
use Rattle.dsec_context.specs.Handling.{IsHandling}
use Rattle.dsec_context.proofs.ComingLaws.{comes, of_verdict}
use Rattle.dsec_answer.specs.Asked.{WereAsked, WerePut, HoldsAmong}
use Rattle.dsec_answer.proofs.WholeRuns.{NoNode, whole_run, heard_wider}

-- a node that was held is among those that are kept
was_among : (accepts : Accepts) (kept : List Node) (o : Option Held) (held : Held) → o ≡ Some held → HoldsAmong kept held → (n : Node) → WasHeld accepts o n
    → Contains kept n
was_among accepts kept o held e among n h = let x = subst (λ (y : Option Held). WasHeld accepts y n) e h in among x.1.0 n x.1.1

module _ (w : World) (most : ℕ) (message : List ℕ) (table : Table) (before after : Outside) (held : Held) (kept : List Node) (is : before.held ≡ Some held) (among : HoldsAmong kept held) where
  -- the questions of judging
  judged_asked : (j : Judgement) → IsJudging w most message (Some table) before after j
      → IfOk j.answer (λ v. WereAsked w most message (replies_of table) kept v.outcome v.questions)
  judged_asked j h = by j.answer refl
    where
      by : (x : Result Verdict Error) → j.answer ≡ x → IfOk x (λ v. WereAsked w most message (replies_of table) kept v.outcome v.questions)
      by (Err e) f = tt
      by (Ok v) f =
          let so = subst (λ (x : Result Verdict Error). IsAnswer w most message h.call.asked x) f h.call.so in
          let heard = subst (λ (x : Result Verdict Error). HandsOn w most message (WasHeld w.accepts before.held) before.lasting after.lasting h.call.asked h.call.puts x j.groups) f h.hands_on in
          record {
            asked = h.call.asked;
            as_many = so.0;
            replied = h.call.counted.told;
            puts = h.call.puts;
            heard = record {
              course = heard.course;
              begins = heard.begins;
              inputs = heard.inputs;
              heard = heard_wider w (WasHeld w.accepts before.held) (Contains kept) (was_among w.accepts kept before.held held is among) heard.inputs (first_run w heard.course) heard.heard;
              found = of_no_caches w heard.inputs (first_run w heard.course);
              are = heard.are;
              puts_are = ap (λ (x : CourseStep). h.call.puts ++ put_by x) heard.ends ∙ (append-nil h.call.puts ∙ heard.puts_are);
            };
            ends = heard.ends;
          }

  -- and its puts
  judged_put : (left : Held) → after.held ≡ Some left → (j : Judgement) → IsJudging w most message (Some table) before after j
      → (puts : List Node) × WerePut w most message (replies_of table) kept puts × HoldsAmong (kept ++ puts) left
  judged_put left e j h = (h.call.puts, record { asked = h.call.asked; replied = h.call.counted.told; in_turn = turn h.call.in_turn }, all)
    where
      turn : ((h.call.asked ≡ []) × (h.call.puts ≡ []) × (after.lasting ≡ before.lasting)) ⊎ WereHeard w most message (WasHeld w.accepts before.held) before.lasting after.lasting h.call.asked h.call.puts
          → (h.call.puts ≡ []) ⊎ WereHeard w most message (Contains kept) None None h.call.asked h.call.puts
      turn (inl none) = inl none.1
      turn (inr t) = inr (record {
        course = t.course;
        begins = t.begins;
        inputs = t.inputs;
        heard = heard_wider w (WasHeld w.accepts before.held) (Contains kept) (was_among w.accepts kept before.held held is among) t.inputs (first_run w t.course) t.heard;
        found = of_no_caches w t.inputs (first_run w t.course);
        are = t.are;
        puts_are = t.puts_are;
      })

      more : HoldsMore (Some held) (Some left) h.call.puts
      more = subst (λ (x : Option Held). HoldsMore x (Some left) h.call.puts) is (subst (λ (x : Option Held). HoldsMore before.held x h.call.puts) e h.call.holds_more)

      all : HoldsAmong (kept ++ h.call.puts) left
      all p n f = elim (more p n f) [
        | inl old ↦ in_front n kept h.call.puts (among p n old)
        | inr new ↦ in_back n kept h.call.puts new.0
      ]

  -- The questions of a call
  pub call_asked : (left : List ℕ) (answer : Result Verdict Error) → IsHandling w most message (Some table) before after answer left
      → IfOk answer (λ v. WereAsked w most message (replies_of table) kept v.outcome v.questions)
  call_asked left answer h =
      of_verdict (λ (v : Verdict). WereAsked w most message (replies_of table) kept v.outcome v.questions) w.anchors most message h.judgement.answer answer
      (judged_asked h.judgement h.judging)
      (comes w most _ message h.judgement.answer answer left h.judgement.groups (groups_sound w most message (Some table) before after h.judgement h.judging) h.handed)

  -- and its puts
  pub call_put : (left : List ℕ) (answer : Result Verdict Error) (now : Held) → after.held ≡ Some now → IsHandling w most message (Some table) before after answer left
      → (puts : List Node) × WerePut w most message (replies_of table) kept puts × HoldsAmong (kept ++ puts) now
  call_put left answer now e h = judged_put now e h.judgement h.judging

-- By a table alone a message with an outcome takes some number of questions, over any nodes that are kept
pub record TakesSome (w : World) (most : ℕ) (replies : Replies) (message : List ℕ) (kept : List Node) (o : Outcome) : Type 0 where
  pub number : ℕ
  pub asked : WereAsked w most message replies kept o number
  pub few : number ≤ most_questions w.anchors most message

pub alone_asked : (w : World) (most : ℕ) (replies : Replies) (message : List ℕ) (kept : List Node) (o : Outcome) → alone w most replies message ≡ Ok o
    → TakesSome w most replies message kept o
alone_asked w most replies message kept o e = by (begun w.anchors most message) refl
  where
    by : (x : Result Course Refusal) → begun w.anchors most message ≡ x → TakesSome w most replies message kept o
    by (Err r) f = absurd (two_ways (alone w most replies message) (refused_alone w most replies message r f) e)
      where
        two_ways : (x : Result Outcome Refusal) → x ≡ Err r → x ≡ Ok o → ⊥
        two_ways x y z = cc
    by (Ok c) f =
        let h = whole_run w most message replies c f in
        let asked = asked_in (after_heard w (first_run w c) h.inputs).course in
        let puts = (after_heard w (first_run w c) h.inputs).puts in
        let at_end : puts ++ put_by (after_heard w (first_run w c) h.inputs).step ≡ puts = ap (λ (x : CourseStep). puts ++ put_by x) h.ends ∙ append-nil puts in
        record {
          number = length asked;
          asked = record {
            asked = asked;
            as_many = refl;
            replied = h.asked;
            puts = puts;
            heard = record {
              course = c;
              begins = f;
              inputs = h.inputs;
              heard = heard_wider w NoNode (Contains kept) (λ n x. absurd x) h.inputs (first_run w c) h.heard;
              found = of_no_caches w h.inputs (first_run w c);
              are = refl;
              puts_are = at_end;
            };
            ends = h.ends ∙ ap (λ (x : Result Outcome Refusal). end_with x) (ends_from_nothing w most message c h.inputs h.end f h.heard h.ends replies h.asked ∙ e);
          };
          few = heard_few w most message NoNode None None asked puts (λ n x. absurd x)
              (record { course = c; begins = f; inputs = h.inputs; heard = h.heard; found = of_no_caches w h.inputs (first_run w c); are = refl; puts_are = at_end });
        }

-- none may be put
pub none_put : (w : World) (most : ℕ) (replies : Replies) (message : List ℕ) (kept : List Node) → WerePut w most message replies kept []
none_put w most replies message kept = record { asked = []; replied = tt; in_turn = inl refl }
