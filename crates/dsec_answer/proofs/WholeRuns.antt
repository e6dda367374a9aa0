-- From empty caches a message can be judged to its end by each table of replies, and the questions of that run are the table's.
use Rattle.std.proofs.Common.{◌≡◌, ℕ, zero, suc, ◌≤◌, List, [], ◌∷◌, ◌++◌, Some, None, Result, Ok, inl, inr, refl, sym, ap, ◌∙◌, subst, arith}
use Rattle.std.specs.List.{flat_map}
use Rattle.dsec_nodes.specs.World.{World, Replies}
use Rattle.dsec_nodes.specs.Nodes.{Node, Kept}
use Rattle.dsec_nodes.specs.Machine.{Question as Asked, Walking, Input, begin, node, stored, reply}
use Rattle.dsec_nodes.specs.InStep.{AskedOf}
use Rattle.dsec_nodes.specs.Outcomes.{Outcome}
use Rattle.dsec_nodes.specs.Alone.{Refusal}
use Rattle.dsec_course.specs.Course.{Waiting, to_begin, to_end, for_walk, for_nothing, asked_by, Course, CourseStep, get_node, put_node, ask_for, end_with, CourseAnswers, Awaits, asked_in}
use Rattle.dsec_course.specs.Advancing.{begun}
use Rattle.dsec_course.specs.Ending.{steps_left}
use Rattle.dsec_course.specs.Hearing.{Run, first_run, ran_on, GivenFrom, AreHeard, after_heard, HoldsRun}
use Rattle.dsec_nodes.proofs.Each.{all_both}
use Rattle.dsec_course.proofs.BeginningLaws.{begun_sound, begun_waits}
use Rattle.dsec_course.proofs.EndingLaws.{course_nearer}
use Rattle.dsec_course.proofs.RunLaws.{run_begins, run_goes_on, run_got, run_put, run_asked}
use Rattle.dsec_course.proofs.StepLaws.{asked_grows}

-- no node is held
abbrev pub NoNode : Node → Type 0
NoNode n = ⊥

-- a run that is heard to its end, with the replies of a table
pub record IsWhole (w : World) (replies : Replies) (r : Run) : Type 0 where
  pub inputs : List Input
  pub heard : AreHeard w NoNode r inputs
  pub end : Result Outcome Refusal
  pub ends : (after_heard w r inputs).step ≡ end_with end
  pub asked : AskedOf replies (asked_in (after_heard w r inputs).course)

module _ (w : World) (most : ℕ) (message : List ℕ) (replies : Replies) where
  kept : (n : Node) → NoNode n → Kept w.accepts n
  kept n x = absurd x

  -- by one input more
  one_more : (r : Run) (i : Input) → CourseAnswers r.course.waits i → GivenFrom NoNode r.puts i → IsWhole w replies (ran_on w r i) → IsWhole w replies r
  one_more r i a f h = record { inputs = i ∷ h.inputs; heard = (a, f, h.heard); end = h.end; ends = h.ends; asked = h.asked }

  -- by its step, where it can be heard to its end after each input
  by_step : (r : Run) → HoldsRun w most message NoNode r → AskedOf replies (asked_in r.course)
      → ((i : Input) → CourseAnswers r.course.waits i → GivenFrom NoNode r.puts i → AskedOf replies (asked_in (ran_on w r i).course) → IsWhole w replies r)
      → IsWhole w replies r
  by_step r h asked further = by r.step refl
    where
      by : (x : CourseStep) → r.step ≡ x → IsWhole w replies r
      by (end_with x) e = record { inputs = []; heard = tt; end = x; ends = e; asked = asked }
      by (get_node name) e =
          let a : CourseAnswers r.course.waits (node None) = subst (λ (x : CourseStep). Awaits x r.course.waits) e h.awaits None in
          further (node None) a tt (subst (AskedOf replies) (sym (run_got w most message NoNode r name None h e)) asked)
      by (put_node name m) e =
          let a : CourseAnswers r.course.waits stored = subst (λ (x : CourseStep). Awaits x r.course.waits) e h.awaits in
          further stored a tt (subst (AskedOf replies) (sym (run_put w most message NoNode r name m h e)) asked)
      by (ask_for name rtype) e =
          let octets = replies name rtype in
          let a = subst (λ (x : CourseStep). Awaits x r.course.waits) e h.awaits octets in
          further (reply octets) a.0 tt
          (subst (AskedOf replies) (sym (run_asked w most message NoNode r name rtype octets h e))
          (all_both (λ (q : Asked). replies q.name q.rtype ≡ q.reply) (asked_in r.course) (record { name = name; rtype = rtype; reply = octets } ∷ []) asked (refl, tt)))

  whole_in : (n : ℕ) (r : Run) → HoldsRun w most message NoNode r → AskedOf replies (asked_in r.course) → steps_left w r.course ≤ n → IsWhole w replies r
  whole_in zero r h asked few = by_step r h asked (λ i a f q. absurd (omega (arith, course_nearer w most message r.course i h.sound.0 a, few)))
  whole_in (suc m) r h asked few = by_step r h asked (λ i a f q.
      one_more r i a f (whole_in m (ran_on w r i) (run_goes_on w most message NoNode r i kept h a f) q (omega (arith, course_nearer w most message r.course i h.sound.0 a, few))))

  none_by : (waits : Waiting) → asked_by waits begin ≡ []
  none_by to_begin = refl
  none_by (to_end o) = refl
  none_by (for_walk group s) = refl
  none_by for_nothing = refl

  -- a message that begins can be judged to its end
  pub whole_run : (c : Course) → begun w.anchors most message ≡ Ok c → IsWhole w replies (first_run w c)
  whole_run c e =
      let n = begun_waits w.anchors most message c e in
      let none : asked_in (first_run w c).course ≡ [] =
      asked_grows w most message c begin (begun_sound w most message c e) n.begins
      ∙ (ap (λ (qs : List Asked). asked_in c ++ qs) (none_by c.waits) ∙ ap (λ (ss : List Walking). flat_map (λ (s : Walking). s.asked) ss ++ []) n.no_walks) in
      whole_in (steps_left w (first_run w c).course) (first_run w c) (run_begins w most message NoNode c kept e) (subst (AskedOf replies) (sym none) tt) (omega arith)

-- nodes that were held under one name were held under a wider one
pub heard_wider : (w : World) (held wider : Node → Type 0) → ((n : Node) → held n → wider n) → (inputs : List Input) (r : Run) → AreHeard w held r inputs
    → AreHeard w wider r inputs
heard_wider w held wider more [] r h = tt
heard_wider w held wider more (i ∷ inputs) r h = (h.0, given i h.1, heard_wider w held wider more inputs (ran_on w r i) h.2)
  where
    given : (x : Input) → GivenFrom held r.puts x → GivenFrom wider r.puts x
    given (node (Some n)) (inl x) = inl (more n x)
    given (node (Some n)) (inr x) = inr x
    given (node None) x = tt
    given begin x = tt
    given stored x = tt
    given (reply octets) x = tt
