-- A path of aliases comes to the same after each step.
use Rattle.std.proofs.Common.{◌≡◌, ℕ, zero, suc, ◌-◌, ◌<◌, Bool, List, [], ◌∷◌, ◌++◌, map, get_or, Option, Some, None, Result, Ok, Err, refl, sym, ap, ◌∙◌, append_assoc, append-nil, arith}
use Rattle.std.specs.Prelude.{IfOk, position, slice_get}
use Rattle.std.proofs.lemmas.Option.{get_or_from_slice_get}
use Rattle.dsec_cause.specs.declared.cause.Cause.{Cause}
use Rattle.dsec_cause.specs.declared.cause.Cause.TheVariants.{TooManyAliases}
use Rattle.dsec_spec.specs.Names.{Labels}
use Rattle.dsec_name.specs.declared.error.NoMemory.{NoMemory}
use Rattle.dsec_nodes.specs.Judging.{Judged}
use Rattle.dsec_nodes.proofs.Lists.{from_mapped_at}
use Rattle.dsec_nodes.proofs.Signs.{mapped_at}
use Rattle.dsec_alias.proofs.Firsts.{from_position}
use Rattle.dsec_nodes.specs.Aliases.{candidate_of, Beside}
use Rattle.dsec_alias.specs.States.{State, secure, insecure, bogus, indeterminate, map_maybe_secure}
use Rattle.dsec_alias.specs.Candidates.{Candidate, Reply, only_target}
use Rattle.dsec_alias.specs.Following.{AliasStep, AliasEnd, ends_at, ends_bogus, Turn, goes_to, fails_at, next_alias, turn_to, after_step, by_turn, by_target, by_alias, by_next, path_from, do_cname_dname}
use Rattle.dsec_follow.specs.Ends.{StepTold, step_told, end_told}
use Rattle.dsec_follow.specs.Turns.{told_onto, told_failed, turn_told}
use Rattle.dsec_follow.specs.declared.path.Progress.{Progress}
use Rattle.dsec_follow.specs.declared.path.Progress.TheVariants.{Goes, Ends}
use Rattle.dsec_follow.specs.Ways.{WaySeen, bogus_told, end_after, way_end, ProgressIs, stepped, StepsOnto}

-- what follows on others, and those on more
joined : (found others more : State) → map_maybe_secure (map_maybe_secure found others) more ≡ map_maybe_secure found (map_maybe_secure others more)
joined secure others more = refl
joined insecure others more = refl
joined bogus others more = refl
joined indeterminate others more = refl

onto_secure : (found : State) → map_maybe_secure found secure ≡ found
onto_secure secure = refl
onto_secure insecure = refl
onto_secure bogus = refl
onto_secure indeterminate = refl

-- the end of a path without steps before it is its end
pub whole_end : (e : AliasEnd Beside) → end_after [] secure e ≡ end_told e
whole_end (ends_at final state path) =
    ap (λ (s : State). record { name = final; state = s; cause = None; steps = map step_told path }) (onto_secure state)
whole_end (ends_bogus reached cause) = refl

-- a step at the front of a path, or at the end of those before it
pub end_after_step : (steps : List StepTold) (state own : State) (step : AliasStep Beside) (e : AliasEnd Beside)
    → end_after (steps ++ step_told step ∷ []) (map_maybe_secure own state) e ≡ end_after steps state (after_step step own e)
end_after_step steps state own step (ends_at final later path) =
    ap (λ (s : State). record { name = final; state = s; cause = None; steps = (steps ++ step_told step ∷ []) ++ map step_told path }) (sym (joined later own state))
    ∙ ap (λ (l : List StepTold). record { name = final; state = map_maybe_secure (map_maybe_secure later own) state; cause = None; steps = l })
    (append_assoc steps (step_told step ∷ []) (map step_told path))
end_after_step steps state own step (ends_bogus reached cause) = refl

module _ (reply : Reply Beside) where
  -- the path after a step of so many that it may have
  abbrev rest_of : ℕ → Labels → AliasEnd Beside
  rest_of zero reached = ends_bogus reached TooManyAliases
  rest_of (suc left) reached = do_cname_dname reply left reached

  path_at : (left : ℕ) (name : Labels) → do_cname_dname reply left name ≡ path_from reply name (rest_of left)
  unfolding do_cname_dname
  path_at zero name = refl
  path_at (suc left) name = refl

  here : (way : WaySeen) → do_cname_dname reply way.left way.name ≡ ends_at way.name secure []
      → record { name = way.name; state = way.state; cause = None; steps = way.steps } ≡ way_end reply way
  here way e =
      ap (λ (l : List StepTold). record { name = way.name; state = way.state; cause = None; steps = l }) (sym (append-nil way.steps))
      ∙ ap (end_after way.steps way.state) (sym e)

  -- without an alias it ends
  pub ends_here : (way : WaySeen) → next_alias reply way.name ≡ None
      → record { name = way.name; state = way.state; cause = None; steps = way.steps } ≡ way_end reply way
  ends_here way none = here way (path_at way.left way.name ∙ ap (λ (o : Option ℕ). by_next reply way.name o (rest_of way.left)) none)

  module _ (way : WaySeen) (index : ℕ) (c : Candidate) (next : next_alias reply way.name ≡ Some index) (stands : slice_get reply.candidates index ≡ Some c) where
    at_target : (o : Option Labels) → only_target c.group.records ≡ o
        → do_cname_dname reply way.left way.name ≡ by_target reply way.name index c o (rest_of way.left)
    at_target o e =
        path_at way.left way.name
        ∙ (ap (λ (x : Option ℕ). by_next reply way.name x (rest_of way.left)) next
        ∙ (ap (λ (x : Option Candidate). by_alias reply way.name index x (rest_of way.left)) stands
        ∙ ap (λ (x : Option Labels). by_target reply way.name index c x (rest_of way.left)) e))

    -- nor does it go on by one without a target
    pub ends_without : only_target c.group.records ≡ None
        → record { name = way.name; state = way.state; cause = None; steps = way.steps } ≡ way_end reply way
    ends_without none = here way (at_target None none)

    module _ (target : Labels) (reads : only_target c.group.records ≡ Some target) where
      at_turn : (turn : Turn Beside) → turn_to reply way.name c target ≡ turn → do_cname_dname reply way.left way.name ≡ by_turn index turn (rest_of way.left)
      at_turn turn e = at_target (Some target) reads ∙ ap (λ (t : Turn Beside). by_turn index t (rest_of way.left)) e

      -- by one that fails it is Bogus
      pub fails_here : (reached : Labels) (cause : Cause) → turn_told (turn_to reply way.name c target) ≡ told_failed reached cause
          → bogus_told reached cause ≡ way_end reply way
      fails_here reached cause told = by (turn_to reply way.name c target) refl told
        where
          by : (t : Turn Beside) → turn_to reply way.name c target ≡ t → turn_told t ≡ told_failed reached cause → bogus_told reached cause ≡ way_end reply way
          by (goes_to onto own denial) e f = absurd cc
          by (fails_at r d) e f =
              let same : end_after way.steps way.state (ends_bogus r d) ≡ bogus_told reached cause = cc in
              sym same ∙ ap (end_after way.steps way.state) (sym (at_turn (fails_at r d) e))

      -- by one more than it may have, too
      pub too_many_here : (onto : Labels) (own : State) (used : List ℕ) → turn_told (turn_to reply way.name c target) ≡ told_onto onto own used
          → way.left ≡ 0 → bogus_told onto TooManyAliases ≡ way_end reply way
      too_many_here onto own used told none = by (turn_to reply way.name c target) refl told
        where
          by : (t : Turn Beside) → turn_to reply way.name c target ≡ t → turn_told t ≡ told_onto onto own used → bogus_told onto TooManyAliases ≡ way_end reply way
          by (fails_at r d) e f = absurd cc
          by (goes_to o s denial) e f =
              let same : end_after way.steps way.state (by_turn index (goes_to o s denial) (rest_of 0)) ≡ bogus_told onto TooManyAliases = cc in
              sym same
              ∙ (ap (λ (n : ℕ). end_after way.steps way.state (by_turn index (goes_to o s denial) (rest_of n))) (sym none)
              ∙ ap (end_after way.steps way.state) (sym (at_turn (goes_to o s denial) e)))

      -- by another it goes on
      pub goes_on : (onto : Labels) (own : State) (used : List ℕ) → turn_told (turn_to reply way.name c target) ≡ told_onto onto own used
          → 0 < way.left → way_end reply (stepped way index onto own used) ≡ way_end reply way
      goes_on onto own used told more = by (turn_to reply way.name c target) refl told
        where
          one_fewer : suc (way.left - 1) ≡ way.left
          one_fewer = omega (arith, more)

          by : (t : Turn Beside) → turn_to reply way.name c target ≡ t → turn_told t ≡ told_onto onto own used → way_end reply (stepped way index onto own used) ≡ way_end reply way
          by (fails_at r d) e f = absurd cc
          by (goes_to o s denial) e f =
              let step : AliasStep Beside = record { group = index; denial = denial } in
              let rest : AliasEnd Beside = do_cname_dname reply (way.left - 1) o in
              let same : way_end reply (stepped way index onto own used) ≡ end_after (way.steps ++ step_told step ∷ []) (map_maybe_secure s way.state) rest = cc in
              same
              ∙ (end_after_step way.steps way.state s step rest
              ∙ (ap (λ (n : ℕ). end_after way.steps way.state (by_turn index (goes_to o s denial) (rest_of n))) one_fewer
              ∙ ap (end_after way.steps way.state) (sym (at_turn (goes_to o s denial) e))))

      -- after a step that leads on or is one too many, what the path comes to is told
      pub goes_as_told : (onto : Labels) (own : State) (used : List ℕ) → turn_told (turn_to reply way.name c target) ≡ told_onto onto own used
          → (r : Result Progress NoMemory) → IfOk r (StepsOnto way index onto own used) → IfOk r (ProgressIs reply way)
      goes_as_told onto own used told (Ok (Goes next)) (more, is) = (
        ap (way_end reply) is ∙ goes_on onto own used told more,
        (let left : next.left ≡ way.left - 1 = ap (λ (w : WaySeen). w.left) is in omega (arith, left, more)),
      )
      goes_as_told onto own used told (Ok (Ends end)) (none, is) = is ∙ too_many_here onto own used told none
      goes_as_told onto own used told (Err e) h = h

-- the alias at the index that is found is the judged group there, as aliases see it
pub stands_at : (test : Candidate → Bool) (js : List Judged) (index : ℕ) (j : Judged) → position test (map candidate_of js) ≡ Some index → j ≡ get_or js index j
    → slice_get (map candidate_of js) index ≡ Some (candidate_of j)
stands_at test js index j e is =
    let f = from_position test (map candidate_of js) index e in
    let m = from_mapped_at candidate_of js index f.0 f.1.stands in
    mapped_at candidate_of js index j (m.1 ∙ ap (λ (x : Judged). Some x) (sym (is ∙ get_or_from_slice_get js index m.0 j m.1)))
