-- Following aliases comes to what the path is: at its final name with its state and steps, or Bogus with its cause, and to nothing else.
use Rattle.std.proofs.Common.{◌≡◌, ℕ, zero, suc, ◌≤◌, List, length, sym, ap, ◌∙◌, subst, arith}
use Rattle.dsec_cause.specs.declared.cause.Cause.{Cause}
use Rattle.dsec_cause.specs.declared.cause.Cause.TheVariants.{TooManyAliases}
use Rattle.dsec_spec.specs.Names.{Labels}
use Rattle.dsec_alias.specs.States.{State}
use Rattle.dsec_alias.specs.Candidates.{Reply}
use Rattle.dsec_alias.specs.Following.{AliasStep, AliasEnd, ends_at, ends_bogus, after_step, path_from, do_cname_dname}
use Rattle.dsec_alias.specs.Paths.{LeadsTo, IsPath, stays, leads, IsBogusPath, fails, too_many, later}
use Rattle.dsec_alias.proofs.StepLaws as steps
use Rattle.dsec_alias.proofs.StepLaws.{leads_told, fails_told, ends_told, Course, course}

module _ {D : Type 0} (reply : Reply D) where
  -- a path is followed to its end
  pub path_told : {left : ℕ} {name final : Labels} {path : List (AliasStep D)} {state : State} → IsPath reply left name path state final
      → do_cname_dname reply left name ≡ ends_at final state path
  unfolding do_cname_dname
  path_told (stays {left = zero} {name = name} final) = ends_told reply name final (λ reached. ends_bogus reached TooManyAliases)
  path_told (stays {left = suc left} {name = name} final) = ends_told reply name final (λ reached. do_cname_dname reply left reached)
  path_told (leads {left = left} {name = name} {target = target} {final = final} {step = step} {steps = path} {own = own} {later = state} first rest) =
      leads_told reply name first (λ reached. do_cname_dname reply left reached) ∙ ap (after_step step own) (path_told rest)

  -- and a Bogus one to where it fails
  pub bogus_told : {left : ℕ} {name reached : Labels} {cause : Cause} → IsBogusPath reply left name reached cause
      → do_cname_dname reply left name ≡ ends_bogus reached cause
  unfolding do_cname_dname
  bogus_told (fails {left = zero} {name = name} f) = fails_told reply name f (λ reached. ends_bogus reached TooManyAliases)
  bogus_told (fails {left = suc left} {name = name} f) = fails_told reply name f (λ reached. do_cname_dname reply left reached)
  bogus_told (too_many {name = name} first) = leads_told reply name first (λ reached. ends_bogus reached TooManyAliases)
  bogus_told (later {left = left} {name = name} {target = target} {reached = reached} {step = step} {own = own} {cause = cause} first rest) =
      leads_told reply name first (λ reached. do_cname_dname reply left reached) ∙ ap (after_step step own) (bogus_told rest)

  -- what an end says is so of the path
  abbrev pub IsEnd : ℕ → Labels → AliasEnd D → Type 0
  IsEnd left name (ends_at final state path) = IsPath reply left name path state final
  IsEnd left name (ends_bogus reached cause) = IsBogusPath reply left name reached cause

  after_leading : (left : ℕ) (name onto : Labels) (step : AliasStep D) (own : State) → LeadsTo reply name step own onto → (end : AliasEnd D)
      → IsEnd left onto end → IsEnd (suc left) name (after_step step own end)
  after_leading left name onto step own first (ends_at final state path) rest = leads first rest
  after_leading left name onto step own first (ends_bogus reached cause) rest = later first rest

  -- it is so of what following comes to
  pub end_is : (left : ℕ) (name : Labels) → IsEnd left name (do_cname_dname reply left name)
  unfolding do_cname_dname
  end_is zero name = by (course reply name)
    where
      rest : Labels → AliasEnd D
      rest reached = ends_bogus reached TooManyAliases

      by : Course reply name → IsEnd zero name (path_from reply name rest)
      by (steps.ends final) = subst (IsEnd zero name) (sym (ends_told reply name final rest)) (stays final)
      by (steps.goes_on first) = subst (IsEnd zero name) (sym (leads_told reply name first rest)) (too_many first)
      by (steps.fails f) = subst (IsEnd zero name) (sym (fails_told reply name f rest)) (fails f)
  end_is (suc left) name = by (λ onto. end_is left onto) (course reply name)
    where
      rest : Labels → AliasEnd D
      rest reached = do_cname_dname reply left reached

      by : ((onto : Labels) → IsEnd left onto (do_cname_dname reply left onto)) → Course reply name → IsEnd (suc left) name (path_from reply name rest)
      by others (steps.ends final) = subst (IsEnd (suc left) name) (sym (ends_told reply name final rest)) (stays final)
      by others (steps.goes_on {step = step} {own = own} {onto = onto} first) =
          subst (IsEnd (suc left) name) (sym (leads_told reply name first rest))
          (after_leading left name onto step own first (do_cname_dname reply left onto) (others onto))
      by others (steps.fails f) = subst (IsEnd (suc left) name) (sym (fails_told reply name f rest)) (fails f)

  -- following comes to a final name exactly where a path leads there
  pub path_is : (left : ℕ) (name final : Labels) (path : List (AliasStep D)) (state : State) → do_cname_dname reply left name ≡ ends_at final state path
      → IsPath reply left name path state final
  path_is left name final path state e = subst (IsEnd left name) e (end_is left name)

  -- and is Bogus exactly where the path fails or is too long
  pub bogus_is : (left : ℕ) (name reached : Labels) (cause : Cause) → do_cname_dname reply left name ≡ ends_bogus reached cause
      → IsBogusPath reply left name reached cause
  bogus_is left name reached cause e = subst (IsEnd left name) e (end_is left name)

  -- a name has one path
  pub one_path : {left : ℕ} {name final other : Labels} {path others : List (AliasStep D)} {state its : State}
      → IsPath reply left name path state final → IsPath reply left name others its other
      → ends_at final state path ≡ ends_at other its others
  one_path p q = sym (path_told p) ∙ path_told q

  -- or a Bogus one, and not both
  pub not_both : {left : ℕ} {name final reached : Labels} {path : List (AliasStep D)} {state : State} {cause : Cause}
      → IsPath reply left name path state final → IsBogusPath reply left name reached cause → ⊥
  not_both p q = let e = sym (path_told p) ∙ bogus_told q in cc

  -- a path has no more steps than it may have
  pub bounded : {left : ℕ} {name final : Labels} {path : List (AliasStep D)} {state : State} → IsPath reply left name path state final
      → length path ≤ left
  bounded (stays final) = omega arith
  bounded (leads first rest) = let most = bounded rest in omega (arith, most)
