-- What an alias comes to, by its type and whether it is an expansion of a wildcard.
use Rattle.std.proofs.Common.{◌≡◌, ℕ, Bool, true, false, cond, List, Option, Some, None, refl, sym, ap, ◌∙◌}
use Rattle.std.specs.Option.{is_some}
use Rattle.std.proofs.lemmas.Bool.{eq-eqb, ne_eqb}
use Rattle.dsec_cause.specs.declared.cause.Cause.{Cause}
use Rattle.dsec_cause.specs.declared.cause.Cause.TheVariants.{CnameFromApexForDs}
use Rattle.dsec_spec.specs.Names.{Labels, Place, place}
use Rattle.dsec_spec.specs.Numbers.{DNAME}
use Rattle.dsec_nsec3.specs.Counting.{HashLimits}
use Rattle.dsec_nsec3.specs.Conclusions as conclusions
use Rattle.dsec_nsec3.specs.Conclusions.{Conclusion, proved, hash_proved, left_open, closer_denied}
use Rattle.dsec_nsec3_calls.specs.declared.conclusion.Conclusion.{Conclusion as CodeConclusion}
use Rattle.dsec_nsec3_calls.specs.declared.conclusion.Conclusion.TheVariants.{Unproved}
use Rattle.dsec_nsec3_calls.specs.Answers.{conclusion_of}
use Rattle.dsec_nsec3_calls.specs.Views.{source_of}
use Rattle.dsec_nodes.specs.Judging.{Judged}
use Rattle.dsec_nodes.specs.ByDenial.{source_of as among}
use Rattle.dsec_nodes.specs.Aliases.{Beside, as_denied, denying_in}
use Rattle.dsec_alias.specs.States.{State}
use Rattle.dsec_alias.specs.Candidates.{Candidate, Denied, unproved, Reply}
use Rattle.dsec_alias.specs.Following.{fails_at, is_of_child, by_denying, cname_turn, cname_from, dname_turn, turn_to}
use Rattle.dsec_follow.specs.Turns.{told_failed, turn_told, dname_by}

dname_is : (name : Labels) (c : Candidate) (target : Labels) (o : Option Labels) → dname_turn {D = Beside} name c target o ≡ dname_by name c target (is_some o)
dname_is name c target None = refl
dname_is name c target (Some encloser) = refl

-- a conclusion that proves nothing
unproved_told : (x : Conclusion) (cause : Cause) → conclusion_of x ≡ Unproved cause → as_denied x ≡ unproved cause
unproved_told (proved d) cause e = absurd cc
unproved_told (hash_proved d) cause e = absurd cc
unproved_told (left_open why o) cause e = absurd cc
unproved_told (conclusions.unproved why) cause e = let same : why ≡ cause = cc in ap (λ (c : Cause). as_denied (conclusions.unproved c)) same

-- of an expansion whose name isn't denied
pub fails_is : (limits : HashLimits) (authorities : List Judged) (class : ℕ) (name : Labels) (c : Candidate) (encloser target signer reached : Labels) (state : State)
    (it : CodeConclusion) (cause : Cause) → place signer ≡ c.signer
    → it ≡ conclusion_of (closer_denied limits (source_of authorities class signer) (place name) (place encloser)) → it ≡ Unproved cause → reached ≡ name
    → told_failed reached cause ≡ turn_told (by_denying name state target (denying_in limits authorities class name c encloser))
fails_is limits authorities class name c encloser target signer reached state it cause signed is failed same =
    ap (λ (n : Labels). told_failed n cause) same
    ∙ ap (λ (d : Denied Beside). turn_told (by_denying name state target d))
    (sym (ap (λ (p : Place). as_denied (closer_denied limits (among authorities class p) (place name) (place encloser))) (sym signed)
    ∙ unproved_told (closer_denied limits (source_of authorities class signer) (place name) (place encloser)) cause (sym is ∙ failed)))

module _ (reply : Reply Beside) (name : Labels) (c : Candidate) (target : Labels) where
  -- of a DNAME record
  pub turn_of_dname : c.group.rtype ≡ DNAME → turn_to reply name c target ≡ dname_by name c target (is_some c.encloser)
  turn_of_dname e =
      ap (λ (b : Bool). cond b (dname_turn name c target c.encloser) (cname_from reply name c target)) (eq-eqb c.group.rtype DNAME e)
      ∙ dname_is name c target c.encloser

  -- of another
  turn_of_cname : (c.group.rtype ≡ DNAME → ⊥) → turn_to reply name c target ≡ cname_from reply name c target
  turn_of_cname other =
      ap (λ (b : Bool). cond b (dname_turn name c target c.encloser) (cname_from reply name c target)) (ne_eqb c.group.rtype DNAME other)

  by_zone : (b : Bool) → is_of_child reply name c ≡ b
      → cname_from reply name c target ≡ cond b (fails_at name CnameFromApexForDs) (cname_turn reply name c target c.encloser)
  by_zone b e = ap (λ (x : Bool). cond x (fails_at name CnameFromApexForDs) (cname_turn reply name c target c.encloser)) e

  -- of a CNAME record of the zone below, for a question for DS
  pub turn_of_child : (c.group.rtype ≡ DNAME → ⊥) → is_of_child reply name c ≡ true → turn_to reply name c target ≡ fails_at name CnameFromApexForDs
  turn_of_child other e = turn_of_cname other ∙ by_zone true e

  -- of another CNAME record
  pub turn_of_own : (c.group.rtype ≡ DNAME → ⊥) → is_of_child reply name c ≡ false → turn_to reply name c target ≡ cname_turn reply name c target c.encloser
  turn_of_own other e = turn_of_cname other ∙ by_zone false e
