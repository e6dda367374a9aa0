-- What a group's check says, by what trying its pairs came to.
use Rattle.std.proofs.Common.{◌≡◌, ℕ, ◌+◌, ◌<◌, ◌≤◌, ◌==◌, nat_lt, arith, refl, Bool, true, false, cond, List, None, Some, sym, ap, subst, ◌∙◌}
use Rattle.std.proofs.lemmas.Bool.{eqb-true, eqb-false, ltb-true, ltb-false}
use Rattle.std.specs.Prelude.{filter, slice_get, Result, Ok, Err, IfOk}
use Rattle.dsec_spec.specs.Accepts.{Accepts}
use Rattle.dsec_spec.specs.Groups.{Group, set_in}
use Rattle.dsec_spec.specs.Names.{Place}
use Rattle.dsec_spec.specs.Records.{Record, Key, rrsig_of}
use Rattle.dsec_spec.specs.Trying.{nothing, all_bad, too_many_bad, checked, pairs, pair_matches, pair_signs}
use Rattle.dsec_group.specs.Checks.{IsCheck, cause_of, encloser_by}
use Rattle.dsec_group.specs.Trials.{AreTries, TriedSpends, comes_to, left, pair_trial}
use Rattle.dsec_group.specs.declared.check.KeyCheck.{KeyCheck}
use Rattle.dsec_group.specs.declared.state.ValidationState.TheVariants.{Bogus, Secure}
use Rattle.dsec_group.specs.declared.tries.Tries.{Tries}
use Rattle.dsec_group.proofs.TrialLaws.{trial_comes}

-- a number that isn't at or past another is below it
below : (m n : ℕ) → (n ≤ m → ⊥) → m < n
below m n h = go (nat_lt m n) refl where
  go : (b : Bool) → nat_lt m n ≡ b → m < n
  go true e = ltb-true m n e
  go false e = absurd (h (ltb-false m n e))

module _ (accepts : Accepts) (g : Group) (zone : Place) (keys : List Key) (room t : ℕ) (some : 0 < room) where
  checked_is : checked accepts g zone keys room t ≡ comes_to room (pair_trial accepts g zone t room g.signatures keys)
  checked_is = trial_comes (pair_signs accepts (set_in g) zone t) room (filter (pair_matches zone) (pairs g.signatures keys)) some

  -- no pair is good
  bad_check : (b c : Bool) (check : KeyCheck) → check.state ≡ Bogus → check.cause ≡ cause_of {P = Record × Key} (cond b nothing (cond c too_many_bad all_bad))
      → check.closest_encloser ≡ None → check.signature ≡ None → check.key ≡ None → IsCheck g keys check (cond b nothing (cond c too_many_bad all_bad))
  bad_check true c check state cause encloser signature key = record { state = state; cause = cause; closest_encloser = encloser; indexes = (signature, key) }
  bad_check false true check state cause encloser signature key = record { state = state; cause = cause; closest_encloser = encloser; indexes = (signature, key) }
  bad_check false false check state cause encloser signature key = record { state = state; cause = cause; closest_encloser = encloser; indexes = (signature, key) }

  pub refused_check : (more : ℕ) (check : KeyCheck) → pair_trial accepts g zone t room g.signatures keys ≡ left more
      → check.state ≡ Bogus → check.cause ≡ cause_of {P = Record × Key} (comes_to room (left more)) → check.closest_encloser ≡ None → check.signature ≡ None → check.key ≡ None
      → IsCheck g keys check (checked accepts g zone keys room t)
  refused_check more check is state cause encloser signature key =
      subst (IsCheck g keys check) (sym (checked_is ∙ ap (comes_to room) is)) (bad_check (more == room) (more == 0) check state cause encloser signature key)

  -- the pair at these indexes is good
  pub secured_check : {E : Type 0} (m n : ℕ) (result : Result KeyCheck E) → AreTries g.signatures keys (Tries.Good m n) (pair_trial accepts g zone t room g.signatures keys)
      → IfOk result (λ check. check.state ≡ Secure) → IfOk result (λ check. check.cause ≡ None) → IfOk result (λ check. check.signature ≡ Some m) → IfOk result (λ check. check.key ≡ Some n)
      → IfOk result (λ check. (one : Record) → slice_get g.signatures m ≡ Some one → check.closest_encloser ≡ encloser_by g.owner (rrsig_of one.rdata))
      → IfOk result (λ check. IsCheck g keys check (checked accepts g zone keys room t))
  secured_check m n (Ok check) (r, k, r_there, k_there, is) state cause signature key encloser =
      subst (IsCheck g keys check) (sym (checked_is ∙ ap (comes_to room) is)) (record {
        state = state;
        cause = cause;
        closest_encloser = encloser r r_there;
        indexes = (m, n, signature, key, r_there, k_there);
      })
  secured_check m n (Err e) tries state cause signature key encloser = tt

  -- the steps that were taken, where no pair is good
  refused_steps : (before now more : ℕ) → before ≤ now → now + more ≡ before + room → TriedSpends {P = Record × Key} before now room (comes_to room (left more))
  refused_steps before now more later spent = go (more == room) refl (more == 0) refl where
    go : (b : Bool) → (more == room) ≡ b → (c : Bool) → (more == 0) ≡ c → TriedSpends {P = Record × Key} before now room (cond b nothing (cond c too_many_bad all_bad))
    go true e c f = let all = eqb-true more room e in omega (arith, spent, all)
    go false e true f = let none = eqb-true more 0 f in omega (arith, spent, none)
    go false e false f = (
      below before now (λ past. eqb-false more room e (omega (arith, spent, later, past))),
      below now (before + room) (λ past. eqb-false more 0 f (omega (arith, spent, past))),
    )

  pub refused_spends : (before now more : ℕ) → pair_trial accepts g zone t room g.signatures keys ≡ left more → before ≤ now → now + more ≡ before + room
      → TriedSpends before now room (checked accepts g zone keys room t)
  refused_spends before now more is later spent = subst (TriedSpends before now room) (sym (checked_is ∙ ap (comes_to room) is)) (refused_steps before now more later spent)

  pub secured_spends : (before now m n : ℕ) → AreTries g.signatures keys (Tries.Good m n) (pair_trial accepts g zone t room g.signatures keys) → before < now
      → TriedSpends before now room (checked accepts g zone keys room t)
  secured_spends before now m n (r, k, r_there, k_there, is) spent = subst (TriedSpends before now room) (sym (checked_is ∙ ap (comes_to room) is)) spent
