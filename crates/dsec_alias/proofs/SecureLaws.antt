-- A path that is found to be Secure is one, and one that isn't has a step that makes it so.
use Rattle.std.proofs.Common.{◌≡◌, ℕ, List, Some, refl, sym, ◌∙◌, subst, inl, inr, ◌⊎◌}
use Rattle.std.specs.Prelude.{◌≢◌, Contains}
use Rattle.dsec_spec.specs.Names.{Labels}
use Rattle.dsec_spec.specs.Numbers.{CNAME, DNAME}
use Rattle.dsec_spec.proofs.Members.{first_in, later_in}
use Rattle.dsec_alias.specs.States.{State, secure, insecure, bogus, indeterminate, map_maybe_secure}
use Rattle.dsec_alias.specs.Candidates.{Reply}
use Rattle.dsec_alias.specs.Following.{AliasStep, ends_at, do_cname_dname}
use Rattle.dsec_alias.specs.Paths.{LeadsTo, by_cname, by_denied, by_opened, by_dname, IsPath}
use Rattle.dsec_alias.specs.Paths as paths
use Rattle.dsec_alias.specs.SecurePaths.{IsSecureStep, IsSecurePath, stays, leads, Weakens, by_set, by_opening}
use Rattle.dsec_alias.proofs.PathLaws.{path_is}

-- what follows on others is Secure where both are
both_secure : (found maybe : State) → map_maybe_secure found maybe ≡ secure → (found ≡ secure) × (maybe ≡ secure)
both_secure secure maybe e = (refl, e)
both_secure insecure maybe e = absurd cc
both_secure bogus maybe e = absurd cc
both_secure indeterminate maybe e = absurd cc

-- and otherwise has the state of one of them
of_either : (found maybe : State) → (map_maybe_secure found maybe ≡ found) ⊎ ((found ≡ secure) × (map_maybe_secure found maybe ≡ maybe))
of_either secure maybe = inr (refl, refl)
of_either insecure maybe = inl refl
of_either bogus maybe = inl refl
of_either indeterminate maybe = inl refl

not_insecure : insecure ≡ secure → ⊥
not_insecure e = cc

not_both : (t : ℕ) → t ≡ CNAME → t ≡ DNAME → ⊥
not_both t e f = let same : CNAME ≡ DNAME = sym e ∙ f in cc

module _ {D : Type 0} (reply : Reply D) where
  -- a step whose state is Secure
  secure_step : {name onto : Labels} {step : AliasStep D} {own : State} → LeadsTo reply name step own onto → own ≡ secure
      → IsSecureStep reply name step onto
  secure_step (by_cname {i = i} {c = c} {target = target} n is other none) e = record {
    candidate = c;
    target = target;
    next = n;
    is_secure = e;
    from_above = λ its ds own. other (record { for_ds = ds; own_zone = own; known = inl e });
    by = inl (record { of_type = is; itself = none; no_denial = refl; onto_target = refl });
  }
  secure_step (by_denied {i = i} {c = c} {target = target} {encloser = encloser} {d = d} n is other some f) e = record {
    candidate = c;
    target = target;
    next = n;
    is_secure = e;
    from_above = λ its ds own. other (record { for_ds = ds; own_zone = own; known = inl e });
    by = inr (inl (record { of_type = is; encloser = encloser; expands = some; denial = d; beside = refl; is_denied = f; onto_target = refl }));
  }
  secure_step (by_opened {i = i} {c = c} n is other some f) e = absurd (not_insecure (both_secure c.state insecure e).1)
  secure_step (by_dname {i = i} {c = c} {target = target} n is none replaced fits) e = record {
    candidate = c;
    target = target;
    next = n;
    is_secure = e;
    from_above = λ its ds own. absurd (not_both c.group.rtype its is);
    by = inr (inr (record { of_type = is; itself = none; no_denial = refl; replaced = replaced; fits = fits }));
  }

  -- a path whose state is Secure is a Secure path
  pub secure_path : {left : ℕ} {name final : Labels} {path : List (AliasStep D)} {state : State} → IsPath reply left name path state final
      → state ≡ secure → IsSecurePath reply name path final
  secure_path (paths.stays final) e = stays final
  secure_path (paths.leads {left = left} {name = name} {target = target} {final = final} {step = step} {steps = path} {own = own} {later = state} first rest) e =
      let both = both_secure state own e in
      leads (secure_step first both.1) (secure_path rest both.0)

  -- so where following aliases ends Secure, each alias is Secure, and what stands beside it (RFC 4033 5, RFC 4035 5.3.4)
  pub followed_secure : (left : ℕ) (name final : Labels) (path : List (AliasStep D)) → do_cname_dname reply left name ≡ ends_at final secure path
      → IsSecurePath reply name path final
  followed_secure left name final path e = secure_path (path_is reply left name final path secure e) refl

  -- a step whose state isn't Secure weakens a path to that state
  weak_step : {name onto : Labels} {step : AliasStep D} {own : State} → LeadsTo reply name step own onto → own ≢ secure
      → Weakens reply own step
  weak_step (by_cname {i = i} {c = c} n is above none) other = by_set n refl
  weak_step (by_denied {i = i} {c = c} n is above some e) other = by_set n refl
  weak_step (by_opened {i = i} {c = c} {d = d} n is above some e) other =
      let step : AliasStep D = record { group = i; denial = Some d } in
      elim (of_either c.state insecure) [
        | inl its ↦ subst (λ (s : State). Weakens reply s step) (sym its) (by_set n refl)
        | inr its ↦ subst (λ (s : State). Weakens reply s step) (sym its.1) (by_opening n is some e refl)
      ]
  weak_step (by_dname {i = i} {c = c} n is none replaced fits) other = by_set n refl

  -- a path that isn't Secure has a step that weakens it to its state
  pub weak_path : {left : ℕ} {name final : Labels} {path : List (AliasStep D)} {state : State} → IsPath reply left name path state final
      → state ≢ secure → (step : AliasStep D) × Contains path step × Weakens reply state step
  weak_path (paths.stays final) other = absurd (other refl)
  weak_path (paths.leads {left = left} {name = name} {target = target} {final = final} {step = step} {steps = path} {own = own} {later = state} first rest) other =
      elim (of_either state own) [
        | inl its ↦ let more = weak_path rest (λ e. other (its ∙ e)) in
            (more.0, later_in step more.0 path more.1, subst (λ (s : State). Weakens reply s more.0) (sym its) more.2)
        | inr its ↦ (step, first_in step path, subst (λ (s : State). Weakens reply s step) (sym its.1) (weak_step first (λ e. other (its.1 ∙ e))))
      ]
