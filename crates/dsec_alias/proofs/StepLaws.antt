-- From a name a path goes on, fails or ends: what is found is the relation, and it is one of these.
use Rattle.std.proofs.Common.{◌≡◌, ℕ, ◌<◌, ◌≤◌, ◌==◌, cond, Bool, true, false, [], ◌++◌, length, take, ◌-◌, Option, Some, None, refl, sym, ap, ◌∙◌, inl, inr}
use Rattle.dsec_cause.specs.declared.cause.Cause.{Cause}
use Rattle.dsec_cause.specs.declared.cause.Cause.TheVariants.{DnameFromWildcard, DnameTooLong, CnameFromApexForDs}
use Rattle.dsec_spec.specs.Names.{Labels, place, wire_length, IsStrictlyBelow}
use Rattle.dsec_spec.specs.Numbers.{CNAME, DNAME}
use Rattle.dsec_spec.specs.Redirection.{fitting, map_dname}
use Rattle.dsec_alias.specs.States.{State, secure, insecure, map_maybe_secure}
use Rattle.dsec_alias.specs.Candidates.{Candidate, Denied, denied, opened, unproved, Reply}
use Rattle.dsec_alias.specs.Following.{AliasStep, AliasEnd, ends_at, ends_bogus, Turn, goes_to, fails_at, next_alias, by_denying, is_of_child, cname_from, cname_turn, by_mapping, dname_turn, turn_to, after_step, by_turn, by_target, by_alias, by_next, path_from}
use Rattle.dsec_alias.specs.Paths.{IsNextAlias, IsFinal, IsReplaced, IsOfChild, LeadsTo, by_cname, by_denied, by_opened, by_dname, FailsAt, of_child, not_denied, dname_expanded, dname_too_long}
use Rattle.dsec_alias.proofs.AliasLaws.{only_told, next_is, next_told, final_is, final_told, alias_type}
use Rattle.dsec_alias.proofs.ChildLaws.{child_is, child_told, other_told, not_child}
use Rattle.dsec_alias.proofs.MappingLaws.{replaced_is, replaced_told, fitting_is, unfitting_is, fitting_told, unfitting_told}

-- what a DNAME record maps a name to, by what it is with the owner replaced
mapped_told : (owner target name mapped : Labels) → IsReplaced owner target name mapped → wire_length mapped ≤ 255 → map_dname owner target name ≡ Some mapped
mapped_told owner target name mapped r fits =
    ap fitting (sym (replaced_told owner target name mapped r)) ∙ fitting_told mapped fits

unmapped_told : (owner target name mapped : Labels) → IsReplaced owner target name mapped → 255 < wire_length mapped → map_dname owner target name ≡ None
unmapped_told owner target name mapped r long =
    ap fitting (sym (replaced_told owner target name mapped r)) ∙ unfitting_told mapped long

module _ {D : Type 0} (reply : Reply D) (name : Labels) where
  -- an alias is followed by its type
  turn_from : (c : Candidate) (target : Labels) → c.group.rtype ≡ CNAME → turn_to reply name c target ≡ cname_from reply name c target
  turn_from c target e = ap (λ (n : ℕ). cond (n == DNAME) (dname_turn name c target c.encloser) (cname_from reply name c target)) e

  turn_of_cname : (c : Candidate) (target : Labels) → c.group.rtype ≡ CNAME → (IsOfChild reply name c → ⊥)
      → turn_to reply name c target ≡ cname_turn reply name c target c.encloser
  turn_of_cname c target e other =
      turn_from c target e
      ∙ ap (λ (b : Bool). cond b (fails_at name CnameFromApexForDs) (cname_turn reply name c target c.encloser)) (other_told reply name c other)

  turn_of_child : (c : Candidate) (target : Labels) → c.group.rtype ≡ CNAME → IsOfChild reply name c
      → turn_to reply name c target ≡ fails_at name CnameFromApexForDs
  turn_of_child c target e its =
      turn_from c target e
      ∙ ap (λ (b : Bool). cond b (fails_at name CnameFromApexForDs) (cname_turn reply name c target c.encloser)) (child_told reply name c its)

  turn_of_dname : (c : Candidate) (target : Labels) → c.group.rtype ≡ DNAME → turn_to reply name c target ≡ dname_turn name c target c.encloser
  turn_of_dname c target e =
      ap (λ (n : ℕ). cond (n == DNAME) (dname_turn name c target c.encloser) (cname_from reply name c target)) e

  -- the path from a name, by its next alias
  from_next : (i : ℕ) (c : Candidate) (target : Labels) → IsNextAlias reply name i c target → (rest : Labels → AliasEnd D)
      → path_from reply name rest ≡ by_turn i (turn_to reply name c target) rest
  from_next i c target n rest =
      ap (λ (o : Option ℕ). by_next reply name o rest) (next_told reply name i c target n)
      ∙ (ap (λ (o : Option Candidate). by_alias reply name i o rest) n.stands
      ∙ ap (λ (o : Option Labels). by_target reply name i c o rest) (only_told c.group.records n.alias.only target n.alias.alone n.alias.reads))

  by_its_turn : (i : ℕ) (c : Candidate) (target : Labels) (turn : Turn D) → IsNextAlias reply name i c target → turn_to reply name c target ≡ turn
      → (rest : Labels → AliasEnd D) → path_from reply name rest ≡ by_turn i turn rest
  by_its_turn i c target turn n e rest = from_next i c target n rest ∙ ap (λ (t : Turn D). by_turn i t rest) e

  -- where a step leads on, the path is the step and the path from there
  pub leads_told : {step : AliasStep D} {own : State} {onto : Labels} → LeadsTo reply name step own onto → (rest : Labels → AliasEnd D)
      → path_from reply name rest ≡ after_step step own (rest onto)
  leads_told (by_cname {i = i} {c = c} {target = target} n is other none) rest =
      by_its_turn i c target (goes_to target c.state None) n (turn_of_cname c target is other ∙ ap (cname_turn reply name c target) none) rest
  leads_told (by_denied {i = i} {c = c} {target = target} {encloser = encloser} {d = d} n is other some e) rest =
      by_its_turn i c target (goes_to target c.state (Some d)) n
      (turn_of_cname c target is other ∙ (ap (cname_turn reply name c target) some ∙ ap (by_denying name c.state target) e)) rest
  leads_told (by_opened {i = i} {c = c} {target = target} {encloser = encloser} {d = d} n is other some e) rest =
      by_its_turn i c target (goes_to target (map_maybe_secure c.state insecure) (Some d)) n
      (turn_of_cname c target is other ∙ (ap (cname_turn reply name c target) some ∙ ap (by_denying name c.state target) e)) rest
  leads_told (by_dname {i = i} {c = c} {target = target} {mapped = mapped} n is none replaced fits) rest =
      by_its_turn i c target (goes_to mapped c.state None) n
      (turn_of_dname c target is ∙ (ap (dname_turn name c target) none ∙ ap (by_mapping c) (mapped_told c.group.owner target name mapped replaced fits))) rest

  -- where a step fails, so does the path
  pub fails_told : {reached : Labels} {cause : Cause} → FailsAt reply name reached cause → (rest : Labels → AliasEnd D)
      → path_from reply name rest ≡ ends_bogus reached cause
  fails_told (of_child {i = i} {c = c} {target = target} n is its) rest =
      by_its_turn i c target (fails_at name CnameFromApexForDs) n (turn_of_child c target is its) rest
  fails_told (not_denied {i = i} {c = c} {target = target} {encloser = encloser} {cause = cause} n is other some e) rest =
      by_its_turn i c target (fails_at name cause) n
      (turn_of_cname c target is other ∙ (ap (cname_turn reply name c target) some ∙ ap (by_denying name c.state target) e)) rest
  fails_told (dname_expanded {i = i} {c = c} {target = target} {encloser = encloser} n is some) rest =
      by_its_turn i c target (fails_at c.group.owner DnameFromWildcard) n (turn_of_dname c target is ∙ ap (dname_turn name c target) some) rest
  fails_told (dname_too_long {i = i} {c = c} {target = target} {mapped = mapped} n is none replaced long) rest =
      by_its_turn i c target (fails_at c.group.owner DnameTooLong) n
      (turn_of_dname c target is ∙ (ap (dname_turn name c target) none ∙ ap (by_mapping c) (unmapped_told c.group.owner target name mapped replaced long))) rest

  -- at a final name the path ends
  pub ends_told : IsFinal reply name → (rest : Labels → AliasEnd D) → path_from reply name rest ≡ ends_at name secure []
  ends_told final rest = ap (λ (o : Option ℕ). by_next reply name o rest) (final_told reply name final)

  -- what becomes of a path at a name
  pub data Course : Type 0 where
    ends : IsFinal reply name → Course
    goes_on : {step : AliasStep D} {own : State} {onto : Labels} → LeadsTo reply name step own onto → Course
    fails : {reached : Labels} {cause : Cause} → FailsAt reply name reached cause → Course

  -- by a CNAME record
  cname_course : (i : ℕ) (c : Candidate) (target : Labels) → IsNextAlias reply name i c target → c.group.rtype ≡ CNAME → Course
  cname_course i c target n is = by_child (is_of_child reply name c) refl
    where
      by_denial : (IsOfChild reply name c → ⊥) → (encloser : Labels) → c.encloser ≡ Some encloser → (x : Denied D)
          → reply.denying name c encloser ≡ x → Course
      by_denial other encloser e (denied d) f = goes_on (by_denied n is other e f)
      by_denial other encloser e (opened d) f = goes_on (by_opened n is other e f)
      by_denial other encloser e (unproved cause) f = fails (not_denied n is other e f)

      by : (IsOfChild reply name c → ⊥) → (o : Option Labels) → c.encloser ≡ o → Course
      by other None e = goes_on (by_cname n is other e)
      by other (Some encloser) e = by_denial other encloser e (reply.denying name c encloser) refl

      by_child : (b : Bool) → is_of_child reply name c ≡ b → Course
      by_child true e = fails (of_child n is (child_is reply name c e))
      by_child false e = by (not_child reply name c e) c.encloser refl

  -- by a DNAME record
  dname_course : (i : ℕ) (c : Candidate) (target : Labels) → IsNextAlias reply name i c target → c.group.rtype ≡ DNAME
      → IsStrictlyBelow (place name) (place c.group.owner) → Course
  dname_course i c target n is below = by c.encloser refl
    where
      onto : Labels
      onto = take (length name - length c.group.owner) name ++ target

      replaced : IsReplaced c.group.owner target name onto
      replaced = replaced_is c.group.owner target name below

      by_length : c.encloser ≡ None → (o : Option Labels) → fitting onto ≡ o → Course
      by_length e None f = fails (dname_too_long n is e replaced (unfitting_is onto f))
      by_length e (Some mapped) f = goes_on (by_dname n is e replaced (fitting_is onto mapped f).1)

      by : (o : Option Labels) → c.encloser ≡ o → Course
      by None e = by_length e (fitting onto) refl
      by (Some encloser) e = fails (dname_expanded n is e)

  -- a path ends at a name, goes on from it, or fails there
  pub course : Course
  course = by (next_alias reply name) refl
    where
      by : (o : Option ℕ) → next_alias reply name ≡ o → Course
      by None e = ends (final_is reply name e)
      by (Some i) e =
          let n = next_is reply name i e in
          elim (alias_type reply name n.0.group n.1 n.2.alias) [
            | inl is ↦ cname_course i n.0 n.1 n.2 is
            | inr it ↦ dname_course i n.0 n.1 n.2 it.0 it.1
          ]
