-- A path of aliases through judged groups is a way of names, by Secure aliases where its state is Secure.
use Rattle.std.proofs.Common.{◌≡◌, ℕ, ◌≤◌, List, ◌∷◌, length, map, Option, Some, None, refl, sym, ap, ◌∙◌, subst, arith, inl, inr}
use Rattle.std.specs.Prelude.{◌⊎◌, Contains, filter_map, slice_get}
use Rattle.std.specs.List.{AllByRecursion}
use Rattle.dsec_spec.specs.Names.{Labels, Place, place, IsAtOrBelow, IsStrictlyBelow}
use Rattle.dsec_spec.specs.Numbers.{CNAME, DNAME}
use Rattle.dsec_spec.specs.Messages.{Question}
use Rattle.dsec_spec.specs.Groups.{Group}
use Rattle.dsec_spec.proofs.Members.{from_map, in_map}
use Rattle.dsec_absence.specs.Answers.{Source}
use Rattle.dsec_nsec3.specs.Conclusions.{Conclusion, proved, hash_proved, left_open, unproved, closer_denied}
use Rattle.dsec_nsec3.proofs.ConclusionLaws.{Concludes, closer_concludes}
use Rattle.dsec_alias.specs.States.{State, secure, insecure}
use Rattle.dsec_alias.specs.Candidates.{Candidate, denied, Reply}
use Rattle.dsec_alias.specs.Following.{AliasStep}
use Rattle.dsec_alias.specs.Paths.{LeadsOnTo, IsNextAlias, IsFinal, IsOfChild, LeadsTo, by_cname, by_denied, by_opened, by_dname, IsPath}
use Rattle.dsec_alias.specs.Paths as paths
use Rattle.dsec_alias.specs.SecurePaths.{IsSecureStep, IsSecurePath}
use Rattle.dsec_alias.specs.SecurePaths as secure_paths
use Rattle.dsec_nodes.specs.World.{World, limits_of}
use Rattle.dsec_nodes.specs.Judging.{Finding, is_shown, has_no_set, is_insecure, is_bogus, is_indeterminate, Judged}
use Rattle.dsec_nodes.specs.Outcomes.{Used}
use Rattle.dsec_nodes.specs.ByDenial.{used_at}
use Rattle.dsec_nodes.specs.Aliases.{state_in, expansion_in, candidate_of, Beside, by_nsec, by_hash, as_denied, reply_to, reached, used_beside, aliases_on, denials_on}
use Rattle.dsec_nodes.specs.SoundFindings.{IsFound, IsShownItself, IsShownFrom}
use Rattle.dsec_nodes.specs.SoundProofs.{IsOfCloser}
use Rattle.dsec_nodes.specs.SoundAliases.{IsOnto, IsAliasOnto, AreAliases, IsFromAbove, no_alias, one_alias, IsAliasByWildcard, IsSecureAlias, AreSecureAliases, no_step, one_step}
use Rattle.dsec_nodes.proofs.Lists.{all_at, from_mapped_at}
use Rattle.dsec_nodes.proofs.Signs.{mapped_at}
use Rattle.dsec_nodes.proofs.DenialLaws.{under_signer, shown_itself, shown_from, expanded_under}
use Rattle.dsec_nodes.proofs.RcodeLaws.{OfConclusion, closer_is}
use Rattle.dsec_nodes.proofs.DisproofLaws.{source, DisprovedBy, disproved_is, hash_disproved_is}
use Rattle.dsec_nodes.proofs.WayLists.{alias_first}

module _ (w : World) (asked : Question) (js beside : List Judged) where
  abbrev reply : Reply Beside
  reply = reply_to w asked js beside

  abbrev answers : List Group
  answers = map (λ (j : Judged). j.group) js

  -- the judged group that a candidate was made of
  record IsCandidateOf (i : ℕ) (c : Candidate) : Type 0 where
    judged : Judged
    stands : slice_get js i ≡ Some judged
    is : candidate_of judged ≡ c

  candidate_at : (i : ℕ) (c : Candidate) → slice_get (map candidate_of js) i ≡ Some c → IsCandidateOf i c
  candidate_at i c e = let it = from_mapped_at candidate_of js i c e in record { judged = it.0; stands = it.1; is = it.2 }

  -- the next alias of a name is a judged group, and leads on from it
  pub record IsJudgedAlias (name : Labels) (i : ℕ) (c : Candidate) (target : Labels) : Type 0 where
    pub judged : Judged
    pub stands : slice_get js i ≡ Some judged
    pub is : candidate_of judged ≡ c
    pub leads : LeadsOnTo w.anchors (reached asked name) judged.group target
    pub alias : (onto : Labels) → IsOnto judged.group target name onto → IsAliasOnto w.anchors answers (reached asked name) judged.group onto

  pub judged_alias : (name : Labels) (i : ℕ) (c : Candidate) (target : Labels) → IsNextAlias reply name i c target → IsJudgedAlias name i c target
  judged_alias name i c target n =
      let it = candidate_at i c n.stands in
      let leads : LeadsOnTo w.anchors (reached asked name) it.judged.group target =
      subst (λ (g : Group). LeadsOnTo w.anchors (reached asked name) g target) (sym (ap (λ (x : Candidate). x.group) it.is)) n.alias in
      record {
        judged = it.judged;
        stands = it.stands;
        is = it.is;
        leads = leads;
        alias = λ onto is_onto. record {
          index = i;
          stands = mapped_at (λ (x : Judged). x.group) js i it.judged it.stands;
          target = target;
          leads = leads;
          first = λ before below other there elsewhere leads_too.
              let earlier = from_mapped_at (λ (x : Judged). x.group) js before other there in
              n.first before below (candidate_of earlier.0) (mapped_at candidate_of js before earlier.0 earlier.1) elsewhere
              (subst (λ (g : Group). LeadsOnTo w.anchors (reached asked name) g elsewhere) (sym earlier.2) leads_too);
          leads_onto = is_onto;
        };
      }

  -- a CNAME alias of a name stands at it
  pub stands_there : (name : Labels) (group : Group) (target : Labels) → group.rtype ≡ CNAME → LeadsOnTo w.anchors (reached asked name) group target
      → place group.owner ≡ place name
  stands_there name group target is l = elim l.leads.2 [
    | inl at ↦ at.2
    | inr above ↦ absurd (let e : CNAME ≡ DNAME = sym is ∙ above.0 in cc)
  ]

  -- a CNAME record that leads on isn't of the zone below, where a DS set is asked for
  above_by : (name : Labels) (i : ℕ) (c : Candidate) (target : Labels) (n : IsNextAlias reply name i c target) → c.group.rtype ≡ CNAME
      → (IsOfChild reply name c → ⊥) → IsFromAbove asked (judged_alias name i c target n).judged
  above_by name i c target n is other = λ ds its known own.
      let a = judged_alias name i c target n in
      other (record {
        for_ds = ds;
        own_zone = sym (ap (λ (x : Candidate). x.signer) a.is) ∙ (own ∙ stands_there name a.judged.group target its a.leads);
        known = subst (λ (x : Candidate). (x.state ≡ secure) ⊎ (x.state ≡ insecure)) a.is known;
      })

  not_both : (t : ℕ) → t ≡ CNAME → t ≡ DNAME → ⊥
  not_both t e f = let same : CNAME ≡ DNAME = sym e ∙ f in cc

  -- a step is by a judged group, and leads onto a name
  record IsStepOnto (name : Labels) (step : AliasStep Beside) (onto : Labels) : Type 0 where
    judged : Judged
    stands : slice_get js step.group ≡ Some judged
    alias : IsAliasOnto w.anchors answers (reached asked name) judged.group onto
    above : IsFromAbove asked judged

  cname_onto : {d : Option Beside} (name : Labels) (i : ℕ) (c : Candidate) (target : Labels) → IsNextAlias reply name i c target → c.group.rtype ≡ CNAME
      → (IsOfChild reply name c → ⊥) → IsStepOnto name (record { group = i; denial = d }) target
  cname_onto name i c target n is other =
      let a = judged_alias name i c target n in
      record {
        judged = a.judged;
        stands = a.stands;
        alias = a.alias target (inl (ap (λ (x : Candidate). x.group.rtype) a.is ∙ is, refl));
        above = above_by name i c target n is other;
      }

  step_onto : {name onto : Labels} {step : AliasStep Beside} {own : State} → LeadsTo reply name step own onto → IsStepOnto name step onto
  step_onto {name = name} (by_cname {i = i} {c = c} {target = target} n is other none) = cname_onto name i c target n is other
  step_onto {name = name} (by_denied {i = i} {c = c} {target = target} n is other some e) = cname_onto name i c target n is other
  step_onto {name = name} (by_opened {i = i} {c = c} {target = target} n is other some e) = cname_onto name i c target n is other
  step_onto {name = name} (by_dname {i = i} {c = c} {target = target} {mapped = mapped} n is none replaced fits) =
      let a = judged_alias name i c target n in
      record {
        judged = a.judged;
        stands = a.stands;
        alias = a.alias mapped (inr (
          ap (λ (x : Candidate). x.group.rtype) a.is ∙ is,
          subst (λ (owner : Labels). paths.IsReplaced owner target name mapped) (sym (ap (λ (x : Candidate). x.group.owner) a.is)) replaced,
          fits,
        ));
        above = λ ds its known own. absurd (not_both a.judged.group.rtype its (ap (λ (x : Candidate). x.group.rtype) a.is ∙ is));
      }

  -- so a path is a way of names
  pub way_is : {left : ℕ} {name final : Labels} {path : List (AliasStep Beside)} {state : State} → IsPath reply left name path state final
      → AreAliases w.anchors answers asked name (map (λ (j : Judged). j.group) (aliases_on js path)) final
  way_is (paths.stays final) = no_alias
  way_is (paths.leads {name = name} {final = final} {step = step} {steps = path} first rest) =
      let s = step_onto first in
      subst (λ (aliases : List Judged). AreAliases w.anchors answers asked name (map (λ (j : Judged). j.group) aliases) final)
      (sym (alias_first js step path s.judged s.stands))
      (one_alias s.alias (way_is rest))

  -- with as many aliases as steps
  pub few_is : {left : ℕ} {name final : Labels} {path : List (AliasStep Beside)} {state : State} → IsPath reply left name path state final
      → length (aliases_on js path) ≤ left
  few_is (paths.stays final) = omega arith
  few_is (paths.leads {step = step} {steps = path} first rest) =
      let s = step_onto first in
      let few = few_is rest in
      let size = ap length (alias_first js step path s.judged s.stands) in
      omega (arith, few, size)

  -- each of them from above, where a DS set is asked for
  pub above_is : {left : ℕ} {name final : Labels} {path : List (AliasStep Beside)} {state : State} → IsPath reply left name path state final
      → AllByRecursion (IsFromAbove asked) (aliases_on js path)
  above_is (paths.stays final) = tt
  above_is (paths.leads {step = step} {steps = path} first rest) =
      let s = step_onto first in
      subst (AllByRecursion (IsFromAbove asked)) (sym (alias_first js step path s.judged s.stands)) (s.above, above_is rest)

  -- to a name from where none leads on
  pub final_is : {left : ℕ} {name final : Labels} {path : List (AliasStep Beside)} {state : State} → IsPath reply left name path state final
      → (other : Group) → Contains answers other → (target : Labels) → LeadsOnTo w.anchors (reached asked final) other target → ⊥
  final_is (paths.stays {name = name} final) other there target leads =
      let it = from_map (λ (x : Judged). x.group) js other there in
      final (candidate_of it.0) (in_map candidate_of js it.0 it.1) target (subst (λ (g : Group). LeadsOnTo w.anchors (reached asked name) g target) (sym it.2) leads)
  final_is (paths.leads first rest) other there target leads = final_is rest other there target leads

  -- a Secure candidate is shown by links: itself, or as an expansion
  shown_plain : (j : Judged) → IsFound w j → state_in j.finding ≡ secure → expansion_in j.group j.finding ≡ None → IsShownItself w j
  shown_plain j its s e = by j.finding refl s e
    where
      by : (f : Finding) → j.finding ≡ f → state_in f ≡ secure → expansion_in j.group f ≡ None → IsShownItself w j
      by (is_shown links last signature) f t none = shown_itself w j its links last signature f none
      by has_no_set f t none = absurd cc
      by (is_insecure cause signed) f t none = absurd cc
      by (is_bogus cause links) f t none = absurd cc
      by is_indeterminate f t none = absurd cc

  pub shown_expanded : (j : Judged) → IsFound w j → (encloser : Labels) → expansion_in j.group j.finding ≡ Some encloser → IsShownFrom w j (place encloser)
  shown_expanded j its encloser e = by j.finding refl e
    where
      by : (f : Finding) → j.finding ≡ f → expansion_in j.group f ≡ Some encloser → IsShownFrom w j (place encloser)
      by (is_shown links last signature) f some = shown_from w j its links last signature f encloser some
      by has_no_set f some = absurd cc
      by (is_insecure cause signed) f some = absurd cc
      by (is_bogus cause links) f some = absurd cc
      by is_indeterminate f some = absurd cc

  module _ (founds : AllByRecursion (IsFound w) js) (other_founds : AllByRecursion (IsFound w) beside) where
    abbrev authorities : List Group
    authorities = map (λ (j : Judged). j.group) beside

    -- what is concluded of a closer name than an expansion's encloser is so
    pub closer_so : (name : Labels) (j : Judged) (encloser : Labels) → place j.group.owner ≡ place name → IsShownFrom w j (place encloser)
        → IsAtOrBelow (place name) j.signer
        × Concludes (limits_of w.bounds) (source w authorities beside refl other_founds (reached asked name) j.signer) (place name) asked.rtype
        (closer_denied (limits_of w.bounds) (source w authorities beside refl other_founds (reached asked name) j.signer) (place name) (place encloser))
    closer_so name j encloser at from =
        let within = subst (λ (n : Place). IsAtOrBelow n j.signer) at (under_signer w j from.shown) in
        let under = subst (λ (n : Place). IsStrictlyBelow n (place encloser)) at (expanded_under w j (place encloser) from) in
        (within, closer_concludes (limits_of w.bounds) (source w authorities beside refl other_founds (reached asked name) j.signer) (place name) within (place encloser) under asked.rtype)

    -- a denial beside a Secure expansion is one, by groups that are shown
    denied_alias : (name : Labels) (j : Judged) (encloser : Labels) (d : Beside) → j.group.rtype ≡ CNAME → place j.group.owner ≡ place name
        → IsShownFrom w j (place encloser) → reply.denying name (candidate_of j) encloser ≡ denied d
        → IsAliasByWildcard w authorities (reached asked name) j (filter_map (used_at beside) (used_beside (Some d)))
    denied_alias name j encloser d is at from e = by (closer_denied (limits_of w.bounds) (its_source j.signer) (place name) (place encloser)) refl e
      where
        its_source : Place → Source
        its_source = source w authorities beside refl other_founds (reached asked name)

        made : (c : Conclusion) → closer_denied (limits_of w.bounds) (its_source j.signer) (place name) (place encloser) ≡ c → (us : List Used)
            → DisprovedBy w authorities beside refl other_founds (reached asked name) j.signer c us
            → IsAliasByWildcard w authorities (reached asked name) j us
        made c f us p = record {
          of_type = is;
          encloser = place encloser;
          expanded = from;
          disproof = p.disproof;
          of_closer = p.of_closer (place encloser)
              (subst (λ (x : Conclusion). OfConclusion (IsOfCloser (place encloser)) x) f (closer_is (limits_of w.bounds) (its_source j.signer) (place name) (place encloser)));
          is_denied = p.is_denied;
          uses = p.found;
        }

        so : (c : Conclusion) → closer_denied (limits_of w.bounds) (its_source j.signer) (place name) (place encloser) ≡ c
            → Concludes (limits_of w.bounds) (its_source j.signer) (place name) asked.rtype c
        so c f = subst (Concludes (limits_of w.bounds) (its_source j.signer) (place name) asked.rtype) f (closer_so name j encloser at from).1

        by : (c : Conclusion) → closer_denied (limits_of w.bounds) (its_source j.signer) (place name) (place encloser) ≡ c → as_denied c ≡ denied d
            → IsAliasByWildcard w authorities (reached asked name) j (filter_map (used_at beside) (used_beside (Some d)))
        by (proved x) f g =
            let same : by_nsec x ≡ d = cc in
            subst (λ (y : Beside). IsAliasByWildcard w authorities (reached asked name) j (filter_map (used_at beside) (used_beside (Some y)))) same
            (made (proved x) f _ (disproved_is w authorities beside refl other_founds (reached asked name) j.signer x (so (proved x) f)))
        by (hash_proved x) f g =
            let same : by_hash x ≡ d = cc in
            subst (λ (y : Beside). IsAliasByWildcard w authorities (reached asked name) j (filter_map (used_at beside) (used_beside (Some y)))) same
            (made (hash_proved x) f _ (hash_disproved_is w authorities beside refl other_founds (reached asked name) j.signer x (so (hash_proved x) f)))
        by (left_open cause o) f g = absurd cc
        by (unproved cause) f g = absurd cc

    -- a Secure step is by a Secure alias
    record IsSecureOnto (name : Labels) (step : AliasStep Beside) (onto : Labels) : Type 0 where
      judged : Judged
      stands : slice_get js step.group ≡ Some judged
      alias : IsSecureAlias w answers authorities (reached asked name) judged (filter_map (used_at beside) (used_beside step.denial)) onto

    secure_onto : (name : Labels) (step : AliasStep Beside) (onto : Labels) → IsSecureStep reply name step onto → IsSecureOnto name step onto
    secure_onto name step onto s = elim s.by [
      | inl plain ↦ record {
        judged = a.judged;
        stands = a.stands;
        alias = record {
          alias = a.alias onto (inl (rtype_is ∙ plain.of_type, plain.onto_target));
          shown = inl (record { itself = shown_plain a.judged its state_is (encloser_is ∙ plain.itself); no_denial = ap (λ (o : Option Beside). filter_map (used_at beside) (used_beside o)) plain.no_denial });
        };
      }
      | inr (inl x) ↦ record {
        judged = a.judged;
        stands = a.stands;
        alias = record {
          alias = a.alias onto (inl (rtype_is ∙ x.of_type, x.onto_target));
          shown = inr (subst (λ (o : Option Beside). IsAliasByWildcard w authorities (reached asked name) a.judged (filter_map (used_at beside) (used_beside o))) (sym x.beside)
              (denied_alias name a.judged x.encloser x.denial (rtype_is ∙ x.of_type) (stands_there name a.judged.group s.target (rtype_is ∙ x.of_type) a.leads)
              (shown_expanded a.judged its x.encloser (encloser_is ∙ x.expands))
              (subst (λ (c : Candidate). reply.denying name c x.encloser ≡ denied x.denial) (sym a.is) x.is_denied)));
        };
      }
      | inr (inr d) ↦ record {
        judged = a.judged;
        stands = a.stands;
        alias = record {
          alias = a.alias onto (inr (rtype_is ∙ d.of_type, subst (λ (owner : Labels). paths.IsReplaced owner s.target name onto) (sym owner_is) d.replaced, d.fits));
          shown = inl (record { itself = shown_plain a.judged its state_is (encloser_is ∙ d.itself); no_denial = ap (λ (o : Option Beside). filter_map (used_at beside) (used_beside o)) d.no_denial });
        };
      }
    ]
      where
        a : IsJudgedAlias name step.group s.candidate s.target
        a = judged_alias name step.group s.candidate s.target s.next

        its : IsFound w a.judged
        its = all_at (IsFound w) js step.group a.judged founds a.stands

        rtype_is : a.judged.group.rtype ≡ s.candidate.group.rtype
        rtype_is = ap (λ (x : Candidate). x.group.rtype) a.is

        owner_is : a.judged.group.owner ≡ s.candidate.group.owner
        owner_is = ap (λ (x : Candidate). x.group.owner) a.is

        encloser_is : expansion_in a.judged.group a.judged.finding ≡ s.candidate.encloser
        encloser_is = ap (λ (x : Candidate). x.encloser) a.is

        state_is : state_in a.judged.finding ≡ secure
        state_is = ap (λ (x : Candidate). x.state) a.is ∙ s.is_secure

    -- so a Secure path is a way by Secure aliases
    pub secure_way_is : {name final : Labels} {path : List (AliasStep Beside)} → IsSecurePath reply name path final
        → AreSecureAliases w answers authorities asked name (aliases_on js path) (denials_on beside path) final
    secure_way_is (secure_paths.stays final) = no_step
    secure_way_is (secure_paths.leads {name = name} {onto = onto} {final = final} {step = step} {steps = path} first rest) =
        let s = secure_onto name step onto first in
        subst (λ (aliases : List Judged). AreSecureAliases w answers authorities asked name aliases (denials_on beside (step ∷ path)) final)
        (sym (alias_first js step path s.judged s.stands))
        (one_step s.alias (secure_way_is rest))
