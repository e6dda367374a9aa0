-- Where judging ends by a path of aliases; and what a path means that isn't Secure.
use Rattle.std.proofs.Common.{◌≡◌, ℕ, List, [], ◌∷◌, ◌++◌, map, Option, Some, None, refl, sym, ap, ◌∙◌, subst, inl, inr}
use Rattle.std.specs.Prelude.{◌≢◌, Contains, filter_map, slice_get}
use Rattle.std.specs.List.{AllByRecursion}
use Rattle.dsec_spec.specs.Names.{Labels, Place, place, IsAtOrBelow}
use Rattle.dsec_spec.specs.Numbers.{CNAME}
use Rattle.dsec_spec.specs.Messages.{Question}
use Rattle.dsec_spec.specs.Groups.{Group}
use Rattle.dsec_spec.proofs.Members.{first_in}
use Rattle.dsec_absence.specs.Answers.{Source}
use Rattle.dsec_nsec3.specs.Conclusions.{Conclusion, proved, hash_proved, left_open, unproved, closer_denied}
use Rattle.dsec_nsec3.proofs.ConclusionLaws.{Concludes}
use Rattle.dsec_alias.specs.States.{State, secure, insecure}
use Rattle.dsec_alias.specs.Candidates.{Candidate, opened}
use Rattle.dsec_alias.specs.Following.{AliasStep}
use Rattle.dsec_alias.specs.Paths.{IsNextAlias, IsPath}
use Rattle.dsec_alias.specs.SecurePaths.{Weakens, by_set, by_opening}
use Rattle.dsec_alias.proofs.SecureLaws.{weak_path}
use Rattle.dsec_nodes.specs.World.{World, limits_of}
use Rattle.dsec_nodes.specs.Judging.{Finding, is_shown, has_no_set, is_insecure, is_bogus, is_indeterminate, Judged}
use Rattle.dsec_nodes.specs.Outcomes.{Used, by_groups, Outcome}
use Rattle.dsec_nodes.specs.ByDenial.{used_at}
use Rattle.dsec_nodes.specs.Aliases.{state_in, expansion_in, candidate_of, Beside, as_denied, reply_to, reached, used_beside, aliases_on, denials_on}
use Rattle.dsec_nodes.specs.Aliases as aliases
use Rattle.dsec_nodes.specs.SoundFindings.{Justifies, IsFound, IsSure, IsShownFrom}
use Rattle.dsec_nodes.specs.SoundOutcomes.{IsRead, EndsThere, IsJustified}
use Rattle.dsec_nodes.proofs.Lists.{all_at}
use Rattle.dsec_nodes.proofs.DisproofLaws.{source, opened_is}
use Rattle.dsec_nodes.proofs.WayLists.{in_filter_map, in_flat_map}
use Rattle.dsec_nodes.proofs.AliasWays as ways

-- what each state means, of an outcome in that state
abbrev pub Means : World → ℕ → List ℕ → Outcome → Type 0
Means w most message o = IsJustified w most message o o.state

module _ (w : World) (most : ℕ) (message : List ℕ) (asked : Question) (js beside : List Judged)
    (read : IsRead w.anchors message most asked (map (λ (j : Judged). j.group) js) (map (λ (j : Judged). j.group) beside))
    (founds : AllByRecursion (IsFound w) js) (other_founds : AllByRecursion (IsFound w) beside) (sure : AllByRecursion (λ (j : Judged). IsSure j.finding) js)
    (path : List (AliasStep Beside)) (maybe : State) (final : Labels) (is_path : IsPath (reply_to w asked js beside) most asked.name path maybe final) where
  abbrev authorities : List Group
  authorities = map (λ (j : Judged). j.group) beside

  -- judging ends where the path does
  abbrev pub ends_there : EndsThere w most message
  ends_there = record {
    asked = asked;
    answers = map (λ (j : Judged). j.group) js;
    authorities = authorities;
    read = read;
    final = final;
    question = reached asked final;
    question_is = refl;
    aliases = aliases_on js path;
    beside = denials_on beside path;
    way = ways.way_is w asked js beside is_path;
    few = ways.few_is w asked js beside is_path;
    from_above = ways.above_is w asked js beside is_path;
    no_alias = ways.final_is w asked js beside is_path;
  }

  module _ (others : List Judged) (used : List Used) where
    -- an outcome after the path, which tells no cause
    abbrev after_it : State → Outcome
    after_it state = record { state = state; cause = None; why = by_groups (aliases_on js path ++ others) (denials_on beside path ++ used) }

    -- by an alias whose set isn't Secure
    weak_set : (step : AliasStep Beside) (name : Labels) (c : Candidate) (target : Labels) → Contains path step
        → IsNextAlias (reply_to w asked js beside) name step.group c target → c.state ≡ maybe → maybe ≢ secure → IsJustified w most message (after_it maybe) maybe
    weak_set step name c target there n is other = by a.judged.finding refl (ap (λ (x : Candidate). x.state) a.is ∙ is)
      where
        a : ways.IsJudgedAlias w asked js beside name step.group c target
        a = ways.judged_alias w asked js beside name step.group c target n

        on_way : Contains (aliases_on js path) a.judged
        on_way = in_filter_map (λ (s : AliasStep Beside). slice_get js s.group) path step a.judged there a.stands

        found : (f : Finding) → a.judged.finding ≡ f → Justifies w a.judged f
        found f e = subst (Justifies w a.judged) e (all_at (IsFound w) js step.group a.judged founds a.stands)

        by : (f : Finding) → a.judged.finding ≡ f → state_in f ≡ maybe → IsJustified w most message (after_it maybe) maybe
        by (is_shown links last signature) e s = absurd (other (sym s))
        by has_no_set e s = absurd (let none : a.leads.only ∷ [] ≡ [] = sym a.leads.alone ∙ found has_no_set e in cc)
        by (is_insecure cause signed) e s =
            subst (λ (x : State). IsJustified w most message (after_it x) x) s (inr (inr (inr (inr (inl (record {
              end = ends_there;
              alias = a.judged;
              on_way = on_way;
              its_cause = cause;
              signed = signed;
              found = e;
              shown = found (is_insecure cause signed) e;
              no_cause = refl;
              others = others;
              used = used;
              why = refl;
            }))))))
        by (is_bogus cause links) e s = absurd (subst IsSure e (all_at (λ (j : Judged). IsSure j.finding) js step.group a.judged sure a.stands))
        by is_indeterminate e s =
            subst (λ (x : State). IsJustified w most message (after_it x) x) s (inr (record {
              end = ends_there;
              alias = a.judged;
              on_way = on_way;
              no_island = found is_indeterminate e;
              no_cause = refl;
              others = others;
              used = used;
              why = refl;
            }))

    -- by an expansion whose name is left open
    weak_opening : (step : AliasStep Beside) (name : Labels) (c : Candidate) (target encloser : Labels) (d : Beside) → Contains path step
        → IsNextAlias (reply_to w asked js beside) name step.group c target → step.denial ≡ Some d → c.group.rtype ≡ CNAME → c.encloser ≡ Some encloser
        → (reply_to w asked js beside).denying name c encloser ≡ opened d → maybe ≡ insecure → IsJustified w most message (after_it maybe) maybe
    weak_opening step name c target encloser d there n is_d is some e state_is =
        by (closer_denied (limits_of w.bounds) (its_source a.judged.signer) (place name) (place encloser)) so.1
        (subst (λ (x : Candidate). (reply_to w asked js beside).denying name x encloser ≡ opened d) (sym a.is) e)
      where
        a : ways.IsJudgedAlias w asked js beside name step.group c target
        a = ways.judged_alias w asked js beside name step.group c target n

        its_source : Place → Source
        its_source = source w authorities beside refl other_founds (reached asked name)

        at_name : place a.judged.group.owner ≡ place name
        at_name = ways.stands_there w asked js beside name a.judged.group target (ap (λ (x : Candidate). x.group.rtype) a.is ∙ is) a.leads

        from : IsShownFrom w a.judged (place encloser)
        from = ways.shown_expanded w asked js beside a.judged (all_at (IsFound w) js step.group a.judged founds a.stands) encloser
            (ap (λ (x : Candidate). x.encloser) a.is ∙ some)

        so : IsAtOrBelow (place name) a.judged.signer
            × Concludes (limits_of w.bounds) (its_source a.judged.signer) (place name) asked.rtype
            (closer_denied (limits_of w.bounds) (its_source a.judged.signer) (place name) (place encloser))
        so = ways.closer_so w asked js beside founds other_founds name a.judged encloser at_name from

        by : (x : Conclusion) → Concludes (limits_of w.bounds) (its_source a.judged.signer) (place name) asked.rtype x → as_denied x ≡ opened d
            → IsJustified w most message (after_it maybe) maybe
        by (proved x) p f = absurd cc
        by (hash_proved x) p f = absurd cc
        by (unproved cause) p f = absurd cc
        by (left_open cause o) p f =
            let same : aliases.by_opening o ≡ d = cc in
            let u = opened_is w authorities beside refl other_founds (reached asked name) a.judged.signer cause o so.0 p in
            let step_is : filter_map (used_at beside) (used_beside step.denial) ≡ u.its ∷ [] =
            ap (λ (y : Option Beside). filter_map (used_at beside) (used_beside y)) is_d
            ∙ (ap (λ (y : Beside). filter_map (used_at beside) (used_beside (Some y))) (sym same) ∙ u.found) in
            subst (λ (s : State). IsJustified w most message (after_it s) s) (sym state_is) (inr (inr (inr (inr (inr (record {
              end = ends_there;
              alias = a.judged;
              on_way = in_filter_map (λ (s : AliasStep Beside). slice_get js s.group) path step a.judged there a.stands;
              encloser = place encloser;
              expanded = from;
              one = u.its;
              kept = in_flat_map (λ (s : AliasStep Beside). filter_map (used_at beside) (used_beside s.denial)) path step u.its there
                  (subst (λ (us : List Used). Contains us u.its) (sym step_is) (first_in u.its []));
              name = name;
              at_name = at_name;
              left_open = record {
                within = u.left_open.within;
                stands = u.left_open.stands;
                opens = (u.left_open.opens.0, tt);
                itself = u.left_open.itself;
              };
              no_cause = refl;
              others = others;
              used = used;
              why = refl;
            }))))))

    -- after a path that isn't Secure the outcome has its state, which is justified
    pub weak_is : maybe ≢ secure → IsJustified w most message (after_it maybe) maybe
    weak_is other =
        let it = weak_path (reply_to w asked js beside) is_path other in
        by it.0 it.1 it.2
      where
        by : (step : AliasStep Beside) → Contains path step → Weakens (reply_to w asked js beside) maybe step → IsJustified w most message (after_it maybe) maybe
        by _ there (by_set {name = name} {target = target} {i = i} {c = c} {denial = denial} n is) =
            weak_set (record { group = i; denial = denial }) name c target there n is other
        by _ there (by_opening {name = name} {target = target} {encloser = encloser} {i = i} {c = c} {d = d} n is some e state_is) =
            weak_opening (record { group = i; denial = Some d }) name c target encloser d there n refl is some e state_is
