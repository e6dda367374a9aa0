-- What is told of a group by the node with which its walk ends is so.
use Rattle.std.proofs.Common.{◌≡◌, false, Option, Some, None, IfSome, refl, sym, ap, ◌∙◌, subst, inl, inr}
use Rattle.std.specs.Prelude.{IsSome, Contains}
use Rattle.std.proofs.lemmas.Option.{same_Some}
use Rattle.dsec_spec.specs.Names.{Place, place}
use Rattle.dsec_spec.specs.Accepts.{Accepts}
use Rattle.dsec_spec.specs.Records.{Record}
use Rattle.dsec_spec.specs.Groups.{Group}
use Rattle.dsec_spec.specs.JudgedGroups.{ShowsGroup}
use Rattle.dsec_spec.specs.AtQuestion.{IsIsland}
use Rattle.dsec_spec.proofs.IslandLemmas.{island_is}
use Rattle.dsec_link.specs.Shown.{ShownSet}
use Rattle.dsec_group.specs.declared.state.ValidationState.{ValidationState}
use Rattle.dsec_group.specs.declared.state.ValidationState.TheVariants.{Secure, Insecure, Bogus, Indeterminate}
use Rattle.dsec_nodes.specs.World.{World, moment}
use Rattle.dsec_nodes.specs.Causes.{Cause}
use Rattle.dsec_nodes.specs.Nodes.{Node, Standing, apex, within, insecure, bogus, IsBogus}
use Rattle.dsec_nodes.specs.Judging.{Finding, is_shown, has_no_set, is_insecure, is_bogus, is_indeterminate, found_at, by_node, target_of}
use Rattle.dsec_nodes.specs.SoundFindings.{IsShownInsecure}
use Rattle.dsec_course.specs.Justified.{Justifies}
use Rattle.dsec_found.specs.Told.{state_of, cause_of}
use Rattle.dsec_by_node.specs.Answers.{Answer, answer_by, Told, ToldBy, CanBeTold}
use Rattle.dsec_by_node.specs.WithNode.{IsShownBy}
use Rattle.dsec_by_node.proofs.GroundLaws.{shown_from}
use Rattle.dsec_single.specs.Sound.{IsSecureBy, SoundAs, IsSoundOn}
use Rattle.dsec_single.proofs.EndLaws.{IsEndOf}

-- what can be told of a group and a zone can be told of it and the same zone
rezoned : (accepts : Accepts) (group : Group) (a b : Place) (answer : Answer) (state : ValidationState) (shown : Option ShownSet) → (state ≡ Secure → a ≡ b)
    → ToldBy accepts group a answer state shown → ToldBy accepts group b answer state shown
rezoned accepts group a b answer Secure (Some s) same h =
    (subst (λ (z : Place). ShowsGroup accepts s.anchor s.links s.moment group z answer.closest_encloser answer.adjusted) (same refl) h.0, h.1)
rezoned accepts group a b answer Secure None same h = absurd h
rezoned accepts group a b answer Insecure None same h = h
rezoned accepts group a b answer Insecure (Some s) same h = absurd h
rezoned accepts group a b answer Bogus None same h = h
rezoned accepts group a b answer Bogus (Some s) same h = absurd h
rezoned accepts group a b answer Indeterminate None same h = h
rezoned accepts group a b answer Indeterminate (Some s) same h = absurd h

-- where a node's anchor is told, and the moment
abbrev IsAnchored : World → Node → Option ShownSet → Type 0
IsAnchored w n shown = IfSome shown (λ s. (n.anchor ≡ Some s.anchor) × (s.moment ≡ moment w))

module _ (w : World) (group : Group) (top : Place) (n : Node) (end : IsEndOf w group top n) where
  -- a group is Secure by a zone's node alone, which has come to the target
  secure_apex : state_of (by_node w group n).finding ≡ Secure → (IsBogus n.standing ≡ false) × (n.signer ≡ target_of group (Some top))
  secure_apex e = by n.standing refl e
    where
      by : (s : Standing) → n.standing ≡ s → state_of (found_at w group n s) ≡ Secure
          → (IsBogus n.standing ≡ false) × (n.signer ≡ target_of group (Some top))
      by (apex keys) f g = (ap IsBogus f, end.its_zone keys f)
      by (within last) f g = absurd cc
      by (insecure cause signed) f g = absurd cc
      by (bogus cause) f g = absurd cc

  module _ (told : Told) (is : told.answer ≡ answer_by group (moment w) (by_node w group n).finding) (can : CanBeTold w.accepts group n.signer told) where
    state_is : told.answer.state ≡ state_of (by_node w group n).finding
    state_is = ap (λ (a : Answer). a.state) is

    -- it can be told of the target
    pub can_tell : CanBeTold w.accepts group (target_of group (Some top)) told
    can_tell = rezoned w.accepts group n.signer (target_of group (Some top)) told.answer told.answer.state told.shown
        (λ e. (secure_apex (sym state_is ∙ e)).1) can

    -- a Secure answer is shown from an anchor at the group's island
    secure_by : IsAnchored w n told.shown → told.answer.state ≡ Secure → IsSecureBy w group (target_of group (Some top)) told
    secure_by anchored e = by told.shown refl (subst (λ (s : ValidationState). ToldBy w.accepts group (target_of group (Some top)) told.answer s told.shown) e can_tell) anchored
      where
        by : (o : Option ShownSet) → told.shown ≡ o → ToldBy w.accepts group (target_of group (Some top)) told.answer Secure o → IsAnchored w n o
            → IsSecureBy w group (target_of group (Some top)) told
        by None f h a = absurd h
        by (Some s) f h a =
            let r = end.rests (secure_apex (sym state_is ∙ e)).0 in
            let same : r.anchor ≡ s.anchor = same_Some r.anchor s.anchor (sym r.its ∙ a.0) in
            let at : top ≡ place s.anchor.owner = sym r.at ∙ ap (λ (x : Record). place x.owner) same in
            record {
              shown = s;
              its = f;
              at = a.1;
              is_listed = subst (Contains w.anchors) same r.is_listed;
              is_island = subst (IsIsland w.anchors (place group.owner) group.rtype) at (island_is w.anchors (place group.owner) group.rtype top end.from_island);
              shows = h.0;
              no_cause = h.1;
            }

    -- each answer means what it says
    pub sound_on : IsShownBy w group n told → IsSoundOn w group (target_of group (Some top)) told
    sound_on shows = by (by_node w group n).finding refl end.is_found
      where
        anchored : IsAnchored w n told.shown
        anchored = shown_from n (moment w) (by_node w group n).finding told.shown told.answer.state shows

        Sound : ValidationState → Type 0
        Sound = SoundAs w group (target_of group (Some top)) told

        cause_is : (f : Finding) → (by_node w group n).finding ≡ f → told.answer.cause ≡ cause_of f
        cause_is f e = ap (λ (a : Answer). a.cause) is ∙ ap cause_of e

        so : (f : Finding) → (by_node w group n).finding ≡ f → Sound (state_of f) → Sound told.answer.state
        so f e h = subst Sound (sym (state_is ∙ ap state_of e)) h

        by : (f : Finding) → (by_node w group n).finding ≡ f → Justifies w (by_node w group n) f → Sound told.answer.state
        by (is_shown links last signature) e h =
            so (is_shown links last signature) e (secure_by anchored (state_is ∙ ap state_of e))
        by has_no_set e h = so has_no_set e (inr (h, cause_is has_no_set e))
        by (is_insecure cause signed) e h = so (is_insecure cause signed) e (inl (signed, subst (λ (x : Option Cause). IsShownInsecure w group x signed) (sym (cause_is (is_insecure cause signed) e)) h))
        by (is_bogus cause links) e h = so (is_bogus cause links) e (subst IsSome (sym (cause_is (is_bogus cause links) e)) refl)
        by is_indeterminate e h = so is_indeterminate e (h, cause_is is_indeterminate e)
