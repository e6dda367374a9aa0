-- What a call comes to in code: by its walk's end, or at once.
use Rattle.std.proofs.Common.{◌≡◌, ℕ, ◌+◌, ◌≤◌, true, [], Option, Some, None, Result, Ok, Err, IfOk, refl, sym, ap, ◌∙◌, subst, inr}
use Rattle.std.specs.Prelude.{◌≢◌}
use Rattle.dsec_spec.specs.Names.{Labels, Place, place}
use Rattle.dsec_spec.specs.Accepts.{Accepts}
use Rattle.dsec_validated.specs.Validated.{Validated}
use Rattle.dsec_spec.specs.Outside.{Table}
use Rattle.dsec_spec.specs.Groups.{Group}
use Rattle.dsec_spec.specs.Islands.{island}
use Rattle.dsec_nodes.specs.World.{World, moment}
use Rattle.dsec_nodes.specs.Nodes.{Node}
use Rattle.dsec_nodes.specs.Judging.{by_node, target_of}
use Rattle.dsec_course.specs.Course.{by_walk, at_once, way_of}
use Rattle.dsec_lookup.specs.Outside.{Outside}
use Rattle.dsec_by_node.specs.Answers.{answer_by, Told, validated_by, told_in, CanBeTold}
use Rattle.dsec_by_node.specs.WithNode.{tells_of, IsShownBy}
use Rattle.dsec_single.specs.Progress.{IsStuck, IsEnded}
use Rattle.dsec_single.specs.Calls.{answered, zone_for, of_signatures_alone, of_no_island, IsSingleCall}
use Rattle.dsec_single.specs.Checked.{IsSingleCallWithin}
use Rattle.dsec_single.specs.Sound.{IsSoundOn}
use Rattle.dsec_single.proofs.WayLaws.{no_set, no_island, way_without_set, way_without_island}
use Rattle.dsec_by_node.proofs.GroundLaws.{if_ok}
use Rattle.dsec_single.proofs.EndLaws.{IsEndOf, end_of}
use Rattle.dsec_single.proofs.CallLaws.{ended_call, ended_without, stuck_call, once_call, zone_is}
use Rattle.dsec_single.proofs.SoundLaws.{can_tell, sound_on}

-- what a call promises of what it tells
pub record IsToldSo (w : World) (group : Group) (table : Option Table) (before after : Outside) (from to : ℕ) (zone : Place) (told : Told) : Type 0 where
  pub checks : IsSingleCallWithin w group table before after (Some told) from to
  pub sound : IsSoundOn w group zone told
  pub justified : CanBeTold w.accepts group zone told

module _ (w : World) (group : Group) (table : Option Table) (before after : Outside) (top zone : Place) (way : way_of w group ≡ by_walk top)
    (its : zone ≡ target_of group (Some top)) where
  module _ (n : Node) (from reached : ℕ) (ended : IsEnded w table before after top zone n from reached) where
    to_target : IsEnded w table before after top (target_of group (Some top)) n from reached
    to_target = subst (λ (z : Place). IsEnded w table before after top z n from reached) its ended

    end : IsEndOf w group top n
    end = end_of w table before after group top n from reached way to_target

    -- the node tells something of the group
    pub end_tells : tells_of w group n ≡ true
    end_tells = end.tells

    module _ (to : ℕ) (more : to ≤ reached + w.bounds.room) where
      -- what is told by it
      pub told_at_end : (told : Told) → told.answer ≡ answer_by group (moment w) (by_node w group n).finding → CanBeTold w.accepts group n.signer told
          → IsShownBy w group n told → IsToldSo w group table before after from to zone told
      told_at_end told is can shows = record {
        checks = ended_call w group table before after top n told from reached to way to_target more is shows;
        sound = subst (λ (z : Place). IsSoundOn w group z told) (sym its) (sound_on w group top n end told is can shows);
        justified = subst (λ (z : Place). CanBeTold w.accepts group z told) (sym its) (can_tell w group top n end told is can);
      }

      -- or there is no memory for that
      pub untold_at_end : IsSingleCallWithin w group table before after None from to
      untold_at_end = ended_without w group table before after top n from reached to way to_target more

      -- what is told of it in code, or there is no memory
      module _ {A E : Type 0} (result : Result A E) (told : A → Told) (is : IfOk result (λ a. (told a).answer ≡ answer_by group (moment w) (by_node w group n).finding))
          (can : IfOk result (λ a. CanBeTold w.accepts group n.signer (told a))) (shows : IfOk result (λ a. IsShownBy w group n (told a))) where
        pub end_call : IsSingleCallWithin w group table before after (answered result (λ a. told a)) from to
        end_call = by result is can shows
          where
            by : (r : Result A E) → IfOk r (λ a. (told a).answer ≡ answer_by group (moment w) (by_node w group n).finding)
                → IfOk r (λ a. CanBeTold w.accepts group n.signer (told a)) → IfOk r (λ a. IsShownBy w group n (told a))
                → IsSingleCallWithin w group table before after (answered r (λ a. told a)) from to
            by (Ok a) f g h = (told_at_end (told a) f g h).checks
            by (Err e) f g h = untold_at_end

        pub end_sound : (zone_in : A → Place) → IfOk result (λ a. zone_in a ≡ zone) → IfOk result (λ a. IsSoundOn w group (zone_in a) (told a))
        end_sound zone_in at = by result is can shows at
          where
            by : (r : Result A E) → IfOk r (λ a. (told a).answer ≡ answer_by group (moment w) (by_node w group n).finding)
                → IfOk r (λ a. CanBeTold w.accepts group n.signer (told a)) → IfOk r (λ a. IsShownBy w group n (told a))
                → IfOk r (λ a. zone_in a ≡ zone) → IfOk r (λ a. IsSoundOn w group (zone_in a) (told a))
            by (Ok a) f g h at = subst (λ (z : Place). IsSoundOn w group z (told a)) (sym at) (told_at_end (told a) f g h).sound
            by (Err e) f g h at = tt

        pub end_justified : (zone_in : A → Place) → IfOk result (λ a. zone_in a ≡ zone) → IfOk result (λ a. CanBeTold w.accepts group (zone_in a) (told a))
        end_justified zone_in at = by result is can shows at
          where
            by : (r : Result A E) → IfOk r (λ a. (told a).answer ≡ answer_by group (moment w) (by_node w group n).finding)
                → IfOk r (λ a. CanBeTold w.accepts group n.signer (told a)) → IfOk r (λ a. IsShownBy w group n (told a))
                → IfOk r (λ a. zone_in a ≡ zone) → IfOk r (λ a. CanBeTold w.accepts group (zone_in a) (told a))
            by (Ok a) f g h at = subst (λ (z : Place). CanBeTold w.accepts group z (told a)) (sym at) (told_at_end (told a) f g h).justified
            by (Err e) f g h at = tt

  -- or the walk doesn't come to its end
  pub stuck : (from to : ℕ) → IsStuck w table before after top zone from to → IsSingleCallWithin w group table before after None from to
  stuck from to s = stuck_call w group table before after top from to way (subst (λ (z : Place). IsStuck w table before after top z from to) its s)

  -- the zone is the group's
  pub zone_of_walk : zone ≡ zone_for w group
  zone_of_walk = its ∙ sym (zone_is w group (by_walk top) way)

  pub zones_of_walk : {A E : Type 0} (result : Result A E) (zone_in : A → Place) → IfOk result (λ a. zone_in a ≡ zone) → IfOk result (λ a. zone_in a ≡ zone_for w group)
  zones_of_walk result zone_in at = if_ok (λ a. zone_in a ≡ zone) (λ a. zone_in a ≡ zone_for w group) result (λ a e. e ∙ zone_of_walk) at

module _ (w : World) (group : Group) (table : Option Table) (before : Outside) (from : ℕ) (zone : Place) (told : Told) where
  -- a group of signatures alone
  pub told_without_set : group.records ≡ []
      → told ≡ of_signatures_alone
      → IsToldSo w group table before before from from zone told
  told_without_set none is =
      let way = way_without_set w group none in
      let so : IsToldSo w group table before before from from zone of_signatures_alone = record {
        checks = once_call w group table before from (no_set group) (Some of_signatures_alone) way refl refl refl;
        sound = inr (none, refl);
        justified = record { no_encloser = refl; not_cut = refl };
      } in
      subst (IsToldSo w group table before before from from zone) (sym is) so

  -- a group without an island
  pub told_without_island : group.records ≢ [] → island w.anchors (place group.owner) group.rtype ≡ None
      → told ≡ of_no_island
      → IsToldSo w group table before before from from zone told
  told_without_island some none is =
      let way = way_without_island w group some none in
      let so : IsToldSo w group table before before from from zone of_no_island = record {
        checks = once_call w group table before from (no_island group) (Some of_no_island) way refl refl refl;
        sound = (none, refl);
        justified = record { no_encloser = refl; not_cut = refl };
      } in
      subst (IsToldSo w group table before before from from zone) (sym is) so

-- the zones of both
module _ (w : World) (group : Group) where
  pub zone_without_set : group.records ≡ [] → [] ≡ zone_for w group
  zone_without_set none = sym (zone_is w group (at_once (no_set group)) (way_without_set w group none))

  pub zone_without_island : group.records ≢ [] → island w.anchors (place group.owner) group.rtype ≡ None → target_of group None ≡ zone_for w group
  zone_without_island some none = sym (zone_is w group (at_once (no_island group)) (way_without_island w group some none))

-- a copy of a group with what is told of it
module _ (v : Validated) (own group : Group) (signer : Labels) (told : Told) (is : v ≡ validated_by own signer told) (same : own ≡ group) where
  pub its_group : v.group ≡ group
  its_group = ap (λ (x : Validated). x.group) is ∙ same

  its_signer : place v.signer ≡ place signer
  its_signer = ap (λ (x : Validated). place x.signer) is

  its_told : told_in v ≡ told
  its_told = ap told_in is

  pub zone_kept : (zone : Place) → place signer ≡ zone → place v.signer ≡ zone
  zone_kept zone e = its_signer ∙ e

  pub call_kept : (w : World) (table : Option Table) (before after : Outside) → IsSingleCall w group table before after (Some told)
      → IsSingleCall w group table before after (Some (told_in v))
  call_kept w table before after c = subst (λ (x : Told). IsSingleCall w group table before after (Some x)) (sym its_told) c

  pub sound_kept : (w : World) → IsSoundOn w group (place signer) told → IsSoundOn w group (place v.signer) (told_in v)
  sound_kept w h =
      subst (λ (z : Place). IsSoundOn w group z (told_in v)) (sym its_signer) (subst (IsSoundOn w group (place signer)) (sym its_told) h)

-- what can be told of a group can be told of its copy
pub can_of_copy : (accepts : Accepts) (own group : Group) (zone : Place) (told : Told) → own ≡ group → CanBeTold accepts group zone told → CanBeTold accepts own zone told
can_of_copy accepts own group zone told e h = subst (λ (g : Group). CanBeTold accepts g zone told) (sym e) h
