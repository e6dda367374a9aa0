use Rattle.std.proofs.Common.{◌≡◌, ◌<◌, ◌≤◌, ◌∙◌, List, length, map, get_or, take, sym, ap, subst, arith}
use Rattle.std.specs.Prelude.{Contains}
use Rattle.std.proofs.lemmas.List.{get_or-map, length-map, take_all}
use Rattle.dsec_spec.specs.Names.{place}
use Rattle.dsec_spec.specs.OwnersInside.{AreInside, Inside}
use Rattle.dsec_spec.proofs.CanonicalOrder.{canonical_ordered}
use Rattle.dsec_sorted.specs.IterViews.{left_of}
use Rattle.dsec_chain.specs.Views.{IsPlaced, inside_view}
use Rattle.dsec_chain.specs.declared.owners.InsideOwner.{InsideOwner}
use Rattle.dsec_sign.proofs.SignableSets.{runs_of_one_set}
use Rattle.dsec_sign.proofs.ZoneSets.{Collected, collect_next, collected_all, none_collected, owner_is}
use Rattle.dsec_sign.proofs.zone_sets.sets_to_sign.Goals as goal

pub inside_owners-requires : goal.inside_owners-requires
inside_owners-requires c = canonical_ordered (left_of c.args.records.now) c.requires.class c.requires.canonical

pub push_sets-requires-clause-owner : goal.push_sets-requires-clause-owner
push_sets-requires-clause-owner c =
    let records = left_of c.args.records.now in
    let owners = c.in_ok-owners.owners.items in
    let item = c.owner-item.result in
    let i = c.loop-owner.owner-index in
    let value : c.deref-owner-items.result.now ≡ owners = c.deref-owner-items.ensures.value in
    let lt : i < length owners = subst (λ (xs : List InsideOwner). i < length xs) value c.loop-owner-test.true in
    let at : get_or owners i item ≡ item = ap (λ (xs : List InsideOwner). get_or xs i item) (sym value) ∙ sym c.owner-item.is in
    let inside : AreInside (place c.args.apex.now) records (map inside_view owners) = c.in_ok-owners.ensures.inside in
    let each = (inside.each i (inside_view item) (omega (arith, lt, length-map owners inside_view))).1 in
    let view : get_or (map inside_view owners) i (inside_view item) ≡ inside_view item = get_or-map inside_view owners i item (inside_view item) lt ∙ ap inside_view at in
    owner_is records item c.requires.canonical c.requires.class (subst (IsPlaced records) at (c.in_ok-owners.ensures.placed i item lt))
    (λ r h. subst (λ (x : Inside). Contains x.records r → place r.owner ≡ place x.name) view (each r) h)

pub loop-owner-init : goal.loop-owner-init
loop-owner-init c = rw (c.in_ok-sets.ensures.items) (none_collected (place c.args.apex.now) (left_of c.args.records.now))

pub loop-owner-preserved : goal.loop-owner-preserved
loop-owner-preserved c =
    let records = left_of c.args.records.now in
    let owners = c.in_ok-owners.owners.items in
    let item = c.owner-item.result in
    let i = c.loop-owner.owner-index in
    let value : c.deref-owner-items.result.now ≡ owners = c.deref-owner-items.ensures.value in
    let lt : i < length owners = subst (λ (xs : List InsideOwner). i < length xs) value c.loop-owner-test.true in
    let at : get_or owners i item ≡ item = ap (λ (xs : List InsideOwner). get_or xs i item) (sym value) ∙ sym c.owner-item.is in
    let inside : AreInside (place c.args.apex.now) records (map inside_view owners) = c.in_ok-owners.ensures.inside in
    let view : get_or (map inside_view owners) i (inside_view item) ≡ inside_view item = get_or-map inside_view owners i item (inside_view item) lt ∙ ap inside_view at in
    rw value (collect_next (place c.args.apex.now) records (map inside_view owners) i (inside_view item) c.loop-owner.sets.items c.push_sets.new.sets.items inside (omega (arith, lt, length-map owners inside_view)) view
    (rw (← value) c.loop-owner.invariant) (c.in_ok-push_sets.ensures records (subst (IsPlaced records) at (c.in_ok-owners.ensures.placed i item lt))))

pub returns-clause-sets : goal.returns-clause-sets
returns-clause-sets c =
    let apex = place c.args.apex.now in
    let records = left_of c.args.records.now in
    let owners = c.in_ok-owners.owners.items in
    let sets = c.loop-owner.sets.items in
    let value : c.deref-owner-items.result.now ≡ owners = c.deref-owner-items.ensures.value in
    let here = rw value at c.loop-owner.invariant in
    let end : length (map inside_view owners) ≤ c.loop-owner.owner-index = omega (arith, c.loop-owner-test.false, ap length value, length-map owners inside_view) in
    let all : take c.loop-owner.owner-index (map inside_view owners) ≡ map inside_view owners = take_all c.loop-owner.owner-index (map inside_view owners) end in
    collected_all apex records (map inside_view owners) sets c.in_ok-owners.ensures.inside (subst (λ (met : List Inside). Collected apex records met sets) all here)

pub returns-clause-one : goal.returns-clause-one
returns-clause-one c = runs_of_one_set (left_of c.args.records.now) c.loop-owner.sets.items c.loop-owner.invariant.runs
