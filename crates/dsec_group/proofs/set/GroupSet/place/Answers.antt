use Rattle.std.proofs.Common.{◌≡◌, ◌<◌, Some, length, map, subst}
use Rattle.std.specs.Prelude.{OnOk, slice_get, slice_set}
use Rattle.dsec_spec.specs.Groups.{Group}
use Rattle.dsec_group.specs.Adding.{placed, put_in}
use Rattle.dsec_group.specs.Keys.{group_key}
use Rattle.dsec_group.specs.Places.{SeededGroups}
use Rattle.dsec_group.proofs.IndexLaws.{set_keys, set_placed, there_is}
use Rattle.dsec_group.proofs.PlaceLaws.{kept_same}
use Rattle.dsec_group.proofs.set.GroupSet.place.Goals as goal

pub invariant_of-self : goal.invariant_of-self
invariant_of-self c =
    let gs = c.self.inside.groups.items in
    let i = c.in-Some.index in
    let stays = subst (λ gs. (g : Group) → slice_get gs i ≡ Some g → map group_key (slice_set gs i (put_in c.args.next g)) ≡ map group_key gs) c.deref.ensures.value c.in-Some.ensures.stays in
    let within = subst (λ gs. i < length gs) c.deref.ensures.value c.in-Some.ensures.within in
    let there = there_is gs i c.index_mut.result.now c.index_mut.result.now within c.index_mut.ensures.value in
    kept_same c.self.inside.places gs (slice_set gs i c.put.new.self) c.self.invariant (set_keys c.args.next gs i c.index_mut.result.now c.put.new.self there c.put.result c.put.ensures.ok c.put.ensures.err stays)

pub returns-in-Some-clause-ok : goal.returns-in-Some-clause-ok
returns-in-Some-clause-ok c =
    let gs = c.self.inside.groups.items in
    let i = c.in-Some.index in
    let found = subst (λ gs. (g : Group) → slice_get gs i ≡ Some g → placed c.args.next gs ≡ slice_set gs i (put_in c.args.next g)) c.deref.ensures.value c.in-Some.ensures.found in
    let within = subst (λ gs. i < length gs) c.deref.ensures.value c.in-Some.ensures.within in
    let there = there_is gs i c.index_mut.result.now c.index_mut.result.now within c.index_mut.ensures.value in
    subst (λ (all : SeededGroups). OnOk c.put.result (slice_set gs i c.put.new.self ≡ placed c.args.next all.groups)) c.self.view_is
    (set_placed c.args.next gs i c.index_mut.result.now c.put.new.self there c.put.result c.put.ensures.ok found)
