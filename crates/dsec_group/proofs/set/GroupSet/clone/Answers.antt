use Rattle.std.proofs.Common.{◌∙◌, List, ap, sym, take}
use Rattle.std.specs.Prelude.{slice_get}
use Rattle.dsec_spec.specs.Groups.{Group}
use Rattle.dsec_group.specs.Keys.{group_key, has_key}
use Rattle.dsec_group.proofs.IndexLaws.{there_is}
use Rattle.dsec_group.proofs.set.GroupSet.clone.Goals as goal

pub push-requires : goal.push-requires
push-requires c = record {
  fresh = λ k its.
      let groups = c.as_slice-groups.result.now in
      let i = c.loop-group.group-index in
      let g = c.group-item.result in
      let at = ap (λ (gs : List Group). slice_get gs i) (sym c.as_slice-groups.ensures.value) ∙ there_is groups i g g c.loop-group-test.true c.group-item.is in
      let before = ap (λ (gs : List Group). has_key k (take i gs)) c.as_slice-groups.ensures.value ∙ c.as_slice-groups.ensures.distinct i g at k (ap group_key (sym c.in_ok-clone.ensures) ∙ its) in
      ap (has_key k) c.loop-group.invariant.0 ∙ before;
}
