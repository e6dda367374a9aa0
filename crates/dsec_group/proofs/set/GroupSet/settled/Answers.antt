use Rattle.std.proofs.Common.{◌≡◌, ℕ, ◌∙◌, sym, ap, take, List, Option}
use Rattle.std.specs.Option.{is_some}
use Rattle.std.specs.Prelude.{map, not, slice_get}
use Rattle.dsec_spec.specs.Groups.{Group}
use Rattle.dsec_spec.specs.Redirection.{followed, staying_from}
use Rattle.dsec_group.specs.Followers.{follower_view, followers_in}
use Rattle.dsec_group.specs.declared.settle.Follower.{Follower}
use Rattle.dsec_group.specs.Keys.{group_key, has_key}
use Rattle.dsec_group.proofs.RedirectLaws.{element, followed_index_at, stays_on, leaves_off, staying_keys}
use Rattle.dsec_group.proofs.IndexLaws.{there_is}
use Rattle.dsec_group.proofs.set.GroupSet.settled.Goals as goal
use Rattle.dsec_group.proofs.set.GroupSet.settled.Goals.{then-is_none+in_ok-with_all+in_ok-push, else-is_none}

pub loop-index-init : goal.loop-index-init
unfolding staying_from
loop-index-init c = (c.with_seed-settled.ensures.empty, c.with_seed-settled.ensures.seed ∙ c.seed.ensures)

pub push-requires : goal.push-requires
push-requires c = record {
  fresh = λ k its.
      let groups = c.as_slice-groups.result.now in
      let i = c.loop-index.index in
      let g = c.index-groups-index.result in
      let at = ap (λ (gs : List Group). slice_get gs i) (sym c.as_slice-groups.ensures.value) ∙ there_is groups i g g c.loop-index-test.true c.index-groups-index.is in
      let before = ap (λ (gs : List Group). has_key k (take i gs)) c.as_slice-groups.ensures.value ∙ c.as_slice-groups.ensures.distinct i g at k (ap group_key (sym c.in_ok-with_all.ensures) ∙ its) in
      ap (has_key k) c.loop-index.invariant.0 ∙ staying_keys c.args.anchors.now k groups (take i groups) 0 before;
}

pub loop-index-preserved : goal.loop-index-preserved
loop-index-preserved c =
    let groups = c.as_slice-groups.result.now in
    let i = c.loop-index.index in
    let e = element groups i c.loop-index-test.true in
    let some : is_some (followed c.args.anchors.now groups e.0) ≡ not c.is_none.result = ap is_some (followed_index_at c.args.anchors.now groups c.in_ok-all.all.items i c.index.result.now e.0 c.in_ok-all.ensures c.index.ensures c.loop-index-test.true e.1) ∙ c.is_none.ensures in
    let pairs = λ (fs : List Follower) (same : fs ≡ c.in_ok-followers.followers.items).
    ap (map follower_view) same ∙ (c.in_ok-followers.ensures ∙ ap (λ (os : List (Option ℕ)). followers_in os groups) (c.deref.ensures.value ∙ c.in_ok-all.ensures)) in
    elim c.if-is_none.branch [
      | then-is_none+in_ok-with_all+in_ok-push w ↦ let g = w.index-groups-index.result in
          let there : is_some (followed c.args.anchors.now groups g) ≡ not c.is_none.result = ap is_some (followed_index_at c.args.anchors.now groups c.in_ok-all.all.items i c.index.result.now g c.in_ok-all.ensures c.index.ensures c.loop-index-test.true w.index-groups-index.is) ∙ c.is_none.ensures in
          rw w.settled-is (
            stays_on c.args.anchors.now groups i g c.loop-index.settled.groups c.loop-index-test.true w.index-groups-index.is c.loop-index.invariant.0
                w.push.new.self.groups w.in_ok-with_all.field-0 _ (there ∙ ap not w.if-is_none.true) w.in_ok-with_all.ensures (pairs w.deref-then-is_none.result.now w.deref-then-is_none.ensures.value) w.in_ok-push.ensures.ok,
            w.push.ensures.seed ∙ c.loop-index.invariant.1,
          )
      | else-is_none w ↦ rw w.settled-is (leaves_off c.args.anchors.now groups i e.0 c.loop-index.settled.groups c.loop-index-test.true e.1 c.loop-index.invariant.0 (some ∙ ap not w.if-is_none.false), c.loop-index.invariant.1)
    ]
