use Rattle.std.proofs.Common.{◌≡◌, take, map}
use Rattle.dsec_spec.specs.Redirection.{with_followers}
use Rattle.dsec_group.specs.Followers.{follower_view, followers_at}
use Rattle.dsec_group.proofs.settle.with_all.Given as goal

abbrev pub invariant-loop-follower : goal.invariant-loop-follower
invariant-loop-follower l = l.whole ≡ with_followers l.group (followers_at l.index (map follower_view (take l.follower-index l.followers)))
