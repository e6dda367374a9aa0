use Rattle.std.proofs.Common.{◌≡◌, ◌++◌, drop, map}
use Rattle.dsec_group.specs.Followers.{follower_view, followers_in}
use Rattle.dsec_group.proofs.settle.followers_among.Given as goal

abbrev pub invariant-loop-index : goal.invariant-loop-index
invariant-loop-index l = map follower_view l.followers.items ++ followers_in (drop l.index l.all) (drop l.index l.groups) ≡ followers_in l.all l.groups
