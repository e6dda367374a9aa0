use Rattle.std.proofs.Common.{◌≡◌}
use Rattle.dsec_alias.specs.Following.{do_cname_dname}
use Rattle.dsec_nsec3_calls.specs.Views.{hash_limits}
use Rattle.dsec_follow.specs.Ends.{end_told}
use Rattle.dsec_follow.specs.Replies.{reply_view}
use Rattle.dsec_nodes.specs.Aliases.{reply_of}
use Rattle.dsec_follow.specs.Ways.{way_end, way_view}
use Rattle.dsec_follow.proofs.path.do_cname_dname.Given as goal

abbrev pub invariant-loop-next : goal.invariant-loop-next
invariant-loop-next g l =
    way_end (reply_view l.reply) (way_view l.way)
    ≡ end_told (do_cname_dname (reply_of (hash_limits l.fn.limits) l.fn.anchors l.fn.class l.fn.rtype l.fn.answers l.fn.authorities) l.fn.limits.max_cname_dname l.fn.name)

abbrev pub decreases-loop-next : goal.decreases-loop-next
decreases-loop-next g l = l.way.left
