use Rattle.std.proofs.Common.{◌≡◌, [], length, take, Some}
use Rattle.dsec_node.specs.Caches.{held_in}
use Rattle.dsec_context.specs.Outside.{replies_of, HoldsTable}
use Rattle.dsec_answer.specs.Outcomes.{world_of_script}
use Rattle.dsec_answer.specs.Sending.{HoldsBack, SoFar}
use Rattle.dsec_answer.proofs.judging.judge_all.Given as goal

abbrev pub invariant-loop-item : goal.invariant-loop-item
invariant-loop-item g l =
    (g.K.Sink.faults l.sink ≡ g.K.Sink.faults l.fn.sink)
    × (l.index ≡ length l.yielded)
    × (l.context.anchors ≡ l.fn.context.anchors)
    × (l.context.config ≡ l.fn.context.config)
    × (l.upstream.replies ≡ l.fn.upstream.replies)
    × HoldsTable (world_of_script g.V.Verifier.accepts l.fn.context.anchors l.moment) (replies_of l.fn.upstream.replies) (Some (held_in l.context.nodes))
    × SoFar g.V.Verifier.accepts l.fn.context.anchors l.fn.upstream.replies (take (length l.yielded) l.fn.items.items) l.moment (held_in l.context.nodes) (g.K.Sink.written l.fn.sink) (g.K.Sink.written l.sink) l.gathered.items
    × HoldsBack (g.K.Sink.written l.fn.sink) (g.K.Sink.written l.sink) [] l.gathered.items
