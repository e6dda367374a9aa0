use Rattle.std.proofs.Common.{◌≡◌, ◌++◌, drop}
use Rattle.std.specs.List.{flat_map}
use Rattle.dsec_outside.specs.Sending.{SentBut}
use Rattle.dsec_answer.specs.Sending.{HoldsBack}
use Rattle.dsec_answer.specs.Texts.{group_lines}
use Rattle.dsec_answer.proofs.sending.send_groups.Given as goal

abbrev pub invariant-loop-place : goal.invariant-loop-place
invariant-loop-place g l =
    (g.K.Sink.faults l.sink ≡ g.K.Sink.faults l.fn.sink)
    × SentBut (g.K.Sink.written l.fn.sink) (g.K.Sink.written l.sink) (l.fn.gathered.items ++ flat_map (λ j. group_lines l.index j) l.judged)
    (l.gathered.items ++ flat_map (λ j. group_lines l.index j) (drop l.place l.judged))
    × HoldsBack (g.K.Sink.written l.fn.sink) (g.K.Sink.written l.sink) l.fn.gathered.items l.gathered.items
