use Rattle.std.proofs.Common.{◌≡◌, [], ◌++◌, drop, take}
use Rattle.dsec_outside.specs.Sending.{SentBut}
use Rattle.dsec_answer.specs.Sending.{HoldsBack}
use Rattle.dsec_answer.specs.Texts.{used_groups_lines}
use Rattle.dsec_answer.proofs.sending.send_used_groups.Given as goal

abbrev pub invariant-loop-place : goal.invariant-loop-place
invariant-loop-place g l =
    (g.K.Sink.faults l.sink ≡ g.K.Sink.faults l.fn.sink)
    × SentBut (g.K.Sink.written l.fn.sink) (g.K.Sink.written l.sink) (l.fn.gathered.items ++ used_groups_lines l.index [] l.used)
    (l.gathered.items ++ used_groups_lines l.index (take l.place l.used) (drop l.place l.used))
    × HoldsBack (g.K.Sink.written l.fn.sink) (g.K.Sink.written l.sink) l.fn.gathered.items l.gathered.items
