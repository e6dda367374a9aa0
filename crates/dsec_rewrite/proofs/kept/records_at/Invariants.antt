use Rattle.std.proofs.Common.{◌≡◌, ◌-◌}
use Rattle.dsec_spec.specs.Reading.{many_of}
use Rattle.dsec_spec.specs.Messages.{record_at}
use Rattle.dsec_wire.proofs.ManyLoop.{after_front}
use Rattle.dsec_rewrite.proofs.kept.records_at.Given as goal

abbrev pub invariant-loop : goal.invariant-loop
invariant-loop l = after_front l.items.items (many_of (record_at l.message) (l.count - l.counter) l.at) ≡ many_of (record_at l.message) l.count l.start
