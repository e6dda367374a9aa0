use Rattle.std.proofs.Common.{◌≡◌, ◌-◌, List}
use Rattle.dsec_spec.specs.Groups.{groups_of}
use Rattle.dsec_spec.specs.Messages.{record_at}
use Rattle.dsec_spec.specs.Reading.{many_of}
use Rattle.dsec_spec.specs.Records.{Record}
use Rattle.dsec_wire.proofs.ManyLoop.{after_front}
use Rattle.dsec_group.proofs.sections.groups_at.Given as goal

abbrev pub invariant-loop : goal.invariant-loop
invariant-loop l =
    (front : List Record) × (l.groups.groups ≡ groups_of front) × (l.groups.seed ≡ l.fn.seed)
    × (after_front front (many_of (record_at l.message) (l.count - l.counter) l.at) ≡ many_of (record_at l.message) l.count l.start)
