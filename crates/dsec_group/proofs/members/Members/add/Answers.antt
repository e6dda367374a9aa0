use Rattle.std.proofs.Common.{ap, ◌∙◌}
use Rattle.dsec_group.specs.Adding.{has_data}
use Rattle.dsec_group.proofs.DataSets.{data_kept}
use Rattle.dsec_group.proofs.members.Members.add.Goals as goal

pub invariant_of-self-then-is_new : goal.invariant_of-self-then-is_new
invariant_of-self-then-is_new c = λ octets.
    data_kept c.args.next c.self.inside.records.items c.reserve.new.self.items c.push_reserved-then-is_new.new.self.items c.in_ok-octets.octets octets _ _
    (c.in_ok-is_new.ensures.updates.0 octets) c.in_ok-octets.ensures (c.in_ok-index.ensures.ok octets ∙ ap (has_data octets) c.deref.ensures.value) c.in_ok-reserve.ensures.items c.push_reserved-then-is_new.ensures.items
