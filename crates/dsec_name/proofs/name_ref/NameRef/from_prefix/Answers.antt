use Rattle.std.proofs.Common.{sym, ◌∙◌}
use Rattle.dsec_name.proofs.NamePrefix.{prefix_whole, prefix_read}
use Rattle.dsec_name.proofs.name_ref.NameRef.from_prefix.Goals as goal

pub invariant_of-result : goal.invariant_of-result
invariant_of-result c =
    record { whole = prefix_whole c.args.octets.now c.split_at.result.0.now c.in_ok-size.size (sym c.labels_size.ensures.exact ∙ c.in_ok-size.was) c.split_at.ensures.front }

pub returns : goal.returns
returns c =
    prefix_read c.args.octets.now c.split_at.result.0.now c.split_at-2.result.1.now c.in_ok-size.size (sym c.labels_size.ensures.exact ∙ c.in_ok-size.was) c.split_at.ensures.front c.split_at-2.ensures.back
