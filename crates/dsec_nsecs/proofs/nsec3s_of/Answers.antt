use Rattle.std.proofs.Common.{refl}
use Rattle.dsec_spec.proofs.CanonicalOrder.{canonical_ordered}
use Rattle.dsec_sorted.proofs.OwnerRuns.{ordered_together}
use Rattle.dsec_nsecs.proofs.nsec3s_of.Goals as goal

pub new_from_owned-owners-requires : goal.new_from_owned-owners-requires
new_from_owned-owners-requires c =
    let records = c.as_slice-records.result.now in
    ordered_together records (canonical_ordered records (c.if-not-is_of_one_class.ensures.0 refl) c.as_slice-records.ensures.canonical)
