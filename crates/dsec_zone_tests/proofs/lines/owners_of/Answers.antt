use Rattle.dsec_spec.proofs.CanonicalOrder.{canonical_ordered}
use Rattle.dsec_sorted.proofs.OwnerRuns.{ordered_together}
use Rattle.dsec_zone_tests.proofs.lines.owners_of.Goals as goal

pub new_from_owned-requires : goal.new_from_owned-requires
new_from_owned-requires c = ordered_together c.args.records.now (canonical_ordered c.args.records.now c.requires.class c.requires.canonical)
