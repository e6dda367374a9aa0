use Rattle.std.proofs.Common.{◌≡◌, length}
use Rattle.dsec_spec.specs.Names.{place}
use Rattle.dsec_spec.specs.ZonesOfRecords.{soas_at}
use Rattle.dsec_chain.proofs.soa.first_soa.Given as goal

abbrev pub invariant-loop-first : goal.invariant-loop-first
invariant-loop-first l = soas_at (place l.apex) l.records ≡ soas_at (place l.apex) l.rest

abbrev pub decreases-loop-first : goal.decreases-loop-first
decreases-loop-first l = length l.rest
