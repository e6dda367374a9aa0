use Rattle.std.proofs.Common.{[], drop, map}
use Rattle.dsec_hashed.specs.Config.{hashing_of}
use Rattle.dsec_hashed.specs.HashedViews.{hashed_view}
use Rattle.dsec_hashed.specs.Nsec3Made.{hash_after}
use Rattle.dsec_hashed.proofs.Made.{GoesOn}
use Rattle.dsec_hashed.proofs.records.nsec3_records.Given as goal

abbrev pub invariant-loop-i : goal.invariant-loop-i
invariant-loop-i l =
    GoesOn (hashing_of l.common.config.now) l.common.apex.now l.common.class l.common.ttl (hash_after [] (map hashed_view l.names)) (map hashed_view l.names) (map hashed_view (drop l.i l.names)) l.nsec3s.items
