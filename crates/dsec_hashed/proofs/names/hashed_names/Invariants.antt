use Rattle.std.proofs.Common.{◌≡◌, ◌++◌, drop, map}
use Rattle.dsec_spec.specs.Names.{place}
use Rattle.dsec_chain.specs.Views.{inside_view}
use Rattle.dsec_hashed.specs.Config.{hashing_of}
use Rattle.dsec_hashed.specs.HashedList.{names_of}
use Rattle.dsec_hashed.specs.HashedTypes.{hashed_as}
use Rattle.dsec_hashed.specs.HashedViews.{hashed_view}
use Rattle.dsec_hashed.proofs.names.hashed_names.Given as goal

abbrev pub invariant-loop-owner : goal.invariant-loop-owner
invariant-loop-owner l =
    map hashed_view l.all.items ++ map (hashed_as (hashing_of l.config)) (names_of (place l.apex) (place l.before) (map inside_view (drop l.owner-index l.owners)))
    ≡ map (hashed_as (hashing_of l.config)) (names_of (place l.apex) (place l.apex) (map inside_view l.owners))
