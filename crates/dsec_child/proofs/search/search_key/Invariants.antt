use Rattle.std.proofs.Common.{◌≡◌, ◌+◌, ◌≤◌, map}
use Rattle.dsec_spec.specs.KeySearch.{first_key}
use Rattle.dsec_wire.specs.DataViews.{ds_view}
use Rattle.dsec_link.proofs.KeySearchSteps.{from_index}
use Rattle.dsec_child.specs.Searches.{digests_for}
use Rattle.dsec_child.proofs.SearchSteps.{digests_from}
use Rattle.dsec_child.proofs.search.search_key.Given as goal

abbrev pub invariant-loop-index : goal.invariant-loop-index
invariant-loop-index g l =
    (from_index (ds_view l.ds) l.owner l.left l.keys l.index ≡ first_key (ds_view l.ds) l.owner l.most (map (λ one. one.rdata) l.keys))
    × (l.steps + digests_from (ds_view l.ds) l.owner l.left l.keys l.index ≡ l.fn.steps + digests_for (ds_view l.ds) l.owner l.most (map (λ one. one.rdata) l.keys))
    × (l.steps + l.left ≤ l.fn.steps + l.most)
