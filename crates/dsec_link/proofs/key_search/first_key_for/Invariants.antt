use Rattle.std.proofs.Common.{◌≡◌, map}
use Rattle.dsec_spec.specs.KeySearch.{first_key}
use Rattle.dsec_wire.specs.DataViews.{ds_view}
use Rattle.dsec_link.proofs.KeySearchSteps.{from_index}
use Rattle.dsec_link.proofs.key_search.first_key_for.Given as goal

abbrev pub invariant-loop-index : goal.invariant-loop-index
invariant-loop-index l =
    from_index (ds_view l.ds) l.owner l.left l.keys l.index ≡ first_key (ds_view l.ds) l.owner l.most (map (λ one. one.rdata) l.keys)
