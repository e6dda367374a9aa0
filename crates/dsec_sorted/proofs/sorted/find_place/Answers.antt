use Rattle.std.proofs.Common.{rules}
use Rattle.std.proofs.lemmas.Fn.{always_returns_same}
use Rattle.dsec_spec.specs.CanonicalRecords.{record_cmp}
use Rattle.dsec_sorted.proofs.Places.{found_of, place_of}
use Rattle.dsec_sorted.proofs.sorted.find_place.Goals as goal

pub returns-clause-found : goal.returns-clause-found
returns-clause-found c =
    found_of c.args.records.now c.args.item.now c.binary_search_by.result c.binary_search_by.ensures.bound
    (c.binary_search_by.ensures.position (λ r. record_cmp r c.args.item.now) (always_returns_same _ _ _ (λ a r f' k. search rules)))

pub returns-clause-place : goal.returns-clause-place
returns-clause-place c =
    place_of c.args.records.now c.args.item.now c.binary_search_by.result c.requires c.binary_search_by.ensures.bound
    (c.binary_search_by.ensures.position (λ r. record_cmp r c.args.item.now) (always_returns_same _ _ _ (λ a r f' k. search rules)))
