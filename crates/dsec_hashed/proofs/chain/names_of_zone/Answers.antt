use Rattle.std.proofs.Common.{List, map, ap, ◌∙◌}
use Rattle.dsec_spec.specs.Names.{place}
use Rattle.dsec_spec.proofs.CanonicalOrder.{canonical_ordered}
use Rattle.dsec_sorted.specs.IterViews.{left_of}
use Rattle.dsec_chain.specs.Views.{inside_view}
use Rattle.dsec_chain.specs.declared.owners.InsideOwner.{InsideOwner}
use Rattle.dsec_hashed.specs.Config.{hashing_of}
use Rattle.dsec_hashed.specs.HashedList.{names_of}
use Rattle.dsec_hashed.specs.HashedTypes.{hashed_as}
use Rattle.dsec_hashed.proofs.ZoneNames.{zone_names}
use Rattle.dsec_hashed.proofs.chain.names_of_zone.Goals as goal

pub inside_owners-requires : goal.inside_owners-requires
inside_owners-requires c = canonical_ordered (left_of c.args.records.now) c.requires.class c.requires.canonical

pub returns : goal.returns
returns c =
    let config = c.args.config.now in
    let apex = place c.args.apex.now in
    zone_names config apex (left_of c.args.records.now) c.in_ok-owners.owners.items c.keep_owing.new.owners.items c.in_ok-names.names.items c.sort_by_hash.new.names.items
    c.in_ok-owners.ensures.inside c.requires.soa c.keep_owing.ensures
    (c.in_ok-names.ensures ∙ ap (λ (owners : List InsideOwner). map (hashed_as (hashing_of config)) (names_of apex apex (map inside_view owners))) c.deref.ensures.value)
    c.sort_by_hash.ensures.permuted c.sort_by_hash.ensures.sorted
