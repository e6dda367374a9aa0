use Rattle.std.proofs.Common.{◌++◌, ◌∷◌, [], Some, sym, subst, take, map, ap, ◌∙◌}
use Rattle.std.proofs.lemmas.List.{map-append, take_more}
use Rattle.std.specs.Option.{option_map}
use Rattle.dsec_group.specs.Keys.{group_key, key_of}
use Rattle.dsec_group.specs.Places.{Knows}
use Rattle.dsec_group.proofs.PlaceLaws.{knows_more}
use Rattle.dsec_group.proofs.places.places_of.Goals as goal

pub loop-index-preserved : goal.loop-index-preserved
loop-index-preserved c =
    let groups = c.args.groups.now in
    let i = c.loop-index.index in
    let g = c.index-groups-index.result in
    let more = take_more groups i g c.loop-index-test.true ∙ ap (λ x. take i groups ++ x ∷ []) (sym c.index-groups-index.is) in
    let keys = ap (map group_key) more ∙ map-append group_key (take i groups) (g ∷ []) ∙ ap (λ o. map group_key (take i groups) ++ o ∷ []) (ap (option_map key_of) c.leader.ensures.leads) in (
      subst (Knows c.put.new.places) (sym keys)
          (knows_more c.put.new.places (map group_key (take i groups)) (Some (key_of c.leader.result.now)) (c.put.ensures.kept (map group_key (take i groups)) c.loop-index.invariant.0) c.in_ok-put.ensures.put),
      c.put.ensures.seed ∙ c.loop-index.invariant.1,
    )
