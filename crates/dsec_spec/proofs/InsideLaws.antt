-- What a test chooses inside a zone is what it chooses of each owner; so the zone's sets are those of its owners.
use Rattle.std.proofs.Common.{◌≡◌, suc, Bool, ◌&&◌, List, [], ◌∷◌, ◌++◌, map, refl, ap, ◌∙◌, arith}
use Rattle.std.specs.Prelude.{All, Contains, filter}
use Rattle.std.specs.List.{flat_map}
use Rattle.std.proofs.lemmas.List.Elements.{filter-append}
use Rattle.dsec_spec.specs.Names.{Place, place}
use Rattle.dsec_spec.specs.Records.{Record}
use Rattle.dsec_spec.specs.ZonesOfRecords.{is_inside, is_delegation, is_own, set_key, zone_of}
use Rattle.dsec_spec.specs.OwnersInside.{Inside, AreInside}
use Rattle.dsec_spec.proofs.Choosing.{filter_like, filter_both}

-- what a test chooses inside the zone, which asks whether the owner is a delegation, is what it chooses of each owner
pub chosen_inside : (apex : Place) (records : List Record) (owners : List Inside) (test : Bool → Record → Bool) → AreInside apex records owners
    → filter (λ r. is_inside apex records (place r.owner) && test (is_delegation apex records (place r.owner)) r) records ≡ flat_map (λ (o : Inside). filter (test o.cut) o.records) owners
chosen_inside apex records owners test are =
    filter_both (λ r. is_inside apex records (place r.owner)) (λ r. test (is_delegation apex records (place r.owner)) r) records
    ∙ (ap (filter (λ r. test (is_delegation apex records (place r.owner)) r)) are.kept ∙ by owners are.each)
  where
    by : (all : List Inside) → All (λ (o : Inside). (o.cut ≡ is_delegation apex records (place o.name)) × ((r : Record) → Contains o.records r → place r.owner ≡ place o.name)) all
        → filter (λ r. test (is_delegation apex records (place r.owner)) r) (flat_map (λ (o : Inside). o.records) all) ≡ flat_map (λ (o : Inside). filter (test o.cut) o.records) all
    by [] each = refl
    by (o ∷ all) each =
        let mine = each 0 o (omega arith) in
        filter-append (λ r. test (is_delegation apex records (place r.owner)) r) o.records (flat_map (λ (p : Inside). p.records) all)
        ∙ (ap (λ (xs : List Record). xs ++ filter (λ r. test (is_delegation apex records (place r.owner)) r) (flat_map (λ (p : Inside). p.records) all))
        (filter_like (λ r. test (is_delegation apex records (place r.owner)) r) (test o.cut) o.records (λ r h. rw (mine.1 r h, ← mine.0) refl))
        ∙ ap (λ (xs : List Record). filter (test o.cut) o.records ++ xs) (by all (λ k d lt. each (suc k) d (omega arith))))

-- the zone's sets are those of its owners
pub sets_inside : (apex : Place) (records : List Record) (owners : List Inside) → AreInside apex records owners → (zone_of apex records).sets ≡ map set_key (flat_map (λ (o : Inside). filter (is_own o.cut) o.records) owners)
sets_inside apex records owners are = ap (map set_key) (chosen_inside apex records owners is_own are)
