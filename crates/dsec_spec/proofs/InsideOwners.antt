-- The owners inside a zone at which a type stands are the zone's owners.
use Rattle.std.proofs.Common.{◌≡◌, ◌≢◌, ℕ, Bool, true, false, cond, ◌||◌, List, [], ◌∷◌, ◌++◌, map, refl, sym, ap, ◌∙◌}
use Rattle.std.specs.Prelude.{All, Contains, filter}
use Rattle.std.specs.List.{flat_map, list_any}
use Rattle.std.proofs.lemmas.Bool.{true≢false}
use Rattle.std.proofs.lemmas.List.{map-append}
use Rattle.std.proofs.lemmas.List.Elements.{All-contains, All-map, All-filter, All-weaker, filter_passes}
use Rattle.std.proofs.lemmas.List.Kept.{AllPairs-filter}
use Rattle.dsec_spec.specs.Names.{Labels, Place, place, Before}
use Rattle.dsec_spec.specs.Records.{Record}
use Rattle.dsec_spec.specs.Zones.{each_type}
use Rattle.dsec_spec.specs.ZonesOfRecords.{is_own, is_delegation, set_key, zone_of}
use Rattle.dsec_spec.specs.OwnersInside.{IsWritten, Inside, AreInside, Owner, owner_place, owner_sets, AreOwners, types_inside}
use Rattle.dsec_spec.proofs.Members.{first_in, later_in, from_filter}
use Rattle.dsec_spec.proofs.Choosing.{pairs_map}
use Rattle.dsec_spec.proofs.InsideLaws.{sets_inside}

-- an owner inside, as an owner of the zone
abbrev pub owner_inside : Inside → Owner
owner_inside o = record { name = o.name; types = types_inside o }

-- whether a type stands at it
abbrev pub has_own : Inside → Bool
has_own o = list_any (is_own o.cut) o.records

-- the owners of the zone
abbrev pub typed_of : List Inside → List Owner
typed_of all = map owner_inside (filter has_own all)

keyed : (name : Labels) (xs : List Record) → ((r : Record) → Contains xs r → place r.owner ≡ place name) → map set_key xs ≡ each_type (map (λ r. r.rtype) xs) (place name)
keyed name [] h = refl
keyed name (x ∷ xs) h =
    ap (λ (p : Place). (p, x.rtype) ∷ map set_key xs) (h x (first_in x xs))
    ∙ ap (λ (ys : List (Place × ℕ)). (place name, x.rtype) ∷ ys) (keyed name xs (λ r g. h r (later_in x r xs g)))

-- a test that passes nowhere chooses nothing
none_chosen : {A : Type 0} (test : A → Bool) (xs : List A) → list_any test xs ≡ false → filter test xs ≡ []
none_chosen test [] h = refl
none_chosen test (x ∷ xs) h = by (none_chosen test xs) (test x) h
  where
    by : (list_any test xs ≡ false → filter test xs ≡ []) → (b : Bool) → (b || list_any test xs) ≡ false → cond b (x ∷ filter test xs) (filter test xs) ≡ []
    by others true g = absurd (true≢false g)
    by others false g = others g

-- one that passes somewhere chooses something
some_chosen : {A B : Type 0} (f : A → B) (test : A → Bool) (xs : List A) → list_any test xs ≡ true → map f (filter test xs) ≡ [] → ⊥
some_chosen f test [] h e = true≢false (sym h)
some_chosen f test (x ∷ xs) h e = by (some_chosen f test xs) (test x) h e
  where
    by : (list_any test xs ≡ true → map f (filter test xs) ≡ [] → ⊥) → (b : Bool) → (b || list_any test xs) ≡ true → map f (cond b (x ∷ filter test xs) (filter test xs)) ≡ [] → ⊥
    by others true g q = absurd cc
    by others false g q = others g q

all_keys : (all : List Inside) → ((o : Inside) → Contains all o → (r : Record) → Contains o.records r → place r.owner ≡ place o.name)
    → map set_key (flat_map (λ (o : Inside). filter (is_own o.cut) o.records) all) ≡ flat_map owner_sets (typed_of all)
all_keys [] mine = refl
all_keys (o ∷ all) mine =
    map-append set_key (filter (is_own o.cut) o.records) (flat_map (λ (p : Inside). filter (is_own p.cut) p.records) all)
    ∙ (ap (λ (xs : List (Place × ℕ)). map set_key (filter (is_own o.cut) o.records) ++ xs) (all_keys all (λ p h. mine p (later_in o p all h)))
    ∙ by (has_own o) refl)
  where
    by : (b : Bool) → has_own o ≡ b → map set_key (filter (is_own o.cut) o.records) ++ flat_map owner_sets (typed_of all) ≡ flat_map owner_sets (map owner_inside (cond b (o ∷ filter has_own all) (filter has_own all)))
    by true e =
        ap (λ (xs : List (Place × ℕ)). xs ++ flat_map owner_sets (typed_of all))
        (keyed o.name (filter (is_own o.cut) o.records) (λ r g. mine o (first_in o all) r (from_filter (is_own o.cut) o.records r g).1))
    by false e = ap (λ (xs : List Record). map set_key xs ++ flat_map owner_sets (typed_of all)) (none_chosen (is_own o.cut) o.records e)

pub inside_are_owners : (apex : Place) (records : List Record) (all : List Inside) → AreInside apex records all → AreOwners (zone_of apex records) (typed_of all)
inside_are_owners apex records all are = record {
  sets = sets_inside apex records all are
      ∙ all_keys all (λ o h. (All-contains (λ (o : Inside). (o.cut ≡ is_delegation apex records (place o.name)) × ((r : Record) → Contains o.records r → place r.owner ≡ place o.name)) all o are.each h).1);
  rise = pairs_map (λ (o p : Owner). Before (owner_place o) (owner_place p)) owner_inside (filter has_own all)
      (AllPairs-filter (λ (o p : Inside). Before (place o.name) (place p.name)) has_own all are.rise);
  typed = All-map (λ (o : Owner). o.types ≢ []) owner_inside (filter has_own all)
      (All-weaker (λ (o : Inside). has_own o ≡ true) (λ (o : Inside). types_inside o ≢ [])
      (λ o h. some_chosen (λ (r : Record). r.rtype) (is_own o.cut) o.records h) (filter has_own all) (filter_passes has_own all));
}

-- and their names are written as the records write them
pub owners_written : (apex : Place) (records : List Record) (all : List Inside) → AreInside apex records all → All (λ (o : Owner). IsWritten records o.name) (typed_of all)
owners_written apex records all are =
    All-map (λ (o : Owner). IsWritten records o.name) owner_inside (filter has_own all) (All-filter has_own (λ (o : Inside). IsWritten records o.name) all are.written)
