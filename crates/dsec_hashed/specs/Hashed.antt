-- The names that a zone hashes, in the order of their hashes.
use Rattle.std.specs.Prelude.{◌≡◌, ◌↔◌, ℕ, ◌<◌, nat_eq, List, [], ◌∷◌, length, get_or, map, Bool, false, ◌||◌, All, AllPairs, Contains}
use Rattle.std.specs.List.{list_any}
use Rattle.std.specs.Str.{bytes_eq}
use Rattle.std.specs.Cmp.Lexicographic.{slice_cmp}
use Rattle.std.specs.Ordering.{nat_cmp, is_lt}
use Rattle.dsec_spec.specs.Names.{Place, place}
use Rattle.dsec_spec.specs.Records.{Record}
use Rattle.dsec_spec.specs.RecordViews.{Hashing}
use Rattle.dsec_spec.specs.OwnersInside.{Inside}
use Rattle.dsec_spec.specs.ZonesOfRecords.{zone_of}
use Rattle.dsec_spec.specs.HashedNames.{has_opt_out, IsHashed, types_at, hashed_zone}
use Rattle.dsec_hashed.specs.HashedTypes.{Standing, hashed_as, hashed_types}

-- where a name stands
abbrev pub place_of : Inside → Place
place_of o = place o.name

-- nothing stands twice in the list
abbrev pub AreDistinct : {X : Type 0} → List X → Type 0
AreDistinct {X} xs = (i j : ℕ) (d : X) → i < length xs → j < length xs → get_or xs i d ≡ get_or xs j d → i ≡ j

-- these are the names that the zone hashes, each once, with the types that their NSEC3 records name, and no hash is before an earlier one
pub record AreHashed (how : Hashing) (apex : Place) (records : List Record) (standing : List Standing) : Type 0 where
  pub named : List Inside
  pub is : standing ≡ map (hashed_as how) named
  pub are : (n : Place) → Contains (map place_of named) n ↔ IsHashed (has_opt_out how) (zone_of apex records) n
  pub once : AreDistinct (map place_of named)
  pub types : All (λ (o : Inside). (t : ℕ) → list_any (nat_eq t) (hashed_types apex (hashed_as how o)) ≡ list_any (nat_eq t) (types_at (hashed_zone apex records) (place o.name))) named
  pub rise : AllPairs (λ (a b : Standing). is_lt (slice_cmp nat_cmp b.hash a.hash) ≡ false) standing

-- whether the first has this hash
abbrev pub begins_with : List ℕ → List Standing → Bool
begins_with hash [] = false
begins_with hash (one ∷ standing) = bytes_eq hash one.hash

-- whether the first two have one hash
abbrev pub first_twins : List Standing → Bool
first_twins [] = false
first_twins (one ∷ standing) = begins_with one.hash standing

-- whether two that stand side by side have one hash
unfoldable pub has_twins : List Standing → Bool
has_twins [] = false
has_twins (one ∷ standing) = begins_with one.hash standing || has_twins standing
