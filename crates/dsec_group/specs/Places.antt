-- Where the groups of a section are found.
use Rattle.std.specs.Prelude.{◌≡◌, ℕ, List, map, nat_eq, Bool, true, false, Option, Some, None, is_some}
use Rattle.std.specs.Int.{w16, to_be_bytes}
use Rattle.std.specs.List.{AllByRecursion, IsDistinct}
use Rattle.indexmap.specs.IndexMap.{IndexMap, get, hasher_of}
use Rattle.dsec_spec.specs.Groups.{Group}
use Rattle.dsec_group.specs.Hashing.{begun, written}
use Rattle.dsec_group.specs.Keys.{AreKeys, GroupKey, group_key, same_key}
use Rattle.dsec_group.specs.declared.places.Places.{Places}
use Rattle.dsec_group.specs.declared.seed.Seed.{Seed}

-- the hash of a group's key: of its owner's octets, its class and its type, one after the other
abbrev pub key_hash : Seed → GroupKey → ℕ
key_hash seed k = (written (written (written (begun seed) k.owner) (to_be_bytes w16 k.class)) (to_be_bytes w16 k.rtype)).state

-- a group's key has a place by its hash
abbrev pub HasPlace : IndexMap ℕ ℕ Seed → Option GroupKey → Type 0
HasPlace places (Some k) = is_some (get nat_eq places (key_hash (hasher_of places) k)) ≡ true
HasPlace places None = Unit {0}

-- each of the keys of groups has a place
abbrev pub Knows : IndexMap ℕ ℕ Seed → List (Option GroupKey) → Type 0
Knows places keys = AllByRecursion (HasPlace places) keys

-- the same, once places are made
abbrev pub KnowsOnce : Bool → IndexMap ℕ ℕ Seed → List (Option GroupKey) → Type 0
KnowsOnce true places keys = Knows places keys
KnowsOnce false places keys = Unit {0}

abbrev pub KnowsGroups : Places → List (Option GroupKey) → Type 0
KnowsGroups it keys = KnowsOnce it.is_made it.places keys

-- no two of the groups have the same key
abbrev pub AreApart : List Group → Type 0
AreApart groups = (keys : List GroupKey) × AreKeys keys groups × IsDistinct same_key keys

-- groups, and the seed that their keys are hashed by
pub record SeededGroups : Type 0 where
  pub groups : List Group
  pub seed : Seed

-- what the keys of groups are hashed by: the hasher of their places
abbrev pub seed_of : Places → Seed
seed_of it = hasher_of it.places

-- no two of the groups have the same key, and each has its place
abbrev pub AreKept : Places → List Group → Type 0
AreKept it groups = AreApart groups × KnowsGroups it (map group_key groups)
