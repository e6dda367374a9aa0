-- Groups by the key that their records share.
use Rattle.std.specs.Prelude.{◌≡◌, ℕ, ◌==◌, ◌&&◌, List, take, slice_get, map, Bool, false, Option, Some, None}
use Rattle.std.specs.Option.{option_map}
use Rattle.std.specs.List.{list_any}
use Rattle.std.specs.Str.{bytes_eq}
use Rattle.dsec_spec.specs.Names.{canonical_octets}
use Rattle.dsec_spec.specs.Records.{Record}
use Rattle.dsec_spec.specs.Groups.{Group, grouped_type}
use Rattle.dsec_group.specs.Adding.{leader_in}

-- what the records of one group share: the owner's canonical octets (RFC 4034 6.2), the class, and the type that they are grouped by
pub record GroupKey : Type 0 where
  pub owner : List ℕ
  pub class : ℕ
  pub rtype : ℕ

-- whether two keys are of one owner, class and type
abbrev pub same_key : GroupKey → GroupKey → Bool
same_key k x = bytes_eq k.owner x.owner && ((k.class == x.class) && (k.rtype == x.rtype))

-- the key of a record's group
abbrev pub key_of : Record → GroupKey
key_of r = record { owner = canonical_octets r.owner; class = r.class; rtype = grouped_type r }

-- the key of the group of these records and signatures, where there is one
abbrev pub key_among : List Record → List Record → Option GroupKey
key_among records signatures = option_map key_of (leader_in records signatures)

-- a group's key
abbrev pub group_key : Group → Option GroupKey
group_key g = key_among g.records g.signatures

-- whether a group's key is this one
abbrev pub is_key : GroupKey → Option GroupKey → Bool
is_key k None = false
is_key k (Some x) = same_key k x

-- the keys are those of the groups
abbrev pub AreKeys : List GroupKey → List Group → Type 0
AreKeys keys groups = map (λ k. Some k) keys ≡ map group_key groups

-- whether one of the groups has this key
abbrev pub has_key : GroupKey → List Group → Bool
has_key k groups = list_any (λ g. is_key k (group_key g)) groups

-- none of the groups has this one's key
abbrev pub HasFreshKey : Group → List Group → Type 0
HasFreshKey g groups = (k : GroupKey) → group_key g ≡ Some k → has_key k groups ≡ false

-- no two groups have the same key
abbrev pub AreDistinct : List Group → Type 0
AreDistinct groups = (i : ℕ) (g : Group) → slice_get groups i ≡ Some g → HasFreshKey g (take i groups)
