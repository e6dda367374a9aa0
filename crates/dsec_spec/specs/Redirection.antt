-- DNAME records, and the CNAME records that servers make for them (RFC 6672 2.2, 3.1).
use Rattle.std.specs.Prelude.{ℕ, suc, ◌-◌, ◌==◌, ◌&&◌, ◌||◌, nat_lt, List, [], ◌∷◌, ◌++◌, length, take, filter, count_by, flat_map, Bool, false, Option, Some, None, if◌then◌else◌}
use Rattle.std.specs.List.{list_any}
use Rattle.std.specs.Option.{is_some}
use Rattle.std.proofs.Math.Bool.{not}
use Rattle.dsec_spec.specs.Groups.{Group}
use Rattle.dsec_spec.specs.Names.{Labels, Place, place, same_place, is_below, is_strictly_below, wire_length}
use Rattle.dsec_spec.specs.Numbers.{CNAME, DNAME}
use Rattle.dsec_spec.specs.Reading.{◌>>=◌}
use Rattle.dsec_spec.specs.Records.{Record}
use Rattle.dsec_spec.specs.RecordViews.{target_of}

-- labels as a name, where they have at most 255 octets on the wire (RFC 1035 2.3.4)
abbrev pub fitting : Labels → Option Labels
fitting labels = if nat_lt 255 (wire_length labels) then None else Some labels

-- what a DNAME record maps a name below its owner to: the labels before the owner's, and then the target's, where this is a
-- name (RFC 6672 2.2)
abbrev pub map_dname : Labels → Labels → Labels → Option Labels
map_dname owner target name = fitting (take (length name - length owner) name ++ target)

-- what a DNAME record says of a CNAME record
pub data Mapping : Type 0 where
  -- nothing: it doesn't map its owner, or to another name than its target
  silent : Mapping
  -- it maps its owner to its target
  agrees : Mapping
  -- it maps its owner to more than 255 octets
  too_long : Mapping

-- the same, by the name that the CNAME's owner is mapped to, and its target
abbrev pub mapping_to : Option Labels → Labels → Mapping
mapping_to None alias = too_long
mapping_to (Some name) alias = if same_place (place name) (place alias) then agrees else silent

-- the same, by the owners and the targets of the DNAME and of the CNAME
abbrev pub mapping_by : Labels → Option Labels → Labels → Option Labels → Mapping
mapping_by owner (Some target) name (Some alias) =
    if is_strictly_below (place name) (place owner) then mapping_to (map_dname owner target name) alias else silent
mapping_by owner _ name _ = silent

abbrev pub mapping : Record → Record → Mapping
mapping cname dname = mapping_by dname.owner (target_of dname.rdata) cname.owner (target_of cname.rdata)

-- the first, unless it is silent, and then the second
abbrev pub first_said : Mapping → Mapping → Mapping
first_said silent m = m
first_said agrees m = agrees
first_said too_long m = too_long

-- what the first of the records that isn't silent says of a CNAME record
unfoldable pub said_by : Record → List Record → Mapping
said_by cname [] = silent
said_by cname (dname ∷ others) = first_said (mapping cname dname) (said_by cname others)

-- whether an anchor stands between a name and one above it: at or above the name, and strictly below the other. From there the name's
-- records are judged, and nothing above speaks for them (RFC 4033 2, island of security)
abbrev pub stands_between : List Record → Place → Place → Bool
stands_between anchors name above = list_any (λ anchor. is_below name (place anchor.owner) && is_strictly_below (place anchor.owner) above) anchors

-- what a group says of a CNAME record: nothing, unless it is of DNAME records of its class, and no anchor stands between (RFC 6672 5.3.1)
abbrev pub group_says : List Record → Record → Group → Mapping
group_says anchors cname g =
    if (g.rtype == DNAME) && (g.class == cname.class) && not (stands_between anchors (place cname.owner) (place g.owner)) then said_by cname g.records
    else silent

-- the index of a group, by what it says and by the groups after it
abbrev pub index_by : ℕ → Mapping → Option ℕ → Option ℕ
index_by n silent later = later
index_by n agrees later = Some n
index_by n too_long later = None

-- the index of the group that a CNAME record follows from: of the first that isn't silent, where that maps its owner to its target;
-- the index of the first of these groups is given
unfoldable pub followed_from : List Record → Record → ℕ → List Group → Option ℕ
followed_from anchors cname n [] = None
followed_from anchors cname n (g ∷ gs) = index_by n (group_says anchors cname g) (followed_from anchors cname (suc n) gs)

-- the one record, if there is one and no signature
abbrev pub bare_record : List Record → List Record → Option Record
bare_record (r ∷ []) [] = Some r
bare_record _ _ = None

-- the record of a bare alias: a group of one CNAME record, without a signature
abbrev pub bare_alias : Group → Option Record
bare_alias g = if g.rtype == CNAME then bare_record g.records g.signatures else None

-- whether the group is a bare alias
abbrev pub is_bare : Group → Bool
is_bare g = is_some (bare_alias g)

-- the index of the group that a bare alias follows from
abbrev pub followed : List Record → List Group → Group → Option ℕ
followed anchors groups g = bare_alias g >>= λ cname. followed_from anchors cname 0 groups

-- whether an index is this one
abbrev pub is_index : ℕ → Option ℕ → Bool
is_index n None = false
is_index n (Some m) = m == n

-- the bare aliases that follow from the group at an index, in order
abbrev pub followers : List Record → List Group → ℕ → List Group
followers anchors groups n = filter (λ g. is_index n (followed anchors groups g)) groups

-- a group with the records of its followers as extra records, and marked where one of them had duplicates
abbrev pub with_followers : Group → List Group → Group
with_followers g others = record {
  owner = g.owner;
  class = g.class;
  rtype = g.rtype;
  records = g.records;
  signatures = g.signatures;
  extra = g.extra ++ flat_map (λ other. other.records) others;
  had_duplicate = g.had_duplicate || list_any (λ other. other.had_duplicate) others;
}

-- a group of these as it stays: not at all, if it follows from another, and otherwise with its followers
abbrev pub stays : List Record → List Group → ℕ → Group → List Group
stays anchors groups n g = if is_some (followed anchors groups g) then [] else with_followers g (followers anchors groups n) ∷ []

-- the last of the groups as they stay, where the first of these has this index
unfoldable pub staying_from : List Record → List Group → ℕ → List Group → List Group
staying_from anchors groups n [] = []
staying_from anchors groups n (g ∷ gs) = stays anchors groups n g ++ staying_from anchors groups (suc n) gs

-- whether there are more bare aliases than may be followed
abbrev pub has_too_many : ℕ → List Group → Bool
has_too_many limit groups = nat_lt limit (count_by is_bare groups)

-- the groups of a section, each bare alias moved to the group that it follows from, if no anchor stands between; none where there are too many
-- of them
abbrev pub moved : List Record → ℕ → List Group → Option (List Group)
moved anchors limit groups = if has_too_many limit groups then None else Some (staying_from anchors groups 0 groups)
