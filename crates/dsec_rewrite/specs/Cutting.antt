-- TTLs that are cut, and what groups leave in a section (RFC 2181 5.2, RFC 4035 5.3.3).
use Rattle.std.specs.Prelude.{ℕ, min, Bool, false, ◌||◌, List, [], ◌++◌, map, Option, Some, None}
use Rattle.std.specs.List.{flat_map, list_any}
use Rattle.std.specs.Option.{is_some}
use Rattle.dsec_spec.specs.Groups.{Group}
use Rattle.dsec_spec.specs.Records.{Record}

-- a group, and the TTL that those of its records are cut to, where they are (RFC 4035 5.3.3)
pub record Bounded : Type 0 where
  pub group : Group
  pub bound : Option ℕ

-- a TTL, no greater than the bound where there is one (RFC 4035 5.3.3)
abbrev pub cut_ttl : Option ℕ → ℕ → ℕ
cut_ttl None ttl = ttl
cut_ttl (Some bound) ttl = min ttl bound

-- a record with its TTL cut
abbrev pub cut : Option ℕ → Record → Record
cut bound r = record { owner = r.owner; class = r.class; rtype = r.rtype; ttl = cut_ttl bound r.ttl; rdata = r.rdata }

-- a group with the TTLs of all its records cut, and no duplicate left (RFC 2181 5, RFC 4035 5.3.3)
abbrev pub cut_group : Bounded → Group
cut_group b = record {
  owner = b.group.owner;
  class = b.group.class;
  rtype = b.group.rtype;
  records = map (cut b.bound) b.group.records;
  signatures = map (cut b.bound) b.group.signatures;
  extra = map (cut b.bound) b.group.extra;
  had_duplicate = false;
}

-- a group as it is left, with nothing more to cut
abbrev pub as_left : Bounded → Bounded
as_left b = record { group = cut_group b; bound = None }

-- what a group leaves in its section: its records, its signatures, and the CNAME records that follow from it
abbrev pub members : Group → List Record
members g = g.records ++ g.signatures ++ g.extra

-- the records of a section, group after group, their TTLs cut
abbrev pub section_of : List Bounded → List Record
section_of groups = flat_map (λ b. members (cut_group b)) groups

-- whether the group's records differ from those that came: their TTLs are cut, or there were duplicates (RFC 2181 5, RFC 4035 5.3.3)
abbrev pub is_changed : Bounded → Bool
is_changed b = is_some b.bound || b.group.had_duplicate

-- whether a rewriting is due: a group of the answer or authority section is changed
abbrev pub is_due : List Bounded → List Bounded → Bool
is_due answers authorities = list_any is_changed answers || list_any is_changed authorities
