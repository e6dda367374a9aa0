-- The zone that records make (RFC 1034 4.2, RFC 4034 4, RFC 4035 2, RFC 5155 7.1).
use Rattle.std.specs.Prelude.{ℕ, ◌==◌, ◌&&◌, ◌||◌, List, map, filter, Bool}
use Rattle.std.proofs.Math.Bool.{not}
use Rattle.std.specs.List.{list_any}
use Rattle.dsec_spec.specs.Names.{Place, place, same_place, is_below, is_strictly_below}
use Rattle.dsec_spec.specs.Numbers.{NS, SOA, DS, NSEC, NSEC3, RRSIG}
use Rattle.dsec_spec.specs.Records.{Record}
use Rattle.dsec_spec.specs.Groups.{grouped_type}
use Rattle.dsec_spec.specs.Zones.{Zone}

-- whether the record cuts a zone of its own off: NS below the apex
abbrev pub is_cut : Place → Record → Bool
is_cut apex r = (r.rtype == NS) && is_strictly_below (place r.owner) apex

-- whether a delegation stands at the name
abbrev pub is_delegation : Place → List Record → Place → Bool
is_delegation apex records n = list_any (λ r. is_cut apex r && same_place (place r.owner) n) records

-- whether a delegation stands strictly above the name
abbrev pub is_cut_off : Place → List Record → Place → Bool
is_cut_off apex records n = list_any (λ r. is_cut apex r && is_strictly_below n (place r.owner)) records

-- whether the name is at or below the apex, and not strictly below a delegation
abbrev pub is_inside : Place → List Record → Place → Bool
is_inside apex records n = is_below n apex && not (is_cut_off apex records n)

-- whether the type is the zone's own at a delegation (RFC 4035 2.3, RFC 5155 7.1)
abbrev pub is_at_cuts : ℕ → Bool
is_at_cuts t = (t == NS) || ((t == DS) || ((t == NSEC) || (t == RRSIG)))

-- whether the record is of the chain of hashes: NSEC3, or a signature over it; it is of no name of the zone (RFC 5155 7.1)
abbrev pub is_of_hashes : Record → Bool
is_of_hashes r = grouped_type r == NSEC3

-- whether the record's type stands at its owner, where that is a delegation or isn't
abbrev pub is_own : Bool → Record → Bool
is_own cut r = not (is_of_hashes r) && (not cut || is_at_cuts r.rtype)

-- whether the record's type stands in the zone
abbrev pub is_of_zone : Place → List Record → Record → Bool
is_of_zone apex records r = is_inside apex records (place r.owner) && is_own (is_delegation apex records (place r.owner)) r

-- a record's owner and type
abbrev pub set_key : Record → Place × ℕ
set_key r = (place r.owner, r.rtype)

-- the zone that the records make: the names at or below the apex and not strictly below a delegation, with their types, at a delegation
-- those alone that are the zone's own
abbrev pub zone_of : Place → List Record → Zone
zone_of apex records = record { apex = apex; sets = map set_key (filter (is_of_zone apex records) records) }

-- whether the record says where the zone's authority starts
abbrev pub is_soa_at : Place → Record → Bool
is_soa_at apex r = (r.rtype == SOA) && same_place (place r.owner) apex

-- the records that say so
abbrev pub soas_at : Place → List Record → List Record
soas_at apex records = filter (is_soa_at apex) records
