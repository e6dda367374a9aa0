-- Which sets of a zone are signed (RFC 4035 2.2, 2.3, RFC 5155 7.1).
use Rattle.std.specs.Prelude.{ℕ, ◌==◌, ◌&&◌, ◌||◌, List, filter, Bool}
use Rattle.std.proofs.Math.Bool.{not}
use Rattle.dsec_spec.specs.Names.{Place, place, same_place}
use Rattle.dsec_spec.specs.Numbers.{DS, NSEC, RRSIG, DNSKEY, CDS, CDNSKEY}
use Rattle.dsec_spec.specs.Records.{Record}
use Rattle.dsec_spec.specs.ZonesOfRecords.{is_delegation, is_inside}

-- whether a set of the type at the apex is of the zone's keys, which whoever has these signs apart (RFC 4035 2.2, RFC 7344 4.1)
abbrev pub is_of_keys : ℕ → Bool
is_of_keys t = (t == DNSKEY) || ((t == CDS) || (t == CDNSKEY))

-- whether the type is signed at a delegation (RFC 4035 2.2, 2.3, 2.4)
abbrev pub is_signed_at_cuts : ℕ → Bool
is_signed_at_cuts t = (t == DS) || (t == NSEC)

-- whether the set of a record inside the zone is signed, where its owner is a delegation or isn't: signatures aren't, nor what belongs to
-- the zone below a delegation
abbrev pub is_signed : Place → Bool → Record → Bool
is_signed apex cut r =
    not (r.rtype == RRSIG) && (not (same_place (place r.owner) apex && is_of_keys r.rtype) && (not cut || is_signed_at_cuts r.rtype))

-- whether the record's set is signed in the zone that the records make
abbrev pub is_to_sign : Place → List Record → Record → Bool
is_to_sign apex records r = is_inside apex records (place r.owner) && is_signed apex (is_delegation apex records (place r.owner)) r

-- the records whose sets are signed
abbrev pub to_sign : Place → List Record → List Record
to_sign apex records = filter (is_to_sign apex records) records
