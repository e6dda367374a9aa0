-- What an NSEC3 record that counts shows of a name, as tests (RFC 5155 1.3, 8.3 to 8.8, RFC 6840 4.1, 4.3).
use Rattle.std.specs.Prelude.{ℕ, ◌&&◌, ◌||◌, List, Bool, if◌then◌else◌}
use Rattle.std.proofs.Math.Bool.{not}
use Rattle.std.specs.Str.{bytes_eq}
use Rattle.std.specs.Ordering.{nat_cmp, is_lt}
use Rattle.std.specs.Cmp.Lexicographic.{slice_cmp}
use Rattle.dsec_cause.specs.declared.cause.Cause.TheVariants.{Nsec3ProvesType, Nsec3FromApexForDs, Nsec3FromParent}
use Rattle.dsec_spec.specs.Names.{Place}
use Rattle.dsec_spec.specs.Numbers.{NS, CNAME, SOA, DNAME}
use Rattle.dsec_spec.specs.DenyingRecords.{Nsec3At, has_hashed, hashed_by}
use Rattle.dsec_absence.specs.Tests.{Shown, refutes, denies, is_ds_above}

-- whether a hash is before another (RFC 5155 1.3, hash order)
abbrev pub is_hash_before : List ℕ → List ℕ → Bool
is_hash_before x y = is_lt (slice_cmp nat_cmp x y)

-- whether x is strictly inside the arc from a to b of the circle of hashes: the test of `IsBetween`
abbrev pub is_between : List ℕ → List ℕ → List ℕ → Bool
is_between a b x =
    if is_hash_before a b then is_hash_before a x && is_hash_before x b else is_hash_before a x || is_hash_before x b

-- whether the record matches the name (RFC 5155 1.3)
abbrev pub matches_hash : Nsec3At → Place → Bool
matches_hash r n = bytes_eq (hashed_by r n) r.owner_hash

-- whether the record covers the name (RFC 5155 1.3)
abbrev pub covers_hash : Nsec3At → Place → Bool
covers_hash r n = is_between r.owner_hash r.says.next_owner (hashed_by r n)

-- whether a record is the zone's above a delegation (RFC 6840 4.1, an ancestor delegation)
abbrev pub is_hashed_cut : Nsec3At → Bool
is_hashed_cut r = has_hashed r NS && not (has_hashed r SOA)

-- whether a record is of a zone's apex
abbrev pub is_hashed_apex : Nsec3At → Bool
is_hashed_apex r = has_hashed r NS && has_hashed r SOA

-- whether names below the record's own may be denied beside it: it has no DNAME, and NS with SOA alone (RFC 5155 8.3, RFC 6840 4.1)
abbrev pub is_plain : Nsec3At → Bool
is_plain r = not (has_hashed r DNAME) && not (is_hashed_cut r)

-- what the record that matches a name shows of a type there (RFC 5155 8.5, 8.6, RFC 6840 4.1, 4.3)
abbrev pub own_hash_shows : Nsec3At → Place → ℕ → Shown (Unit {0})
own_hash_shows r n q =
    if has_hashed r q || has_hashed r CNAME then refutes Nsec3ProvesType else
    if is_ds_above n q then (if is_hashed_apex r then refutes Nsec3FromApexForDs else denies tt) else
    if is_hashed_cut r then refutes Nsec3FromParent else denies tt

-- whether a record with DNAME is the signer's own: then it says nothing of names below, which the DNAME redirects (RFC 6840 4.1)
abbrev pub is_own_dname : Place → Nsec3At → Bool
is_own_dname signer r = has_hashed r DNAME && matches_hash r signer
