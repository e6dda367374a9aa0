-- What NSEC3 records show of a name without a DS set (RFC 5155 8.1, 8.2, 8.9, RFC 6840 4.1, 4.4, RFC 9276 3.2).
use Rattle.std.specs.Prelude.{ℕ, ◌==◌, ◌&&◌, ◌||◌, nat_lt, List, [], ◌∷◌, Bool, false, Option, Some, None, if◌then◌else◌}
use Rattle.std.specs.Str.{bytes_eq}
use Rattle.std.proofs.Math.Bool.{not}
use Rattle.dsec_spec.specs.Names.{Labels, Place, place, same_place}
use Rattle.dsec_spec.specs.Numbers.{IN, NS, SOA, DS, NSEC3, DNAME}
use Rattle.dsec_spec.specs.Records.{Record, Key}
use Rattle.dsec_spec.specs.RecordViews.{Nsec3}
use Rattle.dsec_spec.specs.TypeBitmaps.{has_type}
use Rattle.dsec_spec.specs.Base32hex.{octets_in_base32hex}
use Rattle.dsec_spec.specs.DenyingRecords.{hash_by}
use Rattle.dsec_spec.specs.HashedNames.{has_opt_out}
use Rattle.dsec_spec.specs.Groups.{Group}
pub use Rattle.dsec_nsec3.specs.Tests.{is_between}
pub use Rattle.dsec_nsec3.specs.Counting.{only_nsec3}
use Rattle.dsec_nodes.specs.World.{World, Bounds}
use Rattle.dsec_nodes.specs.Causes.{Nsec3IterationsTooHigh, Nsec3UnsupportedAlgorithm, Nsec3BadOwnerHash, Nsec3FromWrongZone, Nsec3ProvesDs, Nsec3ForDsFromApex, Nsec3ProvesNameMissingForDs}
use Rattle.dsec_nodes.specs.Nodes.{Node, nsec3_without_ds, nsec3_opts_out, nsec3_iterates}
use Rattle.dsec_nodes.specs.Signing.{under_keys, is_expanded}
use Rattle.dsec_nodes.specs.Looking.{Looked, decided, passed, bogus_at, within_by, insecure_by, if_signed, looked_among}

-- an NSEC3 record that matches the name: with DS or SOA it is none of a delegation without DS; with NS it is, and else the name is within
-- the zone; an expansion of a wildcard says nothing (RFC 5155 8.9, RFC 6840 4.4)
abbrev pub by_own_hash : World → Node → List (List ℕ) → Place → Group → Nsec3 → Record × Key → Looked
by_own_hash w zone keys name group nsec3 p =
    if is_expanded group p.0 then passed None else
    if has_type nsec3.types DS then decided (bogus_at w name Nsec3ProvesDs) else
    if has_type nsec3.types SOA then decided (bogus_at w name Nsec3ForDsFromApex) else
    if has_type nsec3.types NS then decided (insecure_by w zone keys name None nsec3_without_ds group p) else decided (within_by w zone keys name group p)

-- whether an NSEC3 record is that of the zone's own name, and has DNAME: then what is below the zone's name is redirected, and no delegation
-- stands there (RFC 6672 2.4, RFC 6840 4.1)
abbrev pub redirects : Place → List ℕ → Nsec3 → Bool
redirects zone owner_hash nsec3 = has_type nsec3.types DNAME && bytes_eq (hash_by nsec3.hashing zone) owner_hash

-- an NSEC3 record that covers the name: without Opt-Out the name is missing, with it no chain leads there; an expansion of a wildcard says
-- nothing, and nor does one that redirects what is below the zone's name (RFC 5155 6, 8.9)
abbrev pub by_hash_gap : World → Node → List (List ℕ) → Place → Group → Nsec3 → Bool → Record × Key → Looked
by_hash_gap w zone keys name group nsec3 redirected p =
    if is_expanded group p.0 then passed None else
    if not (has_opt_out nsec3.hashing) then decided (bogus_at w name Nsec3ProvesNameMissingForDs) else
    if redirected then passed None else decided (insecure_by w zone keys name None nsec3_opts_out group p)

-- an NSEC3 record by the hash that its label writes: it matches the name, covers it, or says nothing of it (RFC 5155 1.3)
abbrev pub by_hashes : World → Node → List (List ℕ) → Place → Group → Nsec3 → List ℕ → List ℕ → Looked
by_hashes w zone keys name group nsec3 owner_hash hash =
    if bytes_eq hash owner_hash then if_signed w name (under_keys w zone.signer keys group) (by_own_hash w zone keys name group nsec3) else
    if is_between owner_hash nsec3.next_owner hash
    then if_signed w name (under_keys w zone.signer keys group) (by_hash_gap w zone keys name group nsec3 (redirects zone.signer owner_hash nsec3))
    else passed None

-- a label that writes no hash shows nothing (RFC 5155 3.3)
abbrev pub by_owner_hash : World → Node → List (List ℕ) → Place → Group → Nsec3 → Option (List ℕ) → Looked
by_owner_hash w zone keys name group nsec3 None = passed (Some Nsec3BadOwnerHash)
by_owner_hash w zone keys name group nsec3 (Some owner_hash) = by_hashes w zone keys name group nsec3 owner_hash (hash_by nsec3.hashing name)

-- an NSEC3 record of more iterations than are followed: no chain leads to the name, or it is bogus where they are too many; an expansion of a
-- wildcard says nothing (RFC 9276 3.2)
abbrev pub by_iterations : World → Node → List (List ℕ) → Place → Group → Bool → Record × Key → Looked
by_iterations w zone keys name group too_many p =
    if is_expanded group p.0 then passed None else
    if too_many then decided (bogus_at w name Nsec3IterationsTooHigh)
    else decided (insecure_by w zone keys name (Some Nsec3IterationsTooHigh) nsec3_iterates group p)

-- whether an NSEC3 record has too many iterations, and whether it has more than are followed (RFC 9276 3.2)
abbrev pub has_too_many : Bounds → Nsec3 → Bool
has_too_many bounds nsec3 = nat_lt bounds.iterations_bogus nsec3.hashing.iterations

abbrev pub has_many : Bounds → Nsec3 → Bool
has_many bounds nsec3 = has_too_many bounds nsec3 || nat_lt bounds.iterations_insecure nsec3.hashing.iterations

-- the hash that an owner's first label writes (RFC 5155 3.3)
abbrev pub owner_hash_in : Labels → Option (List ℕ)
owner_hash_in [] = None
owner_hash_in (label ∷ above) = octets_in_base32hex label

-- an NSEC3 record of the zone, by how it hashes: algorithm 1 alone counts (RFC 5155 8.1)
abbrev pub by_hashing : World → Node → List (List ℕ) → Place → Group → Nsec3 → Looked
by_hashing w zone keys name group nsec3 =
    if not (nsec3.hashing.hash_algorithm == 1) then passed (Some Nsec3UnsupportedAlgorithm) else
    if has_many w.bounds nsec3 then if_signed w name (under_keys w zone.signer keys group) (by_iterations w zone keys name group (has_too_many w.bounds nsec3))
    else by_owner_hash w zone keys name group nsec3 (owner_hash_in group.owner)

-- whether an owner is a label before this place (RFC 5155 3)
abbrev pub is_label_before : Place → Labels → Bool
is_label_before zone [] = false
is_label_before zone (label ∷ above) = same_place (place above) zone

-- what an NSEC3 record shows, if there is one: one with another flag than Opt-Out is passed over, and one of another zone doesn't count
-- (RFC 5155 3, 8.2)
abbrev pub by_nsec3 : World → Node → List (List ℕ) → Place → Group → Option Nsec3 → Looked
by_nsec3 w zone keys name group None = passed None
by_nsec3 w zone keys name group (Some nsec3) =
    if nat_lt 1 nsec3.hashing.flags then passed None else
    if is_label_before zone.signer group.owner then by_hashing w zone keys name group nsec3 else passed (Some Nsec3FromWrongZone)

-- the data of a group's NSEC3 record: only a group of class IN and type NSEC3 has one, and one of two records none, since an owner has one
-- (RFC 5155 3, 7.1)
abbrev pub nsec3_in : Group → Option Nsec3
nsec3_in group = if (group.rtype == NSEC3) && (group.class == IN) then only_nsec3 group.records else None

-- what a group shows (RFC 5155 8.9)
abbrev pub by_hashed_group : World → Node → List (List ℕ) → Place → Group → Looked
by_hashed_group w zone keys name group = by_nsec3 w zone keys name group (nsec3_in group)

-- what the NSEC3 records among groups show, in order of arrival (RFC 5155 8.9)
abbrev pub nsec3_search : World → Node → List (List ℕ) → Place → List Group → Looked
nsec3_search w zone keys name groups = looked_among (by_hashed_group w zone keys name) groups
