-- What NSEC records show of a name without a DS set (RFC 4034 4, RFC 4035 5.2, RFC 6840 4.1, 4.4).
use Rattle.std.specs.Prelude.{ℕ, ◌==◌, ◌&&◌, ◌||◌, List, [], ◌∷◌, Bool, Option, Some, None, if◌then◌else◌}
use Rattle.std.proofs.Math.Bool.{not}
use Rattle.std.specs.Ordering.{is_lt}
use Rattle.dsec_spec.specs.Names.{Place, place, same_place, place_cmp, is_below, is_strictly_below}
use Rattle.dsec_spec.specs.Numbers.{IN, NS, SOA, DS, NSEC, DNAME}
use Rattle.dsec_spec.specs.Records.{Record, Key}
use Rattle.dsec_spec.specs.RecordViews.{Nsec, nsec_of}
use Rattle.dsec_spec.specs.TypeBitmaps.{has_type}
use Rattle.dsec_spec.specs.Groups.{Group}
use Rattle.dsec_nodes.specs.World.{World}
use Rattle.dsec_nodes.specs.Causes.{NsecForDsFromWildcard, NsecProvesDs, NsecForDsFromApex, PrefixNsecFromWildcard, PrefixNsecIsDname, PrefixNsecIsDelegation, EmptyNonTerminalNsecFromWildcard, NsecNotUsable}
use Rattle.dsec_nodes.specs.Nodes.{Node, nsec_without_ds}
use Rattle.dsec_nodes.specs.Signing.{under_keys, is_expanded}
use Rattle.dsec_nodes.specs.Looking.{Looked, decided, passed, bogus_at, within_by, insecure_by, if_signed, looked_among}

-- whether n is after the owner, and before the next name where that is after the owner: the test of `IsInRange` (RFC 4034 4.1.1)
abbrev pub is_in_range : Place → Place → Place → Bool
is_in_range owner next n = is_lt (place_cmp owner n) && (is_lt (place_cmp n next) || not (is_lt (place_cmp owner next)))

-- whether NSEC data are those of a delegation, as the zone above has them (RFC 6840 4.1)
abbrev pub delegates : Nsec → Bool
delegates nsec = has_type nsec.types NS && not (has_type nsec.types SOA)

-- an NSEC record at the name: with DS or SOA it is none of a delegation without DS; with NS it is, and else the name is within the zone
-- (RFC 4035 5.2, RFC 6840 4.4)
abbrev pub by_matching : World → Node → List (List ℕ) → Place → Group → Nsec → Record × Key → Looked
by_matching w zone keys name group nsec p =
    if is_expanded group p.0 then decided (bogus_at w name NsecForDsFromWildcard) else
    if has_type nsec.types DS then decided (bogus_at w name NsecProvesDs) else
    if has_type nsec.types SOA then decided (bogus_at w name NsecForDsFromApex) else
    if has_type nsec.types NS then decided (insecure_by w zone keys name None nsec_without_ds group p) else decided (within_by w zone keys name group p)

-- an NSEC record whose next name shows that the name is an empty non-terminal, and so within the zone (RFC 4592 2.2.2)
abbrev pub by_covering : World → Node → List (List ℕ) → Place → Group → Record × Key → Looked
by_covering w zone keys name group p =
    if is_expanded group p.0 then decided (bogus_at w name EmptyNonTerminalNsecFromWildcard) else decided (within_by w zone keys name group p)

-- an NSEC record with the name in its gap, and its next name below the name; another shows nothing (RFC 4034 4.1.1)
abbrev pub by_range : World → Node → List (List ℕ) → Place → Group → Nsec → Looked
by_range w zone keys name group nsec =
    if is_in_range (place group.owner) (place nsec.next_name) name && is_below (place nsec.next_name) name
    then if_signed w name (under_keys w zone.signer keys group) (by_covering w zone keys name group) else passed (Some NsecNotUsable)

-- an NSEC record strictly above the name; with DNAME, or that of a delegation, it can't say what is below (RFC 6840 4.1)
abbrev pub by_prefix : World → Node → List (List ℕ) → Place → Group → Nsec → Record × Key → Looked
by_prefix w zone keys name group nsec p =
    if is_expanded group p.0 then decided (bogus_at w name PrefixNsecFromWildcard) else
    if has_type nsec.types DNAME then decided (bogus_at w name PrefixNsecIsDname) else
    if delegates nsec then decided (bogus_at w name PrefixNsecIsDelegation) else by_range w zone keys name group nsec

-- an NSEC record by where its owner stands: at the name, above it, or elsewhere (RFC 4034 4)
abbrev pub by_nsec : World → Node → List (List ℕ) → Place → Group → Option Nsec → Looked
by_nsec w zone keys name group None = passed (Some NsecNotUsable)
by_nsec w zone keys name group (Some nsec) =
    if same_place (place group.owner) name then if_signed w name (under_keys w zone.signer keys group) (by_matching w zone keys name group nsec) else
    if is_strictly_below name (place group.owner) then if_signed w name (under_keys w zone.signer keys group) (by_prefix w zone keys name group nsec)
    else by_range w zone keys name group nsec

-- what a group of NSEC records shows; of two records or more, nothing, since a name has one (RFC 4034 4)
abbrev pub by_records : World → Node → List (List ℕ) → Place → Group → List Record → Looked
by_records w zone keys name group (r ∷ []) = by_nsec w zone keys name group (nsec_of r.rdata)
by_records w zone keys name group _ = passed (Some NsecNotUsable)

-- what a group shows: only one of class IN and type NSEC does (RFC 4034 4)
abbrev pub by_group : World → Node → List (List ℕ) → Place → Group → Looked
by_group w zone keys name group =
    if (group.rtype == NSEC) && (group.class == IN) then by_records w zone keys name group group.records else passed None

-- what the NSEC records among groups show, in order of arrival (RFC 4035 5.2)
abbrev pub nsec_search : World → Node → List (List ℕ) → Place → List Group → Looked
nsec_search w zone keys name groups = looked_among (by_group w zone keys name) groups
