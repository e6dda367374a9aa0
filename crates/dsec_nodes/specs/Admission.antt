-- Key sets that are admitted: by anchors, or by the DS records of the zone above (RFC 4035 5, 5.2).
use Rattle.std.specs.Prelude.{ℕ, ◌==◌, ◌&&◌, List, [], ◌∷◌, length, map, filter, filter_map, flat_map, position, slice_get, Bool, Option, Some, None, if◌then◌else◌}
use Rattle.std.specs.Str.{bytes_eq}
use Rattle.dsec_spec.specs.Reading.{◌>>=◌}
use Rattle.dsec_spec.specs.Names.{place, same_place}
use Rattle.dsec_spec.specs.Numbers.{IN, DS, DNSKEY}
use Rattle.dsec_spec.specs.Records.{Record, Key, key_of, Ds, ds_of}
use Rattle.dsec_spec.specs.Accepts.{Accepts}
use Rattle.dsec_spec.specs.KeySearch.{KeySearch, found_at, not_found, too_many, first_key}
use Rattle.dsec_spec.specs.Groups.{Group, set_in}
use Rattle.dsec_spec.specs.Trying.{Tried, tried, pair_matches, pair_signs}
use Rattle.dsec_spec.specs.Chain.{Link, LinkKind}
use Rattle.dsec_nodes.specs.World.{World, moment}
use Rattle.dsec_nodes.specs.Causes.{Cause, TooManyDnskeysForDs, NoSignature}

-- a key that an anchor or DS record admits, and the data in the set that say it (RFC 4035 5.2)
pub record Admitted (A : Type 0) : Type 0 where
  pub way : A
  pub rdata : List ℕ
  pub key : Key

-- the key at the index that a search found (RFC 4035 5.2)
abbrev pub admitted_at : {A : Type 0} → Group → A → KeySearch → Option (Admitted A)
admitted_at group way (found_at index) = do
  one ← slice_get group.records index
  key ← key_of one.rdata
  Some (record { way = way; rdata = one.rdata; key = key })
admitted_at group way not_found = None
admitted_at group way too_many = None

-- the set's signatures that match an admitted key, each with it, in order (RFC 4035 5.3.1)
abbrev pub matching : {A : Type 0} → Group → Option (Admitted A) → List (Record × Admitted A)
matching group None = []
matching group (Some one) =
    map (λ signature. (signature, one)) (filter (λ signature. pair_matches (place group.owner) (signature, one.key)) group.signatures)

-- those that match the key which the search for a way finds (RFC 4035 5.2)
abbrev pub matching_by : {A : Type 0} → Group → (A → KeySearch) → A → List (Record × Admitted A)
matching_by group search way = matching group (admitted_at group way (search way))

-- whether a signature counts as that of an admitted key (RFC 4035 5.3.1)
abbrev pub admitted_signs : {A : Type 0} → Accepts → Group → ℕ → Record × Admitted A → Bool
admitted_signs accepts group t p = pair_signs accepts (set_in group) (place group.owner) t (p.0, p.1.key)

-- what trying the keys that these ways admit comes to: by way, then by signature (RFC 4035 5.2)
abbrev pub tried_by : {A : Type 0} → World → Group → (A → KeySearch) → List A → Tried (Record × Admitted A)
tried_by w group search ways = tried (admitted_signs w.accepts group (moment w)) w.bounds.room (flat_map (matching_by group search) ways)

-- why a way shows no key set, where none of the pairs tried is good (RFC 8914 4)
abbrev pub cause_by : {P : Type 0} → Cause → KeySearch → List P → Option Cause
cause_by bad too_many tried = Some TooManyDnskeysForDs
cause_by bad _ tried = if length tried == 0 then None else Some bad

-- the first cause, if there is one (RFC 8914 4)
abbrev pub first_or : Cause → List Cause → Cause
first_or otherwise [] = otherwise
first_or otherwise (cause ∷ causes) = cause

-- why no way shows the key set: the first cause of theirs (RFC 8914 4)
abbrev pub cause_among : {A : Type 0} → Cause → Group → (A → KeySearch) → List A → Cause
cause_among bad group search ways =
    first_or NoSignature (filter_map (λ way. cause_by bad (search way) (matching_by group search way)) ways)

-- the link of a key set that is admitted (RFC 4033 2, authentication chain)
abbrev pub admitted_link : {A : Type 0} → LinkKind → List ℕ → Group → Record × Admitted A → Link
admitted_link kind via group p = record { kind = kind; records = set_in group; via = Some via; signing_key = p.1.rdata; rrsig = p.0.rdata }

-- the key that a DS record speaks of, if data say one (RFC 4035 5.2)
abbrev pub search_for : ℕ → Group → Option Ds → KeySearch
search_for most group None = not_found
search_for most group (Some ds) = first_key ds group.owner most (set_in group).datas

-- the key that DS data speak of (RFC 4035 5.2)
abbrev pub ds_search : ℕ → Group → List ℕ → KeySearch
ds_search most group ds_data = search_for most group (ds_of ds_data)

-- the key at an index, if one was found (RFC 4035 5)
abbrev pub own_key : Option ℕ → KeySearch
own_key (Some index) = found_at index
own_key None = not_found

-- the key that an anchor admits: the one that a DNSKEY record of its own says, or that its DS record speaks of (RFC 4035 5)
abbrev pub anchor_search : ℕ → Group → Record → KeySearch
anchor_search most group anchor =
    if same_place (place anchor.owner) (place group.owner) && (anchor.class == IN)
    then (if anchor.rtype == DNSKEY then own_key (position (λ r. bytes_eq r.rdata anchor.rdata) group.records)
    else if anchor.rtype == DS then ds_search most group anchor.rdata else not_found)
    else not_found
