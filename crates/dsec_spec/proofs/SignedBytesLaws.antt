-- What signed bytes don't depend on: the order of the records, their TTLs, the letters of the owner, and,
-- of a wildcard's expansion, the labels that stand in the asterisk's place.
use Rattle.std.proofs.Common.{◌≡◌, ℕ, suc, ◌-◌, ◌<◌, ◌≤◌, Bool, true, false, cond, List, [], ◌∷◌, ◌++◌, refl, sym, ap, ◌∙◌, arith, length, length-drop, map}
use Rattle.std.specs.Prelude.{nat_lt, IsPermutation}
use Rattle.std.specs.Char.{to_ascii_lowercase}
use Rattle.std.specs.Int.{w16, w32, to_be_bytes}
use Rattle.std.specs.List.{flat_map, drop-map}
use Rattle.std.proofs.lemmas.List.{length-map}
use Rattle.std.proofs.lemmas.List.Sorted.{IsPermutation-map}
use Rattle.std.proofs.lemmas.Bool.Decides.{nat_tests}
use Rattle.dsec_spec.specs.Names.{Labels, lower, place, asterisk, wire_octets, canonical_octets}
use Rattle.dsec_spec.specs.RecordData.{canonical_data}
use Rattle.dsec_spec.specs.Records.{Record, RecordSet, Rrsig, set_of, fixed_octets}
use Rattle.dsec_spec.specs.SignedBytes.{ascending, rightmost, signed_owner, IsExpansion, signed_bytes}
use Rattle.dsec_spec.proofs.AscendingOrder.{ascending_of_permutation}
use Rattle.dsec_spec.proofs.CanonicalNames.{place-lower}

-- a permutation of the set's data gives the same bytes
pub signed_bytes_of_permutation : (sig : Rrsig) (set : RecordSet) (datas : List (List ℕ)) → IsPermutation set.datas datas → signed_bytes sig set ≡ signed_bytes sig (record set { datas = datas })
signed_bytes_of_permutation sig set datas p =
    let canonical = IsPermutation-map (canonical_data set.rtype) set.datas datas p in
    let same = ascending_of_permutation (map (canonical_data set.rtype) set.datas) (map (canonical_data set.rtype) datas) canonical in
    rw same refl

-- a record with another TTL
abbrev pub with_ttl : ℕ → Record → Record
with_ttl ttl r = record r { ttl = ttl }

datas_of_ttls : (ttl : ℕ) (rs : List Record) → map (λ (r : Record). r.rdata) (map (with_ttl ttl) rs) ≡ map (λ (r : Record). r.rdata) rs
datas_of_ttls ttl [] = refl
datas_of_ttls ttl (r ∷ rs) = ap (λ (datas : List (List ℕ)). r.rdata ∷ datas) (datas_of_ttls ttl rs)

-- records that differ in their TTLs alone make the same set
pub set_of_other_ttls : (first second : Record) (others more : List Record) → map (with_ttl 0) (first ∷ others) ≡ map (with_ttl 0) (second ∷ more) → set_of first others ≡ set_of second more
set_of_other_ttls first second others more e =
    let heads : with_ttl 0 first ≡ with_ttl 0 second = cc in
    let owners : first.owner ≡ second.owner = ap (λ (r : Record). r.owner) heads in
    let classes : first.class ≡ second.class = ap (λ (r : Record). r.class) heads in
    let types : first.rtype ≡ second.rtype = ap (λ (r : Record). r.rtype) heads in
    let datas : map (λ (r : Record). r.rdata) (first ∷ others) ≡ map (λ (r : Record). r.rdata) (second ∷ more) =
    sym (datas_of_ttls 0 (first ∷ others)) ∙ (ap (map (λ (r : Record). r.rdata)) e ∙ datas_of_ttls 0 (second ∷ more)) in
    rw (owners, classes, types, datas) refl

-- and so the same bytes
pub signed_bytes_of_other_ttls : (sig : Rrsig) (first second : Record) (others more : List Record) → map (with_ttl 0) (first ∷ others) ≡ map (with_ttl 0) (second ∷ more) → signed_bytes sig (set_of first others) ≡ signed_bytes sig (set_of second more)
signed_bytes_of_other_ttls sig first second others more e = ap (signed_bytes sig) (set_of_other_ttls first second others more e)

-- what is signed, by the owner's octets
abbrev record_under : List ℕ → Rrsig → RecordSet → List ℕ → List ℕ
record_under owner_octets sig set canonical =
    owner_octets ++ to_be_bytes w16 set.rtype ++ to_be_bytes w16 set.class
    ++ to_be_bytes w32 sig.original_ttl ++ to_be_bytes w16 (length canonical) ++ canonical

abbrev bytes_under : List ℕ → Rrsig → RecordSet → List ℕ
bytes_under owner_octets sig set =
    fixed_octets sig ++ canonical_octets sig.signer
    ++ flat_map (record_under owner_octets sig set) (ascending (map (canonical_data set.rtype) set.datas))

-- sets that differ in their owners alone have the same bytes where the owners are signed alike
bytes_by_owner : (sig : Rrsig) (set : RecordSet) (owner : Labels) → lower (signed_owner sig.labels set.owner) ≡ lower (signed_owner sig.labels owner) → signed_bytes sig set ≡ signed_bytes sig (record set { owner = owner })
bytes_by_owner sig set owner e = ap (λ (owner_octets : List ℕ). bytes_under owner_octets sig set) (ap wire_octets e)

lower_chosen : (b : Bool) (m n : Labels) → lower (cond b m n) ≡ cond b (lower m) (lower n)
lower_chosen true m n = refl
lower_chosen false m n = refl

-- the owner is signed by its letters in lower case
lower-signed_owner : (labels : ℕ) (name : Labels) → lower (signed_owner labels name) ≡ signed_owner labels (lower name)
lower-signed_owner labels name =
    lower_chosen (nat_lt labels (length name)) (asterisk ∷ rightmost labels name) name
    ∙ rw (length-map name (map to_ascii_lowercase), drop-map (map to_ascii_lowercase) (length name - labels) name) refl

-- equal names give the same bytes, whatever the case of their letters
pub signed_bytes_of_equal_owners : (sig : Rrsig) (set : RecordSet) (owner : Labels) → place set.owner ≡ place owner → signed_bytes sig set ≡ signed_bytes sig (record set { owner = owner })
signed_bytes_of_equal_owners sig set owner e =
    bytes_by_owner sig set owner
    (lower-signed_owner sig.labels set.owner
    ∙ (ap (signed_owner sig.labels) ((place-lower set.owner owner).1 e) ∙ sym (lower-signed_owner sig.labels owner)))

-- so many labels are left of a name that has as many
pub length-rightmost : (labels : ℕ) (name : Labels) → labels ≤ length name → length (rightmost labels name) ≡ labels
length-rightmost labels name h = omega (arith, length-drop (length name - labels) name)

one_more : (labels : ℕ) → nat_lt labels (suc labels) ≡ true
one_more labels = grind (arith, nat_tests)

-- a wildcard is signed under its own name
pub signed_owner_of_wildcard : (labels : ℕ) (owner : Labels) → labels < length owner → signed_owner labels (asterisk ∷ rightmost labels owner) ≡ asterisk ∷ rightmost labels owner
signed_owner_of_wildcard labels owner h =
    let left : length (rightmost labels owner) ≡ labels = length-rightmost labels owner (omega (arith, h)) in
    let one : suc labels - labels ≡ 1 = omega arith in
    rw (left, one_more labels, one) refl

-- a set is signed as a wildcard's where the signature counts fewer labels
pub signed_owner_of_fewer : (labels : ℕ) (owner : Labels) → labels < length owner → signed_owner labels owner ≡ asterisk ∷ rightmost labels owner
signed_owner_of_fewer labels owner h =
    let fewer : nat_lt labels (length owner) ≡ true = grind (arith, nat_tests) in
    rw fewer refl

-- the expansion of a wildcard has the bytes of the wildcard
pub signed_bytes_of_expansion : (sig : Rrsig) (set : RecordSet) → sig.labels < length set.owner → signed_bytes sig set ≡ signed_bytes sig (record set { owner = asterisk ∷ rightmost sig.labels set.owner })
signed_bytes_of_expansion sig set h =
    bytes_by_owner sig set (asterisk ∷ rightmost sig.labels set.owner)
    (ap lower (signed_owner_of_fewer sig.labels set.owner h ∙ sym (signed_owner_of_wildcard sig.labels set.owner h)))

-- a set at the wildcard's own name is no expansion
pub wildcard_no_expansion : (labels : ℕ) (owner : Labels) → labels < length owner → IsExpansion labels (asterisk ∷ rightmost labels owner) → ⊥
wildcard_no_expansion labels owner h expansion = expansion.elsewhere (ap place (sym (signed_owner_of_wildcard labels owner h)))
