-- Worked data of records.
use Rattle.std.proofs.Common.{◌≡◌, ℕ, List, [], ◌∷◌, ◌++◌, replicate, Some, None, refl}
use Rattle.std.specs.Prelude.{codes}
use Rattle.dsec_spec.specs.Numbers.{NS, SOA, MX, NAPTR, RRSIG, NSEC, DNSKEY, NSEC3}
use Rattle.dsec_spec.specs.Names.{Labels, wire_octets}
use Rattle.dsec_spec.specs.RecordData.{lowered, kept, plain, labels_in, name_in, blocks_in, parts_in, parts_of, canonical_data}

-- the type of an IPv4 address (RFC 1035 3.2.2)
abbrev A : ℕ
A = 1

-- the type of text (RFC 1035 3.2.2)
abbrev TXT : ℕ
TXT = 16

-- a name, as it came
abbrev mixed_name : Labels
mixed_name = codes "Ai" ∷ codes "Example" ∷ []

-- its octets
abbrev mixed : List ℕ
mixed = 2 ∷ 65 ∷ 105 ∷ 7 ∷ 69 ∷ 120 ∷ 97 ∷ 109 ∷ 112 ∷ 108 ∷ 101 ∷ 0 ∷ []

-- its octets in lower case
abbrev lowercase : List ℕ
lowercase = 2 ∷ 97 ∷ 105 ∷ 7 ∷ 101 ∷ 120 ∷ 97 ∷ 109 ∷ 112 ∷ 108 ∷ 101 ∷ 0 ∷ []

-- the name has those octets
pub octets_of_mixed : wire_octets mixed_name ≡ mixed
octets_of_mixed = refl

-- the exchange of MX data is signed in lower case
pub mx_is_lowered : canonical_data MX (0 ∷ 10 ∷ mixed) ≡ 0 ∷ 10 ∷ lowercase
unfolding labels_in name_in parts_in
mx_is_lowered = refl

-- MX data have a number and a name
pub mx_parts : parts_of MX (0 ∷ 10 ∷ mixed) ≡ Some (plain (0 ∷ 10 ∷ []) ∷ lowered mixed_name ∷ [])
unfolding labels_in name_in parts_in
mx_parts = refl

-- a compressed name isn't read
pub mx_compressed : parts_of MX (0 ∷ 10 ∷ 192 ∷ 12 ∷ []) ≡ None
unfolding labels_in name_in parts_in
mx_compressed = refl

-- octets after the last field aren't read
pub mx_too_long : parts_of MX (0 ∷ 10 ∷ mixed ++ 0 ∷ []) ≡ None
unfolding labels_in name_in parts_in
mx_too_long = refl

-- a name that is cut short isn't read
pub mx_cut_short : parts_of MX (0 ∷ 10 ∷ 2 ∷ 65 ∷ []) ≡ None
unfolding labels_in name_in parts_in
mx_cut_short = refl

-- the next name of NSEC data is signed as it came
pub nsec_is_kept : canonical_data NSEC (mixed ++ 0 ∷ 1 ∷ 64 ∷ []) ≡ mixed ++ 0 ∷ 1 ∷ 64 ∷ []
unfolding labels_in name_in blocks_in parts_in
nsec_is_kept = refl

-- NSEC data have a name and blocks
pub nsec_parts : parts_of NSEC (mixed ++ 0 ∷ 1 ∷ 64 ∷ []) ≡ Some (kept mixed_name ∷ plain (0 ∷ 1 ∷ 64 ∷ []) ∷ [])
unfolding labels_in name_in blocks_in parts_in
nsec_parts = refl

-- the example of RFC 4034 4.3 is read
pub nsec_of_rfc : parts_of NSEC (wire_octets (codes "host" ∷ codes "example" ∷ codes "com" ∷ []) ++ 0 ∷ 6 ∷ 64 ∷ 1 ∷ 0 ∷ 0 ∷ 0 ∷ 3 ∷ 4 ∷ 27 ∷ replicate 26 0 ++ 32 ∷ [])
    ≡ Some (kept (codes "host" ∷ codes "example" ∷ codes "com" ∷ []) ∷ plain (0 ∷ 6 ∷ 64 ∷ 1 ∷ 0 ∷ 0 ∷ 0 ∷ 3 ∷ 4 ∷ 27 ∷ replicate 26 0 ++ 32 ∷ []) ∷ [])
unfolding labels_in name_in blocks_in parts_in
nsec_of_rfc = refl

-- a block of no octets isn't read
pub nsec_empty_block : parts_of NSEC (mixed ++ 0 ∷ 0 ∷ []) ≡ None
unfolding labels_in name_in blocks_in parts_in
nsec_empty_block = refl

-- a block of 32 octets is read
pub nsec_full_block : parts_of NSEC (mixed ++ 0 ∷ 32 ∷ replicate 32 1) ≡ Some (kept mixed_name ∷ plain (0 ∷ 32 ∷ replicate 32 1) ∷ [])
unfolding labels_in name_in blocks_in parts_in
nsec_full_block = refl

-- a block of 33 octets isn't
pub nsec_long_block : parts_of NSEC (mixed ++ 0 ∷ 33 ∷ replicate 33 1) ≡ None
unfolding labels_in name_in blocks_in parts_in
nsec_long_block = refl

-- a block that is cut short isn't read
pub nsec_short_block : parts_of NSEC (mixed ++ 0 ∷ 2 ∷ 64 ∷ []) ≡ None
unfolding labels_in name_in blocks_in parts_in
nsec_short_block = refl

-- a block of a window alone isn't read
pub nsec_window_alone : parts_of NSEC (mixed ++ 0 ∷ 1 ∷ 64 ∷ 1 ∷ []) ≡ None
unfolding labels_in name_in blocks_in parts_in
nsec_window_alone = refl

-- NSEC3 data of a name that owns nothing have no block (RFC 5155 7.1)
pub nsec3_without_blocks : parts_of NSEC3 (1 ∷ 0 ∷ 0 ∷ 10 ∷ 1 ∷ 171 ∷ 2 ∷ 7 ∷ 8 ∷ []) ≡ Some (plain (1 ∷ 0 ∷ 0 ∷ 10 ∷ []) ∷ plain (1 ∷ 171 ∷ []) ∷ plain (2 ∷ 7 ∷ 8 ∷ []) ∷ plain [] ∷ [])
unfolding labels_in name_in blocks_in parts_in
nsec3_without_blocks = refl

-- both names of SOA data are signed in lower case
pub soa_is_lowered : canonical_data SOA (mixed ++ mixed ++ replicate 20 1) ≡ lowercase ++ lowercase ++ replicate 20 1
unfolding labels_in name_in parts_in
soa_is_lowered = refl

-- SOA data with 19 octets after the names aren't read
pub soa_too_short : parts_of SOA (mixed ++ mixed ++ replicate 19 1) ≡ None
unfolding labels_in name_in parts_in
soa_too_short = refl

-- and with 21 neither
pub soa_too_long : parts_of SOA (mixed ++ mixed ++ replicate 21 1) ≡ None
unfolding labels_in name_in parts_in
soa_too_long = refl

-- the strings of NAPTR data are signed as they came, and the name after them in lower case
pub naptr_is_lowered : canonical_data NAPTR (0 ∷ 1 ∷ 0 ∷ 2 ∷ 1 ∷ 83 ∷ 0 ∷ 2 ∷ 65 ∷ 66 ∷ mixed) ≡ 0 ∷ 1 ∷ 0 ∷ 2 ∷ 1 ∷ 83 ∷ 0 ∷ 2 ∷ 65 ∷ 66 ∷ lowercase
unfolding labels_in name_in parts_in
naptr_is_lowered = refl

-- the signer's name in RRSIG data is signed in lower case
pub rrsig_is_lowered : canonical_data RRSIG (replicate 18 65 ++ mixed ++ 65 ∷ 66 ∷ []) ≡ replicate 18 65 ++ lowercase ++ 65 ∷ 66 ∷ []
unfolding labels_in name_in parts_in
rrsig_is_lowered = refl

-- text is opaque
pub txt_is_opaque : parts_of TXT (2 ∷ 65 ∷ 66 ∷ []) ≡ Some (plain (2 ∷ 65 ∷ 66 ∷ []) ∷ [])
unfolding parts_in
txt_is_opaque = refl

-- text is signed as it came
pub txt_is_kept : canonical_data TXT (2 ∷ 65 ∷ 66 ∷ []) ≡ 2 ∷ 65 ∷ 66 ∷ []
unfolding parts_in
txt_is_kept = refl

-- an address is opaque
pub a_is_opaque : parts_of A (192 ∷ 0 ∷ 2 ∷ 1 ∷ []) ≡ Some (plain (192 ∷ 0 ∷ 2 ∷ 1 ∷ []) ∷ [])
unfolding parts_in
a_is_opaque = refl

-- DNSKEY data have 4 octets and the key's
pub dnskey_too_short : parts_of DNSKEY (1 ∷ 1 ∷ 3 ∷ []) ≡ None
unfolding parts_in
dnskey_too_short = refl

-- a name of 255 octets is read
pub longest_name : parts_of NS (wire_octets (replicate 127 (97 ∷ []))) ≡ Some (lowered (replicate 127 (97 ∷ [])) ∷ [])
unfolding labels_in name_in parts_in
longest_name = refl

-- a name of 256 octets isn't
pub too_long_name : parts_of NS (wire_octets ((97 ∷ 97 ∷ []) ∷ replicate 126 (97 ∷ []))) ≡ None
unfolding labels_in name_in parts_in
too_long_name = refl

-- a label of 64 octets isn't read
pub too_long_label : parts_of NS (wire_octets (replicate 64 97 ∷ [])) ≡ None
unfolding labels_in name_in parts_in
too_long_label = refl

-- the root's name is read
pub root_name : parts_of NS (0 ∷ []) ≡ Some (lowered [] ∷ [])
unfolding labels_in name_in parts_in
root_name = refl
