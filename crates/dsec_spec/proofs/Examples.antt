-- Worked values, from the standards and from sums done elsewhere.
use Rattle.std.proofs.Common.{◌≡◌, ℕ, List, [], ◌∷◌, ◌++◌, refl, arith}
use Rattle.std.specs.Prelude.{codes}
use Rattle.std.specs.declared.cmp.Ordering.TheVariants.{Less, Equal}
use Rattle.dsec_spec.specs.Names.{Labels, name_cmp, wire_length, wire_octets, canonical_octets, label_count, rrsig_label_count}
use Rattle.dsec_spec.specs.RecordData.{parts_in}
use Rattle.dsec_spec.specs.Records.{Key, Rrsig, RecordSet, key_octets}
use Rattle.dsec_spec.specs.KeyTag.{key_tag, checksum}
use Rattle.dsec_spec.specs.Period.{InPeriod}
use Rattle.dsec_spec.specs.SignedBytes.{inserted, ascending, signed_owner, signed_bytes}

-- ---- the names of RFC 4034 6.1, each before the next

abbrev in_zone : List (List ℕ) → Labels
in_zone labels = labels ++ codes "example" ∷ []

pub example_before_a : name_cmp (in_zone []) (in_zone (codes "a" ∷ [])) ≡ Less
example_before_a = refl

pub a_before_yljkjljk : name_cmp (in_zone (codes "a" ∷ [])) (in_zone (codes "yljkjljk" ∷ codes "a" ∷ [])) ≡ Less
a_before_yljkjljk = refl

pub yljkjljk_before_z_a : name_cmp (in_zone (codes "yljkjljk" ∷ codes "a" ∷ [])) (in_zone (codes "Z" ∷ codes "a" ∷ [])) ≡ Less
yljkjljk_before_z_a = refl

pub z_a_before_zabc : name_cmp (in_zone (codes "Z" ∷ codes "a" ∷ [])) (codes "zABC" ∷ codes "a" ∷ codes "EXAMPLE" ∷ []) ≡ Less
z_a_before_zabc = refl

pub zabc_before_z : name_cmp (codes "zABC" ∷ codes "a" ∷ codes "EXAMPLE" ∷ []) (in_zone (codes "z" ∷ [])) ≡ Less
zabc_before_z = refl

pub z_before_octet_1 : name_cmp (in_zone (codes "z" ∷ [])) (in_zone ((1 ∷ []) ∷ codes "z" ∷ [])) ≡ Less
z_before_octet_1 = refl

pub octet_1_before_asterisk : name_cmp (in_zone ((1 ∷ []) ∷ codes "z" ∷ [])) (in_zone (codes "*" ∷ codes "z" ∷ [])) ≡ Less
octet_1_before_asterisk = refl

pub asterisk_before_octet_200 : name_cmp (in_zone (codes "*" ∷ codes "z" ∷ [])) (in_zone ((200 ∷ []) ∷ codes "z" ∷ [])) ≡ Less
asterisk_before_octet_200 = refl

-- the case of letters makes no difference
pub same_in_any_case : name_cmp (codes "WWW" ∷ codes "example" ∷ []) (codes "www" ∷ codes "Example" ∷ []) ≡ Equal
same_in_any_case = refl

-- ---- names on the wire, and their labels

pub www_wire : wire_octets (in_zone (codes "wWw" ∷ [])) ≡ 3 ∷ codes "wWw" ++ 7 ∷ codes "example" ++ 0 ∷ []
www_wire = refl

pub www_canonical : canonical_octets (in_zone (codes "wWw" ∷ [])) ≡ 3 ∷ codes "www" ++ 7 ∷ codes "example" ++ 0 ∷ []
www_canonical = refl

pub www_wire_length : wire_length (in_zone (codes "www" ∷ [])) ≡ 13
www_wire_length = refl

pub root_wire_length : wire_length [] ≡ 1
root_wire_length = refl

pub www_label_count : label_count (in_zone (codes "www" ∷ [])) ≡ 3
www_label_count = refl

-- RFC 4034 3.1.3: `www.example.com.` has a Labels field of 3, `*.example.com.` of 2
pub www_rrsig_label_count : rrsig_label_count (codes "www" ∷ codes "example" ∷ codes "com" ∷ []) ≡ 3
www_rrsig_label_count = refl

pub wildcard_rrsig_label_count : rrsig_label_count (codes "*" ∷ codes "example" ∷ codes "com" ∷ []) ≡ 2
wildcard_rrsig_label_count = refl

-- ---- key tags

abbrev zone_key : Key
zone_key = record { flags = 257; protocol = 3; algorithm = 13; public_key = 1 ∷ 2 ∷ [] }

-- 0x0101 + 0x030d + 0x0102
pub zone_key_octets : key_octets zone_key ≡ 1 ∷ 1 ∷ 3 ∷ 13 ∷ 1 ∷ 2 ∷ []
zone_key_octets = refl

pub zone_key_tag : key_tag zone_key ≡ 1296
zone_key_tag = refl

-- a last odd octet is a high one, and the carry comes back: 0xffff + 0x0300
pub odd_tag : checksum (255 ∷ 255 ∷ 3 ∷ []) ≡ 768
odd_tag = refl

-- of RSA/MD5 the third- and second-last octets of the modulus: 0x0a0b
pub rsamd5_tag : key_tag (record { flags = 256; protocol = 3; algorithm = 1; public_key = 1 ∷ 3 ∷ 9 ∷ 10 ∷ 11 ∷ 12 ∷ [] }) ≡ 2571
rsamd5_tag = refl

pub short_rsamd5_tag : key_tag (record { flags = 256; protocol = 3; algorithm = 1; public_key = 7 ∷ 8 ∷ [] }) ≡ 0
short_rsamd5_tag = refl

-- ---- a period over the end of the circle, from 4294967000 to 1000

pub last_second_in : InPeriod 4294967000 1000 4294967295
last_second_in = record { ordered = omega arith; within = omega arith }

pub expiration_in : InPeriod 4294967000 1000 1000
expiration_in = record { ordered = omega arith; within = omega arith }

pub after_expiration_out : InPeriod 4294967000 1000 1001 → ⊥
after_expiration_out period = let h = period.within in absurd (omega (arith, h))

pub before_inception_out : InPeriod 4294967000 1000 4294966999 → ⊥
before_inception_out period = let h = period.within in absurd (omega (arith, h))

-- a period of 2 ^ 31 seconds holds no moment
pub half_circle_out : (t : ℕ) → InPeriod 0 2147483648 t → ⊥
half_circle_out t period = let h = period.ordered in absurd (omega (arith, h))

-- ---- signed bytes

-- RFC 4035 5.3.2
pub expanded_owner : signed_owner 2 (codes "a" ∷ codes "z" ∷ codes "w" ∷ codes "example" ∷ []) ≡ codes "*" ∷ codes "w" ∷ codes "example" ∷ []
expanded_owner = refl

abbrev sig_of_www : Rrsig
sig_of_www = record {
  covered = 1;
  algorithm = 13;
  labels = 2;
  original_ttl = 3600;
  expiration = 1000;
  inception = 0;
  tag = 1296;
  signer = codes "Example" ∷ [];
  signature = [];
}

abbrev addresses : RecordSet
addresses = record {
  owner = codes "wwW" ∷ codes "example" ∷ [];
  class = 1;
  rtype = 1;
  datas = (192 ∷ 0 ∷ 2 ∷ 1 ∷ []) ∷ (192 ∷ 0 ∷ 1 ∷ 9 ∷ []) ∷ [];
}

abbrev www_front : List ℕ
www_front = 3 ∷ codes "www" ++ 7 ∷ codes "example" ++ 0 ∷ 0 ∷ 1 ∷ 0 ∷ 1 ∷ 0 ∷ 0 ∷ 14 ∷ 16 ∷ []

-- two addresses, in ascending order, with names in lower case
pub addresses_signed : signed_bytes sig_of_www addresses ≡
    0 ∷ 1 ∷ 13 ∷ 2 ∷ 0 ∷ 0 ∷ 14 ∷ 16 ∷ 0 ∷ 0 ∷ 3 ∷ 232 ∷ 0 ∷ 0 ∷ 0 ∷ 0 ∷ 5 ∷ 16 ∷ 7 ∷ codes "example" ++ 0 ∷ []
    ++ www_front ++ 0 ∷ 4 ∷ 192 ∷ 0 ∷ 1 ∷ 9 ∷ [] ++ www_front ++ 0 ∷ 4 ∷ 192 ∷ 0 ∷ 2 ∷ 1 ∷ []
unfolding inserted ascending parts_in
addresses_signed = refl
