-- Records, sets of records, and what the data of DNSKEY, DS and RRSIG records say.
use Rattle.std.specs.Prelude.{ℕ, ◌+◌, ◌*◌, List, ◌∷◌, ◌++◌, map, drop, slice_get, Option, Some, None}
use Rattle.std.specs.Int.{w16, w32, to_be_bytes}
use Rattle.dsec_spec.specs.Reading.{◌>>=◌, u16_at, u32_at}
use Rattle.dsec_spec.specs.Names.{Labels, wire_octets}
use Rattle.dsec_spec.specs.RecordData.{name_in}

-- a resource record; the TTL is in seconds, names in the data are uncompressed (RFC 1035 3.2.1)
pub record Record : Type 0 where
  pub owner : Labels
  pub class : ℕ
  pub rtype : ℕ
  pub ttl : ℕ
  pub rdata : List ℕ

-- the records of one owner, class and type, by their data (RFC 2181 5)
pub record RecordSet : Type 0 where
  pub owner : Labels
  pub class : ℕ
  pub rtype : ℕ
  pub datas : List (List ℕ)

-- the set that records make that all have one owner, class and type, those of the first
abbrev pub set_of : Record → List Record → RecordSet
set_of first others = record {
  owner = first.owner;
  class = first.class;
  rtype = first.rtype;
  datas = map (λ r. r.rdata) (first ∷ others);
}

-- the data of a DNSKEY record (RFC 4034 2.1)
pub record Key : Type 0 where
  pub flags : ℕ
  pub protocol : ℕ
  pub algorithm : ℕ
  pub public_key : List ℕ

-- a key as a DNSKEY record has it
abbrev pub key_octets : Key → List ℕ
key_octets key = to_be_bytes w16 key.flags ++ key.protocol ∷ key.algorithm ∷ key.public_key

-- the key that a DNSKEY record's data say
abbrev pub key_of : List ℕ → Option Key
key_of (high ∷ low ∷ protocol ∷ algorithm ∷ public_key) =
    Some (record { flags = high * 256 + low; protocol = protocol; algorithm = algorithm; public_key = public_key })
key_of _ = None

-- the data of a DS record (RFC 4034 5.1)
pub record Ds : Type 0 where
  pub tag : ℕ
  pub algorithm : ℕ
  pub digest_type : ℕ
  pub digest : List ℕ

-- what a DS record's data say
abbrev pub ds_of : List ℕ → Option Ds
ds_of (high ∷ low ∷ algorithm ∷ digest_type ∷ digest) =
    Some (record { tag = high * 256 + low; algorithm = algorithm; digest_type = digest_type; digest = digest })
ds_of _ = None

-- a DS record's data
abbrev pub ds_octets : Ds → List ℕ
ds_octets ds = to_be_bytes w16 ds.tag ++ ds.algorithm ∷ ds.digest_type ∷ ds.digest

-- the data of an RRSIG record; times are in seconds since 1970, modulo 2 ^ 32 (RFC 4034 3.1)
pub record Rrsig : Type 0 where
  pub covered : ℕ
  pub algorithm : ℕ
  pub labels : ℕ
  pub original_ttl : ℕ
  pub expiration : ℕ
  pub inception : ℕ
  pub tag : ℕ
  pub signer : Labels
  pub signature : List ℕ

-- the 18 octets before the signer's name (RFC 4034 3.1)
abbrev pub fixed_octets : Rrsig → List ℕ
fixed_octets sig =
    to_be_bytes w16 sig.covered ++ sig.algorithm ∷ sig.labels ∷ to_be_bytes w32 sig.original_ttl
    ++ to_be_bytes w32 sig.expiration ++ to_be_bytes w32 sig.inception ++ to_be_bytes w16 sig.tag

-- an RRSIG record's data
abbrev pub rrsig_octets : Rrsig → List ℕ
rrsig_octets sig = fixed_octets sig ++ wire_octets sig.signer ++ sig.signature

-- what an RRSIG record's data say
unfoldable pub rrsig_of : List ℕ → Option Rrsig
rrsig_of x = do
  covered ← u16_at x 0
  algorithm ← slice_get x 2
  labels ← slice_get x 3
  original_ttl ← u32_at x 4
  expiration ← u32_at x 8
  inception ← u32_at x 12
  tag ← u16_at x 16
  signer ← name_in (drop 18 x)
  Some (record {
    covered = covered;
    algorithm = algorithm;
    labels = labels;
    original_ttl = original_ttl;
    expiration = expiration;
    inception = inception;
    tag = tag;
    signer = signer.0;
    signature = signer.1;
  })

-- an RRSIG record: what it says, and where it stands
pub record RrsigRecord : Type 0 where
  pub owner : Labels
  pub class : ℕ
  pub rrsig : Rrsig

-- an RRSIG, taken to stand at the set's owner and class
abbrev pub beside : RecordSet → Rrsig → RrsigRecord
beside set sig = record { owner = set.owner; class = set.class; rrsig = sig }
