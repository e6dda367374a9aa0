-- Which signatures the table's verifier accepts.
use Rattle.std.specs.Prelude.{ℕ, List, [], ◌∷◌, ◌++◌, Bool, ◌&&◌, codes}
use Rattle.std.specs.List.{list_any}
use Rattle.std.specs.Str.{bytes_eq}
use Rattle.sha2.specs.Sha256.{sha256}
use Rattle.dsec_spec.specs.Accepts.{Accepts}
use Rattle.dsec_spec.specs.KeyTag.{key_tag}
use Rattle.dsec_spec.specs.Names.{Labels, rrsig_label_count}
use Rattle.dsec_spec.specs.Numbers.{IN, DNSKEY}
use Rattle.dsec_spec.specs.Records.{RecordSet, Key, key_octets, Rrsig}
use Rattle.dsec_spec.specs.SignedBytes.{signed_bytes}

-- a key, a message, and the one signature over it that is accepted
pub record SignedMessage : Type 0 where
  pub key : List ℕ
  pub message : List ℕ
  pub signature : List ℕ

-- the key, the message and the signature are those of the row
abbrev pub is_row : List ℕ → List ℕ → List ℕ → SignedMessage → Bool
is_row key message signature row =
    bytes_eq key row.key && bytes_eq message row.message && bytes_eq signature row.signature

-- `example.`
abbrev pub example : Labels
example = codes "example" ∷ []

-- the key of `example.`: 257 3 13 `0102`
abbrev pub zone_key : Key
zone_key = record { flags = 257; protocol = 3; algorithm = 13; public_key = 0x01 ∷ 0x02 ∷ [] }

-- the set `www.example. A 192.0.2.1`
abbrev pub address_set : RecordSet
address_set = record {
  owner = codes "www" ∷ example;
  class = IN;
  rtype = 1;
  datas = (192 ∷ 0 ∷ 2 ∷ 1 ∷ []) ∷ [];
}

-- the DNSKEY set of `example.`, which has that key alone
abbrev pub key_set : RecordSet
key_set = record {
  owner = example;
  class = IN;
  rtype = DNSKEY;
  datas = key_octets zone_key ∷ [];
}

-- what an RRSIG record by that key says beside a set, up to the signature: valid for the first
-- 1000 seconds of 1970, with the original TTL of an hour
abbrev pub rrsig_beside : RecordSet → Rrsig
rrsig_beside set = record {
  covered = set.rtype;
  algorithm = zone_key.algorithm;
  labels = rrsig_label_count set.owner;
  original_ttl = 3600;
  expiration = 1000;
  inception = 0;
  tag = key_tag zone_key;
  signer = example;
  signature = [];
}

-- what is signed of a set by that key
abbrev pub message_of : RecordSet → List ℕ
message_of set = signed_bytes (rrsig_beside set) set

-- the row of a set: its signature is the SHA-256 of the key's DNSKEY data and the message
abbrev pub row_for : RecordSet → SignedMessage
row_for set = record {
  key = zone_key.public_key;
  message = message_of set;
  signature = sha256 (key_octets zone_key ++ message_of set);
}

-- the rows of the table
unfoldable pub rows : List SignedMessage
rows = row_for address_set ∷ row_for key_set ∷ []

-- the key, the message and the signature are those of one of the rows
abbrev pub table : Accepts
table flags protocol algorithm key message signature = list_any (is_row key message signature) rows
