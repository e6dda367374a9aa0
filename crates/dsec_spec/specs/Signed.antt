-- When a zone's key has signed a set (RFC 4035 5.3.1).
use Rattle.std.specs.Prelude.{◌≡◌, ℕ, ◌/◌, ◌%◌, ◌≤◌, ◌==◌, ◌&&◌, nat_le, length, Bool, IsTrue}
use Rattle.dsec_spec.specs.Names.{Place, place, same_place, is_below, IsAtOrBelow}
use Rattle.dsec_spec.specs.Records.{RecordSet, Key, Rrsig, RrsigRecord}
use Rattle.dsec_spec.specs.KeyTag.{key_tag}
use Rattle.dsec_spec.specs.Period.{InPeriod, in_period}
use Rattle.dsec_spec.specs.Accepts.{Accepts}
use Rattle.dsec_spec.specs.SignedBytes.{signed_bytes}

-- a key for zone data: it has the zone flag 0x0100 and the protocol 3 (RFC 4034 2.1.1, 2.1.2)
pub record IsZoneKey (key : Key) : Type 0 where
  pub flag : key.flags / 256 % 2 ≡ 1
  pub of_dnssec : key.protocol ≡ 3

-- The signature counts at the moment t as the zone key's over the set: ten tests of RFC 4035 5.3.1 and RFC 4034 2.1, and last the
-- verifier's yes (RFC 4035 5.3.3). That the key stands in the zone's DNSKEY set is asked where a chain is followed, and that the set
-- has a record where a group is judged.
pub record Signed (accepts : Accepts) (set : RecordSet) (sig : RrsigRecord) (key : Key) (zone : Place) (t : ℕ) : Type 0 where
  pub same_owner : place sig.owner ≡ place set.owner
  pub same_class : sig.class ≡ set.class
  pub covers : sig.rrsig.covered ≡ set.rtype
  pub signer : place sig.rrsig.signer ≡ zone
  pub within : IsAtOrBelow (place set.owner) zone
  pub labels : sig.rrsig.labels ≤ length set.owner
  pub algorithm : sig.rrsig.algorithm ≡ key.algorithm
  pub tag : sig.rrsig.tag ≡ key_tag key
  pub zone_key : IsZoneKey key
  pub period : InPeriod sig.rrsig.inception sig.rrsig.expiration t
  pub accepted : IsTrue (accepts key.flags key.protocol key.algorithm key.public_key (signed_bytes sig.rrsig set) sig.rrsig.signature)

-- whether the signature names the zone as its signer, and the key by its algorithm and tag (RFC 4035 5.3.1)
abbrev pub names_key : Place → Rrsig → Key → Bool
names_key zone sig key = same_place (place sig.signer) zone && (sig.algorithm == key.algorithm) && (sig.tag == key_tag key)

-- whether the key is one for zone data
abbrev pub is_zone_key : Key → Bool
is_zone_key key = (key.flags / 256 % 2 == 1) && (key.protocol == 3)

-- whether a signature that stands beside the set counts: the tests of `Signed` but owner and class, which are the set's there
unfoldable pub signs : Accepts → RecordSet → Place → ℕ → Rrsig → Key → Bool
signs accepts set zone t sig key =
    (sig.covered == set.rtype) && names_key zone sig key && is_below (place set.owner) zone
    && nat_le sig.labels (length set.owner) && is_zone_key key && in_period sig.inception sig.expiration t
    && accepts key.flags key.protocol key.algorithm key.public_key (signed_bytes sig set) sig.signature
