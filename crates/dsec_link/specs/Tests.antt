-- The tests of a signature that come before the verifier's (RFC 4035 5.3.1).
use Rattle.std.specs.Prelude.{◌≡◌, ℕ, ◌≤◌, length}
use Rattle.dsec_spec.specs.Names.{Labels, Place, place, IsAtOrBelow}
use Rattle.dsec_spec.specs.Records.{Key, Rrsig}
use Rattle.dsec_spec.specs.KeyTag.{key_tag}
use Rattle.dsec_spec.specs.Period.{InPeriod}
use Rattle.dsec_spec.specs.Signed.{IsZoneKey}

-- the signature names the zone and the key: its signer, algorithm and tag are theirs
pub record Names (sig : Rrsig) (key : Key) (zone : Place) : Type 0 where
  pub signer : place sig.signer ≡ zone
  pub algorithm : sig.algorithm ≡ key.algorithm
  pub tag : sig.tag ≡ key_tag key

-- the signature and the key may be for a set of this owner and type at the moment t
pub record MaySign (owner : Labels) (rtype : ℕ) (sig : Rrsig) (key : Key) (zone : Place) (t : ℕ) : Type 0 where
  pub covers : sig.covered ≡ rtype
  pub labels : sig.labels ≤ length owner
  pub zone_key : IsZoneKey key
  pub period : InPeriod sig.inception sig.expiration t
  pub within : IsAtOrBelow (place owner) zone
