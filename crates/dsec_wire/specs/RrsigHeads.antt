-- The octets of an RRSIG record before the signer's name, as the code has them.
use Rattle.std.specs.Prelude.{ℕ, List, Option, Some, slice_get}
use Rattle.dsec_spec.specs.Reading.{◌>>=◌, u16_at, u32_at}
use Rattle.dsec_wire.specs.declared.rrsig.RrsigHead.{RrsigHead}

-- the 18 octets before the signer's name (RFC 4034 3.1)
abbrev pub rrsig_head : List ℕ → Option RrsigHead
rrsig_head x = do
  covered ← u16_at x 0
  algorithm ← slice_get x 2
  labels ← slice_get x 3
  original_ttl ← u32_at x 4
  expiration ← u32_at x 8
  inception ← u32_at x 12
  tag ← u16_at x 16
  Some (record { type_covered = covered; algorithm = algorithm; labels = labels; original_ttl = original_ttl; expiration = expiration; inception = inception; key_tag = tag })
