-- What stands between a record's owner and its data, as the code has it.
use Rattle.std.specs.Prelude.{ℕ, ◌+◌, List, Option, Some}
use Rattle.dsec_spec.specs.Reading.{◌>>=◌, u16_at, u32_at}
use Rattle.dsec_wire.specs.declared.reading.RecordHead.{RecordHead}

-- the 10 octets between a record's owner and its data (RFC 1035 4.1.3)
abbrev pub record_head : List ℕ → ℕ → Option RecordHead
record_head message at = do
  rtype ← u16_at message at
  class ← u16_at message (at + 2)
  ttl ← u32_at message (at + 4)
  size ← u16_at message (at + 8)
  Some (record { rtype = rtype; class = class; ttl = ttl; size = size })
