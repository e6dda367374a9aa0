-- What judging goes by: signatures, anchors, bounds and a moment (RFC 4033 2, RFC 4034 3.1.5).
use Rattle.std.specs.Prelude.{ℕ, ◌%◌, ◌^◌, List, Option}
use Rattle.dsec_spec.specs.Names.{Place}
use Rattle.dsec_spec.specs.Records.{Record}
use Rattle.dsec_spec.specs.Accepts.{Accepts}
use Rattle.dsec_nsec3.specs.Counting.{HashLimits}

-- how much is tried, and for how many seconds something is kept at most (RFC 4035 4.5, 4.7)
pub record Bounds : Type 0 where
  -- how many matching pairs of a signature and a key are tried of a set
  pub room : ℕ
  -- for how many seconds a node of a zone is kept at most (RFC 4035 4.3)
  pub max_validity : ℕ
  -- for how many seconds a bogus node is kept (RFC 4035 4.7)
  pub max_bogus_validity : ℕ
  -- how many usable DS records of a set are tried
  pub max_ds_records : ℕ
  -- how many keys of a DS record's algorithm and tag are tried
  pub max_keys_for_ds : ℕ
  -- up to how many iterations an NSEC3 record is followed (RFC 9276 3.2)
  pub iterations_insecure : ℕ
  -- above how many iterations an NSEC3 record makes a name bogus (RFC 9276 3.2)
  pub iterations_bogus : ℕ
  -- how many hashes are made at most to find a closest encloser (RFC 5155 8.3)
  pub most_hashes : ℕ

-- how far hashes are followed (RFC 5155 8.3, RFC 9276 3.2)
abbrev pub limits_of : Bounds → HashLimits
limits_of bounds = record {
  iterations_insecure = bounds.iterations_insecure;
  iterations_bogus = bounds.iterations_bogus;
  most_hashes = bounds.most_hashes;
}

-- what judging goes by: the signatures that are accepted, the anchors, the bounds, and the moment in seconds since 1970 (RFC 4033 2)
pub record World : Type 0 where
  pub accepts : Accepts
  pub anchors : List Record
  pub bounds : Bounds
  pub now : ℕ

-- the reply to the question for a type at a place, if there is one (RFC 1035 4.1)
abbrev pub Replies : Type 0
Replies = Place → ℕ → Option (List ℕ)

-- a moment as signatures have it, on a circle of 2 ^ 32 seconds (RFC 4034 3.1.5)
abbrev pub on_circle : ℕ → ℕ
on_circle seconds = seconds % 2 ^ 32

-- the moment of judging, as signatures have it (RFC 4034 3.1.5)
abbrev pub moment : World → ℕ
moment w = on_circle w.now
