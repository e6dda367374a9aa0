-- How a zone hashes its names, by the setting.
use Rattle.std.specs.Prelude.{if◌then◌else◌}
use Rattle.dsec_spec.specs.RecordViews.{Hashing}
use Rattle.dsec_sorted.specs.declared.config.Nsec3Config.{Nsec3Config}

-- by SHA-1, with the flag Opt-Out where the setting has it (RFC 5155 3.1, 11)
abbrev pub hashing_of : Nsec3Config → Hashing
hashing_of config = record {
  hash_algorithm = 1;
  flags = if config.opt_out then 1 else 0;
  iterations = config.iterations;
  salt = config.salt;
}

-- the same with flags 0 (RFC 5155 4.1.2)
abbrev pub without_flags : Hashing → Hashing
without_flags how = record { hash_algorithm = how.hash_algorithm; flags = 0; iterations = how.iterations; salt = how.salt }
