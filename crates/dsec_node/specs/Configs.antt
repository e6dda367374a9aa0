-- The settings of a validator: how much it does at most, how much it keeps, and for how long.
use Rattle.std.specs.Prelude.{ℕ}

pub record Settings : Type 0 where
  -- how many nodes a cache of nodes is to hold, for whoever makes one
  pub max_node_cache : ℕ
  -- how many iterated hashes are to be kept (RFC 5155 5)
  pub max_nsec3_cache : ℕ
  -- how many answers are to be kept for signatures of DS and DNSKEY sets
  pub max_isig_cache : ℕ
  -- how many answers are to be kept for signatures of all other sets
  pub max_usig_cache : ℕ
  -- for how many seconds a node is valid at most
  pub max_validity : ℕ
  -- for how many seconds a bogus node is valid
  pub max_bogus_validity : ℕ
  -- how many signatures of a set may be bad under keys that they name, and another be tried after them
  pub max_bad_signatures : ℕ
  -- more NSEC3 iterations than these prove nothing, and what they are to prove is insecure (RFC 9276 3.2)
  pub nsec3_iter_insecure : ℕ
  -- more NSEC3 iterations than these are bogus (RFC 9276 3.2)
  pub nsec3_iter_bogus : ℕ
  -- how many CNAME and DNAME records are followed
  pub max_cname_dname : ℕ
  -- how many DS records of a set are tried
  pub max_ds_records : ℕ
  -- how many keys with the algorithm and tag of a DS record are tried with it
  pub max_dnskeys_per_ds : ℕ
  -- how many iterated hashes are made at most to find one closest encloser
  pub max_nsec3_hashes : ℕ

-- the settings that nobody has changed
abbrev pub default_settings : Settings
default_settings = record {
  max_node_cache = 100;
  max_nsec3_cache = 100;
  max_isig_cache = 1000;
  max_usig_cache = 1000;
  max_validity = 604800;
  max_bogus_validity = 30;
  max_bad_signatures = 1;
  nsec3_iter_insecure = 100;
  nsec3_iter_bogus = 500;
  max_cname_dname = 11;
  max_ds_records = 20;
  max_dnskeys_per_ds = 4;
  max_nsec3_hashes = 60;
}
