-- The code's bounds as the definitions have them.
use Rattle.std.specs.Prelude.{◌+◌}
use Rattle.dsec_nodes.specs.World as worlds
use Rattle.dsec_node.specs.Configs.{Settings}
use Rattle.dsec_node.specs.declared.bounds.Bounds.{Bounds}

-- bounds, field by field
abbrev pub bounds_view : Bounds → worlds.Bounds
bounds_view b = record {
  room = b.room;
  max_validity = b.max_validity;
  max_bogus_validity = b.max_bogus_validity;
  max_ds_records = b.max_ds_records;
  max_keys_for_ds = b.max_keys_for_ds;
  iterations_insecure = b.iterations_insecure;
  iterations_bogus = b.iterations_bogus;
  most_hashes = b.most_hashes;
}

-- the bounds that settings give: one more pair than may be bad is tried
abbrev pub bounds_of : Settings → worlds.Bounds
bounds_of s = record {
  room = s.max_bad_signatures + 1;
  max_validity = s.max_validity;
  max_bogus_validity = s.max_bogus_validity;
  max_ds_records = s.max_ds_records;
  max_keys_for_ds = s.max_dnskeys_per_ds;
  iterations_insecure = s.nsec3_iter_insecure;
  iterations_bogus = s.nsec3_iter_bogus;
  most_hashes = s.max_nsec3_hashes;
}
