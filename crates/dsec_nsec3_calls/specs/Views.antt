-- Judged groups, limits and names as NSEC3 records are read by them.
use Rattle.std.specs.Prelude.{ℕ, List, [], ◌∷◌, reverse, Bool, false}
use Rattle.dsec_spec.specs.Names.{Labels, Place, place, same_place, wire_octets}
use Rattle.dsec_spec.specs.DenyingRecords.{Nsec3At}
use Rattle.dsec_group.specs.declared.limits.Limits.{Limits}
use Rattle.dsec_wire.specs.DataViews.{nsec3_view}
use Rattle.dsec_wire.specs.declared.nsec3.Nsec3.{Nsec3}
use Rattle.dsec_nsec3.specs.Counting.{HashLimits}
pub use Rattle.dsec_negative.specs.Views.{evidence_of, source_of}

-- how far hashes are followed, by the limits of validation
abbrev pub hash_limits : Limits → HashLimits
hash_limits l = record { iterations_insecure = l.nsec3_iter_insecure; iterations_bogus = l.nsec3_iter_bogus; most_hashes = l.max_nsec3_hashes }

-- an NSEC3 record of a zone, by the hash that its owner's first label writes
abbrev pub nsec3_at : Place → List ℕ → Nsec3 → Nsec3At
nsec3_at zone owner nsec3 = record { zone = zone; owner_hash = owner; says = nsec3_view nsec3 }

-- the canonical octets of the name at a place (RFC 4034 6.2)
abbrev pub place_octets : Place → List ℕ
place_octets n = wire_octets (reverse n)

-- whether an owner is a label above the zone's name (RFC 5155 3)
abbrev pub is_label_above : Place → Labels → Bool
is_label_above zone [] = false
is_label_above zone (label ∷ rest) = same_place (place rest) zone
