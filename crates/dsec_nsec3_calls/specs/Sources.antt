-- Where denials by hashes are looked for, as the code keeps it.
use Rattle.std.specs.Prelude.{List}
use Rattle.dsec_absence.specs.Answers.{Source}
use Rattle.dsec_nsec3.specs.Counting.{HashLimits, HashedSighting, hashed_sightings}
use Rattle.dsec_nsec3_calls.specs.Views.{hash_limits, source_of}
use Rattle.dsec_nsec3_calls.specs.declared.source.Source as code

-- the groups, the class and the zone
abbrev pub source_view : {V : Type 0} → code.Source V → Source
source_view source = source_of source.groups.now source.class source.signer.now

-- how far hashes are followed
abbrev pub limits_view : {V : Type 0} → code.Source V → HashLimits
limits_view source = hash_limits source.limits.now

-- what the groups are to a denial by hashes
abbrev pub seen_view : {V : Type 0} → code.Source V → List HashedSighting
seen_view source = hashed_sightings (limits_view source) (source_view source)
