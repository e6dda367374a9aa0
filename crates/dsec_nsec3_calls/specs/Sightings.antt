-- What groups are to a denial by hashes, as the code keeps it (RFC 5155 8.1, 8.2, RFC 9276 3.2).
use Rattle.dsec_spec.specs.Names.{Place}
use Rattle.dsec_spec.specs.RecordViews.{Nsec3}
use Rattle.dsec_nsec3.specs.Counting as counting
use Rattle.dsec_nsec3.specs.Counting.{HashedSighting, ignored, stops, hashed, too_many_iterations, many_iterations, bad_owner_hash}
use Rattle.dsec_nsec3_calls.specs.Views.{nsec3_at}
use Rattle.dsec_nsec3_calls.specs.declared.sighting.End.{End}
use Rattle.dsec_nsec3_calls.specs.declared.sighting.End.TheVariants.{TooManyIterations, ManyIterations, BadOwnerHash}
use Rattle.dsec_nsec3_calls.specs.declared.sighting.Sighting.{Sighting}
use Rattle.dsec_nsec3_calls.specs.declared.sighting.Sighting.TheVariants.{Ignored, Stops, Hashed}
use Rattle.dsec_nsec3_calls.specs.declared.sighting.Test.{Test}
use Rattle.dsec_nsec3_calls.specs.declared.sighting.Test.TheVariants as tests

-- why a group ends a call
abbrev pub end_view : End → counting.End
end_view TooManyIterations = too_many_iterations
end_view ManyIterations = many_iterations
end_view BadOwnerHash = bad_owner_hash

-- what a group is
abbrev pub sighting_view : Place → Sighting → HashedSighting
sighting_view zone Ignored = ignored
sighting_view zone (Stops end) = stops (end_view end)
sighting_view zone (Hashed owner nsec3) = hashed (nsec3_at zone owner nsec3)

-- what the tests of a record with these data come to
abbrev pub test_view : Place → Nsec3 → Test → HashedSighting
test_view zone says tests.Fails = ignored
test_view zone says (tests.Ends end) = stops (end_view end)
test_view zone says (tests.Passes owner) = hashed (record { zone = zone; owner_hash = owner; says = says })
