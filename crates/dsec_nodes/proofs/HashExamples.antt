-- What NSEC3 records of `example.` show of `sub.example.`: by their iterations, their algorithm, their flags and their zone, and by hashes that
-- are given.
use Rattle.std.proofs.Common.{◌≡◌, ℕ, true, false, List, [], ◌∷◌, Some, None, refl}
use Rattle.std.specs.Prelude.{codes}
use Rattle.dsec_spec.specs.Names.{Labels, place}
use Rattle.dsec_spec.specs.RecordData.{labels_in, name_in, blocks_in}
use Rattle.dsec_spec.specs.Records.{key_octets, rrsig_of}
use Rattle.dsec_spec.specs.RecordViews.{Nsec3, nsec3_octets}
use Rattle.dsec_spec.specs.Signed.{signs}
use Rattle.dsec_spec.specs.Groups.{Group}
use Rattle.dsec_spec.specs.Lasting.{least_ttl}
use Rattle.dsec_spec.proofs.ChainExample.{example as parent, zone_key}
use Rattle.dsec_spec.proofs.DelegationExample.{child}
use Rattle.dsec_nodes.specs.Causes.{Nsec3IterationsTooHigh, Nsec3UnsupportedAlgorithm, Nsec3BadOwnerHash, Nsec3FromWrongZone, Nsec3ForDsFromApex, Nsec3ProvesNameMissingForDs, NoProofForMissingDs}
use Rattle.dsec_nodes.specs.Nodes.{bogus, nsec3_without_ds, nsec3_opts_out, nsec3_iterates}
use Rattle.dsec_nodes.specs.ByDs.{Below, made}
use Rattle.dsec_nodes.specs.Looking.{passed, by_looked}
use Rattle.dsec_nodes.specs.MissingByHash.{by_hash_gap, by_hashes}
use Rattle.dsec_nodes.specs.MissingDs.{looked_among}
use Rattle.dsec_nodes.proofs.NodeExamples.{w, zone, signed, comes_to, standing_of, basis_in}

-- NSEC3 data: from the hash that the owner writes to this one, with the types of one octet of bits
abbrev gap : ℕ → ℕ → ℕ → List ℕ → ℕ → Nsec3
gap algorithm flags iterations next bits = record {
  hashing = record { hash_algorithm = algorithm; flags = flags; iterations = iterations; salt = [] };
  next_owner = next;
  types = 0 ∷ 1 ∷ bits ∷ [];
}

-- an NSEC3 record of this owner, with a signature over so many labels
abbrev hashed_set : Labels → Nsec3 → ℕ → Group
hashed_set owner nsec3 labels = record {
  owner = owner;
  class = 1;
  rtype = 50;
  records = record { owner = owner; class = 1; rtype = 50; ttl = 200; rdata = nsec3_octets nsec3 } ∷ [];
  signatures = signed 50 labels ∷ [];
  extra = [];
  had_duplicate = false;
}

-- what a reply comes to with one of the zone's, whose label is no hash
abbrev by_one : Nsec3 → Below
by_one nsec3 = comes_to [] (hashed_set (codes "0" ∷ parent) nsec3 2 ∷ [])

-- 101 iterations make the name insecure, and 501 bogus
some_iterations : basis_in (standing_of (by_one (gap 1 0 101 (7 ∷ []) 32))) ≡ Some (Some Nsec3IterationsTooHigh, nsec3_iterates)
unfolding looked_among rrsig_of name_in labels_in blocks_in signs least_ttl
some_iterations = refl

many_iterations : standing_of (by_one (gap 1 0 501 (7 ∷ []) 32)) ≡ Some (bogus Nsec3IterationsTooHigh)
unfolding looked_among rrsig_of name_in labels_in blocks_in signs least_ttl
many_iterations = refl

-- but not where the record is an expansion of a wildcard, or of another algorithm, flag or zone
expanded_iterations : standing_of (comes_to [] (hashed_set (codes "0" ∷ parent) (gap 1 0 101 (7 ∷ []) 32) 1 ∷ [])) ≡ Some (bogus NoProofForMissingDs)
unfolding looked_among rrsig_of name_in labels_in blocks_in signs least_ttl
expanded_iterations = refl

other_algorithm : standing_of (by_one (gap 2 0 101 (7 ∷ []) 32)) ≡ Some (bogus Nsec3UnsupportedAlgorithm)
unfolding looked_among rrsig_of name_in labels_in blocks_in signs least_ttl
other_algorithm = refl

other_flag : standing_of (by_one (gap 1 2 101 (7 ∷ []) 32)) ≡ Some (bogus NoProofForMissingDs)
unfolding looked_among rrsig_of name_in labels_in blocks_in signs least_ttl
other_flag = refl

other_zone : standing_of (comes_to [] (hashed_set (codes "0" ∷ child) (gap 1 0 101 (7 ∷ []) 32) 3 ∷ [])) ≡ Some (bogus Nsec3FromWrongZone)
unfolding looked_among rrsig_of name_in labels_in blocks_in signs least_ttl
other_zone = refl

-- with 100 the label is read, which is no hash here
no_hash : standing_of (by_one (gap 1 0 100 (7 ∷ []) 32)) ≡ Some (bogus Nsec3BadOwnerHash)
unfolding looked_among rrsig_of name_in labels_in blocks_in signs least_ttl
no_hash = refl

-- what comes of a record from one hash to another, where the name has this hash
abbrev by_hash : ℕ → List ℕ → List ℕ → ℕ → List ℕ → Below
by_hash flags owner_hash next bits hash =
    let nsec3 = gap 1 flags 0 next bits in
    made (by_looked w (place child) (by_hashes w zone (key_octets zone_key ∷ []) (place child) (hashed_set (codes "00" ∷ parent) nsec3 2) nsec3 owner_hash hash))

-- a record that matches the name, with NS, with DS, with SOA
matching : basis_in (standing_of (by_hash 0 (5 ∷ []) (7 ∷ []) 32 (5 ∷ []))) ≡ Some (None, nsec3_without_ds)
unfolding rrsig_of name_in labels_in blocks_in signs least_ttl
matching = refl

matching_with_soa : standing_of (by_hash 0 (5 ∷ []) (7 ∷ []) 34 (5 ∷ [])) ≡ Some (bogus Nsec3ForDsFromApex)
unfolding rrsig_of name_in labels_in blocks_in signs least_ttl
matching_with_soa = refl

-- one that covers it, with Opt-Out and without; the last of the circle covers what is after it, and what is before the first
opting_out : basis_in (standing_of (by_hash 1 (3 ∷ []) (7 ∷ []) 32 (5 ∷ []))) ≡ Some (None, nsec3_opts_out)
unfolding rrsig_of name_in labels_in blocks_in signs least_ttl
opting_out = refl

covering : standing_of (by_hash 0 (3 ∷ []) (7 ∷ []) 32 (5 ∷ [])) ≡ Some (bogus Nsec3ProvesNameMissingForDs)
unfolding rrsig_of name_in labels_in blocks_in signs least_ttl
covering = refl

last_of_the_circle : basis_in (standing_of (by_hash 1 (7 ∷ []) (3 ∷ []) 32 (9 ∷ []))) ≡ Some (None, nsec3_opts_out)
unfolding rrsig_of name_in labels_in blocks_in signs least_ttl
last_of_the_circle = refl

before_the_first : basis_in (standing_of (by_hash 1 (7 ∷ []) (3 ∷ []) 32 (1 ∷ []))) ≡ Some (None, nsec3_opts_out)
unfolding rrsig_of name_in labels_in blocks_in signs least_ttl
before_the_first = refl

-- and one that does neither shows nothing
elsewhere : standing_of (by_hash 1 (3 ∷ []) (7 ∷ []) 32 (9 ∷ [])) ≡ Some (bogus NoProofForMissingDs)
unfolding rrsig_of name_in labels_in blocks_in signs least_ttl
elsewhere = refl

-- with Opt-Out and DNAME at the zone's own name what is below is redirected, and nothing is opted out
redirecting : by_hash_gap w zone (key_octets zone_key ∷ []) (place child) (hashed_set (codes "00" ∷ parent) (gap 1 1 0 (7 ∷ []) 32) 2) (gap 1 1 0 (7 ∷ []) 32) true (signed 50 2, zone_key) ≡ passed None
unfolding rrsig_of name_in labels_in
redirecting = refl
