-- The replies of RFC 5155 B over the zone of RFC 5155 A, by the hashes themselves: 12 iterations with the salt `aabbccdd`, and Opt-Out.
use Rattle.std.proofs.Common.{◌≡◌, ℕ, true, false, List, [], ◌∷◌, ◌++◌, Option, Some, None, refl}
use Rattle.std.specs.Prelude.{codes}
use Rattle.sha1.specs.Sha1.{sha1, first_words, schedule, rounds, compress, hash_after, digest_bytes}
use Rattle.dsec_cause.specs.declared.cause.Cause.TheVariants.{Nsec3OptOut, Nsec3FromApexForDs, Nsec3IterationsInsecure, Nsec3IterationsTooHigh, Nsec3DnameOrDelegation, NoNsec3Proof}
use Rattle.dsec_spec.specs.Names.{Labels, Place, place}
use Rattle.dsec_spec.specs.Numbers.{A, MX, AAAA, DS}
use Rattle.dsec_spec.specs.Digests.{iterated_hash}
use Rattle.dsec_spec.specs.RecordData.{blocks_in}
use Rattle.dsec_spec.specs.RecordViews.{nsec3_octets}
use Rattle.dsec_spec.specs.Base32hex.{octets_in_base32hex, number_of, digits_of}
use Rattle.dsec_absence.specs.Evidence.{Evidence}
use Rattle.dsec_absence.specs.Answers.{Source}
use Rattle.dsec_nsec3.specs.Counting.{HashLimits}
use Rattle.dsec_nsec3.specs.HashedDenials.{type_gone, name_gone, wildcard_type_gone, closer_gone}
use Rattle.dsec_nsec3.specs.Walks.{look_from, walk_from, exhausted, nsec3_for_not_exists}
use Rattle.dsec_nsec3.specs.Openings.{by_opt_out, by_iterations}
use Rattle.dsec_nsec3.specs.HashedAnswers.{disproved, opened, broken, unshown, type_from, cover_from, nsec3_for_nodata, nsec3_for_nodata_wildcard, nsec3_for_nxdomain}
use Rattle.dsec_nsec3.specs.Conclusions.{closer_by_hash}

abbrev example : Labels
example = codes "example" ∷ []

abbrev in_zone : Labels → Labels
in_zone labels = labels ++ example

-- an NSEC3 group of the zone: how it hashes, the label of its owner, the next hash, and its bitmap
abbrev group : ℕ → ℕ → List ℕ → List ℕ → List ℕ → Evidence
group flags iterations label next types = record {
  group = record {
    owner = label ∷ example;
    class = 1;
    rtype = 50;
    records = record {
      owner = label ∷ example;
      class = 1;
      rtype = 50;
      ttl = 3600;
      rdata = nsec3_octets (record {
        hashing = record { hash_algorithm = 1; flags = flags; iterations = iterations; salt = 170 ∷ 187 ∷ 204 ∷ 221 ∷ [] };
        next_owner = next;
        types = types;
      });
    } ∷ [];
    signatures = [];
    extra = [];
    had_duplicate = false;
  };
  signer = place example;
  is_secure = true;
  is_expanded = false;
}

-- the octets that a label writes
abbrev read : List ℕ → List ℕ
read label = or_none (octets_in_base32hex label)
  where
    or_none : Option (List ℕ) → List ℕ
    or_none None = []
    or_none (Some octets) = octets

abbrev by : List Evidence → Source
by groups = record { class = 1; signer = place example; groups = groups }

abbrev limits : HashLimits
limits = record { iterations_insecure = 100; iterations_bogus = 500; most_hashes = 60 }

-- records of the zone that the replies have, of the name that each is called by; of `example.` first
abbrev of_apex : ℕ → Evidence
of_apex flags = group flags 12 (codes "0p9mhaveqvm6t7vbl5lop2u3t2rp3tom") (read (codes "2t7b4g4vsa5smi47k61mv5bv1a22bojr")) (0 ∷ 7 ∷ 34 ∷ 1 ∷ 0 ∷ 0 ∷ 0 ∷ 2 ∷ 144 ∷ [])

abbrev of_ns1 : Evidence
of_ns1 = group 1 12 (codes "2t7b4g4vsa5smi47k61mv5bv1a22bojr") (read (codes "2vptu5timamqttgl4luu9kg21e0aor3s")) (0 ∷ 6 ∷ 64 ∷ 0 ∷ 0 ∷ 0 ∷ 0 ∷ 2 ∷ [])

abbrev of_a : ℕ → Evidence
of_a flags = group flags 12 (codes "35mthgpgcu1qg68fab165klnsnk3dpvl") (read (codes "b4um86eghhds6nea196smvmlo4ors995")) (0 ∷ 6 ∷ 32 ∷ 0 ∷ 0 ∷ 0 ∷ 0 ∷ 18 ∷ [])

abbrev of_x_w : ℕ → Evidence
of_x_w flags = group flags 12 (codes "b4um86eghhds6nea196smvmlo4ors995") (read (codes "gjeqe526plbf1g8mklp59enfd789njgi")) (0 ∷ 6 ∷ 0 ∷ 1 ∷ 0 ∷ 0 ∷ 0 ∷ 2 ∷ [])

abbrev of_y_w : Evidence
of_y_w = group 1 12 (codes "ji6neoaepv8b5o6k4ev33abha8ht9fgc") (read (codes "k8udemvp1j2f7eg6jebps17vp3n8i58h")) []

abbrev of_w : Evidence
of_w = group 0 12 (codes "k8udemvp1j2f7eg6jebps17vp3n8i58h") (read (codes "kohar7mbb8dc2ce8a9qvl8hon4k53uhi")) []

abbrev of_ns2 : Evidence
of_ns2 = group 0 12 (codes "q04jkcevqvmu85r014c7dkba38o0ji5r") (read (codes "r53bq7cc2uvmubfu5ocmm6pers9tk9en")) (0 ∷ 6 ∷ 64 ∷ 0 ∷ 0 ∷ 0 ∷ 0 ∷ 2 ∷ [])

abbrev of_star_w : Evidence
of_star_w = group 0 12 (codes "r53bq7cc2uvmubfu5ocmm6pers9tk9en") (read (codes "t644ebqk9bibcna874givr6joj62mlhv")) (0 ∷ 6 ∷ 0 ∷ 1 ∷ 0 ∷ 0 ∷ 0 ∷ 2 ∷ [])

abbrev x_w : Place
x_w = place (in_zone (codes "x" ∷ codes "w" ∷ []))

abbrev c_x_w : Place
c_x_w = place (in_zone (codes "c" ∷ codes "x" ∷ codes "w" ∷ []))

abbrev a_c_x_w : Place
a_c_x_w = place (in_zone (codes "a" ∷ codes "c" ∷ codes "x" ∷ codes "w" ∷ []))

abbrev w : Place
w = place (in_zone (codes "w" ∷ []))

abbrev a_z_w : Place
a_z_w = place (in_zone (codes "a" ∷ codes "z" ∷ codes "w" ∷ []))

-- no `a.c.x.w.example.` (B.1): the next closer name is covered with Opt-Out, so that it may be an unsigned delegation
pub name_error : nsec3_for_nxdomain limits (by (of_apex 1 ∷ of_x_w 1 ∷ of_a 1 ∷ [])) a_c_x_w ≡ opened (Some Nsec3OptOut) (by_opt_out 0 c_x_w)
unfolding type_from cover_from walk_from look_from iterated_hash sha1 first_words schedule rounds compress hash_after digest_bytes blocks_in number_of digits_of
name_error = refl

-- without Opt-Out it is denied, by six hashes for the closest encloser, and by no fewer
pub name_error_closed : nsec3_for_nxdomain (record limits { most_hashes = 6 }) (by (of_apex 0 ∷ of_x_w 0 ∷ of_a 0 ∷ [])) a_c_x_w ≡ disproved (name_gone x_w (Some 1) 0 2)
unfolding type_from cover_from walk_from look_from iterated_hash sha1 first_words schedule rounds compress hash_after digest_bytes blocks_in number_of digits_of
name_error_closed = refl

pub five_hashes : nsec3_for_not_exists (record limits { most_hashes = 5 }) (by (of_apex 0 ∷ of_x_w 0 ∷ of_a 0 ∷ [])) a_c_x_w ≡ exhausted
unfolding type_from cover_from walk_from look_from iterated_hash sha1 first_words schedule rounds compress hash_after digest_bytes blocks_in number_of digits_of
five_hashes = refl

-- no MX at `ns1.example.` (B.2)
pub no_data : nsec3_for_nodata limits (by (of_ns1 ∷ [])) (place (in_zone (codes "ns1" ∷ []))) MX ≡ disproved (type_gone 0)
unfolding type_from cover_from walk_from look_from iterated_hash sha1 first_words schedule rounds compress hash_after digest_bytes blocks_in number_of digits_of
no_data = refl

-- no A at `y.w.example.`, which has names under it and no set (B.2.1)
pub no_data_without_a_set : nsec3_for_nodata limits (by (of_y_w ∷ [])) (place (in_zone (codes "y" ∷ codes "w" ∷ []))) A ≡ disproved (type_gone 0)
unfolding type_from cover_from walk_from look_from iterated_hash sha1 first_words schedule rounds compress hash_after digest_bytes blocks_in number_of digits_of
no_data_without_a_set = refl

-- an MX at `a.z.w.example.` from the wildcard (B.4), were it without Opt-Out: no closer name
pub wildcard_answer : closer_by_hash limits (by (of_ns2 ∷ [])) a_z_w w ≡ disproved (closer_gone w 0)
unfolding type_from cover_from walk_from look_from iterated_hash sha1 first_words schedule rounds compress hash_after digest_bytes blocks_in number_of digits_of
wildcard_answer = refl

-- no AAAA at `a.z.w.example.` from the wildcard (B.5), were it without Opt-Out
pub wildcard_no_data : nsec3_for_nodata_wildcard limits (by (of_w ∷ of_ns2 ∷ of_star_w ∷ [])) a_z_w AAAA ≡ disproved (wildcard_type_gone w (Some 0) 1 2)
unfolding type_from cover_from walk_from look_from iterated_hash sha1 first_words schedule rounds compress hash_after digest_bytes blocks_in number_of digits_of
wildcard_no_data = refl

-- the zone's own record can't deny the DS at its apex (B.6)
pub no_ds_by_apex : nsec3_for_nodata limits (by (of_apex 1 ∷ [])) (place example) DS ≡ unshown (Some Nsec3FromApexForDs)
unfolding type_from cover_from walk_from look_from iterated_hash sha1 first_words schedule rounds compress hash_after digest_bytes blocks_in number_of digits_of
no_ds_by_apex = refl

-- a record with 101 iterations leaves open what it is asked about, and one with 501 makes it bogus
pub many_iterations : nsec3_for_nxdomain limits (by (group 0 101 (codes "00") [] [] ∷ [])) c_x_w ≡ opened (Some Nsec3IterationsInsecure) (by_iterations 0)
unfolding type_from cover_from walk_from look_from iterated_hash sha1 first_words schedule rounds compress hash_after digest_bytes blocks_in number_of digits_of
many_iterations = refl

pub too_many_iterations : nsec3_for_nxdomain limits (by (group 0 501 (codes "00") [] [] ∷ [])) c_x_w ≡ broken Nsec3IterationsTooHigh
unfolding type_from cover_from walk_from look_from iterated_hash sha1 first_words schedule rounds compress hash_after digest_bytes blocks_in number_of digits_of
too_many_iterations = refl

-- one with a flag that isn't known is passed over, whatever its iterations are
pub unknown_flag : nsec3_for_nxdomain limits (by (group 2 501 (codes "00") [] [] ∷ [])) c_x_w ≡ unshown (Some NoNsec3Proof)
unfolding type_from cover_from walk_from look_from iterated_hash sha1 first_words schedule rounds compress hash_after digest_bytes blocks_in number_of digits_of
unknown_flag = refl

-- the one record of a zone with its apex alone, around the circle of hashes: with this bitmap
abbrev alone : List ℕ → Evidence
alone types = group 0 12 (codes "0p9mhaveqvm6t7vbl5lop2u3t2rp3tom") (read (codes "0p9mhaveqvm6t7vbl5lop2u3t2rp3tom")) types

-- it covers each other name
pub nothing_else : nsec3_for_nxdomain limits (by (alone (0 ∷ 1 ∷ 34 ∷ []) ∷ [])) (place (in_zone (codes "c" ∷ []))) ≡ disproved (name_gone (place example) None 0 0)
unfolding type_from cover_from walk_from look_from iterated_hash sha1 first_words schedule rounds compress hash_after digest_bytes blocks_in number_of digits_of
nothing_else = refl

-- but with DNAME it says nothing of those, which are redirected
pub redirected : nsec3_for_nxdomain limits (by (alone (0 ∷ 5 ∷ 34 ∷ 0 ∷ 0 ∷ 0 ∷ 1 ∷ []) ∷ [])) (place (in_zone (codes "c" ∷ []))) ≡ unshown (Some Nsec3DnameOrDelegation)
unfolding type_from cover_from walk_from look_from iterated_hash sha1 first_words schedule rounds compress hash_after digest_bytes blocks_in number_of digits_of
redirected = refl
