-- The signed zone of RFC 4035 A, its NSEC records that RFC 4035 B shows, and the answers by them: so that no definition is empty.
use Rattle.std.proofs.Common.{◌≡◌, ℕ, true, false, List, [], ◌∷◌, ◌++◌, refl, arith}
use Rattle.std.specs.Prelude.{codes, Some}
use Rattle.dsec_cause.specs.declared.cause.Cause.TheVariants.{NsecFromApexForDs, NsecDnameOrDelegation, NsecProvesType, WildcardElsewhere}
use Rattle.dsec_spec.specs.Names.{Labels, Place, place, is_below, IsAtOrBelow}
use Rattle.dsec_spec.specs.Numbers.{A, NS, SOA, MX, AAAA, DS, RRSIG, NSEC, DNSKEY}
use Rattle.dsec_spec.specs.RecordData.{labels_in, name_in, blocks_in}
use Rattle.dsec_spec.specs.RecordViews.{Nsec, nsec_octets}
use Rattle.dsec_spec.specs.Zones.{Zone, IsZone, each_type, wildcard}
use Rattle.dsec_spec.specs.DenyingRecords.{NsecAt}
use Rattle.dsec_spec.specs.DenialTruth.{IsNsecTrue}
use Rattle.dsec_spec.proofs.SignedTests.{below_decides}
use Rattle.dsec_absence.specs.Owning.{OwnsNoType, OwnsNoName, OwnsNoTypeByWildcard, OwnsNoCloser}
use Rattle.dsec_absence.specs.Evidence.{Evidence}
use Rattle.dsec_absence.specs.Tests.{common}
use Rattle.dsec_absence.specs.Answers.{Source, search, denied, nothing, refused, nsec_for_nodata, nsec_for_nodata_wildcard, nsec_for_not_exists, nsec_for_nxdomain, not_exists_for_wildcard}
use Rattle.dsec_absence.specs.Denials.{no_type, no_name, no_type_by_wildcard, no_closer}
use Rattle.dsec_absence.proofs.NameLaws.{ShowsMissing}
use Rattle.dsec_absence.proofs.TestLaws.{type_shown, missing_shown}
use Rattle.dsec_absence.proofs.DenialLaws as laws
use Rattle.dsec_absence.proofs.Checking.{below, zone_is, nsec_is, to_next}

-- host information (RFC 1035 3.3.2)
abbrev HINFO : ℕ
HINFO = 13

-- the names (RFC 4035 A)
abbrev example : Labels
example = codes "example" ∷ []

abbrev in_zone : List (List ℕ) → Labels
in_zone labels = labels ++ example

abbrev a : Labels
a = in_zone (codes "a" ∷ [])

abbrev ai : Labels
ai = in_zone (codes "ai" ∷ [])

abbrev b : Labels
b = in_zone (codes "b" ∷ [])

abbrev ns1 : Labels
ns1 = in_zone (codes "ns1" ∷ [])

abbrev ns2 : Labels
ns2 = in_zone (codes "ns2" ∷ [])

abbrev w : Labels
w = in_zone (codes "w" ∷ [])

abbrev star_w : Labels
star_w = codes "*" ∷ w

abbrev x_w : Labels
x_w = codes "x" ∷ w

abbrev x_y_w : Labels
x_y_w = codes "x" ∷ codes "y" ∷ w

abbrev xx : Labels
xx = in_zone (codes "xx" ∷ [])

-- the types at each, and no address below a delegation
abbrev pub zone : Zone
zone = record {
  apex = place example;
  sets =
      each_type (NS ∷ SOA ∷ MX ∷ RRSIG ∷ NSEC ∷ DNSKEY ∷ []) (place example)
      ++ each_type (NS ∷ DS ∷ RRSIG ∷ NSEC ∷ []) (place a)
      ++ each_type (A ∷ HINFO ∷ AAAA ∷ RRSIG ∷ NSEC ∷ []) (place ai)
      ++ each_type (NS ∷ RRSIG ∷ NSEC ∷ []) (place b)
      ++ each_type (A ∷ RRSIG ∷ NSEC ∷ []) (place ns1)
      ++ each_type (A ∷ RRSIG ∷ NSEC ∷ []) (place ns2)
      ++ each_type (MX ∷ RRSIG ∷ NSEC ∷ []) (place star_w)
      ++ each_type (MX ∷ RRSIG ∷ NSEC ∷ []) (place x_w)
      ++ each_type (MX ∷ RRSIG ∷ NSEC ∷ []) (place x_y_w)
      ++ each_type (A ∷ HINFO ∷ AAAA ∷ RRSIG ∷ NSEC ∷ []) (place xx);
}

pub zone_is_one : IsZone zone
zone_is_one = zone_is zone (record { soa = refl; ns = refl; outside = refl; one_soa = refl; cuts = refl })

-- the records that RFC 4035 B shows: bits 1 (A), 2 (NS), 6 (SOA), 15 (MX), 43 (DS), 46 (RRSIG), 47 (NSEC), 48 (DNSKEY)
abbrev of_apex : Nsec
of_apex = record { next_name = a; types = 0 ∷ 7 ∷ 34 ∷ 1 ∷ 0 ∷ 0 ∷ 0 ∷ 3 ∷ 128 ∷ [] }

abbrev of_a : Nsec
of_a = record { next_name = ai; types = 0 ∷ 6 ∷ 32 ∷ 0 ∷ 0 ∷ 0 ∷ 0 ∷ 19 ∷ [] }

abbrev of_b : Nsec
of_b = record { next_name = ns1; types = 0 ∷ 6 ∷ 32 ∷ 0 ∷ 0 ∷ 0 ∷ 0 ∷ 3 ∷ [] }

abbrev of_ns1 : Nsec
of_ns1 = record { next_name = ns2; types = 0 ∷ 6 ∷ 64 ∷ 0 ∷ 0 ∷ 0 ∷ 0 ∷ 3 ∷ [] }

abbrev of_star_w : Nsec
of_star_w = record { next_name = x_w; types = 0 ∷ 6 ∷ 0 ∷ 1 ∷ 0 ∷ 0 ∷ 0 ∷ 3 ∷ [] }

abbrev of_x_y_w : Nsec
of_x_y_w = record { next_name = xx; types = 0 ∷ 6 ∷ 0 ∷ 1 ∷ 0 ∷ 0 ∷ 0 ∷ 3 ∷ [] }

abbrev pub at : Labels → Nsec → NsecAt
at owner nsec = record { owner = owner; says = nsec }

-- they are true of the zone
pub apex_true : IsNsecTrue zone (at example of_apex)
unfolding blocks_in below
apex_true = nsec_is zone (at example of_apex) (record {
  block = record { window = 0; bits = 34 ∷ 1 ∷ 0 ∷ 0 ∷ 0 ∷ 3 ∷ 128 ∷ [] };
  one = refl;
  window = refl;
  small = refl;
  types = refl;
  owner = refl;
  next = refl;
  gap = to_next refl refl;
})

pub b_true : IsNsecTrue zone (at b of_b)
unfolding blocks_in below
b_true = nsec_is zone (at b of_b) (record {
  block = record { window = 0; bits = 32 ∷ 0 ∷ 0 ∷ 0 ∷ 0 ∷ 3 ∷ [] };
  one = refl;
  window = refl;
  small = refl;
  types = refl;
  owner = refl;
  next = refl;
  gap = to_next refl refl;
})

pub ns1_true : IsNsecTrue zone (at ns1 of_ns1)
unfolding blocks_in below
ns1_true = nsec_is zone (at ns1 of_ns1) (record {
  block = record { window = 0; bits = 64 ∷ 0 ∷ 0 ∷ 0 ∷ 0 ∷ 3 ∷ [] };
  one = refl;
  window = refl;
  small = refl;
  types = refl;
  owner = refl;
  next = refl;
  gap = to_next refl refl;
})

pub star_w_true : IsNsecTrue zone (at star_w of_star_w)
unfolding blocks_in below
star_w_true = nsec_is zone (at star_w of_star_w) (record {
  block = record { window = 0; bits = 0 ∷ 1 ∷ 0 ∷ 0 ∷ 0 ∷ 3 ∷ [] };
  one = refl;
  window = refl;
  small = refl;
  types = refl;
  owner = refl;
  next = refl;
  gap = to_next refl refl;
})

pub x_y_w_true : IsNsecTrue zone (at x_y_w of_x_y_w)
unfolding blocks_in below
x_y_w_true = nsec_is zone (at x_y_w of_x_y_w) (record {
  block = record { window = 0; bits = 0 ∷ 1 ∷ 0 ∷ 0 ∷ 0 ∷ 3 ∷ [] };
  one = refl;
  window = refl;
  small = refl;
  types = refl;
  owner = refl;
  next = refl;
  gap = to_next refl refl;
})

-- its authority section, each record signed by the zone
abbrev evidence : Labels → Nsec → Evidence
evidence owner nsec = record {
  group = record {
    owner = owner;
    class = 1;
    rtype = NSEC;
    records = record { owner = owner; class = 1; rtype = NSEC; ttl = 3600; rdata = nsec_octets nsec } ∷ [];
    signatures = [];
    extra = [];
    had_duplicate = false;
  };
  signer = place example;
  is_secure = true;
  is_expanded = false;
}

abbrev by : List Evidence → Source
by groups = record { class = 1; signer = place example; groups = groups }

-- no name `ml.example.`, and no wildcard for it (RFC 4035 B.2)
pub name_error : nsec_for_nxdomain (by (evidence b of_b ∷ evidence example of_apex ∷ [])) (place (in_zone (codes "ml" ∷ []))) ≡ denied (no_name (place example) 0 1)
unfolding search common name_in labels_in blocks_in
name_error = refl

-- no MX at `ns1.example.` (RFC 4035 B.3)
pub no_data : nsec_for_nodata (by (evidence ns1 of_ns1 ∷ [])) (place ns1) MX ≡ denied (no_type 0)
unfolding search common name_in labels_in blocks_in
no_data = refl

-- an MX at `a.z.w.example.` from the wildcard: no closer name (RFC 4035 B.6)
pub wildcard_answer : not_exists_for_wildcard (by (evidence x_y_w of_x_y_w ∷ [])) (place (codes "a" ∷ codes "z" ∷ w)) (place w) ≡ denied (no_closer (place w) 0)
unfolding search common name_in labels_in blocks_in
wildcard_answer = refl

-- no AAAA at `a.z.w.example.` from the wildcard (RFC 4035 B.7)
pub wildcard_no_data : nsec_for_nodata_wildcard (by (evidence x_y_w of_x_y_w ∷ evidence star_w of_star_w ∷ [])) (place (codes "a" ∷ codes "z" ∷ w)) AAAA ≡ denied (no_type_by_wildcard (place w) 0 1)
unfolding search common name_in labels_in blocks_in
wildcard_no_data = refl

-- the zone's own record can't deny the DS at its apex (RFC 4035 B.8, RFC 6840 4.1)
pub no_ds_by_apex : nsec_for_nodata (by (evidence example of_apex ∷ [])) (place example) DS ≡ nothing (Some NsecFromApexForDs)
unfolding search common name_in labels_in blocks_in
no_ds_by_apex = refl

-- nor can a delegation's deny what is below it (RFC 6840 4.1)
pub none_below_cut : nsec_for_not_exists (by (evidence a of_a ∷ [])) (place (codes "mc" ∷ a)) ≡ refused NsecDnameOrDelegation
unfolding search common name_in labels_in blocks_in
none_below_cut = refl

-- a type that stands isn't denied
pub type_stands : nsec_for_nodata (by (evidence ns1 of_ns1 ∷ [])) (place ns1) A ≡ nothing (Some NsecProvesType)
unfolding search common name_in labels_in blocks_in
type_stands = refl

-- nor is a name by a wildcard that is farther off
pub wildcard_elsewhere : not_exists_for_wildcard (by (evidence x_y_w of_x_y_w ∷ [])) (place (codes "a" ∷ codes "z" ∷ w)) (place example) ≡ refused WildcardElsewhere
unfolding search common name_in labels_in blocks_in
wildcard_elsewhere = refl

below_apex : (n : Place) → is_below n (place example) ≡ true → IsAtOrBelow n (place example)
below_apex n e = (below_decides n (place example)).0 e

-- so the zone owns none of these: the premises of the laws can be met
pub no_ml : OwnsNoName zone (place (in_zone (codes "ml" ∷ [])))
unfolding common blocks_in
no_ml =
    (laws.name_denied (place example) (place (in_zone (codes "ml" ∷ []))) (below_apex (place (in_zone (codes "ml" ∷ []))) refl) (at b of_b) (at example of_apex) (place example) A
    (missing_shown (at b of_b) (place (in_zone (codes "ml" ∷ []))) (place example) refl)
    star.around.covers star.not_above_next).denies zone zone_is_one refl (b_true, apex_true)
  where
    star : ShowsMissing (at example of_apex) (wildcard (place example)) (place example)
    star = missing_shown (at example of_apex) (wildcard (place example)) (place example) refl

pub no_mx : OwnsNoType zone (place ns1) MX
unfolding blocks_in
no_mx = (laws.type_denied (place example) (at ns1 of_ns1) (place ns1) MX (omega arith) (type_shown (at ns1 of_ns1) (place ns1) MX refl)).denies zone zone_is_one refl ns1_true

pub no_aaaa : OwnsNoTypeByWildcard zone (place (codes "a" ∷ codes "z" ∷ w)) AAAA
unfolding common blocks_in
no_aaaa =
    (laws.type_below_denied (place example) (place (codes "a" ∷ codes "z" ∷ w)) (below_apex (place (codes "a" ∷ codes "z" ∷ w)) refl) (at x_y_w of_x_y_w) (at star_w of_star_w) (place w) AAAA (omega arith)
    (missing_shown (at x_y_w of_x_y_w) (place (codes "a" ∷ codes "z" ∷ w)) (place w) refl)
    (type_shown (at star_w of_star_w) (wildcard (place w)) AAAA refl)).denies zone zone_is_one refl (x_y_w_true, star_w_true)

pub no_closer_name : OwnsNoCloser zone (place (codes "a" ∷ codes "z" ∷ w)) (place w)
unfolding common blocks_in
no_closer_name =
    (laws.closer_denied (place example) (place (codes "a" ∷ codes "z" ∷ w)) (below_apex (place (codes "a" ∷ codes "z" ∷ w)) refl) (at x_y_w of_x_y_w) (place w) MX
    (missing_shown (at x_y_w of_x_y_w) (place (codes "a" ∷ codes "z" ∷ w)) (place w) refl)).denies zone zone_is_one refl x_y_w_true
