-- A root zone with its apex alone and its one NSEC3 record: this is true of it, hashes tell its names apart, and what the record denies isn't there. So
-- what the laws ask for can be had.
use Rattle.std.proofs.Common.{◌≡◌, ℕ, true, false, List, [], ◌∷◌, ◌++◌, None, refl, sym, ap, ◌∙◌, subst, inl, inr, ◌⊎◌, arith}
use Rattle.std.specs.Prelude.{codes}
use Rattle.std.proofs.lemmas.Bool.{false≢true}
use Rattle.sha1.specs.Sha1.{sha1, first_words, schedule, rounds, compress, hash_after, digest_bytes}
use Rattle.dsec_spec.specs.Names.{Place, IsAtOrBelow}
use Rattle.dsec_spec.specs.Numbers.{A, NS, SOA, DNAME, RRSIG, DNSKEY, NSEC3PARAM}
use Rattle.dsec_spec.specs.Digests.{iterated_hash}
use Rattle.dsec_spec.specs.RecordData.{blocks_in}
use Rattle.dsec_spec.specs.RecordViews.{Hashing}
use Rattle.dsec_spec.specs.Zones.{Zone, Stands, IsZone, Exists, each_type, wildcard}
use Rattle.dsec_spec.specs.DenyingRecords.{Nsec3At, has_hashed, hash_by, IsBetween}
use Rattle.dsec_spec.specs.DenialTruth.{IsNsec3True, IsFree}
use Rattle.dsec_spec.proofs.HashCircle.{hash_not_itself}
use Rattle.dsec_spec.proofs.NamesBelow.{below_itself, below_root}
use Rattle.dsec_spec.proofs.Members.{from_map}
use Rattle.dsec_absence.specs.Owning.{OwnsNoType, OwnsNoName}
use Rattle.dsec_absence.proofs.Checking.{below, zone_is, owns_is, types_are}
use Rattle.dsec_nsec3.specs.Tests.{covers_hash}
use Rattle.dsec_nsec3.proofs.HashTests.{covers_decides, without_is}
use Rattle.dsec_nsec3.proofs.HashDenialLaws.{type_denied, name_denied}

-- the root zone: its apex, with NS, SOA, RRSIG, DNSKEY and NSEC3PARAM
abbrev root : Zone
root = record { apex = []; sets = each_type (NS ∷ SOA ∷ RRSIG ∷ DNSKEY ∷ NSEC3PARAM ∷ []) [] }

pub root_is_zone : IsZone root
root_is_zone = zone_is root (record { soa = refl; ns = refl; outside = refl; one_soa = refl; cuts = refl })

-- what exists there is the apex
stands_at_root : (n : Place) → Stands root n → n ≡ []
stands_at_root n s =
    let from = from_map (λ (t : ℕ). one t) (NS ∷ SOA ∷ RRSIG ∷ DNSKEY ∷ NSEC3PARAM ∷ []) (n, s.0) s.1 in
    sym (ap (λ (p : Place × ℕ). p.0) from.2)
  where
    one : ℕ → Place × ℕ
    one t = ([], t)

nothing_above : (n under : Place) → [] ≡ n ++ under → n ≡ []
nothing_above [] under e = refl
nothing_above (l ∷ n) under e = absurd cc

only_root : (n : Place) → Exists root n → n ≡ []
only_root n e = nothing_above n e.at_or_below.under (sym (stands_at_root e.owner e.stands) ∙ e.at_or_below.is)

-- how it hashes: without salt, and once
abbrev how : Hashing
how = record { hash_algorithm = 1; flags = 0; iterations = 0; salt = [] }

-- its record, whose gap goes once around
abbrev its : Nsec3At
its = record {
  zone = [];
  owner_hash = hash_by how [];
  says = record { hashing = how; next_owner = hash_by how []; types = 0 ∷ 7 ∷ 34 ∷ 0 ∷ 0 ∷ 0 ∷ 0 ∷ 2 ∷ 144 ∷ [] };
}

outside : (h x : List ℕ) → x ≡ h → IsBetween h h x → ⊥
outside h x e b =
    elim (subst (λ (y : List ℕ). IsBetween h h y) e b) [
      | inl both ↦ hash_not_itself h both.0
      | inr far ↦ elim (far.1) [ inl less ↦ hash_not_itself h less | inr less ↦ hash_not_itself h less ]
    ]

pub its_is_true : IsNsec3True root its
unfolding below blocks_in
its_is_true = record {
  of_zone = refl;
  name = [];
  found = record { within = below_root []; owner = []; stands = (NS, owns_is root [] NS refl); at_or_below = below_itself [] };
  owner = refl;
  types = types_are root [] its.says.types (record {
    block = record { window = 0; bits = 34 ∷ 0 ∷ 0 ∷ 0 ∷ 0 ∷ 2 ∷ 144 ∷ [] };
    one = refl;
    window = refl;
    small = refl;
    agree_each = refl;
  });
  gap = λ closed n e c. outside (hash_by how []) (hash_by how n) (ap (hash_by how) (only_root n e)) c;
  gap_but_opted_out = λ flag. absurd (false≢true flag);
}

pub root_is_free : IsFree how root (λ m. IsAtOrBelow [] m)
root_is_free m n a b e = at m a ∙ sym (at n b)
  where
    at : (x : Place) → Exists root x ⊎ IsAtOrBelow [] x → x ≡ []
    at x (inl e) = only_root x e
    at x (inr h) = nothing_above x h.under h.is

-- no A at the root
pub no_address : OwnsNoType root [] A
unfolding blocks_in
no_address = (type_denied [] its [] A (omega arith) refl (without_is its [] A refl)).denies root root_is_zone refl (record { is_true = its_is_true; free = root_is_free })

-- and no `x.`, nor a wildcard for it: the apex is its closest encloser
abbrev x : Place
x = codes "x" ∷ []

covers_x : covers_hash its x ≡ true
unfolding iterated_hash sha1 first_words schedule rounds compress hash_after digest_bytes
covers_x = refl

covers_star : covers_hash its (wildcard []) ≡ true
unfolding iterated_hash sha1 first_words schedule rounds compress hash_after digest_bytes
covers_star = refl

no_dname : has_hashed its DNAME ≡ false
unfolding blocks_in
no_dname = refl

pub no_name : OwnsNoName root x
no_name =
    (name_denied [] None its x [] (record {
      encloser = refl;
      plain = λ bit _. false≢true (sym no_dname ∙ bit);
      next = record {
        next = x;
        closer = record { label = codes "x"; is = refl; towards = below_itself x };
        covered = record { covers = (covers_decides its x).0 covers_x; closed = refl };
      };
    }) its A (record { covers = (covers_decides its (wildcard [])).0 covers_star; closed = refl }) (λ bit _. false≢true (sym no_dname ∙ bit))).denies
    root root_is_zone refl (tt, its_is_true, its_is_true)
