-- NSEC3 records that show what is denied deny it, in each zone of the signer of which they are true (RFC 5155 8.4 to 8.8).
use Rattle.std.proofs.Common.{◌≡◌, ℕ, ◌<◌, Option, refl, sym, subst, inl, inr}
use Rattle.dsec_spec.specs.Names.{Place, IsAtOrBelow}
use Rattle.dsec_spec.specs.Zones.{Zone, IsZone, Exists, IsClosestEncloser, wildcard}
use Rattle.dsec_spec.specs.DenyingRecords.{Nsec3At, MatchesHash}
use Rattle.dsec_spec.specs.DenialTruth.{IsNsec3True}
use Rattle.dsec_spec.proofs.NamesBelow.{below_itself}
use Rattle.dsec_spec.proofs.ZoneLaws.{one_closest, one_next, exists_up}
use Rattle.dsec_absence.specs.Owning.{OwnsNoType, OwnsNoSuch}
use Rattle.dsec_nsec3.specs.HashedDenials.{type_gone, name_gone, wildcard_type_gone, closer_gone, IsCovered, IsNoOwnDname, IsAroundNext, IsEncloserProof, IsTrueIfThere, IsConcerned, IsHashedDenial}
use Rattle.dsec_nsec3.proofs.HashTests.{IsWithout}
use Rattle.dsec_nsec3.proofs.WildcardTruths.{under_wildcard}
use Rattle.dsec_nsec3.proofs.HashTruths.{covered_missing, no_type_by_hash, above_of, encloser_by_hash, no_such_by_hash}

-- a type at a name (RFC 5155 8.5, 8.6)
pub type_denied : (signer : Place) (r : Nsec3At) (n : Place) (q : ℕ) → q < 65536 → MatchesHash r n → IsWithout r n q → IsHashedDenial signer n q (type_gone r)
type_denied signer r n q small same w = record {
  in_place = same;
  denies = λ z iz top t. no_type_by_hash z iz (λ m. IsAtOrBelow n m) r t n (below_itself n) same q small w;
}

-- in each zone of the signer, a missing name's closest encloser is the one shown, and the zone owns nothing of the kind (RFC 5155 8.3)
pub gone_means : (z : Zone) → IsZone z → (signer : Place) → z.apex ≡ signer → (e : Option Nsec3At) (r : Nsec3At) (n c : Place) → IsTrueIfThere z (IsConcerned n c) e
    → IsNsec3True z r → IsEncloserProof signer e r n c → OwnsNoSuch z n × IsClosestEncloser z n c
gone_means z iz signer top e r n c te tr p =
    let listed = inl (above_of n c p.next.next p.next.closer) in
    (no_such_by_hash z iz signer top r tr n c (IsConcerned n c) listed e te p, encloser_by_hash z iz signer top r tr n c (IsConcerned n c) listed e te p)

module _ (signer : Place) (e : Option Nsec3At) (r : Nsec3At) (n c : Place) (p : IsEncloserProof signer e r n c) where
  -- a name, and the wildcard that could stand for it (RFC 5155 8.4)
  pub name_denied : (w : Nsec3At) (q : ℕ) → IsCovered w (wildcard c) → IsNoOwnDname signer w → IsHashedDenial signer n q (name_gone c e r w)
  name_denied w q cov other = record {
    in_place = record { proof = p; wildcard_covered = cov; no_own = other };
    denies = λ z iz top t.
        let both = gone_means z iz signer top e r n c t.0 t.1 p in
        record {
          no_such = both.0;
          no_wildcard = λ x ce h. covered_missing z w t.2 (wildcard c) cov (subst (λ (y : Place). Exists z (wildcard y)) (one_closest z n x c ce both.1) h);
        };
  }

  -- a name, and a type at the wildcard that stands for it (RFC 5155 8.7)
  pub wildcard_type_denied : (w : Nsec3At) (q : ℕ) → q < 65536 → MatchesHash w (wildcard c) → IsWithout w (wildcard c) q
      → IsHashedDenial signer n q (wildcard_type_gone c e r w)
  wildcard_type_denied w q small same bits = record {
    in_place = record { proof = p; wildcard_matched = same };
    denies = λ z iz top t.
        let both = gone_means z iz signer top e r n c t.0 t.1 p in
        record {
          no_such = both.0;
          no_type = λ x ce. subst (λ (y : Place). OwnsNoType z (wildcard y) q) (one_closest z n c x both.1 ce)
              (no_type_by_hash z iz (IsConcerned n c) w t.2 (wildcard c) (inr refl) same q small bits);
        };
  }

-- a name for which the wildcard under c stands (RFC 5155 8.8)
pub closer_denied : (signer : Place) (r : Nsec3At) (n c : Place) (q : ℕ) (p : IsAroundNext r n c) → IsNoOwnDname signer r → IsAtOrBelow p.next signer → IsHashedDenial signer n q (closer_gone c r)
closer_denied signer r n c q p other within = record {
  in_place = record { next = p; no_own = other };
  denies = λ z iz top t.
      let gone = covered_missing z r t p.next p.covered in
      let inside = subst (λ (m : Place). IsAtOrBelow p.next m) (sym top) within in
      record {
        no_name = λ x. gone (exists_up z n p.next x p.closer.towards inside);
        by_wildcard = under_wildcard z iz n c p.next p.closer inside gone;
        no_next = λ m other x. gone (subst (λ (y : Place). Exists z y) (one_next n c m p.next other p.closer) x);
      };
}
