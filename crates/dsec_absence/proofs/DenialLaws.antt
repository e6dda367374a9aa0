-- Records that show what is denied deny it, in each zone of the signer of which they are true (RFC 4035 5.4).
use Rattle.std.proofs.Common.{◌≡◌, ℕ, ◌<◌, sym, subst, inl, inr}
use Rattle.dsec_spec.specs.Names.{Place, IsAtOrBelow}
use Rattle.dsec_spec.specs.Zones.{Zone, IsZone, Exists, IsClosestEncloser, wildcard}
use Rattle.dsec_spec.specs.DenyingRecords.{NsecAt, next_of, Covers}
use Rattle.dsec_spec.specs.DenialTruth.{IsNsecTrue}
use Rattle.dsec_spec.proofs.NsecTruthLaws.{covered_missing}
use Rattle.dsec_spec.proofs.ZoneLaws.{one_closest}
use Rattle.dsec_absence.specs.Owning.{OwnsNoType, OwnsNoSuch}
use Rattle.dsec_absence.specs.Denials.{no_type, no_name, no_type_by_wildcard, no_closer, IsRecordOf, IsDenial}
use Rattle.dsec_absence.proofs.TypeLaws.{no_type_by_gap, no_type_by_bits}
use Rattle.dsec_absence.proofs.NameLaws.{ShowsMissing, encloser_is, no_such}
use Rattle.dsec_absence.proofs.TestLaws.{DeniesType, by_own, by_gap}

of_name : (r : NsecAt) (n : Place) (q : ℕ) → DeniesType r n q → IsRecordOf r n
of_name r n q (by_own m w) = inl m
of_name r n q (by_gap c b) = inr (c, b)

-- a type at a name, by a record of the name (RFC 4035 3.1.3.1)
pub type_denied : (signer : Place) (r : NsecAt) (n : Place) (q : ℕ) → q < 65536 → DeniesType r n q → IsDenial signer n q (no_type r)
type_denied signer r n q small d = record { in_place = of_name r n q d; denies = λ z iz top t. by z iz t d }
  where
    by : (z : Zone) → IsZone z → IsNsecTrue z r → DeniesType r n q → OwnsNoType z n q
    by z iz t (by_own m w) = no_type_by_bits z iz r t n q small m w
    by z iz t (by_gap c b) = no_type_by_gap z iz r t n q c

-- in each zone in which the name may be, a missing name's closest encloser is the one shown, and the zone owns nothing of the kind
pub missing_means : (z : Zone) → IsZone z → (r : NsecAt) → IsNsecTrue z r → (n c : Place) → IsAtOrBelow n z.apex → ShowsMissing r n c → OwnsNoSuch z n × IsClosestEncloser z n c
missing_means z iz r t n c na s = (no_such z iz r t n na c s, encloser_is z iz r t n na c s.around)

module _ (signer n : Place) (within : IsAtOrBelow n signer) where
  inside : (z : Zone) → z.apex ≡ signer → IsAtOrBelow n z.apex
  inside z top = subst (λ (p : Place). IsAtOrBelow n p) (sym top) within

  -- a name, and the wildcard that could stand for it (RFC 4035 3.1.3.2)
  pub name_denied : (r w : NsecAt) (c : Place) (q : ℕ) → ShowsMissing r n c → Covers w (wildcard c) → (IsAtOrBelow (next_of w) (wildcard c) → ⊥) → IsDenial signer n q (no_name c r w)
  name_denied r w c q s cov above = record {
    in_place = record { around = s.around; around_wildcard = cov };
    denies = λ z iz top t.
        let both = missing_means z iz r t.0 n c (inside z top) s in
        record {
          no_such = both.0;
          no_wildcard = λ e ce x. covered_missing z w t.1 (wildcard c) cov above (subst (λ (y : Place). Exists z (wildcard y)) (one_closest z n e c ce both.1) x);
        };
  }

  -- a name, and a type at the wildcard that stands for it (RFC 4035 3.1.3.4)
  pub type_below_denied : (r w : NsecAt) (c : Place) (q : ℕ) → q < 65536 → ShowsMissing r n c → DeniesType w (wildcard c) q → IsDenial signer n q (no_type_by_wildcard c r w)
  type_below_denied r w c q small s d = let of_wildcard = type_denied signer w (wildcard c) q small d in record {
    in_place = record { around = s.around; of_wildcard = of_wildcard.in_place };
    denies = λ z iz top t.
        let both = missing_means z iz r t.0 n c (inside z top) s in
        record {
          no_such = both.0;
          no_type = λ e ce. subst (λ (y : Place). OwnsNoType z (wildcard y) q) (one_closest z n c e both.1 ce) (of_wildcard.denies z iz top t.1);
        };
  }

  -- a name for which the wildcard under c stands (RFC 4035 3.1.3.3)
  pub closer_denied : (r : NsecAt) (c : Place) (q : ℕ) → ShowsMissing r n c → IsDenial signer n q (no_closer c r)
  closer_denied r c q s = record {
    in_place = s.around;
    denies = λ z iz top t.
        let both = missing_means z iz r t n c (inside z top) s in
        record { no_such = both.0; closest = both.1 };
  }
