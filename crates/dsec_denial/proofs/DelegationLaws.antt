-- What NSEC records that speak of a missing DS mean in the zones of which they are true (RFC 4034 4, RFC 4035 5.2).
use Rattle.std.proofs.Common.{◌≡◌, true, false, sym, subst, arith, inl, inr}
use Rattle.dsec_spec.specs.Names.{Place, IsAtOrBelow, IsStrictlyBelow}
use Rattle.dsec_spec.specs.Numbers.{DS, NS, SOA}
use Rattle.dsec_spec.specs.Zones.{Zone, IsZone, Owns, Stands, Exists, IsInsecureDelegation}
use Rattle.dsec_spec.specs.DenyingRecords.{NsecAt, owner_of, next_of, has, Matches, Covers}
use Rattle.dsec_spec.specs.DenialTruth.{IsNsecTrue}
use Rattle.dsec_spec.proofs.NameOrder.{below_not_before}
use Rattle.dsec_spec.proofs.NamesBelow.{below_trans, at_or_below, ancestors_comparable}
use Rattle.dsec_spec.proofs.NsecTruthLaws.{matched_owns, matched_lacks, nothing_stands}

-- a record at a name with NS, without DS and SOA: another zone begins there, without DS
pub delegation_by_match : (z : Zone) (r : NsecAt) (n : Place) → IsZone z → IsNsecTrue z r → Matches r n → has r NS ≡ true → has r DS ≡ false → has r SOA ≡ false → IsInsecureDelegation z n
delegation_by_match z r n iz t m ns ds soa = (
  record {
    ns = matched_owns z r t n NS (omega arith) m ns;
    below = λ e. matched_lacks z r t n SOA (omega arith) m soa (subst (λ (x : Place). Owns z x SOA) (sym e) iz.soa);
  },
  matched_lacks z r t n DS (omega arith) m ds,
)

-- a record that covers a name and whose next name is under it: the name exists, and nothing stands there
pub empty_by_next : (z : Zone) (r : NsecAt) (n : Place) → IsZone z → IsNsecTrue z r → Covers r n → IsStrictlyBelow (next_of r) n → Exists z n × (Stands z n → ⊥)
empty_by_next z r n iz t c x = (
  record { within = within; owner = next_of r; stands = t.next; at_or_below = at_or_below (next_of r) n x },
  nothing_stands z r t n c,
)
  where
    inside : (m : Place) → Stands z m → IsAtOrBelow m z.apex
    inside m s = iz.within m s.0 s.1

    within : IsAtOrBelow n z.apex
    within =
        elim (ancestors_comparable (next_of r) n z.apex (at_or_below (next_of r) n x) (inside (next_of r) t.next)) [
          | inl h ↦ h
          | inr above ↦ absurd (below_not_before (owner_of r) n (below_trans (owner_of r) z.apex n (inside (owner_of r) t.owner) (at_or_below z.apex n above)) c.after)
        ]
