-- What the NSEC record of a name, true of a zone, says of types there (RFC 4035 5.4, RFC 6840 4.1, 4.3).
use Rattle.std.proofs.Common.{◌≡◌, ℕ, ◌<◌, true, false, [], sym, subst, arith}
use Rattle.std.specs.Prelude.{◌≢◌}
use Rattle.dsec_spec.specs.Names.{Place}
use Rattle.dsec_spec.specs.Numbers.{NS, CNAME, SOA, DS}
use Rattle.dsec_spec.specs.Zones.{Zone, IsZone, Owns}
use Rattle.dsec_spec.specs.DenyingRecords.{NsecAt, has, Matches, Covers}
use Rattle.dsec_spec.specs.DenialTruth.{IsNsecTrue}
use Rattle.dsec_spec.proofs.NsecTruthLaws.{nothing_stands, matched_owns, matched_lacks}
use Rattle.dsec_absence.specs.Owning.{OwnsNoType}

-- a name's own bitmap has neither the type nor CNAME, and is of the zone that owns the type there: for DS, but at the root, not of the
-- zone below, and else not of the zone above (RFC 6840 4.1, 4.3)
pub record IsWithout (r : NsecAt) (n : Place) (q : ℕ) : Type 0 where
  pub no_type : has r q ≡ false
  pub no_alias : has r CNAME ≡ false
  pub not_above : q ≢ DS → has r NS ≡ true → has r SOA ≡ true
  pub not_below : q ≡ DS → n ≢ [] → has r NS ≡ true → has r SOA ≡ true → ⊥

module _ (z : Zone) (iz : IsZone z) (r : NsecAt) (t : IsNsecTrue z r) (n : Place) (q : ℕ) where
  -- no set stands at a name in the gap, and so none of the type
  pub no_type_by_gap : Covers r n → OwnsNoType z n q
  no_type_by_gap c = record {
    no_type = λ o. nothing_stands z r t n c (q, o);
    no_alias = λ o. nothing_stands z r t n c (CNAME, o);
    no_cut = λ _ d. nothing_stands z r t n c (NS, d.ns);
    no_apex = λ _ _ e. nothing_stands z r t n c (SOA, subst (λ (x : Place). Owns z x SOA) (sym e) iz.soa);
  }

  -- at the name of the record there is none without its bit
  pub no_type_by_bits : q < 65536 → Matches r n → IsWithout r n q → OwnsNoType z n q
  no_type_by_bits small m w = record {
    no_type = matched_lacks z r t n q small m w.no_type;
    no_alias = matched_lacks z r t n CNAME (omega arith) m w.no_alias;
    no_cut = λ ds d. d.below (iz.one_soa n (matched_owns z r t n SOA (omega arith) m (w.not_above ds (bit NS (omega arith) d.ns))));
    no_apex = λ ds root e.
        w.not_below ds root
        (bit NS (omega arith) (subst (λ (x : Place). Owns z x NS) (sym e) iz.ns))
        (bit SOA (omega arith) (subst (λ (x : Place). Owns z x SOA) (sym e) iz.soa));
  }
    where
      bit : (u : ℕ) → u < 65536 → Owns z n u → has r u ≡ true
      bit u small o = (t.types u small).1 (subst (λ (x : Place). Owns z x u) (sym m) o)
