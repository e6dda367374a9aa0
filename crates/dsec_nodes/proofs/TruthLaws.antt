-- What signed causes say of every zone of which their record is true (RFC 4035 5.2, RFC 5155 8.9).
use Rattle.std.proofs.Common.{◌≡◌, ℕ, ◌<◌, true, false, refl, sym, ◌∙◌, subst, inl, inr, ◌⊎◌, arith}
use Rattle.std.proofs.lemmas.Bool.{true≢false}
use Rattle.dsec_spec.specs.Names.{Place}
use Rattle.dsec_spec.specs.Numbers.{NS, SOA, DS}
use Rattle.dsec_spec.specs.Records.{RecordSet}
use Rattle.dsec_spec.specs.Zones.{Zone, IsZone, Owns, Exists, IsInsecureDelegation}
use Rattle.dsec_spec.specs.DenyingRecords.{NsecAt, Nsec3At, MatchesHash, has_hashed}
use Rattle.dsec_spec.specs.DenialTruth.{IsNsecTrue, IsNsec3True, IsOptedOut, IsFree}
use Rattle.dsec_spec.proofs.NsecTruthLaws.{matched_owns, matched_lacks, nothing_stands}
use Rattle.dsec_nodes.specs.SignedCauses.{HasNoDs, nsec_at, HasNoDsByHash, OptsOut, nsec3_at}
use Rattle.dsec_nodes.specs.WithinCauses.{HasNoCut, HasNamesBelow, HasNoCutByHash}

-- by its NSEC record a name is a delegation without DS (RFC 4035 5.2)
pub no_ds_is : (z : Zone) (c : Place) (set : RecordSet) → IsZone z → (h : HasNoDs c set) → IsNsecTrue z (nsec_at set h.nsec)
    → IsInsecureDelegation z c
no_ds_is z c set zone h t = (
  record {
    ns = matched_owns z r t c NS (omega arith) h.matches h.delegates;
    below = λ at. matched_lacks z r t c SOA (omega arith) h.matches h.no_apex (subst (λ (p : Place). Owns z p SOA) (sym at) zone.soa);
  },
  matched_lacks z r t c DS (omega arith) h.matches h.no_ds,
)
  where
    r : NsecAt
    r = nsec_at set h.nsec

-- an NSEC3 record that matches a name is of this name, where no other name of the zone has its hash (RFC 5155 1.3)
module _ (z : Zone) (c : Place) (r : Nsec3At) (t : IsNsec3True z r) (free : IsFree r.says.hashing z (λ n. n ≡ c)) (matches : MatchesHash r c) where
  named : t.name ≡ c
  named = free t.name c (inl t.found) (inr refl) (t.owner ∙ sym matches)

  owns : (q : ℕ) → q < 65536 → has_hashed r q ≡ true → Owns z c q
  owns q small has = subst (λ (p : Place). Owns z p q) named ((t.types q small).0 has)

  lacks : (q : ℕ) → q < 65536 → has_hashed r q ≡ false → Owns z c q → ⊥
  lacks q small none own = true≢false (sym ((t.types q small).1 (subst (λ (p : Place). Owns z p q) (sym named) own)) ∙ none)

-- so a name is a delegation without DS by its NSEC3 record (RFC 5155 8.9)
pub no_ds_by_hash_is : (z : Zone) (c : Place) (set : RecordSet) → IsZone z → (h : HasNoDsByHash c z.apex set)
    → IsNsec3True z (nsec3_at z.apex set h.hashed) → IsFree h.hashed.is_nsec3.nsec3.hashing z (λ n. n ≡ c) → IsInsecureDelegation z c
no_ds_by_hash_is z c set zone h t free =
    let r = nsec3_at z.apex set h.hashed in (
      record {
        ns = owns z c r t free h.matches NS (omega arith) h.delegates;
        below = λ at. lacks z c r t free h.matches SOA (omega arith) h.no_apex (subst (λ (p : Place). Owns z p SOA) (sym at) zone.soa);
      },
      lacks z c r t free h.matches DS (omega arith) h.no_ds,
    )

-- by an NSEC3 record with Opt-Out nothing but delegations without DS stands at or below a name that exists (RFC 5155 6)
pub opts_out_is : (z : Zone) (c : Place) (set : RecordSet) → (h : OptsOut c z.apex set) → IsNsec3True z (nsec3_at z.apex set h.hashed)
    → Exists z c → IsOptedOut z c
opts_out_is z c set h t there = t.gap_but_opted_out h.with_opt_out c there h.covers

-- by the NSEC record of its own, or of an empty non-terminal, a name is no delegation (RFC 4034 4.1.2, RFC 4592 2.2.2)
pub no_cut_is : (z : Zone) (c : Place) (r : NsecAt) → HasNoCut c r ⊎ HasNamesBelow c r → IsNsecTrue z r → Owns z c NS → ⊥
no_cut_is z c r (inl own) t owns = matched_lacks z r t c NS (omega arith) own.matches own.no_delegation owns
no_cut_is z c r (inr below) t owns = nothing_stands z r t c below.covers (NS, owns)

-- so by its NSEC3 record, where no other name of the zone has its hash (RFC 5155 3.1.8)
pub no_cut_by_hash_is : (z : Zone) (c : Place) (set : RecordSet) → (h : HasNoCutByHash c z.apex set) → IsNsec3True z (nsec3_at z.apex set h.hashed)
    → IsFree h.hashed.is_nsec3.nsec3.hashing z (λ n. n ≡ c) → Owns z c NS → ⊥
no_cut_by_hash_is z c set h t free ns = lacks z c (nsec3_at z.apex set h.hashed) t free h.matches NS (omega arith) h.no_delegation ns
