-- What NSEC3 records that are true of a zone say of names (RFC 5155 8.3 to 8.8).
use Rattle.std.proofs.Common.{◌≡◌, ℕ, ◌<◌, true, false, [], ◌∷◌, ◌++◌, Option, Some, None, sym, ap, ◌∙◌, subst, inl, inr, append_assoc, arith}
use Rattle.std.proofs.lemmas.Bool.{true≢false}
use Rattle.dsec_spec.specs.Names.{Place, IsAtOrBelow, IsStrictlyBelow}
use Rattle.dsec_spec.specs.Numbers.{NS, CNAME, SOA, DNAME}
use Rattle.dsec_spec.specs.Zones.{Zone, IsZone, Owns, IsDelegation, Exists, IsClosestEncloser, IsNextCloser}
use Rattle.dsec_spec.specs.DenyingRecords.{Nsec3At, has_hashed, MatchesHash}
use Rattle.dsec_spec.specs.DenialTruth.{IsNsec3True}
use Rattle.dsec_spec.proofs.NamesBelow.{below_antisymm, same_or_below, below_trans, at_or_below, not_both_below}
use Rattle.dsec_spec.proofs.ZoneLaws.{standing_exists, closest_by_closer, missing_by_closer, closer_missing, no_cut_over}
use Rattle.dsec_absence.specs.Owning.{IsRedirected, OwnsNoType, OwnsNoSuch}
use Rattle.dsec_nsec3.specs.HashedDenials.{IsCovered, IsPlain, IsAtEncloser, IsPlainEncloser, IsEncloserProof, IsTrueAndFree, IsTrueIfThere}
use Rattle.dsec_nsec3.proofs.HashTests.{IsWithout}

-- a covered name is missing, where the record hasn't Opt-Out; hashes needn't tell names apart for this
pub covered_missing : (z : Zone) (r : Nsec3At) → IsNsec3True z r → (n : Place) → IsCovered r n → Exists z n → ⊥
covered_missing z r t n c e = t.gap c.closed n e c.covers

-- the apex exists
pub apex_exists : (z : Zone) → IsZone z → Exists z z.apex
apex_exists z iz = standing_exists z iz z.apex SOA iz.soa

module _ (z : Zone) (iz : IsZone z) (Concerned : Place → Type 0) (r : Nsec3At) (t : IsTrueAndFree z Concerned r) (n : Place) (listed : Concerned n) (same : MatchesHash r n) where
  -- a matched name is the record's
  matched_is : n ≡ t.is_true.name
  matched_is = t.free n t.is_true.name (inr listed) (inl t.is_true.found) (same ∙ sym t.is_true.owner)

  pub matched_exists : Exists z n
  matched_exists = subst (λ (x : Place). Exists z x) (sym matched_is) t.is_true.found

  matched_has : (u : ℕ) → u < 65536 → Owns z n u → has_hashed r u ≡ true
  matched_has u small o = (t.is_true.types u small).1 (subst (λ (x : Place). Owns z x u) matched_is o)

  matched_owns : (u : ℕ) → u < 65536 → has_hashed r u ≡ true → Owns z n u
  matched_owns u small h = subst (λ (x : Place). Owns z x u) (sym matched_is) ((t.is_true.types u small).0 h)

  matched_lacks : (u : ℕ) → u < 65536 → has_hashed r u ≡ false → Owns z n u → ⊥
  matched_lacks u small off o = true≢false (sym (matched_has u small o) ∙ off)

  -- where its bits are without the type, the zone owns none there (RFC 5155 8.5, 8.6)
  pub no_type_by_hash : (q : ℕ) → q < 65536 → IsWithout r n q → OwnsNoType z n q
  no_type_by_hash q small w = record {
    no_type = matched_lacks q small w.no_type;
    no_alias = matched_lacks CNAME (omega arith) w.no_alias;
    no_cut = λ ds d. d.below (iz.one_soa n (matched_owns SOA (omega arith) (w.not_above ds (matched_has NS (omega arith) d.ns))));
    no_apex = λ ds root a.
        w.not_below ds root
        (matched_has NS (omega arith) (subst (λ (x : Place). Owns z x NS) (sym a) iz.ns))
        (matched_has SOA (omega arith) (subst (λ (x : Place). Owns z x SOA) (sym a) iz.soa));
  }

  -- where they have NS with SOA alone, it is no delegation
  pub no_cut_by_hash : IsPlain r → IsDelegation z n → ⊥
  no_cut_by_hash p del = del.below (iz.one_soa n (matched_owns SOA (omega arith) (p.no_cut (matched_has NS (omega arith) del.ns))))

  pub no_dname_by_hash : IsPlain r → Owns z n DNAME → ⊥
  no_dname_by_hash p = matched_lacks DNAME (omega arith) p.no_dname

under : (a b k : Place) → IsAtOrBelow a b → IsStrictlyBelow b k → IsStrictlyBelow a k
under a b k ab bk =
    elim (same_or_below a k (below_trans a b k ab (at_or_below b k bk))) [
      | inr s ↦ s
      | inl same ↦ absurd (not_both_below b k bk (subst (λ (x : Place). IsAtOrBelow x b) same ab))
    ]

-- a name is under no DNAME where its closest encloser has none
no_redirection_by : (z : Zone) (n c : Place) → IsZone z → IsClosestEncloser z n c → (Owns z c DNAME → ⊥) → IsRedirected z n → ⊥
no_redirection_by z n c iz ce plain r =
    elim (same_or_below c r.from (ce.longest r.from r.above (standing_exists z iz r.from DNAME r.dname))) [
      | inl same ↦ plain (subst (λ (x : Place). Owns z x DNAME) (sym same) r.dname)
      | inr below ↦ r.alone ce.found.owner (under ce.found.owner c r.from ce.found.at_or_below below) ce.found.stands
    ]

-- The same where the apex is the closest encloser, and no record with DNAME that is the apex's own covers the next closer name: a DNAME at the apex
-- with nothing under it leaves one name, so that a true record is that name's (RFC 6672 2.4, RFC 6840 4.1)
no_redirection_by_own : (z : Zone) → IsZone z → (r : Nsec3At) → IsNsec3True z r → (n : Place) → IsClosestEncloser z n z.apex
    → (has_hashed r DNAME ≡ true → MatchesHash r z.apex → ⊥) → IsRedirected z n → ⊥
no_redirection_by_own z iz r t n ce own d =
    let from_is : d.from ≡ z.apex = below_antisymm d.from z.apex (iz.within d.from DNAME d.dname) (ce.longest d.from d.above (standing_exists z iz d.from DNAME d.dname)) in
    let e = t.found in
    let only : e.owner ≡ z.apex =
    elim (same_or_below e.owner z.apex (iz.within e.owner e.stands.0 e.stands.1)) [
      | inl same ↦ same
      | inr below ↦ absurd (d.alone e.owner (subst (λ (x : Place). IsStrictlyBelow e.owner x) (sym from_is) below) e.stands)
    ] in
    let name_is : t.name ≡ z.apex = below_antisymm t.name z.apex e.within (subst (λ (x : Place). IsAtOrBelow x t.name) only e.at_or_below) in
    own ((t.types DNAME (omega arith)).1 (subst (λ (x : Place). Owns z x DNAME) (from_is ∙ sym name_is) d.dname))
    (subst (λ (x : Place). MatchesHash r x) name_is t.owner)

-- a name that is next closer to an encloser is at or below it
pub above_of : (n c m : Place) → IsNextCloser n c m → IsAtOrBelow n c
above_of n c m nc = record { under = nc.label ∷ nc.towards.under; is = let e = nc.towards.is in let f = nc.is in longer e f }
  where
    longer : n ≡ m ++ nc.towards.under → m ≡ c ++ nc.label ∷ [] → n ≡ c ++ nc.label ∷ nc.towards.under
    longer e f = e ∙ (ap (λ (x : Place). x ++ nc.towards.under) f ∙ append_assoc c (nc.label ∷ []) nc.towards.under)

-- the closest encloser proof: what is matched exists, or is the apex, and is the closest encloser of a name whose next closer one is covered
-- (RFC 5155 8.3)
module _ (z : Zone) (iz : IsZone z) (signer : Place) (top : z.apex ≡ signer) (r : Nsec3At) (tr : IsNsec3True z r) (n c : Place)
    (Concerned : Place → Type 0) (listed : Concerned c) where
  encloser_exists : (e : Option Nsec3At) → IsTrueIfThere z Concerned e → IsAtEncloser signer c e → Exists z c
  encloser_exists None t p = subst (λ (x : Place). Exists z x) (top ∙ sym p) (apex_exists z iz)
  encloser_exists (Some e) t p = matched_exists z iz Concerned e t c listed p.1

  encloser_is_no_cut : (e : Option Nsec3At) → IsTrueIfThere z Concerned e → IsAtEncloser signer c e → IsPlainEncloser signer e r → IsDelegation z c → ⊥
  encloser_is_no_cut None t p plain del = del.below (p ∙ sym top)
  encloser_is_no_cut (Some e) t p plain del = no_cut_by_hash z iz Concerned e t c listed p.1 plain del

  encloser_redirects_not : (e : Option Nsec3At) → IsTrueIfThere z Concerned e → IsAtEncloser signer c e → IsPlainEncloser signer e r
      → IsClosestEncloser z n c → IsRedirected z n → ⊥
  encloser_redirects_not None t p plain ce =
      no_redirection_by_own z iz r tr n (subst (λ (x : Place). IsClosestEncloser z n x) (p ∙ sym top) ce)
      (λ bit same. plain bit (subst (λ (x : Place). MatchesHash r x) top same))
  encloser_redirects_not (Some e) t p plain ce = no_redirection_by z n c iz ce (no_dname_by_hash z iz Concerned e t c listed p.1 plain)

  module _ (e : Option Nsec3At) (te : IsTrueIfThere z Concerned e) (proof : IsEncloserProof signer e r n c) where
    next_missing : Exists z proof.next.next → ⊥
    next_missing = covered_missing z r tr proof.next.next proof.next.covered

    pub encloser_by_hash : IsClosestEncloser z n c
    encloser_by_hash = closest_by_closer z n c proof.next.next proof.next.closer (encloser_exists e te proof.encloser) next_missing

    pub no_such_by_hash : OwnsNoSuch z n
    no_such_by_hash =
        let ce = encloser_by_hash in
        let gone = missing_by_closer z n c proof.next.next proof.next.closer ce.found.within next_missing in
        record {
          no_name = gone;
          no_closer = closer_missing z n gone;
          no_cut = λ d nd del.
              no_cut_over z c d iz ce.found (encloser_is_no_cut e te proof.encloser proof.plain) del (ce.longest d nd (standing_exists z iz d NS del.ns));
          no_redirection = encloser_redirects_not e te proof.encloser proof.plain ce;
        }
