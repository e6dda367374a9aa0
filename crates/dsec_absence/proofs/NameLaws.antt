-- What an NSEC record with a name in its gap, true of a zone, says of the name and those above it (RFC 4035 5.4, RFC 4592 3.3.1,
-- RFC 6840 4.1).
use Rattle.std.proofs.Common.{◌≡◌, true, false, sym, ◌∙◌, subst, inl, inr, ◌⊎◌, arith}
use Rattle.std.proofs.lemmas.Bool.{true≢false}
use Rattle.dsec_spec.specs.Names.{Place, Before, IsAtOrBelow, IsStrictlyBelow}
use Rattle.dsec_spec.specs.Numbers.{NS, SOA, DNAME}
use Rattle.dsec_spec.specs.Zones.{Zone, IsZone, Owns, Stands, IsDelegation, Exists, IsClosestEncloser}
use Rattle.dsec_spec.specs.DenyingRecords.{NsecAt, owner_of, next_of, has, Covers}
use Rattle.dsec_spec.specs.DenialTruth.{IsNsecTrue}
use Rattle.dsec_spec.proofs.NameOrder.{before_trans, not_before_itself, in_order, below_not_before, before_all_below}
use Rattle.dsec_spec.proofs.NamesBelow.{below_itself, below_trans, at_or_below, below_or_not, same_or_below, not_both_below}
use Rattle.dsec_spec.proofs.NsecTruthLaws.{nothing_under, covered_missing}
use Rattle.dsec_spec.proofs.ZoneLaws.{standing_exists, closer_missing}
use Rattle.dsec_absence.specs.Owning.{IsRedirected, OwnsNoSuch}
use Rattle.dsec_absence.specs.Denials.{IsAround}

-- the record may deny names below its owner: no DNAME, and NS with SOA alone (RFC 6840 4.1)
pub record IsPlain (r : NsecAt) : Type 0 where
  pub no_dname : has r DNAME ≡ false
  pub no_cut : has r NS ≡ true → has r SOA ≡ true

-- the record is around the name, which isn't above its next name, and may deny names below its owner where the name is one
pub record ShowsMissing (r : NsecAt) (n c : Place) : Type 0 where
  pub around : IsAround r n c
  pub not_above_next : IsAtOrBelow (next_of r) n → ⊥
  pub plain : IsAtOrBelow n (owner_of r) → IsPlain r

-- a name is after each that it is under
above_before : (n a : Place) → IsStrictlyBelow n a → Before a n
above_before n a h =
    elim (in_order a n) [
      | inl b ↦ b
      | inr (inl same) ↦ absurd (not_both_below n a h (subst (λ (x : Place). IsAtOrBelow a x) same (below_itself a)))
      | inr (inr b) ↦ absurd (below_not_before n a (at_or_below n a h) b)
    ]

module _ (z : Zone) (iz : IsZone z) (r : NsecAt) (t : IsNsecTrue z r) (n : Place) (na : IsAtOrBelow n z.apex) where
  -- both ends of the gap stand
  end_stands : (c : Place) → IsAtOrBelow (owner_of r) c ⊎ IsAtOrBelow (next_of r) c → (s : Place) × Stands z s × IsAtOrBelow s c
  end_stands c h = elim h [ inl a ↦ (owner_of r, t.owner, a) | inr a ↦ (next_of r, t.next, a) ]

  -- the encloser that the record shows is the zone's
  pub encloser_is : (c : Place) → IsAround r n c → IsClosestEncloser z n c
  encloser_is c by = record {
    above = by.encloser.above;
    found =
        let s = end_stands c by.encloser.seen in
        record {
          within = by.encloser.longest z.apex na (inl (iz.within (owner_of r) t.owner.0 t.owner.1));
          owner = s.0;
          stands = s.1;
          at_or_below = s.2;
        };
    longest = λ m nm e.
        elim (below_or_not (owner_of r) m) [
          | inl a ↦ by.encloser.longest m (at_or_below n m nm) (inl a)
          | inr oa ↦ elim (below_or_not (next_of r) m) [
            | inl a ↦ by.encloser.longest m (at_or_below n m nm) (inr a)
            | inr xa ↦ absurd (nothing_under z r t n m e.owner by.covers (at_or_below n m nm) oa xa e.stands e.at_or_below)
          ]
        ];
  }

  -- no other zone begins above the name, unless it is at the owner, whose bits then say so
  no_cut_above : (c d : Place) → IsAround r n c → (IsAtOrBelow n (owner_of r) → has r NS ≡ true → has r SOA ≡ true) → IsStrictlyBelow n d → IsDelegation z d → ⊥
  no_cut_above c d by bits nd del =
      let cd = (encloser_is c by).longest d nd (standing_exists z iz d NS del.ns) in
      elim (by.encloser.seen) [
        | inl a ↦ elim (same_or_below (owner_of r) d (below_trans (owner_of r) c d a cd)) [
          | inr below ↦ iz.nothing_below_cuts d (owner_of r) del below t.owner
          | inl same ↦
              let at : IsDelegation z (owner_of r) = subst (λ (x : Place). IsDelegation z x) (sym same) del in
              let soa = bits (subst (λ (x : Place). IsAtOrBelow n x) (sym same) (at_or_below n d nd)) ((t.types NS (omega arith)).1 at.ns) in
              at.below (iz.one_soa (owner_of r) ((t.types SOA (omega arith)).0 soa))
        ]
        | inr a ↦ elim (same_or_below (next_of r) d (below_trans (next_of r) c d a cd)) [
          | inr below ↦ iz.nothing_below_cuts d (next_of r) del below t.next
          | inl same ↦
              let nx : IsAtOrBelow n (next_of r) = subst (λ (x : Place). IsAtOrBelow n x) (sym same) (at_or_below n d nd) in
              elim (t.gap) [
                | inl g ↦ below_not_before n (next_of r) nx (by.covers.before g.0)
                | inr g ↦ del.below (sym same ∙ g.0)
              ]
        ]
      ]

  -- no DNAME with nothing under it is above the name, unless it is at the owner, whose bits then say so
  no_redirection_above : Covers r n → (IsAtOrBelow n (owner_of r) → has r DNAME ≡ false) → IsRedirected z n → ⊥
  no_redirection_above cov bits d =
      let nd = at_or_below n d.from d.above in
      let up : Before d.from n = above_before n d.from d.above in
      elim (in_order (owner_of r) d.from) [
        | inl owner_first ↦ elim (t.gap) [
          | inl g ↦ g.1 d.from (DNAME, d.dname) owner_first (before_trans d.from n (next_of r) up (cov.before g.0))
          | inr g ↦ g.1 d.from (DNAME, d.dname) owner_first
        ]
        | inr (inl same) ↦
            let off : has r DNAME ≡ false = bits (subst (λ (x : Place). IsAtOrBelow n x) (sym same) nd) in
            true≢false (sym ((t.types DNAME (omega arith)).1 (subst (λ (x : Place). Owns z x DNAME) (sym same) d.dname)) ∙ off)
        | inr (inr owner_after) ↦ elim (below_or_not (owner_of r) d.from) [
          | inr out ↦ not_before_itself d.from (before_trans d.from (owner_of r) d.from owner_after (before_all_below d.from n d.from (owner_of r) nd (below_itself d.from) out cov.after))
          | inl a ↦ elim (same_or_below (owner_of r) d.from a) [
            | inl same ↦ not_before_itself d.from (subst (λ (x : Place). Before d.from x) same owner_after)
            | inr below ↦ d.alone (owner_of r) below t.owner
          ]
        ]
      ]

  -- the name is missing, and nothing above it says more of it
  pub no_such : (c : Place) → ShowsMissing r n c → OwnsNoSuch z n
  no_such c s =
      let gone : Exists z n → ⊥ = covered_missing z r t n s.around.covers s.not_above_next in
      record {
        no_name = gone;
        no_closer = closer_missing z n gone;
        no_cut = λ d. no_cut_above c d s.around (λ b. (s.plain b).no_cut);
        no_redirection = no_redirection_above s.around.covers (λ b. (s.plain b).no_dname);
      }
