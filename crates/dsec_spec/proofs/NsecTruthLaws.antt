-- What a true NSEC record says of names (RFC 4034 4, RFC 4035 5.4).
use Rattle.std.proofs.Common.{◌≡◌, ℕ, ◌<◌, true, false, sym, ◌∙◌, subst, inl, inr}
use Rattle.std.proofs.lemmas.Bool.{true≢false}
use Rattle.dsec_spec.specs.Names.{Place, Before, IsAtOrBelow}
use Rattle.dsec_spec.specs.Zones.{Zone, Owns, Stands, Exists}
use Rattle.dsec_spec.specs.DenyingRecords.{NsecAt, owner_of, next_of, has, Matches, Covers}
use Rattle.dsec_spec.specs.DenialTruth.{IsNsecTrue}
use Rattle.dsec_spec.proofs.NameOrder.{below_not_before, before_all_below, after_all_below}
use Rattle.dsec_spec.proofs.NamesBelow.{below_itself}

module _ (z : Zone) (r : NsecAt) (t : IsNsecTrue z r) where
  -- nothing stands at or below a name above n that neither end of the gap is under
  pub nothing_under : (n a m : Place) → Covers r n → IsAtOrBelow n a → (IsAtOrBelow (owner_of r) a → ⊥) → (IsAtOrBelow (next_of r) a → ⊥) → Stands z m → IsAtOrBelow m a → ⊥
  nothing_under n a m c na oa xa s ma =
      let after : Before (owner_of r) m = before_all_below a n m (owner_of r) na ma oa c.after in
      elim (t.gap) [
        | inl g ↦ g.1 m s after (after_all_below a n m (next_of r) na ma xa (c.before g.0))
        | inr g ↦ g.1 m s after
      ]

  owner_not_below : (n : Place) → Covers r n → IsAtOrBelow (owner_of r) n → ⊥
  owner_not_below n c h = below_not_before (owner_of r) n h c.after

  -- no set stands at a covered name
  pub nothing_stands : (n : Place) → Covers r n → Stands z n → ⊥
  nothing_stands n c s =
      elim (t.gap) [
        | inl g ↦ g.1 n s c.after (c.before g.0)
        | inr g ↦ g.1 n s c.after
      ]

  -- a covered name that the next isn't under doesn't exist
  pub covered_missing : (n : Place) → Covers r n → (IsAtOrBelow (next_of r) n → ⊥) → Exists z n → ⊥
  covered_missing n c x e = nothing_under n n e.owner c (below_itself n) (owner_not_below n c) x e.stands e.at_or_below

  -- a type stands at the name that the record matches where its bitmap has it, and else doesn't
  pub matched_owns : (n : Place) (q : ℕ) → q < 65536 → Matches r n → has r q ≡ true → Owns z n q
  matched_owns n q small m set = subst (λ (x : Place). Owns z x q) m ((t.types q small).0 set)

  pub matched_lacks : (n : Place) (q : ℕ) → q < 65536 → Matches r n → has r q ≡ false → Owns z n q → ⊥
  matched_lacks n q small m none owns = true≢false (sym ((t.types q small).1 (subst (λ (x : Place). Owns z x q) (sym m) owns)) ∙ none)
