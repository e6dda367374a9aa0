-- Which names stand over a group.
use Rattle.std.proofs.Common.{◌≡◌, ℕ, ◌+◌, ◌==◌, ◌&&◌, Bool, true, false, cond, [], ◌∷◌, ◌++◌, length, refl, sym, ap, ◌∙◌, inl, inr, arith, length-append}
use Rattle.std.specs.Prelude.{◌≢◌}
use Rattle.std.specs.Bool.{Decides}
use Rattle.std.proofs.Math.Bool.{not}
use Rattle.std.proofs.lemmas.Bool.{true≢false, eqb-true, eqb-false, eq-eqb, ne_eqb}
use Rattle.std.proofs.lemmas.Bool.Decides.{same_from_decides}
use Rattle.dsec_spec.specs.Names.{Labels, Place, place, same_place, is_below, is_strictly_below, IsAtOrBelow, IsStrictlyBelow}
use Rattle.dsec_spec.specs.Numbers.{DS}
use Rattle.dsec_spec.specs.Islands.{looked_for_at}
use Rattle.dsec_spec.proofs.IslandLemmas.{looked_for_is}
use Rattle.dsec_spec.proofs.NamesBelow.{at_or_below, strictly_below_trans, ancestors_comparable}
use Rattle.dsec_spec.proofs.SignedTests.{below_decides, strictly_below_decides}
use Rattle.dsec_spec.proofs.CanonicalNames.{same_place_decides}
use Rattle.dsec_alias.proofs.MappingLaws.{length-place}

no_labels : (p : Place) → length p ≡ 0 → p ≡ []
no_labels [] e = refl
no_labels (label ∷ p) e = absurd cc

-- the root is the name of one label, its own
pub root_test : (name : Labels) → same_place (place name) [] ≡ (length name + 1 == 1)
root_test name = by (same_place (place name) []) refl
  where
    by : (b : Bool) → same_place (place name) [] ≡ b → b ≡ (length name + 1 == 1)
    by true e =
        let none : length (place name) ≡ 0 = ap length ((same_place_decides (place name) []).0 e) in
        sym (eq-eqb (length name + 1) 1 (omega (arith, none, length-place name)))
    by false e = sym (ne_eqb (length name + 1) 1 (λ one.
        let none : length (place name) ≡ 0 = omega (arith, one, length-place name) in
        absurd (true≢false (sym ((same_place_decides (place name) []).1 (no_labels (place name) none)) ∙ e))))

module _ (p z : Place) (rtype : ℕ) where
  -- a name over a DS set, but the root's, is strictly above its owner
  pub strictly_over : rtype ≡ DS → p ≢ [] → IsAtOrBelow (looked_for_at p rtype) z → IsStrictlyBelow p z
  strictly_over is_ds below_root over =
      let parent = (looked_for_is p rtype).above_for_ds is_ds below_root in
      strictly_below_trans p (looked_for_at p rtype) z (record { next = parent.0; under = []; is = parent.1 }) over

  -- and each name strictly above its owner is over it
  over_strictly : rtype ≡ DS → p ≢ [] → IsStrictlyBelow p z → IsAtOrBelow (looked_for_at p rtype) z
  over_strictly is_ds below_root strictly =
      let parent = (looked_for_is p rtype).above_for_ds is_ds below_root in
      let above : IsAtOrBelow p (looked_for_at p rtype) = record { under = parent.0 ∷ []; is = parent.1 } in
      elim (ancestors_comparable p (looked_for_at p rtype) z above (at_or_below p z strictly)) [
        | inl over ↦ over
        | inr under ↦ absurd (
            let a : length p ≡ length (looked_for_at p rtype ++ parent.0 ∷ []) = ap length parent.1 in
            let b : length p ≡ length (z ++ strictly.next ∷ strictly.under) = ap length strictly.is in
            let c : length z ≡ length (looked_for_at p rtype ++ under.next ∷ under.under) = ap length under.is in
            omega (arith, a, b, c, length-append (looked_for_at p rtype) (parent.0 ∷ []), length-append z (strictly.next ∷ strictly.under), length-append (looked_for_at p rtype) (under.next ∷ under.under)))
      ]

  over_decides : rtype ≡ DS → p ≢ [] → Decides (is_below (looked_for_at p rtype) z) (IsStrictlyBelow p z)
  over_decides is_ds below_root = (
    λ yes. strictly_over is_ds below_root ((below_decides (looked_for_at p rtype) z).0 yes),
    λ strictly. (below_decides (looked_for_at p rtype) z).1 (over_strictly is_ds below_root strictly),
  )

  -- whether a name is over a set can be tested by the set's owner alone
  pub over_test : (strictly : Bool) → ((rtype == DS) && not (same_place p [])) ≡ strictly
      → cond strictly (is_strictly_below p z) (is_below p z) ≡ is_below (looked_for_at p rtype) z
  over_test strictly e = ap (λ (b : Bool). cond b (is_strictly_below p z) (is_below p z)) (sym e) ∙ by (rtype == DS) refl (same_place p []) refl
    where
      by : (a : Bool) → (rtype == DS) ≡ a → (b : Bool) → same_place p [] ≡ b
          → cond (a && not b) (is_strictly_below p z) (is_below p z) ≡ is_below (looked_for_at p rtype) z
      by false f b g = ap (λ (q : Place). is_below q z) (sym ((looked_for_is p rtype).itself_for_others (inl (eqb-false rtype DS f))))
      by true f true g = ap (λ (q : Place). is_below q z) (sym ((looked_for_is p rtype).itself_for_others (inr ((same_place_decides p []).0 g))))
      by true f false g =
          let is_ds : rtype ≡ DS = eqb-true rtype DS f in
          let below_root : p ≢ [] = λ root. true≢false (sym ((same_place_decides p []).1 root) ∙ g) in
          same_from_decides (is_strictly_below p z) (is_below (looked_for_at p rtype) z) (strictly_below_decides p z) (over_decides is_ds below_root)
