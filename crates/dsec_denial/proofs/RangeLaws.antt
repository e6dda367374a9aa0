-- A name isn't after itself in the canonical order (RFC 4034 6.1).
use Rattle.std.proofs.Common.{◌≡◌, true, refl, subst}
use Rattle.std.specs.Ordering.{is_lt}
use Rattle.std.specs.declared.cmp.Ordering.{Ordering}
use Rattle.std.specs.declared.cmp.Ordering.TheVariants.{Less, Equal, Greater}
use Rattle.dsec_spec.specs.Names.{Place, place_cmp, Before}
use Rattle.dsec_spec.proofs.NameOrder.{not_before_itself}

less_is : (o : Ordering) → is_lt o ≡ true → o ≡ Less
less_is Less e = refl
less_is Equal e = absurd cc
less_is Greater e = absurd cc

-- the owner isn't after itself
pub not_after : (owner n : Place) → n ≡ owner → is_lt (place_cmp owner n) ≡ true → ⊥
not_after owner n e less = not_before_itself owner (subst (λ (m : Place). Before owner m) e (less_is (place_cmp owner n) less))
