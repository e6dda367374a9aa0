-- The laws of a name's comparisons.
use Rattle.std.specs.Prelude.{◌≡◌, ℕ, List, [], ◌∷◌, IsTrue}
use Rattle.std.specs.Bool.{Decides}
use Rattle.std.proofs.Common.{refl, sym, ap, ◌∙◌}
use Rattle.std.specs.Cmp.{IsTotalOrder, IsEquivalence, IsPartialEquivalence, IsPartialOrder, Agrees, partial_equiv_from_equiv, partial_order_from_agreeing_total, on_total, on_equiv, Equal-is}
use Rattle.std.specs.Cmp.Lexicographic.{lists_equiv, nat_list_eq_equiv, pointwise_decides, bytes_decides}
use Rattle.std.specs.Ordering.{as_partial_cmp, is_eq}
use Rattle.std.specs.FinMap.{nat_cmp-IsAntisymmetric, slice_cmp-IsAntisymmetric}
use Rattle.std.proofs.lemmas.Cmp.{lists_total, nat_list_cmp_total, tied_itself}
use Rattle.std.proofs.lemmas.Bool.Decides.{same_from_decides}
use Rattle.dsec_spec.specs.Names.{Labels, Place, place, same_place, place_cmp, name_cmp, canonical_octets}
use Rattle.dsec_spec.proofs.CanonicalNames.{canonical_octets_equal}
use Rattle.dsec_name.specs.Parts.{same_name}

pub same_place_decides : (p q : Place) → Decides (same_place p q) (p ≡ q)
same_place_decides = pointwise_decides bytes_decides

pub place_total : IsTotalOrder place_cmp
place_total = lists_total nat_list_cmp_total

-- what the order ties is one place
pub place_tied : (p q : Place) → Decides (is_eq (place_cmp p q)) (p ≡ q)
place_tied p q = (
  λ h. slice_cmp-IsAntisymmetric (slice_cmp-IsAntisymmetric nat_cmp-IsAntisymmetric) p q ((Equal-is (place_cmp p q)).0 h),
  λ e. ap (λ (x : Place). is_eq (place_cmp p x)) (sym e) ∙ ap is_eq (tied_itself place_total p),
)

pub name_total : IsTotalOrder name_cmp
name_total = on_total place place_total

pub name_eq_equiv : IsEquivalence same_name
name_eq_equiv = on_equiv place (lists_equiv nat_list_eq_equiv)

pub name_eq_partial : IsPartialEquivalence same_name
name_eq_partial = partial_equiv_from_equiv name_eq_equiv

pub name_agrees : Agrees (as_partial_cmp name_cmp) name_cmp
name_agrees x y = refl

pub name_ties : (x y : Labels) → same_name x y ≡ is_eq (name_cmp x y)
name_ties x y = same_from_decides (same_name x y) (is_eq (name_cmp x y)) (same_place_decides (place x) (place y)) (place_tied (place x) (place y))

pub name_partial : IsPartialOrder same_name (as_partial_cmp name_cmp)
name_partial = partial_order_from_agreeing_total name_cmp name_total name_agrees name_ties

-- equal names hash alike
pub name_hash_respects : (x y : Labels) → IsTrue (same_name x y) → canonical_octets x ∷ [] ≡ canonical_octets y ∷ []
name_hash_respects x y h = ap (λ (octets : List ℕ). octets ∷ []) ((canonical_octets_equal x y).1 ((same_place_decides (place x) (place y)).0 h))
