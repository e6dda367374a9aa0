-- The order of a name and one that it stands under, or of two that stand under the same.
use Rattle.std.proofs.Common.{◌≡◌, ℕ, ◌<◌, List, [], ◌∷◌, ◌++◌, length, refl, sym, ap, ◌∙◌, arith, append-nil}
use Rattle.std.specs.Prelude.{map, reverse}
use Rattle.std.specs.Char.{to_ascii_lowercase}
use Rattle.std.specs.Cmp.Lexicographic.{slice_cmp}
use Rattle.std.specs.Ordering.{nat_cmp, ordering_then}
use Rattle.std.specs.declared.cmp.Ordering.{Ordering}
use Rattle.std.specs.declared.cmp.Ordering.TheVariants.{Less, Equal, Greater}
use Rattle.std.proofs.lemmas.Cmp.{tied_itself}
use Rattle.std.proofs.lemmas.List.{reverse-append, length-reverse}
use Rattle.dsec_spec.specs.Names.{Labels, Place, place, place_cmp, lower, name_cmp, IsAtOrBelow, wire_length}
use Rattle.dsec_spec.proofs.WireNameLemmas.{wire_length-lower}
use Rattle.dsec_name.specs.NameLaws.{place_total}
use Rattle.dsec_name.proofs.PlaceOrder.{above_labels, fronts_first, order_step, something_first, nothing_first, then_Equal}

-- a front of a place with more behind it comes after that front, and the front before it
front_then : (p under : Place) → 0 < length under → place_cmp (p ++ under) p ≡ Greater
front_then p under some =
    ap (place_cmp (p ++ under)) (sym (append-nil p))
    ∙ (fronts_first p p under [] refl ∙ (ap (λ (o : Ordering). ordering_then o (place_cmp under [])) (tied_itself place_total p) ∙ something_first under some))

front_before : (p under : Place) → 0 < length under → place_cmp p (p ++ under) ≡ Less
front_before p under some =
    ap (λ (q : Place). place_cmp q (p ++ under)) (sym (append-nil p))
    ∙ (fronts_first p p [] under refl ∙ (ap (λ (o : Ordering). ordering_then o (place_cmp [] under)) (tied_itself place_total p) ∙ nothing_first under some))

-- of two names of which one stands under the other the longer one does, and has labels more
pub under_longer : (m n : Labels) → wire_length n < wire_length m → IsAtOrBelow (place m) (place n) → (under : Place) × (place m ≡ place n ++ under) × (0 < length under)
under_longer m n long h = let a = above_labels m n h in by a.0 a.1
  where
    by : (front : Labels) → lower m ≡ front ++ lower n → (under : Place) × (place m ≡ place n ++ under) × (0 < length under)
    by [] e = absurd (let same : wire_length (lower m) ≡ wire_length (lower n) = ap wire_length e in omega (arith, wire_length-lower m, wire_length-lower n, long))
    by (first ∷ front) e =
        (reverse (first ∷ front), ap reverse e ∙ reverse-append (first ∷ front) (lower n), omega (arith, length-reverse (first ∷ front)))

pub longer_after : (m n : Labels) → wire_length n < wire_length m → IsAtOrBelow (place m) (place n) → name_cmp m n ≡ Greater
longer_after m n long h =
    let u = under_longer m n long h in ap (λ (p : Place). place_cmp p (place n)) u.1 ∙ front_then (place n) u.0 u.2

pub shorter_before : (m n : Labels) → wire_length m < wire_length n → IsAtOrBelow (place n) (place m) → name_cmp m n ≡ Less
shorter_before m n long h =
    let u = under_longer n m long h in ap (place_cmp (place m)) u.1 ∙ front_before (place m) u.0 u.2

-- of names with the same labels behind the first, the first decide
pub siblings : (label other_label : List ℕ) (name : Labels) → name_cmp (label ∷ name) (other_label ∷ name) ≡ slice_cmp nat_cmp (map to_ascii_lowercase label) (map to_ascii_lowercase other_label)
siblings label other_label name =
    let by_label = slice_cmp nat_cmp (map to_ascii_lowercase label) (map to_ascii_lowercase other_label) in
    sym (then_Equal (name_cmp (label ∷ name) (other_label ∷ name)))
    ∙ (order_step label other_label name name Equal refl
    ∙ (ap (λ (o : Ordering). ordering_then o (ordering_then by_label Equal)) (tied_itself place_total (place name)) ∙ then_Equal by_label))
