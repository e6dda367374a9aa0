-- The order of places, read from labels whose last one is nearest to the root.
use Rattle.std.proofs.Common.{◌≡◌, ◌↔◌, ◌⊎◌, inl, inr, ℕ, zero, suc, ◌+◌, ◌-◌, ◌<◌, ◌≤◌, List, [], ◌∷◌, ◌++◌, length, take, drop, refl, sym, ap, ◌∙◌, arith, append_assoc, length-drop}
use Rattle.std.specs.Prelude.{map, reverse}
use Rattle.std.specs.Char.{to_ascii_lowercase}
use Rattle.std.specs.Ordering.{ordering_then, nat_cmp}
use Rattle.std.specs.Cmp.Lexicographic.{slice_cmp}
use Rattle.std.specs.declared.cmp.Ordering.{Ordering}
use Rattle.std.specs.declared.cmp.Ordering.TheVariants.{Less, Equal, Greater}
use Rattle.std.proofs.lemmas.List.{reverse-append, reverse-reverse, append-nil, map-append, take-append-drop, length-take-le, length-map, length-reverse}
use Rattle.std.proofs.lemmas.List.Sums.{sum_by-cons, sum_by-append}
use Rattle.std.proofs.lemmas.Bool.Decides.{nat_tests}
use Rattle.dsec_spec.specs.Names.{Labels, Place, place, place_cmp, lower, name_cmp, IsAtOrBelow, wire_length}
use Rattle.dsec_spec.proofs.WireNameLemmas.{wire_length-lower}

pub then_assoc : (a b c : Ordering) → ordering_then (ordering_then a b) c ≡ ordering_then a (ordering_then b c)
then_assoc Less b c = refl
then_assoc Equal b c = refl
then_assoc Greater b c = refl

pub then_Equal : (a : Ordering) → ordering_then a Equal ≡ a
then_Equal Less = refl
then_Equal Equal = refl
then_Equal Greater = refl

-- of lists whose fronts are of one length, the fronts decide first
pub fronts_first : (p q s t : Place) → length p ≡ length q → place_cmp (p ++ s) (q ++ t) ≡ ordering_then (place_cmp p q) (place_cmp s t)
fronts_first [] [] s t e = refl
fronts_first [] (y ∷ q) s t e = absurd (omega arith)
fronts_first (x ∷ p) [] s t e = absurd (omega arith)
fronts_first (x ∷ p) (y ∷ q) s t e =
    ap (ordering_then (slice_cmp nat_cmp x y)) (fronts_first p q s t (omega arith))
    ∙ sym (then_assoc (slice_cmp nat_cmp x y) (place_cmp p q) (place_cmp s t))

length-place : (name : Labels) → length (place name) ≡ length name
length-place name = length-reverse (lower name) ∙ length-map name (map to_ascii_lowercase)

-- the leftmost label comes last in a place
place-cons : (label : List ℕ) (name : Labels) → place (label ∷ name) ≡ place name ++ map to_ascii_lowercase label ∷ []
place-cons label name = reverse-append (map to_ascii_lowercase label ∷ []) (lower name)

-- one label more of each of two names with as many labels
pub order_step : (label other_label : List ℕ) (name other : Labels) (order : Ordering) → length name ≡ length other
    → ordering_then (name_cmp (label ∷ name) (other_label ∷ other)) order
    ≡ ordering_then (name_cmp name other) (ordering_then (slice_cmp nat_cmp (map to_ascii_lowercase label) (map to_ascii_lowercase other_label)) order)
order_step label other_label name other order e =
    let x = map to_ascii_lowercase label in
    let y = map to_ascii_lowercase other_label in
    let one : slice_cmp nat_cmp x y ≡ place_cmp (x ∷ []) (y ∷ []) = sym (then_Equal (slice_cmp nat_cmp x y)) in
    rw (place-cons label name, place-cons other_label other, fronts_first (place name) (place other) (x ∷ []) (y ∷ []) (length-place name ∙ (e ∙ sym (length-place other))), ← one)
    (then_assoc (name_cmp name other) (slice_cmp nat_cmp x y) order)

lower-append : (m n : Labels) → lower (m ++ n) ≡ lower m ++ lower n
lower-append m n = map-append (map to_ascii_lowercase) m n

-- the labels after the first k come first in a place
place-cut : (k : ℕ) (name : Labels) → place name ≡ place (drop k name) ++ place (take k name)
place-cut k name =
    ap place (sym (take-append-drop k name))
    ∙ (ap reverse (lower-append (take k name) (drop k name)) ∙ reverse-append (lower (take k name)) (lower (drop k name)))

pub something_first : (p : Place) → 0 < length p → place_cmp p [] ≡ Greater
something_first [] h = absurd (omega arith)
something_first (x ∷ p) h = refl

pub nothing_first : (p : Place) → 0 < length p → place_cmp [] p ≡ Less
nothing_first [] h = absurd (omega arith)
nothing_first (x ∷ p) h = refl

-- so many labels more of one name than of the other
more_labels : (k : ℕ) (name other : Labels) → length name ≡ length other + k → 0 < k → name_cmp name other ≡ ordering_then (name_cmp (drop k name) other) Greater
more_labels k name other e some =
    let n : length (drop k name) ≡ length other = omega (arith, length-drop k name) in
    let t : length (take k name) ≡ k = length-take-le k name (omega arith) in
    rw (place-cut k name)
    (ap (λ (q : Place). place_cmp (place (drop k name) ++ place (take k name)) q) (sym (append-nil (place other)))
    ∙ (fronts_first (place (drop k name)) (place other) (place (take k name)) [] (length-place (drop k name) ∙ (n ∙ sym (length-place other)))
    ∙ ap (ordering_then (name_cmp (drop k name) other)) (something_first (place (take k name)) (omega (arith, length-place (take k name))))))

fewer_labels : (k : ℕ) (name other : Labels) → length name + k ≡ length other → 0 < k → name_cmp name other ≡ ordering_then (name_cmp name (drop k other)) Less
fewer_labels k name other e some =
    let n : length (drop k other) ≡ length name = omega (arith, length-drop k other) in
    let t : length (take k other) ≡ k = length-take-le k other (omega arith) in
    rw (place-cut k other)
    (ap (λ (p : Place). place_cmp p (place (drop k other) ++ place (take k other))) (sym (append-nil (place name)))
    ∙ (fronts_first (place name) (place (drop k other)) [] (place (take k other)) (length-place name ∙ (sym n ∙ sym (length-place (drop k other))))
    ∙ ap (ordering_then (name_cmp name (drop k other))) (nothing_first (place (take k other)) (omega (arith, length-place (take k other))))))

nat_less : (x y : ℕ) → x < y → nat_cmp x y ≡ Less
nat_less x y h = grind (arith, nat_tests)

nat_same : (x y : ℕ) → x ≡ y → nat_cmp x y ≡ Equal
nat_same x y h = grind (arith, nat_tests)

nat_more : (x y : ℕ) → y < x → nat_cmp x y ≡ Greater
nat_more x y h = grind (arith, nat_tests)

less_same_more : (x y : ℕ) → (x < y) ⊎ ((x ≡ y) ⊎ (y < x))
less_same_more zero zero = inr (inl refl)
less_same_more zero (suc y) = inl (omega arith)
less_same_more (suc x) zero = inr (inr (omega arith))
less_same_more (suc x) (suc y) = elim (less_same_more x y) [
  | inl h ↦ inl (omega arith)
  | inr g ↦ elim g [
    | inl e ↦ inr (inl (ap suc e))
    | inr h ↦ inr (inr (omega arith))
  ]
]

none_over : (x y : ℕ) → x ≤ y → x - y ≡ 0
none_over x y h = omega arith

-- the order of names begins at the labels where one is left with as many as the other
pub order_starts : (name other : Labels) → name_cmp name other ≡ ordering_then (name_cmp (drop (length name - length other) name) (drop (length other - length name) other)) (nat_cmp (length name) (length other))
order_starts name other = elim (less_same_more (length name) (length other)) [
  | inl h ↦ rw (nat_less (length name) (length other) h, none_over (length name) (length other) (omega arith)) (fewer_labels (length other - length name) name other (omega arith) (omega arith))
  | inr g ↦ elim g [
    | inl e ↦ rw (nat_same (length name) (length other) e, none_over (length name) (length other) (omega arith), none_over (length other) (length name) (omega arith)) (sym (then_Equal (name_cmp name other)))
    | inr h ↦ rw (nat_more (length name) (length other) h, none_over (length other) (length name) (omega arith)) (more_labels (length name - length other) name other (omega arith) (omega arith))
  ]
]

-- a name under another, label by label
pub above_labels : (m n : Labels) → IsAtOrBelow (place m) (place n) → (front : Labels) × (lower m ≡ front ++ lower n)
above_labels m n h =
    (reverse h.under, sym (reverse-reverse (lower m)) ∙ (ap reverse h.is ∙ (reverse-append (place n) h.under ∙ ap (λ (x : Labels). reverse h.under ++ x) (reverse-reverse (lower n)))))

longer : (first : List ℕ) (front n : Labels) → wire_length n < wire_length ((first ∷ front) ++ lower n)
longer first front n =
    omega (arith, sum_by-append (λ (x : List ℕ). length x + 1) (first ∷ front) (lower n), sum_by-cons (λ (x : List ℕ). length x + 1) first front, wire_length-lower n)

below_without : (label : List ℕ) (m n front : Labels) → wire_length n < wire_length (label ∷ m) → lower (label ∷ m) ≡ front ++ lower n → IsAtOrBelow (place m) (place n)
below_without label m n [] long e =
    absurd (let same : wire_length (lower (label ∷ m)) ≡ wire_length (lower n) = ap wire_length e in omega (arith, wire_length-lower (label ∷ m), wire_length-lower n))
below_without label m n (first ∷ front) long e =
    let f : lower m ≡ front ++ lower n = ap (drop 1) e in
    record { under = reverse front; is = ap reverse f ∙ reverse-append front (lower n) }

not_longer : (m n front : Labels) → wire_length m ≤ wire_length n → lower m ≡ front ++ lower n → place m ≡ place n
not_longer m n [] short e = ap reverse e
not_longer m n (first ∷ front) short e =
    absurd (let same : wire_length (lower m) ≡ wire_length ((first ∷ front) ++ lower n) = ap wire_length e in omega (arith, wire_length-lower m, longer first front n))

-- a label more, of a name that is longer than the other
pub below_step : (label : List ℕ) (m n : Labels) → wire_length n < wire_length (label ∷ m) → IsAtOrBelow (place (label ∷ m)) (place n) ↔ IsAtOrBelow (place m) (place n)
below_step label m n long = (
  λ h. let a = above_labels (label ∷ m) n h in below_without label m n a.0 long a.1,
  λ h. record { under = h.under ++ map to_ascii_lowercase label ∷ []; is = place-cons label m ∙ (ap (λ (p : Place). p ++ map to_ascii_lowercase label ∷ []) h.is ∙ append_assoc (place n) h.under (map to_ascii_lowercase label ∷ [])) },
)

-- a name that isn't longer than the other is at or below it exactly where it is the same
pub below_end : (m n : Labels) → wire_length m ≤ wire_length n → IsAtOrBelow (place m) (place n) ↔ (place m ≡ place n)
below_end m n short = (
  λ h. let a = above_labels m n h in not_longer m n a.0 short a.1,
  λ e. record { under = []; is = e ∙ sym (append-nil (place n)) },
)

-- a label that goes on where the other ends
pub label_longer : (label : List ℕ) (i : ℕ) (rest : List ℕ) → i < length label → length rest ≡ 0 → slice_cmp nat_cmp (map to_ascii_lowercase (drop i label)) (map to_ascii_lowercase rest) ≡ Greater
label_longer label zero (y ∷ rest) h e = absurd (omega arith)
label_longer label (suc i) (y ∷ rest) h e = absurd (omega arith)
label_longer [] zero [] h e = absurd (omega arith)
label_longer (x ∷ label) zero [] h e = refl
label_longer [] (suc i) [] h e = absurd (omega arith)
label_longer (x ∷ label) (suc i) [] h e = label_longer label i [] (omega arith) e

-- what is left of two names where as many labels of one stand over, and the order by their numbers
pub starts : (m n x y : Labels) (count others k j : ℕ) (order : Ordering) → count ≡ length m → others ≡ length n → k ≡ count - others → j ≡ others - count
    → x ≡ drop k m → y ≡ drop j n → order ≡ nat_cmp count others → (length x ≡ length y) × (ordering_then (name_cmp x y) order ≡ name_cmp m n)
starts m n x y count others k j order c o ke je xe ye oe =
    let k_is : k ≡ length m - length n = omega arith in
    let j_is : j ≡ length n - length m = omega arith in
    let x_is : x ≡ drop (length m - length n) m = xe ∙ ap (λ (i : ℕ). drop i m) k_is in
    let y_is : y ≡ drop (length n - length m) n = ye ∙ ap (λ (i : ℕ). drop i n) j_is in
    let order_is : order ≡ nat_cmp (length m) (length n) = oe ∙ (ap (λ (i : ℕ). nat_cmp i others) c ∙ ap (nat_cmp (length m)) o) in (
      omega (arith, ap length xe, ap length ye, length-drop k m, length-drop j n),
      rw (x_is, y_is, order_is) (sym (order_starts m n)),
    )

-- one label of each is taken
pub steps : (x y after other_after : Labels) (label other_label : List ℕ) (order by_label next whole : Ordering) → x ≡ label ∷ after → y ≡ other_label ∷ other_after
    → length x ≡ length y → ordering_then (name_cmp x y) order ≡ whole → by_label ≡ slice_cmp nat_cmp (map to_ascii_lowercase label) (map to_ascii_lowercase other_label) → next ≡ ordering_then by_label order
    → (length after ≡ length other_after) × (ordering_then (name_cmp after other_after) next ≡ whole)
steps x y after other_after label other_label order by_label next whole xe ye same is b n =
    let lengths : length after ≡ length other_after = omega (arith, ap length xe, ap length ye) in (
      lengths,
      rw (n, b) (sym (order_step label other_label after other_after order lengths) ∙ (ap (λ (z : Labels). ordering_then (name_cmp z (other_label ∷ other_after)) order) (sym xe) ∙ (ap (λ (z : Labels). ordering_then (name_cmp x z) order) (sym ye) ∙ is))),
    )
