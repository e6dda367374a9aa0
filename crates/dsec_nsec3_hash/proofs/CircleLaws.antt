-- The test of the circle of hashes is exact, and fails of the owner (RFC 5155 1.3).
use Rattle.std.proofs.Common.{◌≡◌, ◌⊎◌, inl, inr, ℕ, List, Bool, true, false, ◌&&◌, ◌||◌, refl, sym, ap, ◌∙◌, subst}
use Rattle.std.specs.Prelude.{◌↔◌, IsTrue, if◌then◌else◌}
use Rattle.std.specs.Cmp.Lexicographic.{slice_cmp}
use Rattle.std.specs.Ordering.{nat_cmp, is_lt}
use Rattle.std.specs.declared.cmp.Ordering.{Ordering}
use Rattle.std.specs.declared.cmp.Ordering.TheVariants.{Less, Equal, Greater}
use Rattle.std.proofs.lemmas.Cmp.{nat_list_cmp_total, tied_itself}
use Rattle.dsec_spec.specs.DenyingRecords.{HashBefore, IsBetween}
use Rattle.dsec_nsec3_hash.specs.Circle.{is_before, is_inside}

less_is : (o : Ordering) → is_lt o ≡ true → o ≡ Less
less_is Less e = refl
less_is Equal e = absurd cc
less_is Greater e = absurd cc

-- the test over what the three comparisons are
arc_of : Bool → Bool → Bool → Bool
arc_of rises after before = if rises then after && before else after || before

told : {P Q R : Type 0} (p q r : Bool) → (p ≡ true → P) → (P → p ≡ true) → (q ≡ true → Q) → (Q → q ≡ true) → (r ≡ true → R) → (R → r ≡ true)
    → (if p then q && r else q || r) ≡ true ↔ (Q × R ⊎ (P → ⊥) × (Q ⊎ R))
told true true true pf pb qf qb rf rb = (λ e. inl (qf refl, rf refl), λ h. refl)
told true true false pf pb qf qb rf rb = (λ e. absurd cc, λ h. elim h [ inl g ↦ rb g.1 | inr g ↦ absurd (g.0 (pf refl)) ])
told true false true pf pb qf qb rf rb = (λ e. absurd cc, λ h. elim h [ inl g ↦ qb g.0 | inr g ↦ absurd (g.0 (pf refl)) ])
told true false false pf pb qf qb rf rb = (λ e. absurd cc, λ h. elim h [ inl g ↦ qb g.0 | inr g ↦ absurd (g.0 (pf refl)) ])
told false true r pf pb qf qb rf rb = (λ e. inr ((λ h. let x = pb h in cc), inl (qf refl)), λ h. refl)
told false false true pf pb qf qb rf rb = (λ e. inr ((λ h. let x = pb h in cc), inr (rf refl)), λ h. refl)
told false false false pf pb qf qb rf rb = (λ e. absurd cc, λ h. elim h [ inl g ↦ qb g.0 | inr g ↦ elim g.1 [ inl k ↦ qb k | inr k ↦ rb k ] ])

before_is : (x y : List ℕ) → is_before x y ≡ true → HashBefore x y
before_is x y e = less_is (slice_cmp nat_cmp x y) e

is_before_of : (x y : List ℕ) → HashBefore x y → is_before x y ≡ true
is_before_of x y h = ap is_lt h

pub inside_exact : (a b x : List ℕ) (it : Bool) → it ≡ is_inside a b x → IsTrue it ↔ IsBetween a b x
inside_exact a b x it e = subst (λ (t : Bool). IsTrue t ↔ IsBetween a b x) (sym e)
    (told (is_before a b) (is_before a x) (is_before x b) (before_is a b) (is_before_of a b) (before_is a x) (is_before_of a x) (before_is x b) (is_before_of x b))

not_itself : (a : List ℕ) → is_before a a ≡ false
not_itself a = ap is_lt (tied_itself nat_list_cmp_total a)

-- the owner isn't inside its own arc
pub owner_outside : (a b x : List ℕ) (it : Bool) → it ≡ is_inside a b x → x ≡ a → it ≡ false
owner_outside a b x it e same = e ∙ (ap (λ (y : List ℕ). is_inside a b y) same ∙ by (is_before a b) (is_before a a) (not_itself a))
  where
    by : (p q : Bool) → q ≡ false → (if p then q && p else q || p) ≡ false
    by true q h = rw h refl
    by false q h = rw h refl
