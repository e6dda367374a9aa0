-- The groups of the aliases of a path, and those that stand beside them, as lists.
use Rattle.std.proofs.Common.{◌≡◌, List, [], ◌∷◌, Option, Some, None, refl, sym, ap, ◌∙◌, subst, inl, inr}
use Rattle.std.specs.Prelude.{Contains, filter_map, slice_get}
use Rattle.std.specs.List.{cons_option, flat_map}
use Rattle.std.proofs.lemmas.Option.{same_Some}
use Rattle.dsec_spec.proofs.Members.{first_in, later_in, in_more, in_front, in_back, not_in_none}
use Rattle.dsec_alias.specs.Following.{AliasStep}
use Rattle.dsec_nodes.specs.Judging.{Judged}
use Rattle.dsec_nodes.specs.Aliases.{Beside, aliases_on}

-- the first alias is the group at its index
pub alias_first : (js : List Judged) (step : AliasStep Beside) (path : List (AliasStep Beside)) (j : Judged) → slice_get js step.group ≡ Some j
    → aliases_on js (step ∷ path) ≡ j ∷ aliases_on js path
alias_first js step path j e = ap (λ (o : Option Judged). cons_option o (aliases_on js path)) e

-- what a thing in a list is mapped to is among what the things are mapped to
pub in_filter_map : {A B : Type 0} (f : A → Option B) (xs : List A) (x : A) (y : B) → Contains xs x → f x ≡ Some y → Contains (filter_map f xs) y
in_filter_map {A} {B} f [] x y h e = absurd (not_in_none x h)
in_filter_map {A} {B} f (z ∷ zs) x y h e = by (λ later. in_filter_map f zs x y later e) (f z) refl
  where
    by : (Contains zs x → Contains (filter_map f zs) y) → (o : Option B) → f z ≡ o → Contains (cons_option o (filter_map f zs)) y
    by others None g = elim (in_more z x zs h) [
      | inl same ↦ absurd (let none : Some y ≡ None = sym e ∙ (ap f (sym same) ∙ g) in cc)
      | inr later ↦ others later
    ]
    by others (Some it) g = elim (in_more z x zs h) [
      | inl same ↦
          let is : it ≡ y = same_Some it y (sym g ∙ (ap f same ∙ e)) in
          subst (λ (v : B). Contains (v ∷ filter_map f zs) y) (sym is) (first_in y (filter_map f zs))
      | inr later ↦ later_in it y (filter_map f zs) (others later)
    ]

pub in_flat_map : {A B : Type 0} (f : A → List B) (xs : List A) (x : A) (y : B) → Contains xs x → Contains (f x) y → Contains (flat_map f xs) y
in_flat_map f [] x y h g = absurd (not_in_none x h)
in_flat_map f (z ∷ zs) x y h g = elim (in_more z x zs h) [
  | inl same ↦ in_front y (f z) (flat_map f zs) (subst (λ v. Contains (f v) y) (sym same) g)
  | inr later ↦ in_back y (f z) (flat_map f zs) (in_flat_map f zs x y later g)
]
