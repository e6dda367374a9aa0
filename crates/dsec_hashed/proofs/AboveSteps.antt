-- Going up from a name, label by label, as long as the names are new.
use Rattle.std.proofs.Common.{◌≡◌, ℕ, suc, Bool, true, false, List, [], ◌∷◌, ◌++◌, length, map, Option, Some, None, refl, sym, ap, ◌∙◌, append_assoc}
use Rattle.std.specs.Prelude.{if◌then◌else◌}
use Rattle.std.proofs.lemmas.List.{append-nil}
use Rattle.dsec_spec.specs.Names.{Labels, Place, place}
use Rattle.dsec_name.specs.Parts.{parent_of}
use Rattle.dsec_spec.specs.RecordViews.{Hashing}
use Rattle.dsec_hashed.specs.HashedList.{is_new, empty_at, new_above}
use Rattle.dsec_hashed.specs.HashedTypes.{Standing, hashed_as}

-- the new names from one on
abbrev pub new_from : Place → Place → Option Labels → List Labels
new_from apex before None = []
new_from apex before (Some name) = if is_new apex before (place name) then name ∷ new_above apex before name else []

-- how many names there are at most
abbrev pub left_above : Option Labels → ℕ
left_above None = 0
left_above (Some name) = suc (length name)

pub from_parent : (apex before : Place) (name : Labels) → new_from apex before (parent_of name) ≡ new_above apex before name
unfolding new_above
from_parent apex before [] = refl
from_parent apex before (label ∷ name) = refl

module _ (how : Hashing) (apex before : Place) where
  -- the code's names
  abbrev pub empty_as : Labels → Standing
  empty_as n = hashed_as how (empty_at n)

  pub above_parent : (name : Labels) (old : List Standing) → old ++ map empty_as (new_from apex before (parent_of name)) ≡ old ++ map empty_as (new_above apex before name)
  above_parent name old = ap (λ (names : List Labels). old ++ map empty_as names) (from_parent apex before name)

  -- a new name is added, and its parent comes next
  pub above_more : (name : Labels) (next : Option Labels) (old new all : List Standing) → is_new apex before (place name) ≡ true → next ≡ parent_of name → new ≡ old ++ empty_as name ∷ []
      → old ++ map empty_as (new_from apex before (Some name)) ≡ all → new ++ map empty_as (new_from apex before next) ≡ all
  above_more name next old new all is up added so =
      ap (λ (xs : List Standing). xs ++ map empty_as (new_from apex before next)) added
      ∙ (append_assoc old (empty_as name ∷ []) (map empty_as (new_from apex before next))
      ∙ (ap (λ (names : List Labels). old ++ (empty_as name ∷ map empty_as names)) (ap (new_from apex before) up ∙ from_parent apex before name)
      ∙ (sym (ap (λ (b : Bool). old ++ map empty_as (if b then name ∷ new_above apex before name else [])) is) ∙ so)))

  -- where it isn't new, nothing is left
  pub above_stops : (name : Labels) (old all : List Standing) → is_new apex before (place name) ≡ false → old ++ map empty_as (new_from apex before (Some name)) ≡ all → old ≡ all
  above_stops name old all is so =
      sym (append-nil old) ∙ (sym (ap (λ (b : Bool). old ++ map empty_as (if b then name ∷ new_above apex before name else [])) is) ∙ so)

  pub above_ends : (old all : List Standing) → old ++ map empty_as (new_from apex before None) ≡ all → old ≡ all
  above_ends old all so = sym (append-nil old) ∙ so
