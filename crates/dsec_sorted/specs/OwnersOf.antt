-- Records owner by owner.
use Rattle.std.specs.Prelude.{◌≡◌, ◌<◌, ◌++◌, ◌∷◌, [], ℕ, List, Contains, false, length, slice_index_or, All, ◌⊎◌}
use Rattle.dsec_spec.specs.Names.{Labels, Place, place, IsAtOrBelow, is_below}
use Rattle.dsec_spec.specs.Records.{Record}

-- the records of each owner stand together
abbrev pub AreTogether : List Record → Type 0
AreTogether records =
    (i j k : ℕ) (d : Record) → i < j → j < k → k < length records → place (slice_index_or records i d).owner ≡ place (slice_index_or records k d).owner
    → place (slice_index_or records j d).owner ≡ place (slice_index_or records i d).owner

-- all records of the first owner, whose name is that of the first of them, and those after it
pub record IsFirstOwner (records : List Record) (name : Labels) (mine rest : List Record) : Type 0 where
  pub split : records ≡ mine ++ rest
  pub first : Record
  pub others : List Record
  pub head : mine ≡ first ∷ others
  pub name_is : name ≡ first.owner
  pub all : (r : Record) → Contains mine r → place r.owner ≡ place name
  pub only : (r : Record) → Contains rest r → place r.owner ≡ place name → ⊥

-- those from the first on that stands at or below the name
pub record IsFrom (name : Place) (records rest : List Record) : Type 0 where
  pub before : List Record
  pub split : records ≡ before ++ rest
  pub none : All (λ r. is_below (place r.owner) name ≡ false) before
  pub begins : (rest ≡ []) ⊎ ((first : Record) × (others : List Record) × (rest ≡ first ∷ others) × IsAtOrBelow (place first.owner) name)
