-- Bare aliases with the index of the group that they follow from.
use Rattle.std.specs.Prelude.{ℕ, ◌==◌, List, [], ◌∷◌, map, filter, Option, Some, None}
use Rattle.dsec_group.specs.declared.settle.Follower.{Follower}
use Rattle.dsec_spec.specs.Groups.{Group}

-- a bare alias and that index
abbrev pub follower_view : Follower → ℕ × Group
follower_view it = (it.to, it.alias.now)

-- the groups that follow from another, by the index of the other of each
abbrev pub followers_in : List (Option ℕ) → List Group → List (ℕ × Group)
followers_in [] gs = []
followers_in (o ∷ os) [] = []
followers_in (None ∷ os) (g ∷ gs) = followers_in os gs
followers_in (Some to ∷ os) (g ∷ gs) = (to, g) ∷ followers_in os gs

-- those that follow from the group at an index
abbrev pub followers_at : ℕ → List (ℕ × Group) → List Group
followers_at index all = map (λ p. p.1) (filter (λ p. p.0 == index) all)
