-- How a name is kept: its labels on the wire.
use Rattle.std.specs.Prelude.{◌≡◌, ℕ, zero, suc, List, [], ◌∷◌, length, take, drop}
use Rattle.std.specs.List.{flat_map}
use Rattle.dsec_spec.specs.Names.{Labels, label_octets, IsName}

-- the labels on the wire, without the root's
abbrev pub labels_octets : Labels → List ℕ
labels_octets name = flat_map label_octets name

-- at most n labels of the octets: a length, and so many octets
abbrev pub labels_within : ℕ → List ℕ → Labels
labels_within zero octets = []
labels_within (suc n) [] = []
labels_within (suc n) (k ∷ octets) = take k octets ∷ labels_within n (drop k octets)

-- the labels that octets are made of
abbrev pub labels_of : List ℕ → Labels
labels_of octets = labels_within (length octets) octets

-- these octets are a name's labels
pub record IsWhole (octets : List ℕ) : Type 0 where
  pub whole : octets ≡ labels_octets (labels_of octets)
  pub name : IsName (labels_of octets)
