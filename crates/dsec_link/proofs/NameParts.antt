-- Names without their leftmost labels.
use Rattle.std.proofs.Common.{◌≡◌, [], ◌∷◌, drop, Some, None, refl}
use Rattle.dsec_spec.specs.Names.{Labels}
use Rattle.dsec_name.specs.Parts.{parent_of}

-- a parent is the name without its first label
pub parent_drops : (name parent : Labels) → parent_of name ≡ Some parent → parent ≡ drop 1 name
parent_drops [] parent e = absurd cc
parent_drops (label ∷ name) parent e = cc

-- a name with no parent is the root
pub no_parent : (name : Labels) → parent_of name ≡ None → name ≡ drop 1 name
no_parent [] e = refl
no_parent (label ∷ name) e = absurd cc
