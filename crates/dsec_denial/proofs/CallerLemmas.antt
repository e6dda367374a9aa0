-- For callers: the indexes of what was found are within their lists.
use Rattle.std.proofs.Common.{◌≡◌, ℕ, zero, suc, ◌<◌, List, [], ◌∷◌, length, Some, arith}
use Rattle.std.specs.Prelude.{slice_get}
use Rattle.dsec_spec.specs.Groups.{Group}
use Rattle.dsec_spec.specs.Records.{Record, Key}
use Rattle.dsec_denial.specs.Findings.{StandsAt}
use Rattle.dsec_denial.specs.declared.finding.SignedAt.{SignedAt}

-- where something stands at an index, the index is below the length
pub index_below : {A : Type 0} (xs : List A) (i : ℕ) (x : A) → slice_get xs i ≡ Some x → i < length xs
index_below [] zero x e = absurd cc
index_below [] (suc i) x e = absurd cc
index_below (y ∷ ys) zero x e = omega arith
index_below (y ∷ ys) (suc i) x e = let later = index_below ys i x e in omega (arith, later)

module _ (groups : List Group) (keys : List Key) (at : SignedAt) (group : Group) (p : Record × Key) (s : StandsAt groups keys at group p) where
  pub group_below : at.group < length groups
  group_below = index_below groups at.group group s.group_there

  pub signature_below : at.signature < length group.signatures
  signature_below = index_below group.signatures at.signature p.0 s.signature_there

  pub key_below : at.key < length keys
  key_below = index_below keys at.key p.1 s.key_there
