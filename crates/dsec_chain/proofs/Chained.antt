-- NSEC records made one after the other, of the owners at which a type stands.
use Rattle.std.proofs.Common.{◌≡◌, ℕ, Bool, true, false, cond, List, [], ◌∷◌, ◌++◌, map, refl, sym, ap, append_assoc, subst}
use Rattle.std.specs.Prelude.{filter}
use Rattle.std.proofs.lemmas.List.{append-nil}
use Rattle.dsec_spec.specs.Names.{Labels}
use Rattle.dsec_spec.specs.Records.{Record}
use Rattle.dsec_spec.specs.NsecChains.{IsNsecOf, next_name, AreNsecsOf}
use Rattle.dsec_spec.specs.OwnersInside.{Owner}
use Rattle.dsec_spec.proofs.InsideOwners.{typed_of, owner_inside, has_own}
use Rattle.dsec_chain.specs.Views.{inside_view, is_typed, owner_view}
use Rattle.dsec_chain.specs.declared.owners.InsideOwner.{InsideOwner}

-- with whatever records of the owners that are left, those that were made are the records of all
abbrev pub GoesOn : Labels → ℕ → ℕ → List Owner → List Owner → List Record → Type 0
GoesOn apex class ttl all rest made = (more : List Record) → AreNsecsOf apex class ttl rest more → AreNsecsOf apex class ttl all (made ++ more)

pub one_more : (apex : Labels) (class ttl : ℕ) (all : List Owner) (o : Owner) (rest : List Owner) (made : List Record) (r : Record)
    → GoesOn apex class ttl all (o ∷ rest) made → IsNsecOf o (next_name apex rest) class ttl r → GoesOn apex class ttl all rest (made ++ r ∷ [])
one_more apex class ttl all o rest made r so is more h =
    subst (λ (xs : List Record). AreNsecsOf apex class ttl all xs) (sym (append_assoc made (r ∷ []) more)) (so (r ∷ more) (is, h))

pub all_made : (apex : Labels) (class ttl : ℕ) (all : List Owner) (made : List Record) → GoesOn apex class ttl all [] made → AreNsecsOf apex class ttl all made
all_made apex class ttl all made so = subst (λ (xs : List Record). AreNsecsOf apex class ttl all xs) (append-nil made) (so [] tt)

-- the owners with a type, as the code has them
pub typed_view : (all : List InsideOwner) → map owner_view (filter is_typed all) ≡ typed_of (map inside_view all)
typed_view [] = refl
typed_view (o ∷ all) = by (typed_view all) (is_typed o)
  where
    by : map owner_view (filter is_typed all) ≡ typed_of (map inside_view all) → (b : Bool)
        → map owner_view (cond b (o ∷ filter is_typed all) (filter is_typed all)) ≡ map owner_inside (cond b (inside_view o ∷ filter has_own (map inside_view all)) (filter has_own (map inside_view all)))
    by others true = ap (λ (xs : List Owner). owner_view o ∷ xs) others
    by others false = others
