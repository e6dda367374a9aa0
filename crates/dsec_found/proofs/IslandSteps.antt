-- Where a DS set is looked for.
use Rattle.std.proofs.Common.{◌≡◌, ℕ, ◌-◌, [], ◌∷◌, ◌++◌, length, take, drop, Bool, true, false, cond, Option, ◌==◌, sym, ap, ◌∙◌, refl, arith, length-append}
use Rattle.std.specs.Prelude.{map, unwrap_or}
use Rattle.std.proofs.Math.Bool.{not}
use Rattle.std.specs.Char.{to_ascii_lowercase}
use Rattle.std.proofs.Math.Seq.{take-append_seam}
use Rattle.std.proofs.lemmas.List.{reverse-append}
use Rattle.dsec_spec.specs.Islands.{looked_for_at}
use Rattle.dsec_spec.specs.Names.{Labels, Place, lower, place}
use Rattle.dsec_spec.specs.Numbers.{DS}
use Rattle.dsec_name.specs.Parts.{parent_of}
use Rattle.dsec_found.specs.Letters.{told_looked_for}

-- without its first label a name stands at the parent
parent_place : (name : Labels) → place (drop 1 name) ≡ take (length (place name) - 1) (place name)
parent_place [] = refl
parent_place (label ∷ name) =
    let first = map to_ascii_lowercase label in
    let p = place name in
    let whole : place (label ∷ name) ≡ p ++ first ∷ [] = reverse-append (first ∷ []) (lower name) in
    let n : length (p ++ first ∷ []) - 1 ≡ length p = omega (arith, length-append p (first ∷ [])) in
    sym (ap (λ (q : Place). take (length q - 1) q) whole ∙ (ap (λ (k : ℕ). take k (p ++ first ∷ [])) n ∙ take-append_seam p (first ∷ [])))

-- the name at which a set is looked for stands there
pub looked_for_place : (name : Labels) (rtype : ℕ) → place (told_looked_for name rtype) ≡ looked_for_at (place name) rtype
looked_for_place name rtype = by (rtype == DS)
  where
    by : (b : Bool) → place (cond b (drop 1 name) name) ≡ cond b (take (length (place name) - 1) (place name)) (place name)
    by true = parent_place name
    by false = refl

flipped : (t : Bool) → not t ≡ false → t ≡ true
flipped true h = refl
flipped false h = sym h

parent_drops : (name : Labels) → unwrap_or (parent_of name) name ≡ drop 1 name
parent_drops [] = refl
parent_drops (label ∷ name) = refl

-- a DS set is looked for at the parent, and the root's at the root
pub at_parent : (name : Labels) (parent : Option Labels) (rtype : ℕ) (differs : Bool) → parent ≡ parent_of name → differs ≡ not (rtype == DS) → differs ≡ false
    → unwrap_or parent name ≡ told_looked_for name rtype
at_parent name parent rtype differs is e f =
    ap (λ (o : Option Labels). unwrap_or o name) is ∙ (parent_drops name
    ∙ ap (λ (t : Bool). cond t (drop 1 name) name) (sym (flipped (rtype == DS) (sym e ∙ f))))

-- and any other at the name itself
pub at_itself : (name : Labels) (rtype : ℕ) (differs : Bool) → differs ≡ not (rtype == DS) → differs ≡ true → name ≡ told_looked_for name rtype
at_itself name rtype differs e f = by (rtype == DS) (sym e ∙ f)
  where
    by : (t : Bool) → not t ≡ true → name ≡ cond t (drop 1 name) name
    by true h = absurd cc
    by false h = refl
