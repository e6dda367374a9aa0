-- Places of wildcards.
use Rattle.std.proofs.Common.{◌≡◌, ℕ, ◌+◌, List, [], ◌∷◌, ◌++◌, length, reverse, refl, sym, ap, ◌∙◌, arith}
use Rattle.std.specs.Prelude.{nat_lt, sum_by, cond, Bool, true, false, None, Some, Result, Ok, Err}
use Rattle.std.proofs.lemmas.List.Sums.{sum_by-append, sum_by-cons}
use Rattle.std.proofs.lemmas.List.{reverse-append}
use Rattle.dsec_spec.specs.Names.{Labels, Place, lower, place, asterisk, wire_length}
use Rattle.dsec_spec.specs.Zones.{wildcard}
use Rattle.dsec_spec.specs.Redirection.{fitting}
use Rattle.dsec_spec.proofs.WireNameLemmas.{wire_length-lower}
use Rattle.dsec_group.specs.Mappings.{or_push_error}
use Rattle.dsec_name.specs.JoinedNames.{name_or_long, needs_memory}
use Rattle.dsec_name.specs.declared.push_name.PushNameError.{PushNameError}
use Rattle.dsec_spec.specs.Reading.{Gives}

-- the wildcard under a name's place is the place of `*` and the name
pub star_place : (name : Labels) → place (asterisk ∷ name) ≡ wildcard (place name)
star_place name = reverse-append (asterisk ∷ []) (lower name)

sum_reverse : (f : List ℕ → ℕ) (xs : Labels) → sum_by f (reverse xs) ≡ sum_by f xs
sum_reverse f [] = refl
sum_reverse f (x ∷ xs) =
    let whole : sum_by f (reverse (x ∷ xs)) ≡ sum_by f (reverse xs ++ x ∷ []) = ap (sum_by f) (reverse-append (x ∷ []) xs) in
    omega (arith, whole, sum_by-append f (reverse xs) (x ∷ []), sum_by-cons f x [], sum_by-cons f x xs, sum_reverse f xs)

-- a place is as long on the wire as the name
pub wire_length_of_place : (name : Labels) → wire_length (place name) ≡ wire_length name
wire_length_of_place name =
    ap (λ (n : ℕ). n + 1) (sum_reverse (λ (label : List ℕ). length label + 1) (lower name)) ∙ wire_length-lower name

-- the wildcard under a name's place, where it is a name's, is that of `*` and the name
pub star_fits : (name : Labels) → fitting (wildcard (place name)) ≡ cond (nat_lt 255 (wire_length (asterisk ∷ name))) None (Some (place (asterisk ∷ name)))
star_fits name =
    ap (λ (p : Place). cond (nat_lt 255 (wire_length p)) None (Some p)) (sym (star_place name))
    ∙ ap (λ (n : ℕ). cond (nat_lt 255 n) None (Some (place (asterisk ∷ name)))) (wire_length_of_place (asterisk ∷ name))

-- a name, where it isn't too long
abbrev short : Bool → Labels → Result Labels PushNameError
short too_long name = cond too_long (Err PushNameError.PushNameError) (Ok name)

-- the wildcard as a name, by its place
pub star_gives : (name : Labels) (result : Result Labels PushNameError) → Gives {Y = Labels} needs_memory (λ (n : Labels). n) result (name_or_long (asterisk ∷ name))
    → Gives {Y = Place} needs_memory (λ (n : Labels). place n) result (or_push_error (fitting (wildcard (place name))))
star_gives name result given = rw (star_fits name) (by (nat_lt 255 (wire_length (asterisk ∷ name))) result given)
  where
    same : (m n : Labels) → short false m ≡ short false n → m ≡ n
    same m n e = cc

    by : (x : Bool) → (r : Result Labels PushNameError) → Gives {Y = Labels} needs_memory (λ (n : Labels). n) r (short x (asterisk ∷ name))
        → Gives {Y = Place} needs_memory (λ (n : Labels). place n) r (or_push_error (cond x None (Some (place (asterisk ∷ name)))))
    by true (Ok n) g = absurd cc
    by false (Ok n) g = ap (λ (m : Labels). short false (place m)) (same (asterisk ∷ name) n g)
    by true (Err PushNameError.PushNameError) g = refl
    by false (Err PushNameError.PushNameError) g = absurd cc
    by x (Err PushNameError.NoMemory) g = tt
