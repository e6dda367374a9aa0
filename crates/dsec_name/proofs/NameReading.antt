-- What was read, as a name: each answer says what the input writes.
use Rattle.std.proofs.Common.{◌≡◌, ℕ, suc, ◌<◌, ◌≤◌, List, [], ◌∷◌, length, refl, subst, arith, inl, inr, ◌⊎◌}
use Rattle.std.specs.Prelude.{All, Any, Bool, true, false, Option, Some, None, Result, Ok, Err, nat_lt, if◌then◌else◌, ◌||◌}
use Rattle.std.specs.List.{list_any}
use Rattle.std.proofs.lemmas.List.Elements.{All-weaker, All-cons, All-head, All-tail, All-nil}
use Rattle.std.proofs.lemmas.Bool.Decides.{nat_tests}
use Rattle.dsec_spec.specs.Names.{Labels, IsLabel, IsName, wire_length}
use Rattle.dsec_spec.specs.Reading.{Gives}
use Rattle.dsec_name.specs.Errors.{is_long, wants_memory, name_of_labels, name_of_read, Answers}
use Rattle.dsec_name.specs.declared.error.NameError.{NameError}
use Rattle.dsec_name.specs.declared.error.NameError.TheVariants.{BadLabel, LongLabel, LongName, NoMemory}

below_true : (a b : ℕ) → nat_lt a b ≡ true → a < b
below_true a b h = grind (arith, nat_tests)

below_false : (a b : ℕ) → nat_lt a b ≡ false → b ≤ a
below_false a b h = grind (arith, nat_tests)

Any-here : (label : List ℕ) (name : Labels) → 63 < length label → Any (λ (x : List ℕ). 63 < length x) (label ∷ name)
Any-here label name h = (0, label, omega arith, refl, h)

Any-there : (label : List ℕ) (name : Labels) → Any (λ (x : List ℕ). 63 < length x) name → Any (λ (x : List ℕ). 63 < length x) (label ∷ name)
Any-there label name h = (suc h.0, h.1, (let g = h.2 in omega arith), h.3, h.4)

no_test : (a b : ℕ) → b ≤ a → nat_lt a b ≡ false
no_test a b h = grind (arith, nat_tests)

-- a long label is found
pub some_long : (name : Labels) → list_any is_long name ≡ true → Any (λ (x : List ℕ). 63 < length x) name
some_long [] e = absurd cc
some_long (label ∷ name) e =
    elim (is_long label) as (λ b. is_long label ≡ b → (b || list_any is_long name) ≡ true → Any (λ (x : List ℕ). 63 < length x) (label ∷ name)) [
      | true ↦ λ f g. Any-here label name (below_true 63 (length label) f)
      | false ↦ λ f g. Any-there label name (some_long name g)
    ] refl e

-- labels that aren't empty, and of which none is long
pub none_long : (name : Labels) → All (λ (x : List ℕ). 0 < length x) name → list_any is_long name ≡ false → All IsLabel name
none_long [] h e = All-nil IsLabel
none_long (label ∷ name) h e =
    elim (is_long label) as (λ b. is_long label ≡ b → (b || list_any is_long name) ≡ false → All IsLabel (label ∷ name)) [
      | true ↦ λ f g. absurd cc
      | false ↦ λ f g.
          All-cons IsLabel label name
          (record { not_empty = All-head (λ (x : List ℕ). 0 < length x) label name h; at_most = below_false 63 (length label) f })
          (none_long name (All-tail (λ (x : List ℕ). 0 < length x) label name h) g)
    ] refl e

-- labels as a name: that they are, or why they aren't
pub record Fits (labels : Labels) (given : Result Labels NameError) : Type 0 where
  pub fits : given ≡ Ok labels
  pub named : IsName labels

pub record IsTooLong (labels : Labels) (given : Result Labels NameError) : Type 0 where
  pub refused : given ≡ Err LongName
  pub each : All IsLabel labels
  pub long : 255 < wire_length labels

pub record HasLong (labels : Labels) (given : Result Labels NameError) : Type 0 where
  pub refused : given ≡ Err LongLabel
  pub long : Any (λ (x : List ℕ). 63 < length x) labels

sized_name : (labels : Labels) (b : Bool) → nat_lt 255 (wire_length labels) ≡ b → All IsLabel labels → Fits labels (if b then Err LongName else Ok labels) ⊎ IsTooLong labels (if b then Err LongName else Ok labels)
sized_name labels true e h = inr (record { refused = refl; each = h; long = below_true 255 (wire_length labels) e })
sized_name labels false e h = inl (record { fits = refl; named = record { labels = h; at_most = below_false 255 (wire_length labels) e } })

sized : (labels : Labels) (b : Bool) → list_any is_long labels ≡ b → All (λ (x : List ℕ). 0 < length x) labels
    → HasLong labels (if b then Err LongLabel else if nat_lt 255 (wire_length labels) then Err LongName else Ok labels)
    ⊎ (Fits labels (if b then Err LongLabel else if nat_lt 255 (wire_length labels) then Err LongName else Ok labels)
    ⊎ IsTooLong labels (if b then Err LongLabel else if nat_lt 255 (wire_length labels) then Err LongName else Ok labels))
sized labels true e h = inl (record { refused = refl; long = some_long labels e })
sized labels false e h = inr (sized_name labels (nat_lt 255 (wire_length labels)) refl (none_long labels h e))

-- where labels were read, and a call gives what they are as a name
answers_some : (Writes : Labels → Type 0) (labels : Labels) (given : Result Labels NameError) → Writes labels
    → HasLong labels given ⊎ (Fits labels given ⊎ IsTooLong labels given)
    → (r : Result Labels NameError) → Gives {Y = Labels} wants_memory (λ (x : Labels). x) r given → Answers Writes r
answers_some Writes labels given w (inl h) (Ok name) g = let e = h.refused in absurd cc
answers_some Writes labels given w (inl h) (Err BadLabel) g = let e = h.refused in let f : given ≡ Err BadLabel = g in absurd cc
answers_some Writes labels given w (inl h) (Err LongLabel) g = (labels, w, h.long)
answers_some Writes labels given w (inl h) (Err LongName) g = let e = h.refused in let f : given ≡ Err LongName = g in absurd cc
answers_some Writes labels given w (inl h) (Err NoMemory) g = tt
answers_some Writes labels given w (inr (inl h)) (Ok name) g =
    let e = h.fits in
    let same : labels ≡ name = cc in
    (subst Writes same w, subst (λ (x : Labels). IsName x) same h.named)
answers_some Writes labels given w (inr (inl h)) (Err BadLabel) g = let e = h.fits in let f : given ≡ Err BadLabel = g in absurd cc
answers_some Writes labels given w (inr (inl h)) (Err LongLabel) g = let e = h.fits in let f : given ≡ Err LongLabel = g in absurd cc
answers_some Writes labels given w (inr (inl h)) (Err LongName) g = let e = h.fits in let f : given ≡ Err LongName = g in absurd cc
answers_some Writes labels given w (inr (inl h)) (Err NoMemory) g = tt
answers_some Writes labels given w (inr (inr h)) (Ok name) g = let e = h.refused in absurd cc
answers_some Writes labels given w (inr (inr h)) (Err BadLabel) g = let e = h.refused in let f : given ≡ Err BadLabel = g in absurd cc
answers_some Writes labels given w (inr (inr h)) (Err LongLabel) g = let e = h.refused in let f : given ≡ Err LongLabel = g in absurd cc
answers_some Writes labels given w (inr (inr h)) (Err LongName) g = (labels, w, h.each, h.long)
answers_some Writes labels given w (inr (inr h)) (Err NoMemory) g = tt

-- where nothing was read
answers_none : (Writes : Labels → Type 0) → ((labels : Labels) → Writes labels → ⊥)
    → (r : Result Labels NameError) → Gives {Y = Labels} wants_memory (λ (x : Labels). x) r (Err BadLabel) → Answers Writes r
answers_none Writes never (Ok name) g = absurd cc
answers_none Writes never (Err BadLabel) g = never
answers_none Writes never (Err LongLabel) g = let f : ◌≡◌ {A = Result Labels NameError} (Err BadLabel) (Err LongLabel) = g in absurd cc
answers_none Writes never (Err LongName) g = let f : ◌≡◌ {A = Result Labels NameError} (Err BadLabel) (Err LongName) = g in absurd cc
answers_none Writes never (Err NoMemory) g = tt

-- A call gives what was read as a name, and what is read is what the input writes.
pub answers : (Writes : Labels → Type 0) (read : Option Labels)
    → ((labels : Labels) → read ≡ Some labels → Writes labels × All (λ (x : List ℕ). 0 < length x) labels)
    → ((labels : Labels) → Writes labels → read ≡ Some labels)
    → (r : Result Labels NameError) → Gives {Y = Labels} wants_memory (λ (x : Labels). x) r (name_of_read read) → Answers Writes r
answers Writes None reads writes r g = answers_none Writes (λ labels w. let e = writes labels w in absurd cc) r g
answers Writes (Some labels) reads writes r g =
    let w = reads labels refl in
    answers_some Writes labels (name_of_labels labels) w.0 (sized labels (list_any is_long labels) refl w.1) r g

-- labels of a name, none of which is long
pub no_long : (labels : Labels) → All IsLabel labels → list_any is_long labels ≡ false
no_long [] h = refl
no_long (label ∷ labels) h =
    let short = (All-head IsLabel label labels h).at_most in
    let here : is_long label ≡ false = no_test 63 (length label) short in
    rw (here, no_long labels (All-tail IsLabel label labels h)) refl

-- a name's labels are a name
pub name_of_labels-named : (labels : Labels) → IsName labels → name_of_labels labels ≡ Ok labels
name_of_labels-named labels h = rw (no_long labels h.labels, no_test 255 (wire_length labels) h.at_most) refl

pub IsName-some : (labels : Labels) → All IsLabel labels → All (λ (x : List ℕ). 0 < length x) labels
IsName-some labels h = All-weaker IsLabel (λ (x : List ℕ). 0 < length x) (λ x l. l.not_empty) labels h
