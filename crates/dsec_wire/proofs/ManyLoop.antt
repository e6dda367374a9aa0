-- Things read one after the other, as a loop does.
use Rattle.std.proofs.Common.{◌≡◌, ℕ, suc, ◌-◌, ◌+◌, ◌≤◌, ◌<◌, List, [], ◌∷◌, ◌++◌, Option, Some, None, refl, sym, ap, ◌∙◌, append_assoc, arith}
use Rattle.std.specs.Bool.{OnFalse}
use Rattle.std.proofs.lemmas.List.{append-nil}
use Rattle.dsec_spec.specs.Reading.{◌>>=◌, many_of}
use Rattle.dsec_wire.specs.declared.error.MessageError.{MessageError}
use Rattle.dsec_wire.specs.declared.error.MessageError.TheVariants.{ParseError, NoMemory}
use Rattle.dsec_wire.specs.Errors.{wants_memory}

-- what was read before, and what is still read
abbrev pub after_front : {A : Type 0} → List A → Option (List A × ℕ) → Option (List A × ℕ)
after_front front read = read >>= λ x. Some (front ++ x.0, x.1)

one_more : {A : Type 0} (front : List A) (x : A) (read : Option (List A × ℕ)) → after_front front (read >>= λ y. Some (x ∷ y.0, y.1)) ≡ after_front (front ++ x ∷ []) read
one_more {A} front x (Some y) = ap (λ (xs : List A). Some (xs, y.1)) (simp append_assoc)
one_more front x None = refl

turn : (count k : ℕ) → k < count → count - k ≡ suc (count - (k + 1))
turn count k below = omega arith

nothing_in_front : {A : Type 0} (read : Option (List A × ℕ)) → after_front [] read ≡ read
nothing_in_front (Some x) = refl
nothing_in_front None = refl

pub starts : {A : Type 0} (read : ℕ → Option (A × ℕ)) (count at : ℕ) → after_front [] (many_of read (count - 0) at) ≡ many_of read count at
starts read count at = let all : count - 0 ≡ count = omega arith in rw all (nothing_in_front (many_of read count at))

pub goes_on : {A : Type 0} (read : ℕ → Option (A × ℕ)) (count k at : ℕ) (front : List A) (x : A) (after : ℕ) (total : Option (List A × ℕ)) → k < count → read at ≡ Some (x, after)
    → after_front front (many_of read (count - k) at) ≡ total → after_front (front ++ x ∷ []) (many_of read (count - (k + 1)) after) ≡ total
unfolding many_of
goes_on read count k at front x after total below h so_far =
    sym (one_more front x (many_of read (count - (k + 1)) after)) ∙ (rw (turn count k below, h) at so_far)

pub ends : {A : Type 0} (read : ℕ → Option (A × ℕ)) (error : MessageError) (count k at : ℕ) (front : List A) (total : Option (List A × ℕ)) → k < count → OnFalse (wants_memory error) (read at ≡ None)
    → after_front front (many_of read (count - k) at) ≡ total → OnFalse (wants_memory error) (total ≡ None)
unfolding many_of
ends read NoMemory count k at front total below h so_far = tt
ends read ParseError count k at front total below h so_far = sym so_far ∙ rw (turn count k below, h) refl

pub is_done : {A : Type 0} (read : ℕ → Option (A × ℕ)) (count k at : ℕ) (front : List A) (total : Option (List A × ℕ)) → count ≤ k
    → after_front front (many_of read (count - k) at) ≡ total → total ≡ Some (front, at)
unfolding many_of
is_done {A} read count k at front total past so_far =
    let none : count - k ≡ 0 = omega arith in
    sym so_far ∙ rw none (ap (λ (xs : List A). Some (xs, at)) (append-nil front))
