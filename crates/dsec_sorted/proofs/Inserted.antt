-- What comes of a record that is put at its place among others.
use Rattle.std.proofs.Common.{◌≡◌, ℕ, List, ◌∷◌, refl, sym, subst}
use Rattle.std.specs.Prelude.{Result, Ok, Err, IfErr, IsPermutation, MatchResult, OnErr, OnOk, insert}
use Rattle.std.proofs.lemmas.List.Sorted.{IsPermutation-insert}
use Rattle.dsec_spec.specs.Records.{Record}
use Rattle.dsec_spec.specs.CanonicalRecords.{IsCanonical}
use Rattle.dsec_spec.proofs.CanonicalOrder.{record_cmp_total}
use Rattle.dsec_sorted.specs.Inserting.{IsNew, IsPlace, IsReason}
use Rattle.dsec_sorted.specs.declared.sorted.InsertError.{InsertError}
use Rattle.dsec_sorted.specs.declared.sorted.InsertError.TheVariants.{NoMemory}
use Rattle.dsec_sorted.proofs.Places.{new}
use Rattle.dsec_sorted.proofs.Rising.{insert_rises}

pub stays_canonical : {X : Type 0} (it : Result X InsertError) (before after : List Record) (r : Record) (at : ℕ) → IsCanonical before → IsPlace r before at → OnOk it (after ≡ insert before at r) → OnErr it (after ≡ before) → IsCanonical after
stays_canonical (Ok x) before after r at up place is same = subst (λ (xs : List Record). IsCanonical xs) (sym is) (insert_rises record_cmp_total before at r place.within up place.parts)
stays_canonical (Err e) before after r at up place is same = subst (λ (xs : List Record). IsCanonical xs) (sym same) up

pub one_more : {X : Type 0} (it : Result X InsertError) (before after : List Record) (r : Record) (at : ℕ) → OnOk it (after ≡ insert before at r) → OnOk it (IsPermutation (r ∷ before) after)
one_more (Ok x) before after r at is = subst (λ (xs : List Record). IsPermutation (r ∷ before) xs) (sym is) (IsPermutation-insert before at r)
one_more (Err e) before after r at is = tt

pub answered : {X : Type 0} (it : Result X InsertError) (before : List Record) (r : Record) (at : ℕ) → IsPlace r before at → IfErr it (λ e. e ≡ NoMemory r) → MatchResult it (λ _. IsNew r before) (λ e. IsReason e r before)
answered (Ok x) before r at place given = new before r at place
answered (Err e) before r at place given = subst (λ (why : InsertError). IsReason why r before) (sym given) (refl, new before r at place)
