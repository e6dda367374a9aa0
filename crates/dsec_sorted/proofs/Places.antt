-- Where a record stands among others, or is to stand.
use Rattle.std.proofs.Common.{◌≡◌, ℕ, ◌<◌, Bool, true, false, List, length, get_or, refl, sym}
use Rattle.std.specs.Prelude.{Result, Ok, Err, IfOk, IfErr}
use Rattle.std.specs.List.Sorted.{IsBinarySearchResult, IsSearchInRange}
use Rattle.std.specs.List.{list_any}
use Rattle.std.specs.Cmp.{both_ways}
use Rattle.std.specs.Ordering.{eq_by_cmp, is_eq}
use Rattle.std.specs.declared.cmp.Ordering.{Ordering}
use Rattle.std.specs.declared.cmp.Ordering.TheVariants.{Less, Equal, Greater}
use Rattle.std.proofs.lemmas.Bool.{true≢false}
use Rattle.std.proofs.lemmas.Cmp.{tied_back}
use Rattle.std.proofs.lemmas.List.{get_or_default}
use Rattle.dsec_spec.specs.Groups.{are_duplicates}
use Rattle.dsec_spec.specs.Records.{Record}
use Rattle.dsec_spec.specs.CanonicalRecords.{record_cmp, IsCanonical}
use Rattle.dsec_spec.proofs.CanonicalOrder.{record_cmp_total, duplicates_tie}
use Rattle.dsec_spec.proofs.Choosing.{passes}
use Rattle.dsec_spec.proofs.Members.{some_passes}
use Rattle.dsec_sorted.specs.Inserting.{IsPresent, IsNew, IsPlace}
use Rattle.dsec_sorted.proofs.Rising.{none_equal, searchable}

pub present : (records : List Record) (r : Record) (k : ℕ) → k < length records → ((d : Record) → record_cmp (get_or records k d) r ≡ Equal) → IsPresent r records
present records r k within same =
    passes (are_duplicates r) records (get_or records k r) (k, within, get_or_default records k (get_or records k r) r within)
    ((duplicates_tie r (get_or records k r)).1 (tied_back record_cmp_total (get_or records k r) r (same r)))

pub new : (records : List Record) (r : Record) (at : ℕ) → IsPlace r records at → IsNew r records
new records r at p = is_false (list_any (are_duplicates r) records) (λ h.
    let f = some_passes (are_duplicates r) records h in
    none_equal record_cmp_total records at r p.parts (f.1.0, f.0, f.1.1, f.1.2, tied_back record_cmp_total r f.0 ((duplicates_tie r f.0).0 f.2)))
  where
    is_false : (b : Bool) → (b ≡ true → ⊥) → b ≡ false
    is_false true out = absurd (out refl)
    is_false false out = refl

is_tied : (o : Ordering) → is_eq o ≡ true → o ≡ Equal
is_tied Less h = absurd (true≢false (sym h))
is_tied Equal h = refl
is_tied Greater h = absurd (true≢false (sym h))

-- records tie where they are duplicates
pub ties_alike : (r s : Record) → are_duplicates r s ≡ eq_by_cmp record_cmp r s
ties_alike r s = both_ways (are_duplicates r s) (eq_by_cmp record_cmp r s)
    (λ h. rw ((duplicates_tie r s).0 h) refl)
    (λ h. (duplicates_tie r s).1 (is_tied (record_cmp r s) h))

-- what a binary search answers
pub found_of : (records : List Record) (r : Record) (it : Result ℕ ℕ) → IsSearchInRange it (length records) → IsBinarySearchResult (λ s. record_cmp s r) records it → IfOk it (λ k. (k < length records) × IsPresent r records)
found_of records r (Ok k) within at = (within, present records r k within at)
found_of records r (Err k) within at = tt

pub place_of : (records : List Record) (r : Record) (it : Result ℕ ℕ) → IsCanonical records → IsSearchInRange it (length records) → IsBinarySearchResult (λ s. record_cmp s r) records it → IfErr it (λ at. IsPlace r records at)
place_of records r (Ok k) up within at = tt
place_of records r (Err k) up within at = record { within = within; parts = at (searchable record_cmp_total records up r) }
