-- Records are of one set where none is of another than the first.
use Rattle.std.proofs.Common.{◌≡◌, ℕ, zero, suc, false, true, List, ◌∷◌, [], refl, subst, arith, Option, Some, None, inl, inr}
use Rattle.std.specs.Prelude.{Contains, slice_get}
use Rattle.std.specs.List.{list_any}
use Rattle.std.proofs.Math.Bool.{not}
use Rattle.dsec_spec.specs.Records.{Record}
use Rattle.dsec_spec.specs.SignedZones.{of_one_set}
use Rattle.dsec_spec.proofs.Members.{at_index, in_more, none_passes, not_in_none}
use Rattle.dsec_sorted.proofs.OwnerRuns.{not_false, not_true}
use Rattle.dsec_sorted.specs.Sets.{AreOfOneSet, and_then, records_at}
use Rattle.dsec_sign.proofs.SetRuns.{one_set_of_parts}
use Rattle.dsec_sign.proofs.SignableSets.{run_of_one_set}

pub one_set : (first : Record) (others : List Record) → not (list_any (λ r. not (of_one_set first r)) others) ≡ true → AreOfOneSet (first ∷ others)
one_set first others h = run_of_one_set (first ∷ others) (record { first = first; others = others; is = refl; one = each })
  where
    none : list_any (λ r. not (of_one_set first r)) others ≡ false
    none = not_true (list_any (λ r. not (of_one_set first r)) others) h

    each : (r : Record) → Contains (first ∷ others) r → of_one_set first r ≡ true
    each r (zero, lt, at) = subst (λ (s : Record). of_one_set first s ≡ true) at (one_set_of_parts first first refl refl refl)
    each r (suc k, lt, at) = not_false (of_one_set first r) (none_passes (λ s. not (of_one_set first s)) others none r (k, omega arith, at))

pub no_record : AreOfOneSet []
no_record r s m = let lt = m.1 in absurd (omega arith)

from_places : (records : List Record) (places : List ℕ) (r : Record) → Contains (records_at records places) r → Contains records r
from_places records [] r m = absurd (not_in_none r m)
from_places records (k ∷ places) r m = by (from_places records places r) (slice_get records k) refl m
  where
    by : (Contains (records_at records places) r → Contains records r) → (o : Option Record) → slice_get records k ≡ o → Contains (and_then o (records_at records places)) r → Contains records r
    by others None e h = others h
    by others (Some x) e h = elim (in_more x r (records_at records places) h) [
      | inl same ↦ at_index records k r (subst (λ z. slice_get records k ≡ Some z) same e)
      | inr later ↦ others later
    ]

-- records at places of a set are of one set
pub set_at_places : (records : List Record) (places : List ℕ) → AreOfOneSet records → AreOfOneSet (records_at records places)
set_at_places records places one r s m n = one r s (from_places records places r m) (from_places records places s n)
