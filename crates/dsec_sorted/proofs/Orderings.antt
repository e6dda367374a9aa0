-- What tests of an answer of `cmp` say, and the order of records from its parts.
use Rattle.std.proofs.Common.{◌≡◌, ◌==◌, ℕ, ◌-◌, ◌<◌, true, false, List, length, get_or, refl, sym, ◌∙◌, arith}
use Rattle.std.proofs.Math.Bool.{not}
use Rattle.std.proofs.lemmas.Bool.{true≢false}
use Rattle.std.proofs.lemmas.List.{get_or_default}
use Rattle.std.specs.Ordering.{ordering_index, ordering_then}
use Rattle.std.specs.declared.cmp.Ordering.{Ordering}
use Rattle.std.specs.declared.cmp.Ordering.TheVariants.{Less, Equal, Greater}
use Rattle.dsec_spec.specs.Records.{Record}
use Rattle.dsec_spec.specs.CanonicalRecords.{record_cmp}

pub is_equal : (o : Ordering) → false ≡ not (ordering_index o == 1) → o ≡ Equal
is_equal Less h = absurd (true≢false (sym h))
is_equal Equal h = refl
is_equal Greater h = absurd (true≢false (sym h))

pub is_less : (o : Ordering) → false ≡ not (ordering_index o == 0) → o ≡ Less
is_less Less h = refl
is_less Equal h = absurd (true≢false (sym h))
is_less Greater h = absurd (true≢false (sym h))

pub isnt_less : (o : Ordering) → true ≡ not (ordering_index o == 0) → o ≡ Less → ⊥
isnt_less Less h e = true≢false h
isnt_less Equal h e = absurd cc
isnt_less Greater h e = absurd cc

-- where all but the last tie, the last counts
pub last_counts : (p q r s x : Ordering) → p ≡ Equal → q ≡ Equal → r ≡ Equal → x ≡ s → x ≡ ordering_then p (ordering_then q (ordering_then r s))
last_counts p q r s x pe qe re e = rw (pe, qe, re) e

-- what two records at hand compare as, by any default
pub at_places : (records : List Record) (i : ℕ) (x y d : Record) (o : Ordering) → 0 < i → i < length records → x ≡ get_or records (i - 1) x → y ≡ get_or records i y → o ≡ record_cmp x y
    → o ≡ record_cmp (get_or records (i - 1) d) (get_or records i d)
at_places records i x y d o some within xi yi e =
    let xd : x ≡ get_or records (i - 1) d = xi ∙ get_or_default records (i - 1) x d (omega arith) in
    let yd : y ≡ get_or records i d = yi ∙ get_or_default records i y d within in
    rw (← xd, ← yd) e
