-- Tests that are relations: which names an NSEC record's gap has, and how many DS records are tried.
use Rattle.std.proofs.Common.{◌≡◌, ◌≤◌, ◌||◌, Bool, true, false, length, take, refl, sym, ap, ◌∙◌, arith}
use Rattle.std.proofs.Math.Bool.{not}
use Rattle.std.proofs.Math.Nat.{min-le_left}
use Rattle.std.specs.Prelude.{min}
use Rattle.std.specs.Ordering.{is_lt}
use Rattle.std.specs.declared.cmp.Ordering.{Ordering}
use Rattle.std.specs.declared.cmp.Ordering.TheVariants.{Less, Equal, Greater}
use Rattle.std.proofs.lemmas.Bool.{false≢true, and_parts, and_from}
use Rattle.std.proofs.lemmas.List.{length-take}
use Rattle.dsec_spec.specs.Names.{Place, place_cmp, Before}
use Rattle.dsec_spec.specs.DenyingRecords.{IsInRange}
use Rattle.dsec_nodes.specs.World.{World}
use Rattle.dsec_nodes.specs.MissingDs.{is_in_range}
use Rattle.dsec_nodes.specs.ByDs.{Pending, usable, ways}

less_is : (o : Ordering) → is_lt o ≡ true → o ≡ Less
less_is Less e = refl
less_is Equal e = absurd (false≢true e)
less_is Greater e = absurd (false≢true e)

or_true : (b : Bool) → (b || true) ≡ true
or_true true = refl
or_true false = refl

-- a name that passes the test is in the range (RFC 4034 4.1.1)
pub in_range : (owner next n : Place) → is_in_range owner next n ≡ true → IsInRange owner next n
in_range owner next n e =
    let both = and_parts _ _ e in
    record { after = less_is (place_cmp owner n) both.0; before = λ b. by (is_lt (place_cmp n next)) refl both.1 b }
  where
    by : (x : Bool) → is_lt (place_cmp n next) ≡ x → (x || not (is_lt (place_cmp owner next))) ≡ true → Before owner next → Before n next
    by true f g b = less_is (place_cmp n next) f
    by false f g b = absurd (false≢true (sym (ap (λ (o : Ordering). not (is_lt o)) b) ∙ g))

-- and one in the range passes it
pub range_told : (owner next n : Place) → IsInRange owner next n → is_in_range owner next n ≡ true
range_told owner next n r = and_from _ _ (ap is_lt r.after) (by (is_lt (place_cmp owner next)) refl)
  where
    by : (x : Bool) → is_lt (place_cmp owner next) ≡ x → (is_lt (place_cmp n next) || not x) ≡ true
    by true f = ap (λ (b : Bool). b || false) (ap is_lt (r.before (less_is (place_cmp owner next) f)))
    by false f = or_true (is_lt (place_cmp n next))

-- no more DS records are tried than may be
pub ways_bounded : (w : World) (pending : Pending) → length (ways w pending) ≤ w.bounds.max_ds_records
ways_bounded w pending =
    let all = usable pending.link.records.datas in
    let is : length (take w.bounds.max_ds_records all) ≡ min w.bounds.max_ds_records (length all) = length-take w.bounds.max_ds_records all in
    omega (arith, is, min-le_left w.bounds.max_ds_records (length all))
