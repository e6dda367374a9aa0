-- What an ordinary answer asks for, from simpler facts: counts of labels, names below the anchor, a type that isn't RRSIG.
use Rattle.std.proofs.Common.{◌≡◌, ℕ, ◌+◌, ◌-◌, ◌<◌, Bool, true, false, cond, List, [], ◌∷◌, ◌++◌, length, take, map, Some, refl, sym, ap, ◌∙◌, subst, arith, length-append}
use Rattle.std.specs.Prelude.{◌≢◌, filter, nat_eq}
use Rattle.std.proofs.lemmas.Bool.{eqb-false}
use Rattle.std.proofs.Math.Seq.{take-append-add}
use Rattle.dsec_spec.specs.Names.{Labels, Place, place, rrsig_label_count, IsAtOrBelow, IsStrictlyBelow}
use Rattle.dsec_spec.specs.Numbers.{DS, RRSIG}
use Rattle.dsec_spec.specs.Records.{Record}
use Rattle.dsec_spec.specs.SignedBytes.{IsExpansion}
use Rattle.dsec_spec.specs.Groups.{Group, are_duplicates, firsts, group_of, grouped_type, groups_of, of_one_group, plain_records}
use Rattle.dsec_spec.specs.Islands.{looked_for_at, island}
use Rattle.dsec_spec.proofs.IslandLemmas.{island_is, one_looked_for}
use Rattle.dsec_spec.proofs.SignedOwner.{own_signed_owner}

-- a set whose signature counts all labels of its owner is no expansion of a wildcard (RFC 4034 3.1.3)
pub counts_all : (labels : ℕ) (owner : Labels) → labels ≡ length owner → IsExpansion labels owner → ⊥
counts_all labels owner e h = let l = h.fewer in omega (arith, e, l)

-- nor is one whose signature counts those that a signature of its own counts, without a leftmost asterisk (RFC 4034 3.1.3)
pub counts_its_own : (labels : ℕ) (owner : Labels) → labels ≡ rrsig_label_count owner → IsExpansion labels owner → ⊥
counts_its_own labels owner e h = (subst (λ (n : ℕ). IsExpansion n owner) e h).elsewhere (ap place (sym (own_signed_owner owner)))

-- a DS set of a name strictly below a place is looked for at or below it (RFC 4035 2.4)
pub ds_below : (name top : Place) → IsStrictlyBelow name top → IsAtOrBelow (looked_for_at name DS) top
ds_below name top b =
    let long : length name ≡ length (top ++ b.next ∷ b.under) = ap length b.is in
    let less : length name - 1 ≡ length top + length b.under = omega (arith, long, length-append top (b.next ∷ b.under)) in
    record {
      under = take (length b.under) (b.next ∷ b.under);
      is = ap (λ (n : ℕ). take n name) less
          ∙ (ap (take (length top + length b.under)) b.is ∙ take-append-add top (b.next ∷ b.under) (length b.under));
    }

-- where the anchor's place is the set's island, the set is looked for at or below it (RFC 4033 2, island of security)
pub ds_in_island : (anchors : List Record) (name : Place) (rtype : ℕ) (top : Place) → island anchors name rtype ≡ Some top → rtype ≡ DS
    → IsAtOrBelow (looked_for_at name DS) top
ds_in_island anchors name rtype top e is =
    let i = island_is anchors name rtype top e in
    subst (λ (p : Place). IsAtOrBelow p top) (one_looked_for name rtype i.from i.looked_for ∙ ap (looked_for_at name) is) i.above

made_with_record : (first : Record) (members : List Record) → (group_of first members).rtype ≢ RRSIG → 0 < length (group_of first members).records
made_with_record first members other = by (nat_eq count 0) refl other
  where
    count : ℕ
    count = length (plain_records (firsts are_duplicates members))

    by : (b : Bool) → nat_eq count 0 ≡ b → cond b RRSIG (grouped_type first) ≢ RRSIG → 0 < count
    by true e f = absurd (f refl)
    by false e f = let some = eqb-false count 0 e in omega (arith, some)

-- a group of another type than RRSIG has a record (RFC 2181 5)
pub has_record : (section : List Record) (group : Group) → groups_of section ≡ group ∷ [] → group.rtype ≢ RRSIG → 0 < length group.records
has_record section group e other = by (firsts of_one_group section) e
  where
    make : Record → Group
    make first = group_of first (filter (of_one_group first) section)

    by : (xs : List Record) → map make xs ≡ group ∷ [] → 0 < length group.records
    by [] f = absurd cc
    by (x ∷ xs) f =
        let is : make x ≡ group = cc in
        subst (λ (g : Group). 0 < length g.records) is
        (made_with_record x (filter (of_one_group x) section) (subst (λ (g : Group). g.rtype ≢ RRSIG) (sym is) other))
