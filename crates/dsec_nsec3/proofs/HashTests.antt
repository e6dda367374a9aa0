-- What an NSEC3 record shows by the tests, it shows by the relations (RFC 5155 1.3, 8.3 to 8.6, RFC 6840 4.1, 4.3).
use Rattle.std.proofs.Common.{◌≡◌, ◌↔◌, ℕ, ◌&&◌, ◌||◌, Bool, true, false, cond, List, [], refl, sym, ap, ◌∙◌, inl, inr, ◌⊎◌, IsTrue}
use Rattle.std.specs.Prelude.{◌≢◌}
use Rattle.std.proofs.Math.Bool.{not}
use Rattle.std.specs.Ordering.{nat_cmp, is_lt}
use Rattle.std.specs.Cmp.Lexicographic.{slice_cmp}
use Rattle.std.specs.declared.cmp.Ordering.{Ordering}
use Rattle.std.specs.declared.cmp.Ordering.TheVariants.{Less, Equal, Greater}
use Rattle.std.proofs.lemmas.Bool.{true≢false, false≢true, and_parts, and_from}
use Rattle.std.proofs.lemmas.Slice.Eq.{bytes_eq-Decides}
use Rattle.dsec_cause.specs.declared.cause.Cause.TheVariants.{Nsec3ProvesType, Nsec3FromApexForDs, Nsec3FromParent}
use Rattle.dsec_spec.specs.Names.{Place}
use Rattle.dsec_spec.specs.Numbers.{NS, CNAME, SOA, DS, DNAME}
use Rattle.dsec_spec.specs.DenyingRecords.{Nsec3At, has_hashed, hashed_by, HashBefore, IsBetween, MatchesHash, CoversHash}
use Rattle.dsec_absence.specs.Tests.{Shown, refutes, denies, is_ds_above}
use Rattle.dsec_absence.proofs.TestLaws.{above_is, not_above_is}
use Rattle.dsec_nsec3.specs.HashedDenials.{IsPlain}
use Rattle.dsec_nsec3.specs.Tests.{is_hash_before, is_between, matches_hash, covers_hash, is_hashed_cut, is_hashed_apex, is_plain, own_hash_shows}

less_is : (o : Ordering) → is_lt o ≡ true → o ≡ Less
less_is Less e = refl
less_is Equal e = absurd (false≢true e)
less_is Greater e = absurd (false≢true e)

before_is : (x y : List ℕ) → is_hash_before x y ≡ true → HashBefore x y
before_is x y e = less_is (slice_cmp nat_cmp x y) e

before_told : (x y : List ℕ) → HashBefore x y → is_hash_before x y ≡ true
before_told x y e = ap is_lt e

either_is : (a b x : List ℕ) → (is_hash_before a x || is_hash_before x b) ≡ true → HashBefore a x ⊎ HashBefore x b
either_is a b x e = by (is_hash_before a x) refl e
  where
    by : (p : Bool) → is_hash_before a x ≡ p → (p || is_hash_before x b) ≡ true → HashBefore a x ⊎ HashBefore x b
    by true f g = inl (before_is a x f)
    by false f g = inr (before_is x b g)

either_told : (a b x : List ℕ) → HashBefore a x ⊎ HashBefore x b → (is_hash_before a x || is_hash_before x b) ≡ true
either_told a b x (inl h) = ap (λ (p : Bool). p || is_hash_before x b) (before_told a x h)
either_told a b x (inr h) = by (is_hash_before a x)
  where
    by : (p : Bool) → (p || is_hash_before x b) ≡ true
    by true = refl
    by false = before_told x b h

-- the test of the circle decides whether a hash is inside the arc (RFC 5155 1.3)
pub between_decides : (a b x : List ℕ) → IsTrue (is_between a b x) ↔ IsBetween a b x
between_decides a b x = (λ e. there (is_hash_before a b) refl e, λ h. back (is_hash_before a b) refl h)
  where
    there : (p : Bool) → is_hash_before a b ≡ p → cond p (is_hash_before a x && is_hash_before x b) (is_hash_before a x || is_hash_before x b) ≡ true → IsBetween a b x
    there true f g = let both = and_parts _ _ g in inl (before_is a x both.0, before_is x b both.1)
    there false f g = inr (λ less. true≢false (sym (before_told a b less) ∙ f), either_is a b x g)

    back : (p : Bool) → is_hash_before a b ≡ p → IsBetween a b x → cond p (is_hash_before a x && is_hash_before x b) (is_hash_before a x || is_hash_before x b) ≡ true
    back true f (inl h) = and_from _ _ (before_told a x h.0) (before_told x b h.1)
    back true f (inr h) = absurd (h.0 (before_is a b f))
    back false f (inl h) = either_told a b x (inl h.0)
    back false f (inr h) = either_told a b x h.1

-- so does that of a record that covers a name
pub covers_decides : (r : Nsec3At) (n : Place) → IsTrue (covers_hash r n) ↔ CoversHash r n
covers_decides r n = between_decides r.owner_hash r.says.next_owner (hashed_by r n)

-- and that of one that matches it
pub matches_decides : (r : Nsec3At) (n : Place) → IsTrue (matches_hash r n) ↔ MatchesHash r n
matches_decides r n = bytes_eq-Decides (hashed_by r n) r.owner_hash

-- a name's own bitmap has neither the type nor CNAME, and is of the zone that owns the type there: for DS, but at the root, not of the
-- zone below, and else not of the zone above (RFC 5155 8.5, 8.6, RFC 6840 4.1, 4.3)
pub record IsWithout (r : Nsec3At) (n : Place) (q : ℕ) : Type 0 where
  pub no_type : has_hashed r q ≡ false
  pub no_alias : has_hashed r CNAME ≡ false
  pub not_above : q ≢ DS → has_hashed r NS ≡ true → has_hashed r SOA ≡ true
  pub not_below : q ≡ DS → n ≢ [] → has_hashed r NS ≡ true → has_hashed r SOA ≡ true → ⊥

not_is : (a : Bool) → not a ≡ true → a ≡ false
not_is true e = absurd (false≢true e)
not_is false e = refl

pub neither : (a b : Bool) → (a || b) ≡ false → (a ≡ false) × (b ≡ false)
neither true b e = absurd (true≢false e)
neither false b e = (refl, e)

not_both : (a b : Bool) → (a && not b) ≡ false → a ≡ true → b ≡ true
not_both true true e f = refl
not_both true false e f = absurd (true≢false e)
not_both false b e f = absurd (false≢true f)

neither_both : (a b : Bool) → (a && b) ≡ false → a ≡ true → b ≡ true → ⊥
neither_both true true e f g = true≢false e
neither_both true false e f g = false≢true g
neither_both false b e f g = false≢true f

pub plain_is : (r : Nsec3At) → is_plain r ≡ true → IsPlain r
plain_is r e = let both = and_parts _ _ e in record {
  no_dname = not_is (has_hashed r DNAME) both.0;
  no_cut = not_both (has_hashed r NS) (has_hashed r SOA) (not_is (is_hashed_cut r) both.1);
}

-- the name's own record, where it denies, is without the type
pub without_is : (r : Nsec3At) (n : Place) (q : ℕ) → own_hash_shows r n q ≡ denies tt → IsWithout r n q
without_is r n q e = by (has_hashed r q || has_hashed r CNAME) refl (is_ds_above n q) refl e
  where
    yes : Shown (Unit {0})
    yes = denies tt

    bits : (has_hashed r q || has_hashed r CNAME) ≡ false → (has_hashed r q ≡ false) × (has_hashed r CNAME ≡ false)
    bits = neither (has_hashed r q) (has_hashed r CNAME)

    at_parent : (x : Bool) → is_hashed_apex r ≡ x → cond x (refutes Nsec3FromApexForDs) yes ≡ yes → x ≡ false
    at_parent true f g = absurd cc
    at_parent false f g = refl

    at_child : (x : Bool) → is_hashed_cut r ≡ x → cond x (refutes Nsec3FromParent) yes ≡ yes → x ≡ false
    at_child true f g = absurd cc
    at_child false f g = refl

    by : (x : Bool) → (has_hashed r q || has_hashed r CNAME) ≡ x → (y : Bool) → is_ds_above n q ≡ y
        → cond x (refutes Nsec3ProvesType) (cond y (cond (is_hashed_apex r) (refutes Nsec3FromApexForDs) yes) (cond (is_hashed_cut r) (refutes Nsec3FromParent) yes)) ≡ yes
        → IsWithout r n q
    by true f y g h = absurd cc
    by false f true g h =
        let off = bits f in
        let apex = at_parent (is_hashed_apex r) refl h in
        record {
          no_type = off.0;
          no_alias = off.1;
          not_above = λ other. absurd (other (above_is n q g).0);
          not_below = λ _ _. neither_both (has_hashed r NS) (has_hashed r SOA) apex;
        }
    by false f false g h =
        let off = bits f in
        let cut = at_child (is_hashed_cut r) refl h in
        record {
          no_type = off.0;
          no_alias = off.1;
          not_above = λ _. not_both (has_hashed r NS) (has_hashed r SOA) cut;
          not_below = λ ds some. absurd (not_above_is n q g ds some);
        }
