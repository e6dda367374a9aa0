-- Why a record that counts refutes what is to be denied (RFC 5155 8.3, 8.5, RFC 6840 4.1, 4.3).
use Rattle.std.proofs.Common.{◌≡◌, ℕ, ◌&&◌, ◌||◌, Bool, true, false, cond, [], ◌∷◌, refl, sym, subst, inl, inr, ◌⊎◌}
use Rattle.std.proofs.Math.Bool.{not}
use Rattle.std.proofs.lemmas.Bool.{true≢false, and_parts}
use Rattle.dsec_cause.specs.declared.cause.Cause.{Cause}
use Rattle.dsec_cause.specs.declared.cause.Cause.TheVariants.{Nsec3ProvesType, Nsec3FromApexForDs, Nsec3FromParent}
use Rattle.dsec_spec.specs.Names.{Place}
use Rattle.dsec_spec.specs.Numbers.{NS, CNAME, SOA, DS, DNAME}
use Rattle.dsec_spec.specs.DenyingRecords.{Nsec3At, has_hashed}
use Rattle.dsec_absence.specs.Tests.{Shown, refutes, denies, is_ds_above}
use Rattle.dsec_absence.proofs.TestLaws.{above_is, not_above_is}
use Rattle.dsec_nsec3.specs.Tests.{is_hashed_cut, is_hashed_apex, is_plain, own_hash_shows}
use Rattle.dsec_nsec3.specs.HashedRefusals.{HashRefutesType, hash_with_type, hash_with_alias, hash_of_apex, hash_of_parent, LeadsAway, by_dname, by_cut}

one_is : (a b : Bool) → (a || b) ≡ true → (a ≡ true) ⊎ (b ≡ true)
one_is true b e = inl refl
one_is false true e = inr refl
one_is false false e = absurd (true≢false (sym e))

both_are : (a b : Bool) → (a && not b) ≡ true → (a ≡ true) × (b ≡ false)
both_are true false e = (refl, refl)
both_are true true e = absurd (true≢false (sym e))
both_are false b e = absurd (true≢false (sym e))

-- a record that doesn't let names below be denied leads away
pub leads_away : (r : Nsec3At) → is_plain r ≡ false → LeadsAway r
leads_away r e = by (has_hashed r DNAME) refl (is_hashed_cut r) refl e
  where
    by : (d : Bool) → has_hashed r DNAME ≡ d → (c : Bool) → is_hashed_cut r ≡ c → (not d && not c) ≡ false → LeadsAway r
    by true f c g h = by_dname f
    by false f true g h = let both = both_are (has_hashed r NS) (has_hashed r SOA) g in by_cut both.0 both.1
    by false f false g h = absurd (true≢false h)

abbrev of_type : Cause → Shown (Unit {0})
of_type cause = refutes cause

same_of_type : (c d : Cause) → of_type c ≡ of_type d → c ≡ d
same_of_type c d e = cc

at_root : (n : Place) (q : ℕ) → is_ds_above n q ≡ false → q ≡ DS → n ≡ []
at_root [] q e ds = refl
at_root (label ∷ n) q e ds = absurd (not_above_is (label ∷ n) q e ds (λ root. absurd cc))

-- why the record that matches the name refutes that the type isn't there
pub own_refutes : (r : Nsec3At) (n : Place) (q : ℕ) (cause : Cause) → own_hash_shows r n q ≡ refutes cause → HashRefutesType r n q cause
own_refutes r n q cause e = by (has_hashed r q || has_hashed r CNAME) refl (is_ds_above n q) refl (is_hashed_apex r) refl (is_hashed_cut r) refl e
  where
    yes : Shown (Unit {0})
    yes = denies tt

    by : (x : Bool) → (has_hashed r q || has_hashed r CNAME) ≡ x → (y : Bool) → is_ds_above n q ≡ y → (p : Bool) → is_hashed_apex r ≡ p → (t : Bool) → is_hashed_cut r ≡ t
        → cond x (of_type Nsec3ProvesType) (cond y (cond p (of_type Nsec3FromApexForDs) yes) (cond t (of_type Nsec3FromParent) yes)) ≡ of_type cause → HashRefutesType r n q cause
    by true f y g p h t i k = subst (HashRefutesType r n q) (same_of_type Nsec3ProvesType cause k) (elim (one_is (has_hashed r q) (has_hashed r CNAME) f) [ inl a ↦ hash_with_type a | inr a ↦ hash_with_alias a ])
    by false f true g true h t i k =
        let ds = above_is n q g in
        let bits = and_parts (has_hashed r NS) (has_hashed r SOA) h in
        subst (HashRefutesType r n q) (same_of_type Nsec3FromApexForDs cause k) (hash_of_apex ds.0 ds.1 bits.0 bits.1)
    by false f true g false h t i k = absurd cc
    by false f false g p h true i k =
        let bits = both_are (has_hashed r NS) (has_hashed r SOA) i in
        subst (HashRefutesType r n q) (same_of_type Nsec3FromParent cause k) (hash_of_parent (at_root n q g) bits.0 bits.1)
    by false f false g p h false i k = absurd cc
