-- A group that is sighted as a record counts as this record, and one that is sighted as an end of calls is one (RFC 5155 3, 8.1, 8.2, RFC 9276 3.2).
use Rattle.std.proofs.Common.{◌≡◌, ◌≤◌, ℕ, suc, ◌+◌, ◌==◌, Bool, true, false, cond, List, [], ◌∷◌, length, Option, Some, None, refl, sym, ◌∙◌, inl, inr, arith}
use Rattle.std.specs.Prelude.{nat_lt, slice_get}
use Rattle.std.proofs.Math.Bool.{not}
use Rattle.std.proofs.lemmas.Bool.{true≢false, false≢true, and_parts, eqb-true, leb-true, ltb-true, lt-ltb, cases_lt}
use Rattle.dsec_spec.specs.Names.{Labels, Place, place, same_place}
use Rattle.dsec_spec.specs.Numbers.{NSEC3}
use Rattle.dsec_spec.specs.Records.{Record}
use Rattle.dsec_spec.specs.RecordViews.{Nsec3, nsec3_of}
use Rattle.dsec_spec.specs.Base32hex.{octets_in_base32hex}
use Rattle.dsec_spec.proofs.CanonicalNames.{same_place_decides}
use Rattle.dsec_absence.specs.Evidence.{Evidence}
use Rattle.dsec_nsec3.specs.Counting.{HashLimits, IsNsec3Of, Counts, End, too_many_iterations, many_iterations, Ends, HashedSighting, ignored, stops, hashed, is_known, by_hash, by_label, by_owner, only_nsec3, may_count, hashed_sighting}

not_above : (a b : ℕ) → nat_lt a b ≡ false → b ≤ a
not_above a b e = elim (cases_lt a b) [
  | inl less ↦ absurd (true≢false (sym (lt-ltb a b less) ∙ e))
  | inr more ↦ more
]

not_true : (a : Bool) → not a ≡ true → a ≡ false
not_true true e = absurd (false≢true e)
not_true false e = refl

not_false : (a : Bool) → not a ≡ false → a ≡ true
not_false true e = refl
not_false false e = absurd (true≢false e)

-- the group is an NSEC3 record of the zone, which ends a call for this reason
pub record StopsBy (limits : HashLimits) (class : ℕ) (signer : Place) (why : End) (e : Evidence) : Type 0 where
  pub says : Nsec3
  pub is_nsec3 : IsNsec3Of class signer e says
  pub ends : Ends limits says is_nsec3.label why

-- what a sighting says of a group
abbrev pub Sights : HashLimits → ℕ → Place → Evidence → HashedSighting → Type 0
Sights limits class signer e ignored = Unit {0}
Sights limits class signer e (stops why) = StopsBy limits class signer why e
Sights limits class signer e (hashed r) = Counts limits class signer e r

-- and it is so (RFC 5155 3, 8.1, 8.2)
pub sighting_is : (limits : HashLimits) (class : ℕ) (signer : Place) (e : Evidence) → Sights limits class signer e (hashed_sighting limits class signer e)
sighting_is limits class signer e = by (may_count class signer e) refl
  where
    Says : HashedSighting → Type 0
    Says s = Sights limits class signer e s

    labelled : (says : Nsec3) (is : IsNsec3Of class signer e says) → Says (by_label limits signer is.label says)
    labelled says is = known (is_known says.hashing) (nat_lt limits.iterations_bogus says.hashing.iterations) refl (nat_lt limits.iterations_insecure says.hashing.iterations) refl
      where
        lengths : (hash : List ℕ) → octets_in_base32hex is.label ≡ Some hash → says.hashing.iterations ≤ limits.iterations_insecure → says.hashing.iterations ≤ limits.iterations_bogus
            → (b : Bool) → (length hash == length says.next_owner) ≡ b → Says (cond b (hashed (record { zone = signer; owner_hash = hash; says = says })) ignored)
        lengths hash f few many true g = record {
          is_nsec3 = is;
          zone = refl;
          few = few;
          not_many = many;
          writes = f;
          as_long = eqb-true (length hash) (length says.next_owner) g;
        }
        lengths hash f few many false g = tt

        hash_read : (o : Option (List ℕ)) → octets_in_base32hex is.label ≡ o → says.hashing.iterations ≤ limits.iterations_insecure → says.hashing.iterations ≤ limits.iterations_bogus
            → Says (by_hash signer says o)
        hash_read None f few many = record { says = says; is_nsec3 = is; ends = f }
        hash_read (Some hash) f few many = lengths hash f few many (length hash == length says.next_owner) refl

        known : (k a : Bool) → nat_lt limits.iterations_bogus says.hashing.iterations ≡ a → (b : Bool) → nat_lt limits.iterations_insecure says.hashing.iterations ≡ b
            → Says (cond (not k) ignored (cond a (stops too_many_iterations) (cond b (stops many_iterations) (by_hash signer says (octets_in_base32hex is.label)))))
        known false a f b g = tt
        known true true f b g = record { says = says; is_nsec3 = is; ends = ltb-true limits.iterations_bogus says.hashing.iterations f }
        known true false f true g = record {
          says = says;
          is_nsec3 = is;
          ends = (ltb-true limits.iterations_insecure says.hashing.iterations g, not_above limits.iterations_bogus says.hashing.iterations f);
        }
        known true false f false g =
            hash_read (octets_in_base32hex is.label) refl (not_above limits.iterations_insecure says.hashing.iterations g) (not_above limits.iterations_bogus says.hashing.iterations f)

    owned : may_count class signer e ≡ true → (only : Record) → e.group.records ≡ only ∷ [] → (says : Nsec3) → nsec3_of only.rdata ≡ Some says
        → (label : List ℕ) (rest : Labels) → e.group.owner ≡ label ∷ rest → (b : Bool) → same_place (place rest) signer ≡ b
        → (k : Bool) → is_known says.hashing ≡ k → Says (cond b (by_label limits signer label says) ignored)
    owned tests only alone says reads label rest owner false zone k known = tt
    owned tests only alone says reads label rest owner true zone false known = unknown (is_known says.hashing) known
      where
        unknown : (k : Bool) → k ≡ false
            → Says (cond (not k) ignored (cond (nat_lt limits.iterations_bogus says.hashing.iterations) (stops too_many_iterations) (cond (nat_lt limits.iterations_insecure says.hashing.iterations) (stops many_iterations) (by_hash signer says (octets_in_base32hex label)))))
        unknown false f = tt
        unknown true f = absurd (true≢false f)
    owned tests only alone says reads label rest owner true zone true known =
        let last = and_parts _ _ tests in
        let fourth = and_parts _ _ last.0 in
        let third = and_parts _ _ fourth.0 in
        let second = and_parts _ _ third.0 in
        let both = and_parts _ _ known in
        labelled says (record {
          of_type = eqb-true e.group.rtype NSEC3 second.0;
          of_class = eqb-true e.group.class class second.1;
          only = only;
          alone = alone;
          reads = reads;
          secure = third.1;
          signed_by = (same_place_decides e.signer signer).0 fourth.1;
          no_expansion = not_true e.is_expanded last.1;
          label = label;
          rest = rest;
          owner = owner;
          of_zone = (same_place_decides (place rest) signer).0 zone;
          algorithm = eqb-true says.hashing.hash_algorithm 1 both.0;
          flags = leb-true says.hashing.flags 1 both.1;
        })

    at_owner : may_count class signer e ≡ true → (only : Record) → e.group.records ≡ only ∷ [] → (o : Option Nsec3) → nsec3_of only.rdata ≡ o
        → (owner : Labels) → e.group.owner ≡ owner → Says (by_owner limits signer owner o)
    at_owner tests only alone None reads owner f = tt
    at_owner tests only alone (Some says) reads [] f = tt
    at_owner tests only alone (Some says) reads (label ∷ rest) f =
        owned tests only alone says reads label rest f (same_place (place rest) signer) refl (is_known says.hashing) refl

    one : may_count class signer e ≡ true → (rs : List Record) → e.group.records ≡ rs → Says (by_owner limits signer e.group.owner (only_nsec3 rs))
    one tests [] f = tt
    one tests (only ∷ []) f = at_owner tests only f (nsec3_of only.rdata) refl e.group.owner refl
    one tests (first ∷ second ∷ others) f = tt

    by : (b : Bool) → may_count class signer e ≡ b → Says (cond b (by_owner limits signer e.group.owner (only_nsec3 e.group.records)) ignored)
    by true f = one f e.group.records refl
    by false f = tt

-- from an index on, something is so of the group at another
pub record At (P : Evidence → Type 0) (i : ℕ) (es : List Evidence) (k : ℕ) : Type 0 where
  pub offset : ℕ
  pub is : k ≡ i + offset
  pub evidence : Evidence
  pub stands : slice_get es offset ≡ Some evidence
  pub holds : P evidence

module _ (P : Evidence → Type 0) (i : ℕ) (e : Evidence) (es : List Evidence) where
  pub at_first : P e → At P i (e ∷ es) i
  at_first holds = record { offset = 0; is = omega arith; evidence = e; stands = refl; holds = holds }

  pub at_later : (k : ℕ) → At P (i + 1) es k → At P i (e ∷ es) k
  at_later k a = record { offset = suc a.offset; is = let is = a.is in omega (arith, is); evidence = a.evidence; stands = a.stands; holds = a.holds }

-- from the first on, the index is the group's own
pub at_index : (P : Evidence → Type 0) (es : List Evidence) (k : ℕ) → At P 0 es k → (e : Evidence) × (slice_get es k ≡ Some e) × P e
at_index P es k a = let same : a.offset ≡ k = let is = a.is in omega (arith, is) in (a.evidence, rw same at a.stands, a.holds)

-- something is so of one of the groups
pub record Somewhere (P : Evidence → Type 0) (es : List Evidence) : Type 0 where
  pub index : ℕ
  pub evidence : Evidence
  pub stands : slice_get es index ≡ Some evidence
  pub holds : P evidence

pub somewhere_first : (P : Evidence → Type 0) (e : Evidence) (es : List Evidence) → P e → Somewhere P (e ∷ es)
somewhere_first P e es holds = record { index = 0; evidence = e; stands = refl; holds = holds }

pub somewhere_later : (P : Evidence → Type 0) (e : Evidence) (es : List Evidence) → Somewhere P es → Somewhere P (e ∷ es)
somewhere_later P e es a = record { index = suc a.index; evidence = a.evidence; stands = a.stands; holds = a.holds }
