-- What the calls by NSEC3 records deny is denied by records that count, and what they leave open a record that counts leaves open (RFC 5155 8.4 to
-- 8.8, RFC 9276 3.2).
use Rattle.std.proofs.Common.{◌≡◌, ℕ, Bool, true, false, ◌∷◌, [], length, length-append, Option, Some, None, refl, ap, subst, inl, inr, arith}
use Rattle.dsec_cause.specs.declared.cause.Cause.{Cause}
use Rattle.dsec_cause.specs.declared.cause.Cause.TheVariants.{Nsec3OptOut}
use Rattle.dsec_spec.specs.Names.{Place, asterisk, IsAtOrBelow, IsStrictlyBelow}
use Rattle.dsec_spec.specs.Zones.{wildcard}
use Rattle.dsec_spec.proofs.NamesBelow.{below_trans, at_or_below, same_or_below, strictly_below_trans, ancestors_comparable}
use Rattle.dsec_absence.specs.Evidence.{Evidence}
use Rattle.dsec_absence.specs.Answers.{Source, star_closest_encloser}
use Rattle.dsec_absence.proofs.AnswerLaws.{star_is}
use Rattle.dsec_nsec3.specs.Counting.{HashLimits, End, too_many_iterations, many_iterations, bad_owner_hash}
use Rattle.dsec_nsec3.specs.HashedDenials.{HashedDenial, type_gone, name_gone, wildcard_type_gone}
use Rattle.dsec_nsec3.specs.HashedProofs.{type_read, name_read, wildcard_read, IsHashedProof}
use Rattle.dsec_nsec3.specs.Walks.{Walk, gone, barred, halted, exhausted, unfound, nsec3_for_not_exists}
use Rattle.dsec_nsec3.specs.Openings.{by_opt_out, opening_index, LeavesOpen, at_or_above, at_wildcard, OpensTold, OpensAt}
use Rattle.dsec_nsec3.specs.HashedAnswers.{Hashed, disproved, opened, broken, unshown, told_by_end, next_closer, as_told, type_by_hash, nsec3_for_nodata, nsec3_for_not_exists_no_ce, told_under_opt_out, told_of_both, told_by_walk, nsec3_for_nodata_wildcard, nsec3_for_nxdomain}
use Rattle.dsec_nsec3.proofs.CountingLaws.{StopsBy, At, at_index}
use Rattle.dsec_nsec3.proofs.HashDenialLaws as laws
use Rattle.dsec_nsec3.proofs.GoneLaws.{IsShownGone, proof_of, not_exists_shows, not_exists_halts}
use Rattle.dsec_nsec3.proofs.TellingLaws.{IsOwn, IsClosed, TellsOf, many_open, type_by_hash_tells, cover_tells, next_leaves, gone_opens}

-- what is told of a denial at a name: the groups of a source prove it; or the group at an index leaves the name open
abbrev pub Told : HashLimits → Source → Place → ℕ → Hashed (HashedDenial ℕ) → Type 0
Told limits s n q (disproved d) = IsHashedProof limits s.class s.signer s.groups n q d
Told limits s n q (opened cause o) = OpensAt limits s.class s.signer s.groups n cause (opening_index o)
Told limits s n q (broken cause) = Unit {0}
Told limits s n q (unshown cause) = Unit {0}

-- a name that `*` under another is below, the other is at or below
parent_below : (c m : Place) → IsStrictlyBelow (wildcard c) m → IsAtOrBelow c m
parent_below c m below = elim (ancestors_comparable (wildcard c) c m (record { under = asterisk ∷ []; is = refl }) (at_or_below (wildcard c) m below)) [
  | inl h ↦ h
  | inr above ↦ absurd (
      let e = ap length below.is in
      let f = ap length above.is in
      omega (arith, e, f, length-append c (asterisk ∷ []), length-append m (below.next ∷ below.under), length-append c (above.next ∷ above.under))
      )
]

-- what is left open with the wildcard under a name is left open with each name under that
pub under_wildcard : (signer n c : Place) → IsStrictlyBelow n c → IsAtOrBelow c signer → (m : Place) → LeavesOpen signer (wildcard c) m → LeavesOpen signer n m
under_wildcard signer n c nc cs m (at_or_above h w) =
    elim (same_or_below (wildcard c) m h) [
      | inl same ↦ subst (LeavesOpen signer n) same (at_wildcard nc cs)
      | inr below ↦ at_or_above (below_trans n c m (at_or_below n c nc) (parent_below c m below)) w
    ]
under_wildcard signer n c nc cs m (at_wildcard {c = e} h w) = at_wildcard (strictly_below_trans n c e nc (parent_below c e h)) w

-- the group at an index, as one of a list
pub open_at : (limits : HashLimits) (s : Source) (n : Place) (cause : Option Cause) (i : ℕ) → At (OpensTold limits s.class s.signer cause n) 0 s.groups i
    → OpensAt limits s.class s.signer s.groups n cause i
open_at limits s n cause i a = let x = at_index (OpensTold limits s.class s.signer cause n) s.groups i a in record { evidence = x.0; stands = x.1; opens = x.2 }

module _ (limits : HashLimits) (s : Source) (n : Place) (within : IsAtOrBelow n s.signer) where
  -- a group that ends a call
  halting : (q : ℕ) (i : ℕ) (why : End) → At (StopsBy limits s.class s.signer why) 0 s.groups i → Told limits s n q (told_by_end i why)
  halting q i too_many_iterations a = tt
  halting q i many_iterations a =
      let x = at_index (StopsBy limits s.class s.signer many_iterations) s.groups i a in
      record { evidence = x.0; stands = x.1; opens = many_open limits s.class s.signer n x.0 x.2 }
  halting q i bad_owner_hash a = tt

  -- nsec3_for_nodata: the name has no such type, or that is left open
  pub nodata_told : (q : ℕ) → Told limits s n q (nsec3_for_nodata limits s n q)
  nodata_told q = by (type_by_hash limits s n q) (type_by_hash_tells limits s n within q n (λ m h. h))
    where
      by : (t : Hashed ℕ) → TellsOf limits s (IsOwn limits s.class s.signer n q) n t → Told limits s n q (as_told type_gone t)
      by (disproved i) a =
          let x = at_index (IsOwn limits s.class s.signer n q) s.groups i a in
          record {
            records = type_gone x.2.r;
            read = type_read (record { evidence = x.0; stands = x.1; counts = x.2.counts });
            denial = λ small. laws.type_denied s.signer x.2.r n q small x.2.same x.2.without;
          }
      by (opened cause o) a = open_at limits s n cause (opening_index o) a
      by (broken cause) a = tt
      by (unshown cause) a = tt

  -- what is told with Opt-Out alone of the next closer name
  under_opt_out : (q : ℕ) (c : Place) (h : Option ℕ) (i : ℕ) → IsShownGone limits s n c h i true → (t : Hashed ℕ)
      → Told limits s n q (told_under_opt_out (by_opt_out i (next_closer n c)) t)
  under_opt_out q c h i g t = by t
    where
      covering : OpensAt limits s.class s.signer s.groups n (Some Nsec3OptOut) i
      covering = open_at limits s n (Some Nsec3OptOut) i (gone_opens limits s n c h i g n (next_leaves limits s n c h i true g))

      by : (t : Hashed ℕ) → Told limits s n q (told_under_opt_out (by_opt_out i (next_closer n c)) t)
      by (disproved j) = covering
      by (opened cause o) = covering
      by (broken cause) = tt
      by (unshown cause) = tt

  -- what is told of a missing name and the wildcard at its closest encloser: by a denial whose records are told of this
  module _ (q : ℕ) (P : Place → Evidence → Type 0) (denial : Place → Option ℕ → ℕ → ℕ → HashedDenial ℕ) (at_star : Place → Hashed ℕ)
      (star_told : (c : Place) → IsStrictlyBelow n c → IsAtOrBelow c s.signer → TellsOf limits s (P (wildcard c)) n (at_star (wildcard c)))
      (proves : (c : Place) (h : Option ℕ) (i j : ℕ) → IsShownGone limits s n c h i false → At (P (wildcard c)) 0 s.groups j
      → IsHashedProof limits s.class s.signer s.groups n q (denial c h i j)) where
    at_wildcard_told : (c : Place) (h : Option ℕ) (i : ℕ) (opt_out : Bool) → IsShownGone limits s n c h i opt_out
        → Told limits s n q (told_of_both at_star (denial c h i) (by_opt_out i (next_closer n c)) opt_out (star_closest_encloser c))
    at_wildcard_told c h i opt_out g = star (star_closest_encloser c) refl opt_out g
      where
        closed : IsShownGone limits s n c h i false → (t : Hashed ℕ) → TellsOf limits s (P (wildcard c)) n t → Told limits s n q (as_told (denial c h i) t)
        closed g (disproved j) a = proves c h i j g a
        closed g (opened cause o) a = open_at limits s n cause (opening_index o) a
        closed g (broken cause) a = tt
        closed g (unshown cause) a = tt

        star : (o : Option Place) → star_closest_encloser c ≡ o → (b : Bool) → IsShownGone limits s n c h i b
            → Told limits s n q (told_of_both at_star (denial c h i) (by_opt_out i (next_closer n c)) b o)
        star None e b g = tt
        star (Some w) e true g = under_opt_out q c h i g (at_star w)
        star (Some w) e false g = closed g (at_star w) (subst (λ (x : Place). TellsOf limits s (P (wildcard c)) n (at_star x)) (star_is c w e) (star_told c g.under g.within))

    walk_told : Told limits s n q (told_by_walk n at_star denial (nsec3_for_not_exists limits s n))
    walk_told = by (nsec3_for_not_exists limits s n) refl
      where
        by : (w : Walk) → nsec3_for_not_exists limits s n ≡ w → Told limits s n q (told_by_walk n at_star denial w)
        by (gone c h i opt_out) e = at_wildcard_told c h i opt_out (not_exists_shows limits s n within c h i opt_out e)
        by barred e = tt
        by (halted i why) e = halting q i why (not_exists_halts limits s n within i why e)
        by exhausted e = tt
        by unfound e = tt

  -- nsec3_for_nxdomain: neither the name nor the wildcard exists, or that is left open
  pub nxdomain_told : (q : ℕ) → Told limits s n q (nsec3_for_nxdomain limits s n)
  nxdomain_told q =
      walk_told q (IsClosed limits s.class s.signer) name_gone (λ star. nsec3_for_not_exists_no_ce limits s star)
      (λ c nc cs. cover_tells limits s.class s.signer (wildcard c) n (at_wildcard nc cs) 0 s.groups)
      (λ c h i j g a.
      let x = at_index (IsClosed limits s.class s.signer (wildcard c)) s.groups j a in
      record {
        records = name_gone c g.record_there g.record_around x.2.r;
        read = name_read g.read_there g.counts (record { evidence = x.0; stands = x.1; counts = x.2.counts });
        denial = λ small. laws.name_denied s.signer g.record_there g.record_around n c (proof_of limits s n c h i g) x.2.r q x.2.covered x.2.no_own;
      })

  -- nsec3_for_nodata_wildcard: the name is missing, and the wildcard has no such type, or that is left open
  pub nodata_wildcard_told : (q : ℕ) → Told limits s n q (nsec3_for_nodata_wildcard limits s n q)
  nodata_wildcard_told q =
      walk_told q (λ (m : Place). IsOwn limits s.class s.signer m q) wildcard_type_gone (λ star. type_by_hash limits s star q)
      (λ c nc cs. type_by_hash_tells limits s (wildcard c) (below_trans (wildcard c) c s.signer (record { under = asterisk ∷ []; is = refl }) cs) q n (under_wildcard s.signer n c nc cs))
      (λ c h i j g a.
      let x = at_index (IsOwn limits s.class s.signer (wildcard c) q) s.groups j a in
      record {
        records = wildcard_type_gone c g.record_there g.record_around x.2.r;
        read = wildcard_read g.read_there g.counts (record { evidence = x.0; stands = x.1; counts = x.2.counts });
        denial = λ small. laws.wildcard_type_denied s.signer g.record_there g.record_around n c (proof_of limits s n c h i g) x.2.r q small x.2.same x.2.without;
      })
