-- What is told of a type at a name, and of a name that is to be covered, is told by records that count (RFC 5155 8.4 to 8.8, RFC 9276 3.2).
use Rattle.std.proofs.Common.{◌≡◌, ℕ, ◌+◌, ◌==◌, Bool, true, false, cond, List, [], ◌∷◌, map, length, length-append, Option, Some, None, refl, sym, ap, ◌∙◌, arith}
use Rattle.std.proofs.lemmas.Bool.{true≢false, and_from}
use Rattle.dsec_cause.specs.declared.cause.Cause.TheVariants.{Nsec3DnameOrDelegation, Nsec3OptOut, Nsec3IterationsInsecure}
use Rattle.dsec_spec.specs.Names.{Place, IsAtOrBelow}
use Rattle.dsec_spec.specs.Numbers.{DS}
use Rattle.dsec_spec.specs.DenyingRecords.{Nsec3At, opts_out, MatchesHash}
use Rattle.dsec_spec.proofs.NamesBelow.{at_or_below, below_trans}
use Rattle.dsec_spec.proofs.ZoneLaws.{strictly_below}
use Rattle.dsec_absence.specs.Evidence.{Evidence}
use Rattle.dsec_absence.specs.Tests.{Shown, silent, refutes, denies}
use Rattle.dsec_absence.specs.Answers.{Source}
use Rattle.dsec_nsec3.specs.Counting.{HashLimits, Counts, End, too_many_iterations, many_iterations, bad_owner_hash, HashedSighting, ignored, stops, hashed, hashed_sighting, hashed_sightings}
use Rattle.dsec_nsec3.specs.HashedDenials.{IsCovered, IsNoOwnDname, IsAtEncloser, IsPlainEncloser}
use Rattle.dsec_nsec3.specs.Tests.{matches_hash, covers_hash, own_hash_shows, is_own_dname}
use Rattle.dsec_nsec3.specs.Walks.{Walk, gone, barred, halted, exhausted, unfound, nsec3_for_not_exists}
use Rattle.dsec_nsec3.specs.Openings.{by_opt_out, opening_index, MayLeaveOpen, LeavesOpen, at_or_above, iterates, opts_out_of, OpensTold}
use Rattle.dsec_nsec3.specs.HashedAnswers.{Hashed, disproved, opened, broken, unshown, told_by_end, told_by_shown, type_from, next_closer, ds_by_walk, type_by_hash, told_by_covering, cover_from}
use Rattle.dsec_nsec3.proofs.HashTests.{matches_decides, covers_decides, IsWithout, without_is}
use Rattle.dsec_nsec3.proofs.CountingLaws.{StopsBy, Sights, sighting_is, At, at_first, at_later}
use Rattle.dsec_nsec3.proofs.GoneLaws.{IsShownGone, not_exists_shows, not_exists_halts}

module _ (limits : HashLimits) (class : ℕ) (signer : Place) where
  -- what is told, from an index on: of a group by which something is disproved, or which leaves a name open
  abbrev pub Tells : (Evidence → Type 0) → Place → ℕ → List Evidence → Hashed ℕ → Type 0
  Tells P x i es (disproved k) = At P i es k
  Tells P x i es (opened cause o) = At (OpensTold limits class signer cause x) i es (opening_index o)
  Tells P x i es (broken cause) = Unit {0}
  Tells P x i es (unshown cause) = Unit {0}

  tells_later : (P : Evidence → Type 0) (x : Place) (i : ℕ) (e : Evidence) (es : List Evidence) (t : Hashed ℕ) → Tells P x (i + 1) es t → Tells P x i (e ∷ es) t
  tells_later P x i e es (disproved k) h = at_later P i e es k h
  tells_later P x i e es (opened cause o) h = at_later (OpensTold limits class signer cause x) i e es (opening_index o) h
  tells_later P x i e es (broken cause) h = tt
  tells_later P x i e es (unshown cause) h = tt

  -- a group that ends a call leaves any name open, where its iterations are many (RFC 9276 3.2)
  pub many_open : (x : Place) (e : Evidence) → StopsBy limits class signer many_iterations e → OpensTold limits class signer (Some Nsec3IterationsInsecure) x e
  many_open x e h = (iterates h.is_nsec3 h.ends.0 h.ends.1, refl)

  end_tells : (P : Evidence → Type 0) (x : Place) (i : ℕ) (e : Evidence) (es : List Evidence) (why : End) → StopsBy limits class signer why e → Tells P x i (e ∷ es) (told_by_end i why)
  end_tells P x i e es too_many_iterations h = tt
  end_tells P x i e es many_iterations h = at_first (OpensTold limits class signer (Some Nsec3IterationsInsecure) x) i e es (many_open x e h)
  end_tells P x i e es bad_owner_hash h = tt

  -- the group counts, and its record is the name's own, without the type (RFC 5155 8.5, 8.6)
  pub record IsOwn (n : Place) (q : ℕ) (e : Evidence) : Type 0 where
    pub r : Nsec3At
    pub counts : Counts limits class signer e r
    pub same : MatchesHash r n
    pub without : IsWithout r n q

  pub type_tells : (n : Place) (q : ℕ) (x : Place) (i : ℕ) (es : List Evidence) → Tells (IsOwn n q) x i es (type_from n q i (map (hashed_sighting limits class signer) es))
  unfolding type_from
  type_tells n q x i [] = tt
  type_tells n q x i (e ∷ es) = by (hashed_sighting limits class signer e) (sighting_is limits class signer e) (type_tells n q x (i + 1) es)
    where
      rest : List HashedSighting
      rest = map (hashed_sighting limits class signer) es

      shown : (r : Nsec3At) → Counts limits class signer e r → MatchesHash r n → (o : Shown (Unit {0})) → own_hash_shows r n q ≡ o → Tells (IsOwn n q) x i (e ∷ es) (told_by_shown i o)
      shown r c m silent f = tt
      shown r c m (refutes cause) f = tt
      shown r c m (denies tt) f = at_first (IsOwn n q) i e es (record { r = r; counts = c; same = m; without = without_is r n q f })

      by_record : (r : Nsec3At) → Counts limits class signer e r → Tells (IsOwn n q) x (i + 1) es (type_from n q (i + 1) rest) → (m : Bool) → matches_hash r n ≡ m
          → Tells (IsOwn n q) x i (e ∷ es) (cond m (told_by_shown i (own_hash_shows r n q)) (type_from n q (i + 1) rest))
      by_record r c later true f = shown r c ((matches_decides r n).0 f) (own_hash_shows r n q) refl
      by_record r c later false f = tells_later (IsOwn n q) x i e es (type_from n q (i + 1) rest) later

      by : (s : HashedSighting) → Sights limits class signer e s → Tells (IsOwn n q) x (i + 1) es (type_from n q (i + 1) rest)
          → Tells (IsOwn n q) x i (e ∷ es) (type_from n q i (s ∷ rest))
      by ignored s later = tells_later (IsOwn n q) x i e es (type_from n q (i + 1) rest) later
      by (stops why) s later = end_tells (IsOwn n q) x i e es why s
      by (hashed r) s later = by_record r s later (matches_hash r n) refl

  -- a record that isn't tested to be one with DNAME of the signer's own isn't
  not_own : (r : Nsec3At) → is_own_dname signer r ≡ false → IsNoOwnDname signer r
  not_own r e bit same = true≢false (sym (and_from _ _ bit ((matches_decides r signer).1 same)) ∙ e)

  -- the group counts, and its record covers the name without Opt-Out (RFC 5155 8.4, 8.8)
  pub record IsClosed (n : Place) (e : Evidence) : Type 0 where
    pub r : Nsec3At
    pub counts : Counts limits class signer e r
    pub covered : IsCovered r n
    pub no_own : IsNoOwnDname signer r

  pub cover_tells : (n x : Place) → LeavesOpen signer x n → (i : ℕ) (es : List Evidence) → Tells (IsClosed n) x i es (cover_from signer n i (map (hashed_sighting limits class signer) es))
  unfolding cover_from
  cover_tells n x leaves i [] = tt
  cover_tells n x leaves i (e ∷ es) = by (hashed_sighting limits class signer e) (sighting_is limits class signer e) (cover_tells n x leaves (i + 1) es)
    where
      rest : List HashedSighting
      rest = map (hashed_sighting limits class signer) es

      covering : (r : Nsec3At) → Counts limits class signer e r → covers_hash r n ≡ true → (o : Bool) → is_own_dname signer r ≡ o → (p : Bool) → opts_out r ≡ p
          → Tells (IsClosed n) x i (e ∷ es) (cond o (unshown (Some Nsec3DnameOrDelegation)) (cond p (opened None (by_opt_out i n)) (disproved i)))
      covering r c f true g p h = tt
      covering r c f false g true h = at_first (OpensTold limits class signer None x) i e es (opts_out_of c h ((covers_decides r n).0 f) (λ _ _. not_own r g) leaves, tt)
      covering r c f false g false h = at_first (IsClosed n) i e es (record { r = r; counts = c; covered = record { covers = (covers_decides r n).0 f; closed = h }; no_own = not_own r g })

      by_record : (r : Nsec3At) → Counts limits class signer e r → Tells (IsClosed n) x (i + 1) es (cover_from signer n (i + 1) rest) → (v : Bool) → covers_hash r n ≡ v
          → Tells (IsClosed n) x i (e ∷ es) (cond v (told_by_covering signer n i r) (cover_from signer n (i + 1) rest))
      by_record r c later true f = covering r c f (is_own_dname signer r) refl (opts_out r) refl
      by_record r c later false f = tells_later (IsClosed n) x i e es (cover_from signer n (i + 1) rest) later

      by : (s : HashedSighting) → Sights limits class signer e s → Tells (IsClosed n) x (i + 1) es (cover_from signer n (i + 1) rest)
          → Tells (IsClosed n) x i (e ∷ es) (cover_from signer n i (s ∷ rest))
      by ignored s later = tells_later (IsClosed n) x i e es (cover_from signer n (i + 1) rest) later
      by (stops why) s later = end_tells (IsClosed n) x i e es why s
      by (hashed r) s later = by_record r s later (covers_hash r n) refl

-- what is told of the groups of a source
abbrev pub TellsOf : HashLimits → Source → (Evidence → Type 0) → Place → Hashed ℕ → Type 0
TellsOf limits s P x t = Tells limits s.class s.signer P x 0 s.groups t

-- the record around the next closer name may leave it open
gone_may : (limits : HashLimits) (s : Source) (n c : Place) (h : Option ℕ) (i : ℕ) (opt_out : Bool) (g : IsShownGone limits s n c h i opt_out)
    → MayLeaveOpen s.signer g.record_around (next_closer n c)
gone_may limits s n c h i opt_out g label is = by g.record_there g.encloser g.plain
  where
    by : (e : Option Nsec3At) → IsAtEncloser s.signer c e → IsPlainEncloser s.signer e g.record_around → IsNoOwnDname s.signer g.record_around
    by None p plain = plain
    by (Some e) p plain = absurd (
        let deep = ap length p.0.is in
        let one = ap length g.closer.is in
        let other = ap length is in
        omega (arith, deep, one, other, length-append s.signer (p.0.next ∷ p.0.under), length-append c (g.closer.label ∷ []), length-append s.signer (label ∷ []))
        )

-- a name that is found missing with Opt-Out alone is left open, and with it each that is left open with the next closer name (RFC 5155 6)
pub gone_opens : (limits : HashLimits) (s : Source) (n c : Place) (h : Option ℕ) (i : ℕ) (g : IsShownGone limits s n c h i true) (x : Place)
    → LeavesOpen s.signer x (next_closer n c) → At (OpensTold limits s.class s.signer (Some Nsec3OptOut) x) 0 s.groups i
gone_opens limits s n c h i g x leaves = record {
  offset = i;
  is = omega arith;
  evidence = g.counts.evidence;
  stands = g.counts.stands;
  holds = (opts_out_of g.counts.counts g.flag g.covers (gone_may limits s n c h i true g) leaves, refl);
}

-- the next closer name leaves the name open
pub next_leaves : (limits : HashLimits) (s : Source) (n c : Place) (h : Option ℕ) (i : ℕ) (opt_out : Bool) (g : IsShownGone limits s n c h i opt_out)
    → LeavesOpen s.signer n (next_closer n c)
next_leaves limits s n c h i opt_out g =
    at_or_above g.closer.towards (below_trans (next_closer n c) c s.signer (at_or_below (next_closer n c) c (strictly_below n c (next_closer n c) g.closer)) g.within)

-- what is told of a type at a name, by its own record; or of DS by its closest encloser, where each name that is left open with this one is so with
-- another, of which it is told (RFC 5155 8.5, 8.6)
pub type_by_hash_tells : (limits : HashLimits) (s : Source) (n : Place) → IsAtOrBelow n s.signer → (q : ℕ) (x : Place)
    → ((m : Place) → LeavesOpen s.signer n m → LeavesOpen s.signer x m)
    → TellsOf limits s (IsOwn limits s.class s.signer n q) x (type_by_hash limits s n q)
type_by_hash_tells limits s n within q x up = by (q == DS)
  where
    own : Hashed ℕ
    own = type_from n q 0 (hashed_sightings limits s)

    own_tells : TellsOf limits s (IsOwn limits s.class s.signer n q) x own
    own_tells = type_tells limits s.class s.signer n q x 0 s.groups

    halting : (i : ℕ) (why : End) → At (StopsBy limits s.class s.signer why) 0 s.groups i → TellsOf limits s (IsOwn limits s.class s.signer n q) x (told_by_end i why)
    halting i too_many_iterations a = tt
    halting i many_iterations a = record {
      offset = a.offset;
      is = a.is;
      evidence = a.evidence;
      stands = a.stands;
      holds = many_open limits s.class s.signer x a.evidence a.holds;
    }
    halting i bad_owner_hash a = tt

    walked : (w : Walk) → nsec3_for_not_exists limits s n ≡ w → TellsOf limits s (IsOwn limits s.class s.signer n q) x (ds_by_walk n w own)
    walked (gone c h i false) e = tt
    walked (gone c h i true) e =
        let g = not_exists_shows limits s n within c h i true e in
        gone_opens limits s n c h i g x (up (next_closer n c) (next_leaves limits s n c h i true g))
    walked barred e = own_tells
    walked (halted i why) e = halting i why (not_exists_halts limits s n within i why e)
    walked exhausted e = own_tells
    walked unfound e = own_tells

    by : (b : Bool) → TellsOf limits s (IsOwn limits s.class s.signer n q) x (cond b (ds_by_walk n (nsec3_for_not_exists limits s n) own) own)
    by true = walked (nsec3_for_not_exists limits s n) refl
    by false = own_tells
