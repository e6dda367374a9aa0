-- Each cause that a call gives comes only where it says so (RFC 4035 5.4, RFC 6840 4.1, 4.3).
use Rattle.std.proofs.Common.{◌≡◌, ℕ, suc, ◌+◌, ◌&&◌, ◌||◌, ◌==◌, Bool, true, false, cond, List, [], ◌∷◌, map, Option, Some, None, refl, sym, ap, ◌∙◌, subst, inl, inr, ◌⊎◌}
use Rattle.std.proofs.Math.Bool.{not}
use Rattle.std.proofs.lemmas.Bool.{true≢false, and_parts, eqb-true}
use Rattle.dsec_cause.specs.declared.cause.Cause.{Cause}
use Rattle.dsec_cause.specs.declared.cause.Cause.TheVariants.{NsecProvesType, NsecFromApexForDs, NsecFromParent, NsecMatches, NsecShowsEmptyNonTerminal, NsecDnameOrDelegation, NsecFromWildcard}
use Rattle.dsec_spec.specs.Names.{Place, same_place, is_below, IsStrictlyBelow}
use Rattle.dsec_spec.specs.Numbers.{NS, CNAME, SOA, DS, DNAME, NSEC}
use Rattle.dsec_spec.specs.Records.{Record}
use Rattle.dsec_spec.specs.RecordViews.{Nsec, nsec_of}
use Rattle.dsec_spec.specs.DenyingRecords.{NsecAt, owner_of, next_of, has, Matches}
use Rattle.dsec_spec.proofs.CanonicalNames.{same_place_decides}
use Rattle.dsec_spec.proofs.SignedTests.{below_decides}
use Rattle.dsec_spec.proofs.NamesBelow.{same_or_below}
use Rattle.dsec_absence.specs.Evidence.{Evidence, CountsAt, Sighting, passed, expanded, counts, only_nsec, sighting_by, sighting}
use Rattle.dsec_absence.specs.Tests.{Shown, silent, refutes, denies, covers, is_above_cut, is_apex, is_ds_above, own_shows, shows_type, encloser_by, shows_missing}
use Rattle.dsec_absence.specs.Answers.{Search, found, refuted, undecided, by_shown, after_expanded, search}
use Rattle.dsec_absence.specs.Refusals.{RefutesType, with_type, with_alias, of_apex, of_parent, RefutesMissing, own, empty, under_dname, under_cut, IsExpansionAt}
use Rattle.dsec_absence.proofs.TestLaws.{covers_is, above_is, not_above_is}
use Rattle.dsec_absence.proofs.SearchLaws.{counts_is}

both_are : (a b : Bool) → (a && not b) ≡ true → (a ≡ true) × (b ≡ false)
both_are true false e = (refl, refl)
both_are true true e = absurd (true≢false (sym e))
both_are false b e = absurd (true≢false (sym e))

one_is : (a b : Bool) → (a || b) ≡ true → (a ≡ true) ⊎ (b ≡ true)
one_is true b e = inl refl
one_is false true e = inr refl
one_is false false e = absurd (true≢false (sym e))

-- refutations, of a type and of a name
abbrev of_type : Cause → Shown (Unit {0})
of_type cause = refutes cause

abbrev of_name : Cause → Shown Place
of_name cause = refutes cause

same_of_type : (c d : Cause) → of_type c ≡ of_type d → c ≡ d
same_of_type c d e = cc

same_of_name : (c d : Cause) → of_name c ≡ of_name d → c ≡ d
same_of_name c d e = cc

-- the root, or another type than DS
at_root : (n : Place) (q : ℕ) → is_ds_above n q ≡ false → q ≡ DS → n ≡ []
at_root [] q e ds = refl
at_root (label ∷ n) q e ds = absurd (not_above_is (label ∷ n) q e ds (λ root. absurd cc))

module _ (r : NsecAt) (n : Place) (q : ℕ) where
  -- why the name's own record refutes that the type isn't there
  own_refutes : Matches r n → (cause : Cause) → own_shows r n q ≡ refutes cause → RefutesType r n q cause
  own_refutes m cause e = by (has r q || has r CNAME) refl (is_ds_above n q) refl (is_apex r) refl (is_above_cut r) refl e
    where
      yes : Shown (Unit {0})
      yes = denies tt

      by : (x : Bool) → (has r q || has r CNAME) ≡ x → (y : Bool) → is_ds_above n q ≡ y → (p : Bool) → is_apex r ≡ p → (t : Bool) → is_above_cut r ≡ t
          → cond x (of_type NsecProvesType) (cond y (cond p (of_type NsecFromApexForDs) yes) (cond t (of_type NsecFromParent) yes)) ≡ of_type cause → RefutesType r n q cause
      by true f y g p h t i k = subst (RefutesType r n q) (same_of_type NsecProvesType cause k) (elim (one_is (has r q) (has r CNAME) f) [ inl a ↦ with_type m a | inr a ↦ with_alias m a ])
      by false f true g true h t i k =
          let ds = above_is n q g in
          let bits = and_parts (has r NS) (has r SOA) h in
          subst (RefutesType r n q) (same_of_type NsecFromApexForDs cause k) (of_apex m ds.0 ds.1 bits.0 bits.1)
      by false f true g false h t i k = absurd cc
      by false f false g p h true i k =
          let bits = both_are (has r NS) (has r SOA) i in
          subst (RefutesType r n q) (same_of_type NsecFromParent cause k) (of_parent m (at_root n q g) bits.0 bits.1)
      by false f false g p h false i k = absurd cc

  -- why a record refutes that the type isn't at the name
  pub type_refutes : (cause : Cause) → shows_type r n q ≡ refutes cause → RefutesType r n q cause
  type_refutes cause e = by (same_place (owner_of r) n) refl (covers r n && is_below (next_of r) n) e
    where
      yes : Shown (Unit {0})
      yes = denies tt

      by : (x : Bool) → same_place (owner_of r) n ≡ x → (y : Bool) → cond x (own_shows r n q) (cond y yes silent) ≡ refutes cause → RefutesType r n q cause
      by true f y g = own_refutes ((same_place_decides (owner_of r) n).0 f) cause g
      by false f true g = absurd cc
      by false f false g = absurd cc

-- why a record refutes that the name is missing
pub missing_refutes : (r : NsecAt) (n : Place) (cause : Cause) → shows_missing r n ≡ refutes cause → RefutesMissing r n cause
missing_refutes r n cause e =
    by (same_place (owner_of r) n) refl (covers r n) refl (is_below (next_of r) n) refl (is_below n (owner_of r)) refl (has r DNAME || is_above_cut r) refl e
  where
    strictly : same_place (owner_of r) n ≡ false → is_below n (owner_of r) ≡ true → IsStrictlyBelow n (owner_of r)
    strictly f g = elim (same_or_below n (owner_of r) ((below_decides n (owner_of r)).0 g)) [
      | inr s ↦ s
      | inl is ↦ absurd (true≢false (sym ((same_place_decides (owner_of r) n).1 (sym is)) ∙ f))
    ]

    by : (v : Bool) → same_place (owner_of r) n ≡ v → (w : Bool) → covers r n ≡ w → (x : Bool) → is_below (next_of r) n ≡ x → (y : Bool) → is_below n (owner_of r) ≡ y
        → (d : Bool) → (has r DNAME || is_above_cut r) ≡ d
        → cond v (of_name NsecMatches) (cond (not w) silent (cond x (of_name NsecShowsEmptyNonTerminal) (cond (y && d) (of_name NsecDnameOrDelegation) (denies (encloser_by r n))))) ≡ of_name cause
        → RefutesMissing r n cause
    by true f w g x h y i d j k = subst (RefutesMissing r n) (same_of_name NsecMatches cause k) (own ((same_place_decides (owner_of r) n).0 f))
    by false f false g x h y i d j k = absurd cc
    by false f true g true h y i d j k = subst (RefutesMissing r n) (same_of_name NsecShowsEmptyNonTerminal cause k) (empty (covers_is r n g) ((below_decides (next_of r) n).0 h))
    by false f true g false h true i true j k =
        subst (RefutesMissing r n) (same_of_name NsecDnameOrDelegation cause k) (elim (one_is (has r DNAME) (is_above_cut r) j) [
          | inl a ↦ under_dname (strictly f i) a
          | inr a ↦ let bits = both_are (has r NS) (has r SOA) a in under_cut (strictly f i) bits.0 bits.1
        ])
    by false f true g false h true i false j k = absurd cc
    by false f true g false h false i d j k = absurd cc

-- a record that refutes, at an index from another on
pub record IsRefutedAt {A : Type 0} (class : ℕ) (signer : Place) (groups : List Evidence) (shows : NsecAt → Shown A) (cause : Cause) : Type 0 where
  pub index : ℕ
  pub r : NsecAt
  pub there : CountsAt class signer groups index r
  pub by : shows r ≡ refutes cause

-- an expansion that was refused
pub record IsRefused (class : ℕ) (signer : Place) (groups : List Evidence) (cause : Cause) : Type 0 where
  pub index : ℕ
  pub there : IsExpansionAt class signer groups index
  pub is : cause ≡ NsecFromWildcard

-- a group that is sighted as an expansion is one
expansion_is : (class : ℕ) (signer : Place) (e : Evidence) (es : List Evidence) → sighting class signer e ≡ expanded → IsExpansionAt class signer (e ∷ es) 0
expansion_is class signer e es is = by ((e.group.rtype == NSEC) && (e.group.class == class) && e.is_secure && same_place e.signer signer) refl is
  where
    said : (only : Record) → e.group.records ≡ only ∷ [] → (o : Option Nsec) → (x : Bool) → e.is_expanded ≡ x → sighting_by x e.group.owner o ≡ expanded
        → (e.group.rtype == NSEC) && (e.group.class == class) && e.is_secure && same_place e.signer signer ≡ true → IsExpansionAt class signer (e ∷ es) 0
    said only alone None x g h tests = absurd cc
    said only alone (Some nsec) false g h tests = absurd cc
    said only alone (Some nsec) true g h tests =
        let last = and_parts _ _ tests in
        let third = and_parts _ _ last.0 in
        let second = and_parts _ _ third.0 in
        record {
          evidence = e;
          stands = refl;
          of_type = eqb-true e.group.rtype NSEC second.0;
          of_class = eqb-true e.group.class class second.1;
          only = only;
          alone = alone;
          secure = third.1;
          signed_by = (same_place_decides e.signer signer).0 last.1;
          expanded = g;
        }

    one : (rs : List Record) → e.group.records ≡ rs → sighting_by e.is_expanded e.group.owner (only_nsec rs) ≡ expanded
        → (e.group.rtype == NSEC) && (e.group.class == class) && e.is_secure && same_place e.signer signer ≡ true → IsExpansionAt class signer (e ∷ es) 0
    one [] f h tests = absurd cc
    one (only ∷ []) f h tests = said only f (nsec_of only.rdata) e.is_expanded refl h tests
    one (first ∷ second ∷ others) f h tests = absurd cc

    by : (x : Bool) → (e.group.rtype == NSEC) && (e.group.class == class) && e.is_secure && same_place e.signer signer ≡ x
        → cond x (sighting_by e.is_expanded e.group.owner (only_nsec e.group.records)) passed ≡ expanded → IsExpansionAt class signer (e ∷ es) 0
    by true f h = one e.group.records refl h f
    by false f h = absurd cc

module _ {A : Type 0} (class : ℕ) (signer : Place) (shows : NsecAt → Shown A) where
  one_later : (cause : Cause) (e : Evidence) (es : List Evidence) → IsRefutedAt class signer es shows cause → IsRefutedAt class signer (e ∷ es) shows cause
  one_later cause e es f = record { index = suc f.index; r = f.r; there = record { evidence = f.there.evidence; stands = f.there.stands; counts = f.there.counts }; by = f.by }

  still_refuted : (s : Search A) (cause : Cause) → after_expanded s ≡ refuted cause → s ≡ refuted cause
  still_refuted (found i b) cause h = absurd cc
  still_refuted (refuted c) cause h = h
  still_refuted (undecided c) cause h = absurd cc

  -- a search that is refuted is by a record that counts
  pub search_refuted : (i : ℕ) (es : List Evidence) (cause : Cause) → search shows i (map (sighting class signer) es) ≡ refuted cause → IsRefutedAt class signer es shows cause
  unfolding search
  search_refuted i [] cause h = absurd cc
  search_refuted i (e ∷ es) cause h = by (λ g. search_refuted (i + 1) es cause g) (sighting class signer e) refl h
    where
      rest : List Sighting
      rest = map (sighting class signer) es

      Others : Type 0
      Others = search shows (i + 1) rest ≡ refuted cause → IsRefutedAt class signer es shows cause

      here : Others → (r : NsecAt) → sighting class signer e ≡ counts r → (x : Shown A) → shows r ≡ x → by_shown i x (search shows (i + 1) rest) ≡ refuted cause → IsRefutedAt class signer (e ∷ es) shows cause
      here others r s silent f g = one_later cause e es (others g)
      here others r s (denies a) f g = absurd cc
      here others r s (refutes c) f g =
          let same : c ≡ cause = cc in
          record { index = 0; r = r; there = record { evidence = e; stands = refl; counts = counts_is class signer e r s }; by = f ∙ ap refutes same }

      by : Others → (x : Sighting) → sighting class signer e ≡ x → search shows i (x ∷ rest) ≡ refuted cause → IsRefutedAt class signer (e ∷ es) shows cause
      by others passed s g = one_later cause e es (others g)
      by others expanded s g = one_later cause e es (others (still_refuted (search shows (i + 1) rest) cause g))
      by others (counts r) s g = here others r s (shows r) refl g

  next_refused : (cause : Cause) (e : Evidence) (es : List Evidence) → IsRefused class signer es cause → IsRefused class signer (e ∷ es) cause
  next_refused cause e es f = record {
    index = suc f.index;
    there = let t = f.there in record {
      evidence = t.evidence;
      stands = t.stands;
      of_type = t.of_type;
      of_class = t.of_class;
      only = t.only;
      alone = t.alone;
      secure = t.secure;
      signed_by = t.signed_by;
      expanded = t.expanded;
    };
    is = f.is;
  }

  -- one that isn't decided has a cause only by an expansion
  pub search_refused : (i : ℕ) (es : List Evidence) (cause : Cause) → search shows i (map (sighting class signer) es) ≡ undecided (Some cause) → IsRefused class signer es cause
  unfolding search
  search_refused i [] cause h = absurd cc
  search_refused i (e ∷ es) cause h = by (λ g. search_refused (i + 1) es cause g) (sighting class signer e) refl h
    where
      rest : List Sighting
      rest = map (sighting class signer) es

      Others : Type 0
      Others = search shows (i + 1) rest ≡ undecided (Some cause) → IsRefused class signer es cause

      here : Others → (x : Shown A) → by_shown i x (search shows (i + 1) rest) ≡ undecided (Some cause) → IsRefused class signer (e ∷ es) cause
      here others silent g = next_refused cause e es (others g)
      here others (denies a) g = absurd cc
      here others (refutes c) g = absurd cc

      refusal_is : (s : Search A) → after_expanded s ≡ undecided (Some cause) → cause ≡ NsecFromWildcard
      refusal_is (found k a) g = absurd cc
      refusal_is (refuted c) g = absurd cc
      refusal_is (undecided c) g = cc

      by : Others → (x : Sighting) → sighting class signer e ≡ x → search shows i (x ∷ rest) ≡ undecided (Some cause) → IsRefused class signer (e ∷ es) cause
      by others passed s g = next_refused cause e es (others g)
      by others expanded s g = record { index = 0; there = expansion_is class signer e es s; is = refusal_is (search shows (i + 1) rest) g }
      by others (counts r) s g = here others (shows r) g
