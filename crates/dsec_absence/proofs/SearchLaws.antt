-- A search that finds a record finds one that counts (RFC 4035 5.4).
use Rattle.std.proofs.Common.{◌≡◌, ℕ, suc, ◌+◌, ◌&&◌, ◌==◌, Bool, true, false, cond, List, [], ◌∷◌, map, Option, Some, None, refl, sym, ap, ◌∙◌, arith}
use Rattle.std.proofs.lemmas.Bool.{and_parts, eqb-true}
use Rattle.dsec_spec.specs.Names.{Place, same_place}
use Rattle.dsec_spec.specs.Numbers.{NSEC}
use Rattle.dsec_spec.specs.Records.{Record}
use Rattle.dsec_spec.specs.RecordViews.{Nsec, nsec_of}
use Rattle.dsec_spec.specs.DenyingRecords.{NsecAt}
use Rattle.dsec_spec.proofs.CanonicalNames.{same_place_decides}
use Rattle.dsec_absence.specs.Evidence.{Evidence, Counts, CountsAt, Sighting, passed, expanded, counts, only_nsec, sighting_by, sighting}
use Rattle.dsec_absence.specs.Tests.{Shown, silent, refutes, denies}
use Rattle.dsec_absence.specs.Answers.{Search, found, refuted, undecided, by_shown, after_expanded, search}

-- a group that is sighted as a record counts as this record
pub counts_is : (class : ℕ) (signer : Place) (e : Evidence) (r : NsecAt) → sighting class signer e ≡ counts r → Counts class signer e r
counts_is class signer e r is = by ((e.group.rtype == NSEC) && (e.group.class == class) && e.is_secure && same_place e.signer signer) refl is
  where
    same_record : (x : NsecAt) → counts x ≡ counts r → x ≡ r
    same_record x h = cc

    said : (only : Record) → e.group.records ≡ only ∷ [] → (o : Option Nsec) → nsec_of only.rdata ≡ o → (x : Bool) → e.is_expanded ≡ x → sighting_by x e.group.owner o ≡ counts r
        → (e.group.rtype == NSEC) && (e.group.class == class) && e.is_secure && same_place e.signer signer ≡ true → Counts class signer e r
    said only alone None f x g h tests = absurd cc
    said only alone (Some nsec) f true g h tests = absurd cc
    said only alone (Some nsec) f false g h tests =
        let is_r : record { owner = e.group.owner; says = nsec } ≡ r = same_record (record { owner = e.group.owner; says = nsec }) h in
        let last = and_parts _ _ tests in
        let third = and_parts _ _ last.0 in
        let second = and_parts _ _ third.0 in
        record {
          of_type = eqb-true e.group.rtype NSEC second.0;
          of_class = eqb-true e.group.class class second.1;
          only = only;
          alone = alone;
          at_owner = sym (ap (λ (x : NsecAt). x.owner) is_r);
          says = f ∙ ap (λ (x : NsecAt). Some x.says) is_r;
          secure = third.1;
          signed_by = (same_place_decides e.signer signer).0 last.1;
          no_expansion = g;
        }

    one : (rs : List Record) → e.group.records ≡ rs → sighting_by e.is_expanded e.group.owner (only_nsec rs) ≡ counts r
        → (e.group.rtype == NSEC) && (e.group.class == class) && e.is_secure && same_place e.signer signer ≡ true → Counts class signer e r
    one [] f h tests = absurd cc
    one (only ∷ []) f h tests = said only f (nsec_of only.rdata) refl e.is_expanded refl h tests
    one (first ∷ second ∷ others) f h tests = absurd cc

    by : (x : Bool) → (e.group.rtype == NSEC) && (e.group.class == class) && e.is_secure && same_place e.signer signer ≡ x
        → cond x (sighting_by e.is_expanded e.group.owner (only_nsec e.group.records)) passed ≡ counts r → Counts class signer e r
    by true f h = one e.group.records refl h f
    by false f h = absurd cc

-- what is found at an index, from another on: a group that counts, whose record denies
pub record IsFound {A : Type 0} (class : ℕ) (signer : Place) (groups : List Evidence) (shows : NsecAt → Shown A) (i k : ℕ) (a : A) : Type 0 where
  pub offset : ℕ
  pub is : k ≡ i + offset
  pub r : NsecAt
  pub there : CountsAt class signer groups offset r
  pub by : shows r ≡ denies a

module _ {A : Type 0} (class : ℕ) (signer : Place) (shows : NsecAt → Shown A) where
  later : (i k : ℕ) (a : A) (e : Evidence) (es : List Evidence) → IsFound class signer es shows (i + 1) k a → IsFound class signer (e ∷ es) shows i k a
  later i k a e es f = record {
    offset = suc f.offset;
    is = let is = f.is in omega (arith, is);
    r = f.r;
    there = record { evidence = f.there.evidence; stands = f.there.stands; counts = f.there.counts };
    by = f.by;
  }

  not_refused : (s : Search A) (k : ℕ) (a : A) → after_expanded s ≡ found k a → s ≡ found k a
  not_refused (found i b) k a h = h
  not_refused (refuted cause) k a h = absurd cc
  not_refused (undecided cause) k a h = absurd cc

  pub search_found : (i : ℕ) (es : List Evidence) (k : ℕ) (a : A) → search shows i (map (sighting class signer) es) ≡ found k a → IsFound class signer es shows i k a
  unfolding search
  search_found i [] k a h = absurd cc
  search_found i (e ∷ es) k a h = by (λ g. search_found (i + 1) es k a g) (sighting class signer e) refl h
    where
      rest : List Sighting
      rest = map (sighting class signer) es

      Others : Type 0
      Others = search shows (i + 1) rest ≡ found k a → IsFound class signer es shows (i + 1) k a

      here : Others → (r : NsecAt) → sighting class signer e ≡ counts r → (x : Shown A) → shows r ≡ x → by_shown i x (search shows (i + 1) rest) ≡ found k a → IsFound class signer (e ∷ es) shows i k a
      here others r s silent f g = later i k a e es (others g)
      here others r s (refutes cause) f g = absurd cc
      here others r s (denies b) f g =
          let at : i ≡ k = cc in
          let same : b ≡ a = cc in
          record {
            offset = 0;
            is = omega (arith, at);
            r = r;
            there = record { evidence = e; stands = refl; counts = counts_is class signer e r s };
            by = f ∙ ap denies same;
          }

      by : Others → (x : Sighting) → sighting class signer e ≡ x → search shows i (x ∷ rest) ≡ found k a → IsFound class signer (e ∷ es) shows i k a
      by others passed s g = later i k a e es (others g)
      by others expanded s g = later i k a e es (others (not_refused (search shows (i + 1) rest) k a g))
      by others (counts r) s g = here others r s (shows r) refl g

  -- from the first group on, the index is that of the group
  pub found_at : (es : List Evidence) (k : ℕ) (a : A) → search shows 0 (map (sighting class signer) es) ≡ found k a → (r : NsecAt) × CountsAt class signer es k r × (shows r ≡ denies a)
  found_at es k a h =
      let f = search_found 0 es k a h in
      let same : f.offset ≡ k = let is = f.is in omega (arith, is) in
      (f.r, rw same at f.there, f.by)
