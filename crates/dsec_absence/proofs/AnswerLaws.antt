-- What the calls deny is denied by records that count (RFC 4035 5.3, 5.4).
use Rattle.std.proofs.Common.{◌≡◌, ℕ, Bool, true, false, cond, Option, Some, None, refl, ◌∙◌, subst, inl, inr, ◌⊎◌}
use Rattle.std.specs.Prelude.{nat_lt}
use Rattle.dsec_cause.specs.declared.cause.Cause.TheVariants.{WildcardElsewhere}
use Rattle.dsec_spec.specs.Names.{Place, same_place, wire_length, IsAtOrBelow}
use Rattle.dsec_spec.specs.Zones.{wildcard}
use Rattle.dsec_spec.specs.DenyingRecords.{NsecAt}
use Rattle.dsec_spec.proofs.CanonicalNames.{same_place_decides}
use Rattle.dsec_absence.specs.Denials.{Denial, no_type, no_name, no_type_by_wildcard, no_closer}
use Rattle.dsec_absence.specs.Evidence.{CountsAt, type_read, name_read, wildcard_read, closer_read, IsProof}
use Rattle.dsec_absence.specs.Tests.{shows_type, shows_missing}
use Rattle.dsec_absence.specs.Answers.{Search, found, refuted, undecided, Answer, denied, refused, nothing, Source, type_at, missing, star_closest_encloser, nsec_for_nodata, type_answer, nsec_for_not_exists, missing_answer, nsec_for_nodata_wildcard, type_below, type_by_star, type_by_encloser, nsec_for_nxdomain, name_below, name_by_star, name_by_encloser, not_exists_for_wildcard, closer_answer}
use Rattle.dsec_absence.specs.Replies.{then_answer}
use Rattle.dsec_absence.proofs.TestLaws.{DeniesType, type_shown, missing_shown}
use Rattle.dsec_absence.proofs.NameLaws.{ShowsMissing}
use Rattle.dsec_absence.proofs.SearchLaws.{found_at}
use Rattle.dsec_absence.proofs.DenialLaws as laws

-- the groups of a source that prove a denial at a name
abbrev pub Proves : Source → Place → ℕ → Denial ℕ → Type 0
Proves s n q d = IsProof s.class s.signer s.groups n q d

-- the wildcard under a name is under it
pub star_is : (c star : Place) → star_closest_encloser c ≡ Some star → wildcard c ≡ star
star_is c star e = by (nat_lt 255 (wire_length (wildcard c))) e
  where
    by : (x : Bool) → cond x None (Some (wildcard c)) ≡ Some star → wildcard c ≡ star
    by true f = absurd cc
    by false f = cc

-- the record at an index, and what it shows
type_found : (s : Source) (n : Place) (q i : ℕ) (u : Unit {0}) → type_at s n q ≡ found i u → (r : NsecAt) × CountsAt s.class s.signer s.groups i r × DeniesType r n q
type_found s n q i tt e =
    let f = found_at s.class s.signer (λ r. shows_type r n q) s.groups i tt e in
    (f.0, f.1, type_shown f.0 n q f.2)

missing_found : (s : Source) (n : Place) (i : ℕ) (c : Place) → missing s n ≡ found i c → (r : NsecAt) × CountsAt s.class s.signer s.groups i r × ShowsMissing r n c
missing_found s n i c e =
    let f = found_at s.class s.signer (λ r. shows_missing r n) s.groups i c e in
    (f.0, f.1, missing_shown f.0 n c f.2)

-- nsec_for_nodata: the name has no such type
pub nodata_proves : (s : Source) (n : Place) (q : ℕ) (d : Denial ℕ) → nsec_for_nodata s n q ≡ denied d → Proves s n q d
nodata_proves s n q d e = by (type_at s n q) refl e
  where
    by : (x : Search (Unit {0})) → type_at s n q ≡ x → type_answer x ≡ denied d → Proves s n q d
    by (found i u) f g =
        let r = type_found s n q i u f in
        let is : no_type i ≡ d = cc in
        subst (Proves s n q) is (record { records = no_type r.0; read = type_read r.1; denial = λ small. laws.type_denied s.signer r.0 n q small r.2 })
    by (refuted cause) f g = absurd cc
    by (undecided cause) f g = absurd cc

module _ (s : Source) (n : Place) (within : IsAtOrBelow n s.signer) where
  -- nsec_for_not_exists: the name and its next closer name are missing, and the name given back is the closest encloser
  pub not_exists_proves : (q : ℕ) (d : Denial ℕ) → nsec_for_not_exists s n ≡ denied d → Proves s n q d
  not_exists_proves q d e = by (missing s n) refl e
    where
      by : (x : Search Place) → missing s n ≡ x → missing_answer x ≡ denied d → Proves s n q d
      by (found i c) f g =
          let r = missing_found s n i c f in
          let is : no_closer c i ≡ d = cc in
          subst (Proves s n q) is (record { records = no_closer c r.0; read = closer_read r.1; denial = λ small. laws.closer_denied s.signer n within r.0 c q r.2 })
      by (refuted cause) f g = absurd cc
      by (undecided cause) f g = absurd cc

  -- not_exists_for_wildcard: no closer name
  pub wildcard_proves : (c : Place) (q : ℕ) (d : Denial ℕ) → not_exists_for_wildcard s n c ≡ denied d → Proves s n q d
  wildcard_proves c q d e = by (missing s n) refl e
    where
      same : (i : ℕ) (b : Place) → missing s n ≡ found i b → (x : Bool) → same_place b c ≡ x → cond x (denied (no_closer c i)) (refused WildcardElsewhere) ≡ denied d → Proves s n q d
      same i b f true g h =
          let r = missing_found s n i c (f ∙ let is = (same_place_decides b c).0 g in rw is refl) in
          let is : no_closer c i ≡ d = cc in
          subst (Proves s n q) is (record { records = no_closer c r.0; read = closer_read r.1; denial = λ small. laws.closer_denied s.signer n within r.0 c q r.2 })
      same i b f false g h = absurd cc

      by : (x : Search Place) → missing s n ≡ x → closer_answer c x ≡ denied d → Proves s n q d
      by (found i b) f g = same i b f (same_place b c) refl g
      by (refuted cause) f g = absurd cc
      by (undecided cause) f g = absurd cc

  -- nsec_for_nodata_wildcard: the name is missing, and the wildcard has no such type
  pub nodata_wildcard_proves : (q : ℕ) (d : Denial ℕ) → nsec_for_nodata_wildcard s n q ≡ denied d → Proves s n q d
  nodata_wildcard_proves q d e = by (missing s n) refl e
    where
      below : (i : ℕ) (c : Place) → missing s n ≡ found i c → (x : Search (Unit {0})) → type_at s (wildcard c) q ≡ x → type_below c i x ≡ denied d → Proves s n q d
      below i c f (found j u) g h =
          let r = missing_found s n i c f in
          let w = type_found s (wildcard c) q j u g in
          let is : no_type_by_wildcard c i j ≡ d = cc in
          subst (Proves s n q) is (record {
            records = no_type_by_wildcard c r.0 w.0;
            read = wildcard_read r.1 w.1;
            denial = λ small. laws.type_below_denied s.signer n within r.0 w.0 c q small r.2 w.2;
          })
      below i c f (refuted cause) g h = absurd cc
      below i c f (undecided cause) g h = absurd cc

      star : (i : ℕ) (c : Place) → missing s n ≡ found i c → (x : Option Place) → star_closest_encloser c ≡ x → type_by_star s q c i x ≡ denied d → Proves s n q d
      star i c f None g h = absurd cc
      star i c f (Some w) g h = below i c f (type_at s (wildcard c) q) refl (let is = star_is c w g in rw is h)

      by : (x : Search Place) → missing s n ≡ x → type_by_encloser s q x ≡ denied d → Proves s n q d
      by (found i c) f g = star i c f (star_closest_encloser c) refl g
      by (refuted cause) f g = absurd cc
      by (undecided cause) f g = absurd cc

  -- nsec_for_nxdomain: neither the name nor the wildcard exists
  pub nxdomain_proves : (q : ℕ) (d : Denial ℕ) → nsec_for_nxdomain s n ≡ denied d → Proves s n q d
  nxdomain_proves q d e = by (missing s n) refl e
    where
      below : (i : ℕ) (c : Place) → missing s n ≡ found i c → (x : Search Place) → missing s (wildcard c) ≡ x → name_below c i x ≡ denied d → Proves s n q d
      below i c f (found j b) g h =
          let r = missing_found s n i c f in
          let w = missing_found s (wildcard c) j b g in
          let is : no_name c i j ≡ d = cc in
          subst (Proves s n q) is (record {
            records = no_name c r.0 w.0;
            read = name_read r.1 w.1;
            denial = λ small. laws.name_denied s.signer n within r.0 w.0 c q r.2 w.2.around.covers w.2.not_above_next;
          })
      below i c f (refuted cause) g h = absurd cc
      below i c f (undecided cause) g h = absurd cc

      star : (i : ℕ) (c : Place) → missing s n ≡ found i c → (x : Option Place) → star_closest_encloser c ≡ x → name_by_star s c i x ≡ denied d → Proves s n q d
      star i c f None g h = absurd cc
      star i c f (Some w) g h = below i c f (missing s (wildcard c)) refl (let is = star_is c w g in rw is h)

      by : (x : Search Place) → missing s n ≡ x → name_by_encloser s x ≡ denied d → Proves s n q d
      by (found i c) f g = star i c f (star_closest_encloser c) refl g
      by (refuted cause) f g = absurd cc
      by (undecided cause) f g = absurd cc

-- one call or the other denied it
pub either_answer : (d : Denial ℕ) (a b : Answer) → then_answer a b ≡ denied d → (a ≡ denied d) ⊎ (b ≡ denied d)
either_answer d (denied f) b e = inl e
either_answer d (refused cause) b e = absurd cc
either_answer d (nothing cause) (denied f) e = inr e
either_answer d (nothing cause) (refused later) e = absurd cc
either_answer d (nothing cause) (nothing later) e = absurd cc
