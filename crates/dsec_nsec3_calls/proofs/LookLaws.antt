-- What one group shows of a name, case by case (RFC 5155 8.3).
use Rattle.std.proofs.Common.{◌≡◌, ℕ, ◌-◌, true, false, List, Option, Some, refl, sym, ap, ◌∙◌}
use Rattle.std.specs.Prelude.{◌≢◌}
use Rattle.std.specs.Str.{bytes_eq}
use Rattle.std.proofs.lemmas.Bool.{ne_eqb, eq-eqb}
use Rattle.dsec_spec.specs.Names.{Place}
use Rattle.dsec_spec.specs.Numbers.{DNAME}
use Rattle.dsec_spec.specs.DenyingRecords.{Nsec3At, has_hashed, hashed_by, opts_out}
use Rattle.dsec_nsec3.specs.Counting.{hashed}
use Rattle.dsec_nsec3.specs.Tests.{is_between, matches_hash, covers_hash, own_hash_shows}
use Rattle.dsec_nsec3.specs.Walks.{Look, bars, covered, exhausts, look_by, look_covered, look_matched}
use Rattle.dsec_nsec3.specs.HashedAnswers.{Hashed, told_by_covering, told_by_shown}
use Rattle.dsec_nsec3_calls.specs.Looks.{look_at}
use Rattle.dsec_nsec3_calls.specs.Tellings.{type_at, cover_at}

module _ (top : Option Place) (n : Place) (i : ℕ) (r : Nsec3At) where
  module _ (left : ℕ) (later : Look) (hash : List ℕ) (is : hash ≡ hashed_by r n) where
    pub by_match : bytes_eq hash r.owner_hash ≡ true → look_matched i left r ≡ look_by top n i left r later
    by_match m = let e = sym (ap (λ (h : List ℕ). bytes_eq h r.owner_hash) is) ∙ m in rw e refl

    module _ (other : bytes_eq hash r.owner_hash ≡ false) where
      pub by_cover : is_between r.owner_hash r.says.next_owner hash ≡ true → look_covered top i left r ≡ look_by top n i left r later
      by_cover c =
          let e = sym (ap (λ (h : List ℕ). bytes_eq h r.owner_hash) is) ∙ other in
          let f = sym (ap (λ (h : List ℕ). is_between r.owner_hash r.says.next_owner h) is) ∙ c in
          rw (e, f) refl

      pub by_neither : is_between r.owner_hash r.says.next_owner hash ≡ false → later ≡ look_by top n i left r later
      by_neither c =
          let e = sym (ap (λ (h : List ℕ). bytes_eq h r.owner_hash) is) ∙ other in
          let f = sym (ap (λ (h : List ℕ). is_between r.owner_hash r.says.next_owner h) is) ∙ c in
          rw (e, f) refl

  -- no hash may be made for it
  pub look_full : (room : ℕ) (later : ℕ → Look) → room ≡ 0 → exhausts ≡ look_at top n i room (hashed r) later
  look_full room later z = rw (eq-eqb room 0 z) refl

  -- or one
  pub look_more : (room : ℕ) (later : ℕ → Look) → room ≢ 0 → look_by top n i (room - 1) r (later (room - 1)) ≡ look_at top n i room (hashed r) later
  look_more room later some = rw (ne_eqb room 0 some) refl

module _ (signer : Place) (i left : ℕ) (r : Nsec3At) where
  -- without DNAME it covers the name
  pub top_plain : has_hashed r DNAME ≡ false → covered i left (opts_out r) ≡ look_covered (Some signer) i left r
  top_plain d = rw d refl

  module _ (dname : has_hashed r DNAME ≡ true) where
    pub top_full : left ≡ 0 → exhausts ≡ look_covered (Some signer) i left r
    top_full z = rw (dname, eq-eqb left 0 z) refl

    module _ (some : left ≢ 0) where
      pub top_own : matches_hash r signer ≡ true → bars ≡ look_covered (Some signer) i left r
      top_own m = rw (dname, ne_eqb left 0 some, m) refl

      pub top_other : matches_hash r signer ≡ false → covered i (left - 1) (opts_out r) ≡ look_covered (Some signer) i left r
      top_other m = rw (dname, ne_eqb left 0 some, m) refl

module _ (n : Place) (q i : ℕ) (r : Nsec3At) (later : Hashed ℕ) where
  -- a record that matches the name decides
  pub type_here : matches_hash r n ≡ true → told_by_shown i (own_hash_shows r n q) ≡ type_at n q i (hashed r) later
  type_here m = rw m refl

  pub type_past : matches_hash r n ≡ false → later ≡ type_at n q i (hashed r) later
  type_past m = rw m refl

module _ (signer n : Place) (i : ℕ) (r : Nsec3At) (later : Hashed ℕ) where
  -- a record that covers it does
  pub cover_here : covers_hash r n ≡ true → told_by_covering signer n i r ≡ cover_at signer n i (hashed r) later
  cover_here c = rw c refl

  pub cover_past : covers_hash r n ≡ false → later ≡ cover_at signer n i (hashed r) later
  cover_past c = rw c refl
