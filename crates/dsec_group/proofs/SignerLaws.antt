-- Of a signature that another zone made no key is tried, and of a zone's own those that it names by algorithm and tag.
use Rattle.std.proofs.Common.{◌≡◌, ◌↔◌, ℕ, ◌<◌, ◌≤◌, ◌==◌, ◌&&◌, Bool, true, false, IsTrue, List, [], ◌∷◌, map, length, refl, sym, ap, ◌∙◌, arith}
use Rattle.std.specs.Prelude.{Some, None, filter, slice_get}
use Rattle.std.proofs.lemmas.Bool.{false≢true}
use Rattle.std.proofs.lemmas.List.{drop_all}
use Rattle.std.proofs.lemmas.Option.{same_Some, slice_get_within}
use Rattle.dsec_spec.specs.Accepts.{Accepts}
use Rattle.dsec_spec.specs.Groups.{Group, set_in}
use Rattle.dsec_spec.specs.KeyTag.{key_tag}
use Rattle.dsec_spec.specs.Names.{Place, place}
use Rattle.dsec_spec.specs.Records.{Record, Key, Rrsig, rrsig_of}
use Rattle.dsec_spec.specs.Signed.{names_key}
use Rattle.dsec_spec.specs.Trying.{pair_matches, pair_signs}
use Rattle.dsec_spec.proofs.CanonicalNames.{same_place_decides}
use Rattle.dsec_spec.proofs.SignedTests.{names_key_decides}
use Rattle.dsec_keys.specs.Indexes.{IsNextBy, NonePasses, is_named}
use Rattle.dsec_group.specs.Trials.{key_trial, left, trial}
use Rattle.dsec_group.proofs.CheckLaws.{matches_read}
use Rattle.dsec_group.proofs.TrialLaws.{passed_to, rest, trial_none}

module _ (r : Record) (sig : Rrsig) (zone : Place) (by : Bool) (read : rrsig_of r.rdata ≡ Some sig) (h : IsTrue by ↔ (place sig.signer ≡ zone)) (other : by ≡ false) where
  unnamed : (key : Key) → pair_matches zone (r, key) ≡ false
  unnamed key = matches_read r sig key zone read ∙ go (names_key zone sig key) refl
    where
      go : (b : Bool) → names_key zone sig key ≡ b → names_key zone sig key ≡ false
      go true e = absurd (false≢true (sym other ∙ h.1 ((names_key_decides zone sig key).0 e).signer))
      go false e = e

  none_named : (keys : List Key) → filter (pair_matches zone) (map (λ key. (r, key)) keys) ≡ []
  none_named [] = refl
  none_named (key ∷ keys) = rw (unnamed key) (none_named keys)

  pub untried : (accepts : Accepts) (g : Group) (t room : ℕ) (keys : List Key) → key_trial accepts g zone t room r keys ≡ left room
  untried accepts g t room keys =
      let good = pair_signs accepts (set_in g) zone t in
      ap (trial good room) (none_named keys) ∙ trial_none good room

module _ (r : Record) (sig : Rrsig) (zone : Place) (by : Bool) (read : rrsig_of r.rdata ≡ Some sig) (h : IsTrue by ↔ (place sig.signer ≡ zone)) (own : by ≡ true) where
  pub named : (key : Key) → pair_matches zone (r, key) ≡ is_named sig.algorithm sig.tag key
  named key =
      matches_read r sig key zone read
      ∙ ap (λ b. b && (sig.algorithm == key.algorithm) && (sig.tag == key_tag key)) ((same_place_decides (place sig.signer) zone).1 (h.0 own))

  module _ (ks : List Key) (from : ℕ) where
    unnamed_between : (to : ℕ) → NonePasses (is_named sig.algorithm sig.tag) from to ks → (k : ℕ) (key : Key) → from ≤ k → k < to → slice_get ks k ≡ Some key → pair_matches zone (r, key) ≡ false
    unnamed_between to none k key on below there = named key ∙ none k key on below there

    -- the next key that it names, and none before it
    pub next_matches : (at : ℕ) (key : Key) → IsNextBy (is_named sig.algorithm sig.tag) from ks (Some at) → slice_get ks at ≡ Some key
        → (rest (pair_matches zone) r ks from ≡ rest (pair_matches zone) r ks at) × (pair_matches zone (r, key) ≡ true) × (at < length ks)
    next_matches at key next there = (
      passed_to (pair_matches zone) r ks from at next.0 (unnamed_between at next.2),
      named key ∙ (ap (is_named sig.algorithm sig.tag) (same_Some key next.1.0 (sym there ∙ next.1.1)) ∙ next.1.2),
      slice_get_within ks at key there,
    )

    -- where there is none
    pub none_matches : from ≤ length ks → IsNextBy (is_named sig.algorithm sig.tag) from ks None → rest (pair_matches zone) r ks from ≡ []
    none_matches within none =
        passed_to (pair_matches zone) r ks from (length ks) within (unnamed_between (length ks) none)
        ∙ ap (λ xs. filter (pair_matches zone) (map (λ k. (r, k)) xs)) (drop_all (length ks) ks (omega arith))
