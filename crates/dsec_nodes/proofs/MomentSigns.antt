-- Where no signature of a group comes into force or expires between two moments, trying comes to the same at both.
use Rattle.std.proofs.Common.{◌≡◌, ℕ, zero, suc, ◌==◌, Bool, true, false, cond, List, [], ◌∷◌, length, take, map, filter, Option, Some, None, refl, ap, ◌∙◌}
use Rattle.std.specs.Prelude.{◌&&◌, nat_le, find, flat_map, IfSome}
use Rattle.std.specs.List.{AllByRecursion}
use Rattle.dsec_spec.specs.Names.{Place, place, is_below}
use Rattle.dsec_spec.specs.Records.{Record, RecordSet, Key, Rrsig, rrsig_of}
use Rattle.dsec_spec.specs.Accepts.{Accepts}
use Rattle.dsec_spec.specs.Period.{in_period}
use Rattle.dsec_spec.specs.SignedBytes.{signed_bytes}
use Rattle.dsec_spec.specs.Signed.{names_key, is_zone_key, signs}
use Rattle.dsec_spec.specs.KeySearch.{KeySearch}
use Rattle.dsec_spec.specs.Groups.{Group, set_in}
use Rattle.dsec_spec.specs.Trying.{none_good, first_or, tried, pairs, of_signature, pair_matches, pair_signs}
use Rattle.dsec_nodes.specs.World.{World, moment, on_circle}
use Rattle.dsec_nodes.specs.Signing.{keys_of, under_keys}
use Rattle.dsec_nodes.specs.Admission.{Admitted, admitted_at, admitted_signs, matching, matching_by, tried_by}
use Rattle.dsec_nodes.proofs.Each.{all_both}
use Rattle.dsec_nodes.specs.Moments.{at_moment, IsSteady, AreSteady}

module _ {P : Type 0} (f g : P → Bool) where
  found_same : (k : ℕ) (xs : List P) → AllByRecursion (λ x. f x ≡ g x) xs → find f (take k xs) ≡ find g (take k xs)
  found_same zero xs h = refl
  found_same (suc k) [] h = refl
  found_same (suc k) (x ∷ xs) h =
      ap (λ (b : Bool). cond b (Some x) (find f (take k xs))) h.0 ∙ ap (λ (o : Option P). cond (g x) (Some x) o) (found_same k xs h.1)

  -- by tests that say the same of each, trying comes to the same
  tried_same : (room : ℕ) (xs : List P) → AllByRecursion (λ x. f x ≡ g x) xs → tried f room xs ≡ tried g room xs
  tried_same room xs h = ap (first_or (none_good room (length xs))) (found_same room xs h)

-- what holds of all holds of those that pass a test
all_filtered : {A : Type 0} (P : A → Type 0) (test : A → Bool) (xs : List A) → AllByRecursion P xs → AllByRecursion P (filter test xs)
all_filtered P test [] h = tt
all_filtered P test (x ∷ xs) h = by (test x) (all_filtered P test xs h.1)
  where
    by : (b : Bool) → AllByRecursion P (filter test xs) → AllByRecursion P (cond b (x ∷ filter test xs) (filter test xs))
    by true rest = (h.0, rest)
    by false rest = rest

module _ (accepts : Accepts) (set : RecordSet) (zone : Place) (t u : ℕ) where
  -- a steady signature counts at both moments, or at neither
  signs_same : (sig : Rrsig) (key : Key) → in_period sig.inception sig.expiration t ≡ in_period sig.inception sig.expiration u
      → signs accepts set zone t sig key ≡ signs accepts set zone u sig key
  unfolding signs
  signs_same sig key e =
      ap (λ (b : Bool).
      (sig.covered == set.rtype) && names_key zone sig key && is_below (place set.owner) zone
      && nat_le sig.labels (length set.owner) && is_zone_key key && b
      && accepts key.flags key.protocol key.algorithm key.public_key (signed_bytes sig set) sig.signature) e

  pair_same : (r : Record) (key : Key) → IsSteady t u r → pair_signs accepts set zone t (r, key) ≡ pair_signs accepts set zone u (r, key)
  pair_same r key h = by (rrsig_of r.rdata) h
    where
      by : (o : Option Rrsig) → IfSome o (λ sig. in_period sig.inception sig.expiration t ≡ in_period sig.inception sig.expiration u)
          → of_signature (λ sig. signs accepts set zone t sig key) o ≡ of_signature (λ sig. signs accepts set zone u sig key) o
      by None e = refl
      by (Some sig) e = signs_same sig key e

  -- so each pair of a steady signature and a key
  with_keys : (r : Record) → IsSteady t u r → (keys : List Key)
      → AllByRecursion (λ p. pair_signs accepts set zone t p ≡ pair_signs accepts set zone u p) (map (λ key. (r, key)) keys)
  with_keys r h [] = tt
  with_keys r h (key ∷ keys) = (pair_same r key h, with_keys r h keys)

  pairs_same : (rs : List Record) → AllByRecursion (IsSteady t u) rs → (keys : List Key)
      → AllByRecursion (λ p. pair_signs accepts set zone t p ≡ pair_signs accepts set zone u p) (pairs rs keys)
  pairs_same [] h keys = tt
  pairs_same (r ∷ rs) h keys =
      all_both (λ p. pair_signs accepts set zone t p ≡ pair_signs accepts set zone u p) (map (λ key. (r, key)) keys) (pairs rs keys)
      (with_keys r h.0 keys) (pairs_same rs h.1 keys)

module _ (w : World) (now : ℕ) (group : Group) (steady : AreSteady (moment w) (on_circle now) group) where
  -- a zone's keys tried over a group come to the same
  pub under_same : (zone : Place) (keys : List (List ℕ)) → under_keys w zone keys group ≡ under_keys (at_moment w now) zone keys group
  under_same zone keys =
      tried_same (pair_signs w.accepts (set_in group) zone (moment w)) (pair_signs w.accepts (set_in group) zone (on_circle now)) w.bounds.room _
      (all_filtered (λ p. pair_signs w.accepts (set_in group) zone (moment w) p ≡ pair_signs w.accepts (set_in group) zone (on_circle now) p) (pair_matches zone) (pairs group.signatures (keys_of keys))
      (pairs_same w.accepts (set_in group) zone (moment w) (on_circle now) group.signatures steady (keys_of keys)))

  module _ {A : Type 0} (search : A → KeySearch) where
    abbrev Same : Record × Admitted A → Type 0
    Same p = admitted_signs w.accepts group (moment w) p ≡ admitted_signs w.accepts group (on_circle now) p

    with_one : (one : Admitted A) (rs : List Record) → AllByRecursion (IsSteady (moment w) (on_circle now)) rs
        → AllByRecursion Same (map (λ signature. (signature, one)) rs)
    with_one one [] h = tt
    with_one one (r ∷ rs) h =
        (pair_same w.accepts (set_in group) (place group.owner) (moment w) (on_circle now) r one.key h.0, with_one one rs h.1)

    matching_same : (o : Option (Admitted A)) → AllByRecursion Same (matching group o)
    matching_same None = tt
    matching_same (Some one) = with_one one _ (all_filtered (IsSteady (moment w) (on_circle now)) _ group.signatures steady)

    ways_same : (ways : List A) → AllByRecursion Same (flat_map (matching_by group search) ways)
    ways_same [] = tt
    ways_same (way ∷ ways) =
        all_both Same (matching_by group search way) (flat_map (matching_by group search) ways) (matching_same (admitted_at group way (search way))) (ways_same ways)

    -- and so do the keys that these ways admit
    pub admitted_same : (ways : List A) → tried_by w group search ways ≡ tried_by (at_moment w now) group search ways
    admitted_same ways =
        tried_same (admitted_signs w.accepts group (moment w)) (admitted_signs w.accepts group (on_circle now)) w.bounds.room _ (ways_same ways)
