-- The search for a DS record's key, from an index on.
use Rattle.std.proofs.Common.{◌≡◌, ℕ, zero, suc, ◌+◌, ◌-◌, ◌<◌, ◌≤◌, Bool, true, false, List, ◌∷◌, map, length, drop, get_or, refl, ap, ◌∙◌, arith}
use Rattle.std.specs.Prelude.{Option, Some, None, ◌&&◌}
use Rattle.std.proofs.lemmas.List.{drop_all}
use Rattle.dsec_spec.specs.Names.{Labels}
use Rattle.dsec_spec.specs.Records.{Record, Key, key_of, Ds}
use Rattle.dsec_spec.specs.DelegationSigner.{names, has_digest}
use Rattle.dsec_spec.specs.KeySearch.{KeySearch, found_at, not_found, too_many, first_key, is_named, is_spoken_of, of_key}
use Rattle.dsec_spec.proofs.KeySearchLemmas.{behind, search_end, search_past, search_tried, search_found, search_over}
use Rattle.dsec_link.specs.KeySearches.{trial_of}
use Rattle.dsec_spec.proofs.ListLemmas.{drop_here}
use Rattle.dsec_link.specs.declared.key_search.KeyTrial.TheVariants.{Match, Mismatch, Other, Excess}

-- a key that isn't named isn't spoken of
unspoken : (ds : Ds) (owner : Labels) (key : Option Key) → of_key (names ds) key ≡ false → of_key (λ k. names ds k && has_digest ds owner k) key ≡ false
unspoken ds owner None e = refl
unspoken ds owner (Some key) e = ap (λ (b : Bool). b && has_digest ds owner key) e

pub not_spoken_of : (ds : Ds) (owner : Labels) (x : List ℕ) → is_named ds x ≡ false → is_spoken_of ds owner x ≡ false
not_spoken_of ds owner x e = unspoken ds owner (key_of x) e

-- what each outcome of a trial says
pub from_match : (named spoken may : Bool) → trial_of named spoken may ≡ Match → (named ≡ true) × (spoken ≡ true) × (may ≡ true)
from_match false spoken may e = absurd cc
from_match true spoken false e = absurd cc
from_match true true true e = (refl, refl, refl)
from_match true false true e = absurd cc

pub from_mismatch : (named spoken may : Bool) → trial_of named spoken may ≡ Mismatch → (named ≡ true) × (spoken ≡ false) × (may ≡ true)
from_mismatch false spoken may e = absurd cc
from_mismatch true spoken false e = absurd cc
from_mismatch true true true e = absurd cc
from_mismatch true false true e = (refl, refl, refl)

pub from_other : (named spoken may : Bool) → trial_of named spoken may ≡ Other → named ≡ false
from_other false spoken may e = refl
from_other true spoken false e = absurd cc
from_other true true true e = absurd cc
from_other true false true e = absurd cc

pub from_excess : (named spoken may : Bool) → trial_of named spoken may ≡ Excess → (named ≡ true) × (may ≡ false)
from_excess false spoken may e = absurd cc
from_excess true spoken false e = (refl, refl)
from_excess true true true e = absurd cc
from_excess true false true e = absurd cc

one_behind : (n : ℕ) (s : KeySearch) → behind n (behind 1 s) ≡ behind (suc n) s
one_behind n (found_at k) = let same : n + (1 + k) ≡ suc n + k = omega arith in ap found_at same
one_behind n not_found = refl
one_behind n too_many = refl

-- the search from an index on
abbrev pub from_index : Ds → Labels → ℕ → List Record → ℕ → KeySearch
from_index ds owner left keys i = behind i (first_key ds owner left (map (λ one. one.rdata) (drop i keys)))

at_index : (ds : Ds) (owner : Labels) (left : ℕ) (keys : List Record) (i : ℕ) (one : Record) → i < length keys → one ≡ get_or keys i one
    → from_index ds owner left keys i ≡ behind i (first_key ds owner left (one.rdata ∷ map (λ (r : Record). r.rdata) (drop (suc i) keys)))
at_index ds owner left keys i one below is =
    ap (λ (rest : List Record). behind i (first_key ds owner left (map (λ (r : Record). r.rdata) rest))) (drop_here keys i one below is)

pub key_past : (ds : Ds) (owner : Labels) (left : ℕ) (keys : List Record) (i : ℕ) (one : Record) → i < length keys → one ≡ get_or keys i one
    → is_named ds one.rdata ≡ false → from_index ds owner left keys i ≡ from_index ds owner left keys (suc i)
key_past ds owner left keys i one below is other =
    at_index ds owner left keys i one below is
    ∙ (ap (behind i) (search_past (is_named ds) (is_spoken_of ds owner) left one.rdata (map (λ (r : Record). r.rdata) (drop (suc i) keys)) other (not_spoken_of ds owner one.rdata other))
    ∙ one_behind i (first_key ds owner left (map (λ (r : Record). r.rdata) (drop (suc i) keys))))

pub key_tried : (ds : Ds) (owner : Labels) (left : ℕ) (keys : List Record) (i : ℕ) (one : Record) → i < length keys → one ≡ get_or keys i one
    → 0 < left → is_named ds one.rdata ≡ true → is_spoken_of ds owner one.rdata ≡ false → from_index ds owner left keys i ≡ from_index ds owner (left - 1) keys (suc i)
key_tried ds owner zero keys i one below is some named unmatched = absurd (omega (arith, some))
key_tried ds owner (suc n) keys i one below is some named unmatched =
    at_index ds owner (suc n) keys i one below is
    ∙ (ap (behind i) (search_tried (is_named ds) (is_spoken_of ds owner) n one.rdata (map (λ (r : Record). r.rdata) (drop (suc i) keys)) named unmatched)
    ∙ (one_behind i (first_key ds owner n (map (λ (r : Record). r.rdata) (drop (suc i) keys)))
    ∙ (let fewer : n ≡ suc n - 1 = omega arith in ap (λ (m : ℕ). from_index ds owner m keys (suc i)) fewer)))

pub key_found : (ds : Ds) (owner : Labels) (left : ℕ) (keys : List Record) (i : ℕ) (one : Record) → i < length keys → one ≡ get_or keys i one
    → 0 < left → is_named ds one.rdata ≡ true → is_spoken_of ds owner one.rdata ≡ true → from_index ds owner left keys i ≡ found_at i
key_found ds owner zero keys i one below is some named matched = absurd (omega (arith, some))
key_found ds owner (suc n) keys i one below is some named matched =
    at_index ds owner (suc n) keys i one below is
    ∙ (ap (behind i) (search_found (is_named ds) (is_spoken_of ds owner) n one.rdata (map (λ (r : Record). r.rdata) (drop (suc i) keys)) named matched)
    ∙ (let same : i + 0 ≡ i = omega arith in ap found_at same))

pub key_over : (ds : Ds) (owner : Labels) (left : ℕ) (keys : List Record) (i : ℕ) (one : Record) → i < length keys → one ≡ get_or keys i one
    → left ≡ 0 → is_named ds one.rdata ≡ true → from_index ds owner left keys i ≡ too_many
key_over ds owner left keys i one below is spent named =
    ap (λ (n : ℕ). from_index ds owner n keys i) spent
    ∙ (at_index ds owner 0 keys i one below is
    ∙ ap (behind i) (search_over (is_named ds) (is_spoken_of ds owner) one.rdata (map (λ (r : Record). r.rdata) (drop (suc i) keys)) named))

pub key_none : (ds : Ds) (owner : Labels) (left : ℕ) (keys : List Record) (i : ℕ) → length keys ≤ i → from_index ds owner left keys i ≡ not_found
key_none ds owner left keys i past =
    ap (λ (rest : List Record). behind i (first_key ds owner left (map (λ (r : Record). r.rdata) rest))) (drop_all i keys past)
    ∙ ap (behind i) (search_end (is_named ds) (is_spoken_of ds owner) left)

-- the whole search is the one from the first index
pub whole_search : (ds : Ds) (owner : Labels) (most : ℕ) (keys : List Record) → from_index ds owner most keys 0 ≡ first_key ds owner most (map (λ one. one.rdata) keys)
whole_search ds owner most keys = from_start (first_key ds owner most (map (λ (one : Record). one.rdata) keys))
  where
    from_start : (s : KeySearch) → behind 0 s ≡ s
    from_start (found_at k) = let same : 0 + k ≡ k = omega arith in ap found_at same
    from_start not_found = refl
    from_start too_many = refl
