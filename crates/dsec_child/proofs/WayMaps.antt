-- Ways that stand for others: what is tried with them, and why none is good.
use Rattle.std.proofs.Common.{◌≡◌, ℕ, ◌==◌, Bool, true, false, cond, List, [], ◌∷◌, ◌++◌, map, length, Option, Some, None, refl, sym, ap, ◌∙◌}
use Rattle.std.specs.Prelude.{filter, filter_map, flat_map, slice_get}
use Rattle.std.specs.List.{cons_option}
use Rattle.std.proofs.lemmas.List.{length-map, map-append}
use Rattle.dsec_spec.specs.Reading.{◌>>=◌}
use Rattle.dsec_spec.specs.Names.{place}
use Rattle.dsec_spec.specs.Records.{Record, Key, key_of}
use Rattle.dsec_spec.specs.Accepts.{Accepts}
use Rattle.dsec_spec.specs.KeySearch.{KeySearch, found_at, not_found, too_many}
use Rattle.dsec_spec.specs.Groups.{Group}
use Rattle.dsec_spec.specs.Trying.{pair_matches}
use Rattle.dsec_nodes.specs.Causes.{Cause}
use Rattle.dsec_nodes.specs.Admission.{Admitted, admitted_at, admitted_signs, matching, matching_by, cause_by, cause_among, first_or}
use Rattle.dsec_nodes.specs.Causes.{NoSignature}
use Rattle.dsec_child.specs.Ways.{pairs_trial, ways_trial}
use Rattle.dsec_child.proofs.TrialMaps.{trial_map, trial_of_map}

map_map : {X Y Z : Type 0} (g : Y → Z) (f : X → Y) (xs : List X) → map g (map f xs) ≡ map (λ x. g (f x)) xs
map_map g f [] = refl
map_map g f (x ∷ xs) = ap (λ zs. g (f x) ∷ zs) (map_map g f xs)

module _ {A B : Type 0} (h : A → B) where
  -- a key that one way admits, as another admits it
  abbrev pub as_other : Admitted A → Admitted B
  as_other one = record { way = h one.way; rdata = one.rdata; key = one.key }

  abbrev pub pair_as_other : Record × Admitted A → Record × Admitted B
  pair_as_other p = (p.0, as_other p.1)

  abbrev option_as_other : Option (Admitted A) → Option (Admitted B)
  option_as_other (Some one) = Some (as_other one)
  option_as_other None = None

  by_key : (way : A) (r : Record) (o : Option Key)
      → (o >>= λ key. Some (record { way = h way; rdata = r.rdata; key = key })) ≡ option_as_other (o >>= λ key. Some (record { way = way; rdata = r.rdata; key = key }))
  by_key way r (Some key) = refl
  by_key way r None = refl

  by_record : (way : A) (o : Option Record)
      → (o >>= λ one. key_of one.rdata >>= λ key. Some (record { way = h way; rdata = one.rdata; key = key })) ≡ option_as_other (o >>= λ one. key_of one.rdata >>= λ key. Some (record { way = way; rdata = one.rdata; key = key }))
  by_record way (Some one) = by_key way one (key_of one.rdata)
  by_record way None = refl

  module _ (group : Group) where
    admitted_of : (way : A) (s : KeySearch) → admitted_at group (h way) s ≡ option_as_other (admitted_at group way s)
    admitted_of way (found_at index) = by_record way (slice_get group.records index)
    admitted_of way not_found = refl
    admitted_of way too_many = refl

    matching_of : (o : Option (Admitted A)) → matching group (option_as_other o) ≡ map pair_as_other (matching group o)
    matching_of None = refl
    matching_of (Some one) = sym (map_map pair_as_other (λ s. (s, one)) (filter (λ s. pair_matches (place group.owner) (s, one.key)) group.signatures))

    module _ (search : B → KeySearch) where
      matching_at : (way : A) → matching_by group search (h way) ≡ map pair_as_other (matching_by group (λ a. search (h a)) way)
      matching_at way = ap (matching group) (admitted_of way (search (h way))) ∙ matching_of (admitted_at group way (search (h way)))

      all_matching : (ways : List A) → flat_map (matching_by group search) (map h ways) ≡ map pair_as_other (flat_map (matching_by group (λ a. search (h a))) ways)
      all_matching [] = refl
      all_matching (way ∷ ways) =
          ap (λ ps. ps ++ flat_map (matching_by group search) (map h ways)) (matching_at way)
          ∙ (ap (λ ps. map pair_as_other (matching_by group (λ a. search (h a)) way) ++ ps) (all_matching ways)
          ∙ sym (map-append pair_as_other (matching_by group (λ a. search (h a)) way) (flat_map (matching_by group (λ a. search (h a))) ways)))

      -- what trying comes to
      pub trial_of_ways : (accepts : Accepts) (t room : ℕ) (ways : List A)
          → ways_trial accepts group t room search (map h ways) ≡ trial_map pair_as_other (ways_trial accepts group t room (λ a. search (h a)) ways)
      trial_of_ways accepts t room ways =
          ap (pairs_trial accepts group t room) (all_matching ways)
          ∙ trial_of_map pair_as_other (admitted_signs accepts group t) room (flat_map (matching_by group (λ a. search (h a))) ways)

      cause_of : (bad : Cause) (way : A) (s : KeySearch) (n m : ℕ) → n ≡ m → cond (n == 0) None (Some bad) ≡ cond (m == 0) None (Some bad)
      cause_of bad way s n m e = ap (λ k. cond (k == 0) None (Some bad)) e

      causes_at : (bad : Cause) (way : A) (s : KeySearch) (ps : List (Record × Admitted B)) (qs : List (Record × Admitted A)) → length ps ≡ length qs → cause_by bad s ps ≡ cause_by bad s qs
      causes_at bad way (found_at k) ps qs e = cause_of bad way (found_at k) (length ps) (length qs) e
      causes_at bad way not_found ps qs e = cause_of bad way not_found (length ps) (length qs) e
      causes_at bad way too_many ps qs e = refl

      cause_at : (bad : Cause) (way : A) → cause_by bad (search (h way)) (matching_by group search (h way)) ≡ cause_by bad (search (h way)) (matching_by group (λ a. search (h a)) way)
      cause_at bad way = causes_at bad way (search (h way)) (matching_by group search (h way)) (matching_by group (λ a. search (h a)) way)
          (ap length (matching_at way) ∙ length-map (matching_by group (λ a. search (h a)) way) pair_as_other)

      all_causes : (bad : Cause) (ways : List A) → filter_map (λ way. cause_by bad (search way) (matching_by group search way)) (map h ways)
          ≡ filter_map (λ way. cause_by bad (search (h way)) (matching_by group (λ a. search (h a)) way)) ways
      all_causes bad [] = refl
      all_causes bad (way ∷ ways) =
          ap (λ o. cons_option o (filter_map (λ b. cause_by bad (search b) (matching_by group search b)) (map h ways))) (cause_at bad way)
          ∙ ap (cons_option (cause_by bad (search (h way)) (matching_by group (λ a. search (h a)) way))) (all_causes bad ways)

      -- why none is good
      pub cause_of_ways : (bad : Cause) (ways : List A) → cause_among bad group search (map h ways) ≡ cause_among bad group (λ a. search (h a)) ways
      cause_of_ways bad ways = ap (first_or NoSignature) (all_causes bad ways)

-- Ways of which those that fail a test admit nothing
module _ {A : Type 0} (group : Group) (search : A → KeySearch) (test : A → Bool) where
  abbrev pub tested_search : A → KeySearch
  tested_search way = cond (test way) (search way) not_found

  step : (way : A) (ways : List A) (b : Bool) → flat_map (matching_by group tested_search) ways ≡ flat_map (matching_by group search) (filter test ways)
      → matching group (admitted_at group way (cond b (search way) not_found)) ++ flat_map (matching_by group tested_search) ways
      ≡ flat_map (matching_by group search) (cond b (way ∷ filter test ways) (filter test ways))
  step way ways true rest = ap (λ ps. matching_by group search way ++ ps) rest
  step way ways false rest = rest

  pub tested_matching : (ways : List A) → flat_map (matching_by group tested_search) ways ≡ flat_map (matching_by group search) (filter test ways)
  tested_matching [] = refl
  tested_matching (way ∷ ways) = step way ways (test way) (tested_matching ways)

  module _ (bad : Cause) where
    abbrev cause_here : A → Option Cause
    cause_here way = cause_by bad (search way) (matching_by group search way)

    abbrev tested_cause : A → Option Cause
    tested_cause way = cause_by bad (tested_search way) (matching_by group tested_search way)

    cause_step : (way : A) (ways : List A) (b : Bool) → filter_map tested_cause ways ≡ filter_map cause_here (filter test ways)
        → cons_option (cause_by bad (cond b (search way) not_found) (matching group (admitted_at group way (cond b (search way) not_found)))) (filter_map tested_cause ways)
        ≡ filter_map cause_here (cond b (way ∷ filter test ways) (filter test ways))
    cause_step way ways true rest = ap (cons_option (cause_here way)) rest
    cause_step way ways false rest = rest

    tested_causes : (ways : List A) → filter_map tested_cause ways ≡ filter_map cause_here (filter test ways)
    tested_causes [] = refl
    tested_causes (way ∷ ways) = cause_step way ways (test way) (tested_causes ways)

    pub tested_cause_among : (ways : List A) → cause_among bad group tested_search ways ≡ cause_among bad group search (filter test ways)
    tested_cause_among ways = ap (first_or NoSignature) (tested_causes ways)
