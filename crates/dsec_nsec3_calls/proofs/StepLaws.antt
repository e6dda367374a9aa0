-- One group more gone through, as the code does it.
use Rattle.std.proofs.Common.{◌≡◌, ℕ, ◌+◌, ◌<◌, List, ◌∷◌, length, get_or, drop, Option, Some, None, sym, ap, ◌∙◌}
use Rattle.dsec_spec.specs.Names.{Labels, Place, place}
use Rattle.dsec_nodes.specs.Judging.{Judged}
use Rattle.dsec_nsec3.specs.Counting.{HashLimits, HashedSighting, hashed_sighting, hashed_sightings}
use Rattle.dsec_nsec3.specs.HashedAnswers.{Hashed, type_from, cover_from}
use Rattle.dsec_nsec3.specs.Walks as walks
use Rattle.dsec_nsec3.specs.Walks.{look_from}
use Rattle.dsec_nsec3_calls.specs.Looks.{look_at, look_view, glance_to}
use Rattle.dsec_nsec3_calls.specs.Tellings.{type_at, cover_at, told_of, told_or}
use Rattle.dsec_nsec3_calls.specs.Views.{evidence_of, source_of}
use Rattle.dsec_nsec3_calls.specs.declared.look.Glance.{Glance}
use Rattle.dsec_nsec3_calls.specs.declared.look.Glance.TheVariants.{Past, Ends}
use Rattle.dsec_nsec3_calls.specs.declared.look.Look.{Look}
use Rattle.dsec_nsec3_calls.specs.declared.told.Told.{Told}
use Rattle.dsec_nsec3_calls.proofs.LoopLaws.{seen_at, look_next, type_next, cover_next}

module _ (limits : HashLimits) (groups : List Judged) (class : ℕ) (signer : Labels) (i : ℕ) (d : Judged) (lt : i < length groups) (is : d ≡ get_or groups i d) where
  abbrev gs : List HashedSighting
  gs = hashed_sightings limits (source_of groups class signer)

  abbrev here : HashedSighting
  here = hashed_sighting limits class (place signer) (evidence_of (get_or groups i d))

  there : drop i gs ≡ here ∷ drop (i + 1) gs
  there = seen_at limits groups class signer i d lt is ∙ ap (λ (j : Judged). hashed_sighting limits class (place signer) (evidence_of j) ∷ drop (i + 1) gs) is

  module _ (top : Option Place) (n : Place) (room : ℕ) (glance : Glance) (seen : (later : ℕ → walks.Look) → glance_to glance later ≡ look_at top n i room here later) where
    whole : look_from top n i room (drop i gs) ≡ glance_to glance (λ left. look_from top n (i + 1) left (drop (i + 1) gs))
    whole = look_next top n i room (drop i gs) here (drop (i + 1) gs) there ∙ sym (seen (λ left. look_from top n (i + 1) left (drop (i + 1) gs)))

    pub look_ends : (look : Look) (after : ℕ) → glance ≡ Ends look after → look_view look after ≡ look_from top n i room (drop i gs)
    look_ends look after e = sym (whole ∙ ap (λ (x : Glance). glance_to x (λ left. look_from top n (i + 1) left (drop (i + 1) gs))) e)

    pub look_goes : (after : ℕ) → glance ≡ Past after → look_from top n i room (drop i gs) ≡ look_from top n (i + 1) after (drop (i + 1) gs)
    look_goes after e = whole ∙ ap (λ (x : Glance). glance_to x (λ left. look_from top n (i + 1) left (drop (i + 1) gs))) e

  module _ (n : Place) (q : ℕ) (told : Option Told) (seen : (later : Hashed ℕ) → told_or told (told_of later) ≡ told_of (type_at n q i here later)) where
    type_whole : told_of (type_from n q i (drop i gs)) ≡ told_or told (told_of (type_from n q (i + 1) (drop (i + 1) gs)))
    type_whole = ap told_of (type_next n q i (drop i gs) here (drop (i + 1) gs) there) ∙ sym (seen (type_from n q (i + 1) (drop (i + 1) gs)))

    pub type_ends : (it : Told) → told ≡ Some it → it ≡ told_of (type_from n q i (drop i gs))
    type_ends it e = sym (type_whole ∙ ap (λ (x : Option Told). told_or x (told_of (type_from n q (i + 1) (drop (i + 1) gs)))) e)

    pub type_goes : told ≡ None → told_of (type_from n q i (drop i gs)) ≡ told_of (type_from n q (i + 1) (drop (i + 1) gs))
    type_goes e = type_whole ∙ ap (λ (x : Option Told). told_or x (told_of (type_from n q (i + 1) (drop (i + 1) gs)))) e

  module _ (zone n : Place) (told : Option Told) (seen : (later : Hashed ℕ) → told_or told (told_of later) ≡ told_of (cover_at zone n i here later)) where
    cover_whole : told_of (cover_from zone n i (drop i gs)) ≡ told_or told (told_of (cover_from zone n (i + 1) (drop (i + 1) gs)))
    cover_whole = ap told_of (cover_next zone n i (drop i gs) here (drop (i + 1) gs) there) ∙ sym (seen (cover_from zone n (i + 1) (drop (i + 1) gs)))

    pub cover_ends : (it : Told) → told ≡ Some it → it ≡ told_of (cover_from zone n i (drop i gs))
    cover_ends it e = sym (cover_whole ∙ ap (λ (x : Option Told). told_or x (told_of (cover_from zone n (i + 1) (drop (i + 1) gs)))) e)

    pub cover_goes : told ≡ None → told_of (cover_from zone n i (drop i gs)) ≡ told_of (cover_from zone n (i + 1) (drop (i + 1) gs))
    cover_goes e = cover_whole ∙ ap (λ (x : Option Told). told_or x (told_of (cover_from zone n (i + 1) (drop (i + 1) gs)))) e
