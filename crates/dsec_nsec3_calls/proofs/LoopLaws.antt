-- Groups gone through, one by one.
use Rattle.std.proofs.Common.{◌≡◌, ℕ, ◌+◌, ◌<◌, ◌≤◌, List, [], ◌∷◌, map, drop, length, get_or, Option, None, refl, arith}
use Rattle.std.proofs.lemmas.List.{length-map, drop_all}
use Rattle.dsec_group.proofs.IndexLaws.{there_by}
use Rattle.dsec_absence.proofs.SearchSteps.{mapped_at}
use Rattle.dsec_spec.specs.Names.{Labels, Place, place}
use Rattle.dsec_nodes.specs.Judging.{Judged}
use Rattle.dsec_nsec3.specs.Counting.{HashLimits, HashedSighting, ignored, stops, hashed, hashed_sighting, hashed_sightings}
use Rattle.dsec_nsec3.specs.HashedAnswers.{type_from, cover_from, unshown}
use Rattle.dsec_nsec3.specs.Walks.{look_from, unseen}
use Rattle.dsec_nsec3_calls.specs.Looks.{look_at}
use Rattle.dsec_nsec3_calls.specs.Tellings.{type_at, cover_at}
use Rattle.dsec_nsec3_calls.specs.Views.{evidence_of, source_of}

-- what the group at an index is, and those after it
pub seen_at : (limits : HashLimits) (groups : List Judged) (class : ℕ) (signer : Labels) (i : ℕ) (j : Judged) → i < length groups → j ≡ get_or groups i j
    → drop i (hashed_sightings limits (source_of groups class signer)) ≡ hashed_sighting limits class (place signer) (evidence_of j) ∷ drop (i + 1) (hashed_sightings limits (source_of groups class signer))
seen_at limits groups class signer i j lt is =
    mapped_at (hashed_sighting limits class (place signer)) (map evidence_of groups) i (evidence_of j) (there_by evidence_of groups i j lt is)

-- none is left past the last
pub none_left : (limits : HashLimits) (groups : List Judged) (class : ℕ) (signer : Labels) (i : ℕ) → length groups ≤ i → drop i (hashed_sightings limits (source_of groups class signer)) ≡ []
none_left limits groups class signer i end =
    drop_all i (hashed_sightings limits (source_of groups class signer))
    (omega (arith, end, length-map (map evidence_of groups) (hashed_sighting limits class (place signer)), length-map groups evidence_of))

-- the first of the groups that are left, and then the others
pub look_next : (top : Option Place) (n : Place) (i room : ℕ) (gs : List HashedSighting) (s : HashedSighting) (rest : List HashedSighting) → gs ≡ s ∷ rest
    → look_from top n i room gs ≡ look_at top n i room s (λ left. look_from top n (i + 1) left rest)
unfolding look_from
look_next top n i room gs ignored rest e = rw e refl
look_next top n i room gs (stops why) rest e = rw e refl
look_next top n i room gs (hashed r) rest e = rw e refl

pub look_none : (top : Option Place) (n : Place) (i room : ℕ) (gs : List HashedSighting) → gs ≡ [] → look_from top n i room gs ≡ unseen room
unfolding look_from
look_none top n i room gs e = rw e refl

pub type_next : (n : Place) (q i : ℕ) (gs : List HashedSighting) (s : HashedSighting) (rest : List HashedSighting) → gs ≡ s ∷ rest
    → type_from n q i gs ≡ type_at n q i s (type_from n q (i + 1) rest)
unfolding type_from
type_next n q i gs ignored rest e = rw e refl
type_next n q i gs (stops why) rest e = rw e refl
type_next n q i gs (hashed r) rest e = rw e refl

pub type_none : (n : Place) (q i : ℕ) (gs : List HashedSighting) → gs ≡ [] → type_from n q i gs ≡ unshown None
unfolding type_from
type_none n q i gs e = rw e refl

pub cover_next : (signer n : Place) (i : ℕ) (gs : List HashedSighting) (s : HashedSighting) (rest : List HashedSighting) → gs ≡ s ∷ rest
    → cover_from signer n i gs ≡ cover_at signer n i s (cover_from signer n (i + 1) rest)
unfolding cover_from
cover_next signer n i gs ignored rest e = rw e refl
cover_next signer n i gs (stops why) rest e = rw e refl
cover_next signer n i gs (hashed r) rest e = rw e refl

pub cover_none : (signer n : Place) (i : ℕ) (gs : List HashedSighting) → gs ≡ [] → cover_from signer n i gs ≡ unshown None
unfolding cover_from
cover_none signer n i gs e = rw e refl
