-- The tests of groups decide what they stand for.
use Rattle.std.proofs.Common.{◌≡◌, ℕ, ◌||◌, true, false, List, length, Option, Some, None, refl, sym, ◌∙◌, inl, inr, ◌⊎◌}
use Rattle.std.specs.Prelude.{◌≢◌}
use Rattle.std.proofs.lemmas.Bool.{true≢false, eq-eqb, ne_eqb, eqb-true, and_parts, and_from, or_left, or_right, not_from_false, lt-ltb, false_from_ne_true}
use Rattle.dsec_spec.specs.Names.{Labels, Place, place, same_place, is_strictly_below, IsStrictlyBelow}
use Rattle.dsec_spec.specs.Numbers.{CNAME, DNAME}
use Rattle.dsec_spec.specs.Records.{Record}
use Rattle.dsec_spec.specs.Messages.{Question}
use Rattle.dsec_spec.specs.SignedBytes.{IsExpansion, signed_owner}
use Rattle.dsec_spec.specs.Groups.{Group}
use Rattle.dsec_spec.specs.Islands.{island, is_above}
use Rattle.dsec_spec.specs.AtQuestion.{IsAtQuestion, LeadsOn, IsIsland}
use Rattle.dsec_spec.specs.Answering.{is_at_question, is_alias_at, is_alias_above, leads_on, is_expansion}
use Rattle.dsec_spec.proofs.CanonicalNames.{same_place_decides}
use Rattle.dsec_spec.proofs.SignedTests.{strictly_below_decides}
use Rattle.dsec_spec.proofs.IslandLemmas.{island_is}

pub at_question : (question : Question) (group : Group) → is_at_question question group ≡ true → IsAtQuestion question group
at_question question group e =
    let both = and_parts _ _ e in
    let front = and_parts _ _ both.0 in
    record {
      at_name = (same_place_decides (place group.owner) (place question.name)).0 front.0;
      of_class = eqb-true group.class question.class front.1;
      of_type = eqb-true group.rtype question.rtype both.1;
    }

-- a DNAME that isn't strictly above the island, by the relation, isn't by the test
not_above : (anchors : List Record) (name : Place) (rtype : ℕ) (owner : Place) → ((top : Place) → IsIsland anchors name rtype top → IsStrictlyBelow top owner → ⊥) → is_above (island anchors name rtype) owner ≡ false
not_above anchors name rtype owner never = by (island anchors name rtype) refl
  where
    by : (o : Option Place) → island anchors name rtype ≡ o → is_above o owner ≡ false
    by None e = refl
    by (Some top) e = false_from_ne_true (is_strictly_below top owner) (λ t. never top (island_is anchors name rtype top e) ((strictly_below_decides top owner).0 t))

pub leads_on_told : (anchors : List Record) (question : Question) (group : Group) → LeadsOn anchors question group → leads_on anchors question group ≡ true
leads_on_told anchors question group h =
    and_from _ _ (and_from _ _ (eq-eqb group.class question.class h.0) (eq-eqb (length group.records) 1 h.1)) (alias h.2)
  where
    alias : (((group.rtype ≡ CNAME) × (question.rtype ≢ CNAME) × (place group.owner ≡ place question.name))
        ⊎ ((group.rtype ≡ DNAME) × IsStrictlyBelow (place question.name) (place group.owner)
        × ((top : Place) → IsIsland anchors (place question.name) question.rtype top → IsStrictlyBelow top (place group.owner) → ⊥)))
        → (is_alias_at question group || is_alias_above anchors question group) ≡ true
    alias (inl at) = or_left _ _ (and_from _ _ (and_from _ _ (eq-eqb group.rtype CNAME at.0) (not_from_false _ (ne_eqb question.rtype CNAME at.1)))
        ((same_place_decides (place group.owner) (place question.name)).1 at.2))
    alias (inr above) = or_right _ _ (and_from _ _ (and_from _ _ (eq-eqb group.rtype DNAME above.0) ((strictly_below_decides (place question.name) (place group.owner)).1 above.1))
        (not_from_false _ (not_above anchors (place question.name) question.rtype (place group.owner) above.2)))

-- so a group that the test passes over doesn't lead on
pub leads_nowhere : (anchors : List Record) (question : Question) (group : Group) → leads_on anchors question group ≡ false → LeadsOn anchors question group → ⊥
leads_nowhere anchors question group e h = true≢false (sym (leads_on_told anchors question group h) ∙ e)

pub no_expansion : (labels : ℕ) (owner : Labels) → is_expansion labels owner ≡ false → IsExpansion labels owner → ⊥
no_expansion labels owner e h =
    true≢false (sym (and_from _ _ (lt-ltb labels (length owner) h.fewer)
    (not_from_false _ (false_from_ne_true (same_place (place owner) (place (signed_owner labels owner))) (λ t. h.elsewhere ((same_place_decides _ _).0 t))))) ∙ e)
