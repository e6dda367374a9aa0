-- The test of an alias is the relation, and the next alias of a name is the first that passes it.
use Rattle.std.proofs.Common.{◌≡◌, ℕ, ◌||◌, ◌==◌, Bool, true, false, List, [], ◌∷◌, length, Option, Some, None, refl, sym, ap, ◌∙◌, inl, inr, ◌⊎◌}
use Rattle.std.specs.Prelude.{◌≢◌}
use Rattle.std.specs.Option.{is_some}
use Rattle.std.proofs.lemmas.Bool.{true≢false, eqb-true, eqb-false, and_parts, and_from, not-true, false_from_ne_true}
use Rattle.dsec_spec.specs.Names.{Labels, place, IsStrictlyBelow}
use Rattle.dsec_spec.specs.Numbers.{CNAME, DNAME}
use Rattle.dsec_spec.specs.Records.{Record}
use Rattle.dsec_spec.specs.RecordViews.{target_of}
use Rattle.dsec_spec.specs.Messages.{Question}
use Rattle.dsec_spec.specs.Groups.{Group}
use Rattle.dsec_spec.specs.Islands.{island, is_above}
use Rattle.dsec_spec.specs.Answering.{is_alias_at, is_alias_above, leads_on}
use Rattle.dsec_spec.specs.AtQuestion.{IsIsland, LeadsOn}
use Rattle.dsec_spec.proofs.AnsweringLemmas.{leads_on_told}
use Rattle.dsec_spec.proofs.CanonicalNames.{same_place_decides}
use Rattle.dsec_spec.proofs.SignedTests.{strictly_below_decides}
use Rattle.dsec_alias.specs.Candidates.{Candidate, Reply, asked_at, only_target}
use Rattle.dsec_alias.specs.Following.{is_alias, next_alias}
use Rattle.dsec_alias.specs.Paths.{IsAlias, IsNextAlias, IsFinal}
use Rattle.dsec_alias.proofs.Firsts.{from_position, from_no_position, position_told, no_position_told}
use Rattle.dsec_alias.proofs.IslandLaws.{not_over}

module _ (anchors : List Record) (question : Question) (group : Group) where
  abbrev IsAt : Type 0
  IsAt = (group.rtype ≡ CNAME) × (question.rtype ≢ CNAME) × (place group.owner ≡ place question.name)

  abbrev IsAbove : Type 0
  IsAbove = (group.rtype ≡ DNAME) × IsStrictlyBelow (place question.name) (place group.owner)
      × ((top : List (List ℕ)) → IsIsland anchors (place question.name) question.rtype top → IsStrictlyBelow top (place group.owner) → ⊥)

  alias_at : is_alias_at question group ≡ true → IsAt
  alias_at e =
      let both = and_parts _ _ e in
      let front = and_parts _ _ both.0 in
      (eqb-true group.rtype CNAME front.0, eqb-false question.rtype CNAME (not-true (question.rtype == CNAME) front.1), (same_place_decides (place group.owner) (place question.name)).0 both.1)

  alias_above : is_alias_above anchors question group ≡ true → IsAbove
  alias_above e =
      let both = and_parts _ _ e in
      let front = and_parts _ _ both.0 in
      let top = island anchors (place question.name) question.rtype in (
        eqb-true group.rtype DNAME front.0,
        (strictly_below_decides (place question.name) (place group.owner)).0 front.1,
        not_over anchors (place question.name) question.rtype (place group.owner) (not-true (is_above top (place group.owner)) both.1),
      )

  -- a group that the test passes leads on
  pub leads_is : leads_on anchors question group ≡ true → LeadsOn anchors question group
  leads_is e =
      let both = and_parts _ _ e in
      let front = and_parts _ _ both.0 in
      (eqb-true group.class question.class front.0, eqb-true (length group.records) 1 front.1, by (is_alias_at question group) refl both.1)
    where
      by : (b : Bool) → is_alias_at question group ≡ b → (b || is_alias_above anchors question group) ≡ true → IsAt ⊎ IsAbove
      by true f g = inl (alias_at f)
      by false f g = inr (alias_above g)

-- a target is of a set of one record
pub only_is : (records : List Record) (target : Labels) → only_target records ≡ Some target → (only : Record) × (records ≡ only ∷ []) × (target_of only.rdata ≡ Some target)
only_is [] target e = absurd cc
only_is (only ∷ []) target e = (only, refl, e)
only_is (only ∷ other ∷ more) target e = absurd cc

pub only_told : (records : List Record) (only : Record) (target : Labels) → records ≡ only ∷ [] → target_of only.rdata ≡ Some target → only_target records ≡ Some target
only_told records only target alone reads = ap only_target alone ∙ reads

there_is : {A : Type 0} (o : Option A) → is_some o ≡ true → (x : A) × (o ≡ Some x)
there_is None e = absurd (true≢false (sym e))
there_is (Some x) e = (x, refl)

module _ {D : Type 0} (reply : Reply D) (name : Labels) where
  -- a group that the test passes is an alias of the name
  pub alias_is : (group : Group) → is_alias reply name group ≡ true → (target : Labels) × IsAlias reply name group target
  alias_is group e =
      let both = and_parts _ _ e in
      let target = there_is (only_target group.records) both.1 in
      let only = only_is group.records target.0 target.1 in
      (target.0, record { leads = leads_is reply.anchors (asked_at reply name) group both.0; only = only.0; alone = only.1; reads = only.2 })

  -- and each alias passes it
  pub alias_told : (group : Group) (target : Labels) → IsAlias reply name group target → is_alias reply name group ≡ true
  alias_told group target a =
      and_from _ _ (leads_on_told reply.anchors (asked_at reply name) group a.leads)
      (ap is_some (only_told group.records a.only target a.alone a.reads))

  pub no_alias : (group : Group) → is_alias reply name group ≡ false → (target : Labels) → IsAlias reply name group target → ⊥
  no_alias group e target a = true≢false (sym (alias_told group target a) ∙ e)

  abbrev test : Candidate → Bool
  test c = is_alias reply name c.group

  -- the group at the index that is found is the next alias
  pub next_is : (i : ℕ) → next_alias reply name ≡ Some i → (c : Candidate) × (target : Labels) × IsNextAlias reply name i c target
  next_is i e =
      let f = from_position test reply.candidates i e in
      let a = alias_is f.0.group f.1.passes in (
        f.0,
        a.0,
        record {
          stands = f.1.stands;
          alias = a.1;
          first = λ before below other there elsewhere. no_alias other.group (f.1.before before below other there) elsewhere;
        },
      )

  -- the next alias is found
  pub next_told : (i : ℕ) (c : Candidate) (target : Labels) → IsNextAlias reply name i c target → next_alias reply name ≡ Some i
  next_told i c target n = position_told test reply.candidates i c (record {
    stands = n.stands;
    passes = alias_told c.group target n.alias;
    before = λ k below other there. false_from_ne_true (test other) (λ t. let a = alias_is other.group t in n.first k below other there a.0 a.1);
  })

  -- where none is found, the name is final
  pub final_is : next_alias reply name ≡ None → IsFinal reply name
  final_is e c there = no_alias c.group (from_no_position test reply.candidates e c there)

  -- at a final name none is found
  pub final_told : IsFinal reply name → next_alias reply name ≡ None
  final_told final = no_position_told test reply.candidates (λ c there. false_from_ne_true (test c) (λ t. let a = alias_is c.group t in final c there a.0 a.1))

  -- an alias is a CNAME record, or a DNAME record that the name is strictly below
  pub alias_type : (group : Group) (target : Labels) → IsAlias reply name group target
      → (group.rtype ≡ CNAME) ⊎ ((group.rtype ≡ DNAME) × IsStrictlyBelow (place name) (place group.owner))
  alias_type group target a = elim a.leads.2 [
    | inl at ↦ inl at.0
    | inr above ↦ inr (above.0, above.1)
  ]
