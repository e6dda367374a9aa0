-- How a set and a question lie to each other: where a set is looked for, the island it is in, whether it is at the question's name or leads on
-- from there (RFC 1034 3.6.2, RFC 4033 2, RFC 4035 2.4, RFC 6672 2.2).
use Rattle.std.specs.Prelude.{◌≡◌, ◌≢◌, ◌⊎◌, ℕ, List, [], ◌∷◌, ◌++◌, Contains, length}
use Rattle.dsec_spec.specs.Names.{Place, place, IsAtOrBelow, IsStrictlyBelow}
use Rattle.dsec_spec.specs.Numbers.{CNAME, DNAME, DS}
use Rattle.dsec_spec.specs.Records.{Record}
use Rattle.dsec_spec.specs.Messages.{Question}
use Rattle.dsec_spec.specs.Groups.{Group}

-- where a name of this type is looked for: at its parent for a DS set, which stands in the zone above, but at the root (RFC 4035 2.4)
pub record IsLookedForAt (name : Place) (rtype : ℕ) (from : Place) : Type 0 where
  pub above_for_ds : rtype ≡ DS → name ≢ [] → (last : List ℕ) × (name ≡ from ++ last ∷ [])
  pub itself_for_others : rtype ≢ DS ⊎ (name ≡ []) → from ≡ name

-- the island of a name and type: the place of the longest anchor at or above where it is looked for (RFC 4033 2, island of security);
-- an anchor is any record among the anchors, whatever its type and class
pub record IsIsland (anchors : List Record) (name : Place) (rtype : ℕ) (island : Place) : Type 0 where
  pub from : Place
  pub looked_for : IsLookedForAt name rtype from
  pub anchor : Record
  pub listed : Contains anchors anchor
  pub stands_at : place anchor.owner ≡ island
  pub above : IsAtOrBelow from island
  pub longest : (other : Record) → Contains anchors other → IsAtOrBelow from (place other.owner) → IsAtOrBelow island (place other.owner)

-- the group is at the question's name, class and type
pub record IsAtQuestion (question : Question) (group : Group) : Type 0 where
  pub at_name : place group.owner ≡ place question.name
  pub of_class : group.class ≡ question.class
  pub of_type : group.rtype ≡ question.rtype

-- the group, of one record of the question's class, leads on from the question's name: a CNAME at it, unless CNAME is asked for,
-- or a DNAME strictly above it and not strictly above its island (RFC 1034 3.6.2, RFC 6672 2.2); of two records or more, no group is an alias
abbrev pub LeadsOn : List Record → Question → Group → Type 0
LeadsOn anchors question group =
    (group.class ≡ question.class) × (length group.records ≡ 1)
    × (((group.rtype ≡ CNAME) × (question.rtype ≢ CNAME) × (place group.owner ≡ place question.name))
    ⊎ ((group.rtype ≡ DNAME) × IsStrictlyBelow (place question.name) (place group.owner)
    × ((island : Place) → IsIsland anchors (place question.name) question.rtype island → IsStrictlyBelow island (place group.owner) → ⊥)))
