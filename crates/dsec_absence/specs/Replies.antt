-- Where a reply answers, and which SOA set counts where it denies (RFC 2308 2.1, 2.2, RFC 4035 5.4).
use Rattle.std.specs.Prelude.{◌≡◌, ℕ, ◌==◌, ◌&&◌, List, position, Bool, Option, Some, None, if◌then◌else◌}
use Rattle.std.proofs.Math.Bool.{not}
use Rattle.std.specs.List.{list_any}
use Rattle.std.specs.Option.{option_or}
use Rattle.dsec_cause.specs.declared.cause.Cause.{Cause}
use Rattle.dsec_cause.specs.declared.cause.Cause.TheVariants.{SoaWrongClass, SoaWrongName}
use Rattle.dsec_spec.specs.Names.{Place, place, same_place, is_below, IsAtOrBelow, IsStrictlyBelow}
use Rattle.dsec_spec.specs.Numbers.{SOA}
use Rattle.dsec_spec.specs.Groups.{Group}
use Rattle.dsec_spec.specs.Islands.{is_above}
use Rattle.dsec_absence.specs.Answers.{Answer, denied, refused, nothing}

-- whether a group is the set of a class and type at a name (RFC 1034 3.7.1)
abbrev pub is_set_of : Place → ℕ → ℕ → Group → Bool
is_set_of n class rtype group = same_place (place group.owner) n && (group.class == class) && (group.rtype == rtype)

-- the index of the first that is the set, among things that are of a group each
abbrev pub answer_at : {A : Type 0} → Place → ℕ → ℕ → (A → Group) → List A → Option ℕ
answer_at n class rtype group xs = position (λ x. is_set_of n class rtype (group x)) xs

-- whether a group is an SOA set of the class
abbrev pub is_soa : ℕ → Group → Bool
is_soa class group = (group.rtype == SOA) && (group.class == class)

-- whether a group is the SOA set of a zone that the name may be in, and that may be trusted from the island: at or above the name, and not
-- above the island (RFC 2308 2.1, RFC 4033 2)
abbrev pub is_soa_for : Option Place → Place → ℕ → Group → Bool
is_soa_for top n class group = is_soa class group && is_below n (place group.owner) && not (is_above top (place group.owner))

-- the same as facts
pub record IsSoaFor (top : Option Place) (n : Place) (class : ℕ) (group : Group) : Type 0 where
  pub of_type : group.rtype ≡ SOA
  pub of_class : group.class ≡ class
  pub over : IsAtOrBelow n (place group.owner)
  pub in_island : (island : Place) → top ≡ Some island → IsStrictlyBelow island (place group.owner) → ⊥

-- the index of the first SOA set that counts for a name whose island this is
abbrev pub soa_at : {A : Type 0} → Option Place → Place → ℕ → (A → Group) → List A → Option ℕ
soa_at top n class group xs = position (λ x. is_soa_for top n class (group x)) xs

-- whether a group is an SOA set of the class that isn't at or above the name
abbrev pub is_soa_elsewhere : Place → ℕ → Group → Bool
is_soa_elsewhere n class group = is_soa class group && not (is_below n (place group.owner))

-- whether a group is an SOA set of another class
abbrev pub is_other_soa : ℕ → Group → Bool
is_other_soa class group = (group.rtype == SOA) && not (group.class == class)

-- why none counts: one of the class isn't at or above the name, or else one is of another class; for one above the island no cause is told
abbrev pub no_soa_cause : {A : Type 0} → Place → ℕ → (A → Group) → List A → Option Cause
no_soa_cause n class group xs =
    if list_any (λ x. is_soa_elsewhere n class (group x)) xs then Some SoaWrongName else
    if list_any (λ x. is_other_soa class (group x)) xs then Some SoaWrongClass else None

-- the cause beside the index: none where a set counts
abbrev pub soa_cause : {A : Type 0} → Place → ℕ → (A → Group) → List A → Option ℕ → Option Cause
soa_cause n class group xs (Some index) = None
soa_cause n class group xs None = no_soa_cause n class group xs

-- one call after another, where the first shows nothing; the last cause is left
abbrev pub then_answer : Answer → Answer → Answer
then_answer (denied d) later = denied d
then_answer (refused cause) later = refused cause
then_answer (nothing cause) (denied d) = denied d
then_answer (nothing cause) (refused later) = refused later
then_answer (nothing cause) (nothing later) = nothing (option_or later cause)
