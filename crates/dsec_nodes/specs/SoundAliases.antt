-- The way of names from a message's question to the name where judging ends, and what a Secure one means (RFC 1034 3.6.2, RFC 4035 5.3.4,
-- RFC 6672 2.2, 5.3).
use Rattle.std.specs.Prelude.{◌≡◌, ◌⊎◌, ℕ, ◌<◌, ◌≤◌, List, [], ◌∷◌, ◌++◌, slice_get, Some}
use Rattle.dsec_spec.specs.Names.{Labels, Place, place, wire_length}
use Rattle.dsec_spec.specs.Numbers.{CNAME, DNAME, DS}
use Rattle.dsec_spec.specs.Records.{Record}
use Rattle.dsec_spec.specs.Messages.{Question}
use Rattle.dsec_spec.specs.Groups.{Group}
use Rattle.dsec_alias.specs.Paths.{LeadsOnTo, IsReplaced}
use Rattle.dsec_nodes.specs.World.{World}
use Rattle.dsec_nodes.specs.Judging.{Judged}
use Rattle.dsec_nodes.specs.Outcomes.{Used}
use Rattle.dsec_alias.specs.States.{secure, insecure}
use Rattle.dsec_nodes.specs.Aliases.{state_in, reached}
use Rattle.dsec_nodes.specs.SoundFindings.{IsShownItself, IsShownFrom}
use Rattle.dsec_nodes.specs.SoundProofs.{Disproof, disproof_used, IsDeniedBy, IsOfCloser}

-- an alias leads onto its target, or for DNAME onto the name with the alias's owner replaced by its target, of at most 255 octets
-- (RFC 1034 3.6.2, RFC 6672 2.2)
abbrev pub IsOnto : Group → Labels → Labels → Labels → Type 0
IsOnto group target name onto =
    ((group.rtype ≡ CNAME) × (onto ≡ target)) ⊎ ((group.rtype ≡ DNAME) × IsReplaced group.owner target name onto × (wire_length onto ≤ 255))

-- the group is the next alias of the question's name, the first of these groups that leads on from it, and leads onto a name
pub record IsAliasOnto (anchors : List Record) (answers : List Group) (question : Question) (group : Group) (onto : Labels) : Type 0 where
  pub index : ℕ
  pub stands : slice_get answers index ≡ Some group
  pub target : Labels
  pub leads : LeadsOnTo anchors question group target
  pub first : (before : ℕ) → before < index → (other : Group) → slice_get answers before ≡ Some other → (elsewhere : Labels)
      → LeadsOnTo anchors question other elsewhere → ⊥
  pub leads_onto : IsOnto group target question.name onto

-- a way of names: from each by its next alias
pub data AreAliases (anchors : List Record) (answers : List Group) (asked : Question) : Labels → List Group → Labels → Type 0 where
  no_alias : {name : Labels} → AreAliases anchors answers asked name [] name
  one_alias : {name onto final : Labels} {group : Group} {others : List Group} → IsAliasOnto anchors answers (reached asked name) group onto
      → AreAliases anchors answers asked onto others final → AreAliases anchors answers asked name (group ∷ others) final

-- an alias on the way, where a DS set is asked for: a CNAME record that is Secure or Insecure isn't of the zone that begins at its own name, for
-- the set stands in the zone above (RFC 4035 2.4)
abbrev pub IsFromAbove : Question → Judged → Type 0
IsFromAbove asked j =
    asked.rtype ≡ DS → j.group.rtype ≡ CNAME → (state_in j.finding ≡ secure) ⊎ (state_in j.finding ≡ insecure) → j.signer ≡ place j.group.owner → ⊥

-- links show the alias's set, which is no expansion of a wildcard (RFC 4033 5, RFC 4035 5.3)
pub record IsAliasItself (w : World) (j : Judged) (used : List Used) : Type 0 where
  pub itself : IsShownItself w j
  pub no_denial : used ≡ []

-- or they show a CNAME set as an expansion of the wildcard under a name, and that a closer name exists is denied (RFC 4035 5.3.4)
pub record IsAliasByWildcard (w : World) (authorities : List Group) (question : Question) (j : Judged) (used : List Used) : Type 0 where
  pub of_type : j.group.rtype ≡ CNAME
  pub encloser : Place
  pub expanded : IsShownFrom w j encloser
  pub disproof : Disproof Used
  pub of_closer : IsOfCloser encloser disproof
  pub is_denied : IsDeniedBy w authorities question j.signer disproof
  pub uses : used ≡ disproof_used disproof

-- a Secure alias of the question's name, and the groups that a denial beside it uses
pub record IsSecureAlias (w : World) (answers authorities : List Group) (question : Question) (j : Judged) (used : List Used) (onto : Labels) : Type 0 where
  pub alias : IsAliasOnto w.anchors answers question j.group onto
  pub shown : IsAliasItself w j used ⊎ IsAliasByWildcard w authorities question j used

-- a way of names by Secure aliases
pub data AreSecureAliases (w : World) (answers authorities : List Group) (asked : Question) : Labels → List Judged → List Used → Labels → Type 0 where
  no_step : {name : Labels} → AreSecureAliases w answers authorities asked name [] [] name
  one_step : {name onto final : Labels} {j : Judged} {js : List Judged} {used others : List Used}
      → IsSecureAlias w answers authorities (reached asked name) j used onto → AreSecureAliases w answers authorities asked onto js others final
      → AreSecureAliases w answers authorities asked name (j ∷ js) (used ++ others) final
