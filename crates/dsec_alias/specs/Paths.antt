-- Paths of aliases, as relations: the next alias of a name, where it leads, and where it does not (RFC 1034 3.6.2, RFC 4035 5.3.4, RFC 6672 2.2).
use Rattle.std.specs.Prelude.{◌≡◌, ◌⊎◌, ℕ, zero, suc, ◌<◌, ◌≤◌, List, [], ◌∷◌, ◌++◌, Contains, slice_get, Some, None}
use Rattle.dsec_cause.specs.declared.cause.Cause.{Cause}
use Rattle.dsec_cause.specs.declared.cause.Cause.TheVariants.{TooManyAliases, DnameFromWildcard, DnameTooLong, CnameFromApexForDs}
use Rattle.dsec_spec.specs.Names.{Labels, place, wire_length}
use Rattle.dsec_spec.specs.Numbers.{CNAME, DNAME, DS}
use Rattle.dsec_spec.specs.Records.{Record}
use Rattle.dsec_spec.specs.RecordViews.{target_of}
use Rattle.dsec_spec.specs.Messages.{Question}
use Rattle.dsec_spec.specs.Groups.{Group}
use Rattle.dsec_spec.specs.AtQuestion.{LeadsOn}
use Rattle.dsec_alias.specs.States.{State, secure, insecure, map_maybe_secure}
use Rattle.dsec_alias.specs.Candidates.{Candidate, denied, opened, unproved, Reply, asked_at}
use Rattle.dsec_alias.specs.Following.{AliasStep}

-- the group leads on from the question's name, and its one record has this target
pub record LeadsOnTo (anchors : List Record) (question : Question) (group : Group) (target : Labels) : Type 0 where
  pub leads : LeadsOn anchors question group
  pub only : Record
  pub alone : group.records ≡ only ∷ []
  pub reads : target_of only.rdata ≡ Some target

-- the group is an alias of a name, with this target
abbrev pub IsAlias : {D : Type 0} → Reply D → Labels → Group → Labels → Type 0
IsAlias reply name group target = LeadsOnTo reply.anchors (asked_at reply name) group target

-- the group at this index is the next alias of a name: the first that leads on from it
pub record IsNextAlias {D : Type 0} (reply : Reply D) (name : Labels) (index : ℕ) (c : Candidate) (target : Labels) : Type 0 where
  pub stands : slice_get reply.candidates index ≡ Some c
  pub alias : IsAlias reply name c.group target
  pub first : (before : ℕ) → before < index → (other : Candidate) → slice_get reply.candidates before ≡ Some other
      → (elsewhere : Labels) → IsAlias reply name other.group elsewhere → ⊥

-- the name is final: no group leads on from it
abbrev pub IsFinal : {D : Type 0} → Reply D → Labels → Type 0
IsFinal reply name = (c : Candidate) → Contains reply.candidates c → (target : Labels) → IsAlias reply name c.group target → ⊥

-- the name with the labels of a name above it replaced by another (RFC 6672 2.2)
pub record IsReplaced (owner target name mapped : Labels) : Type 0 where
  pub before : Labels
  pub above : Labels
  pub ends : name ≡ before ++ above
  pub at_owner : place above ≡ place owner
  pub is : mapped ≡ before ++ target

-- The alias at a name for whose DS set is asked is known to be of the zone that begins there: by that zone's keys, or by a delegation to which
-- no chain leads. That zone says nothing of the set, which stands in the zone above (RFC 4035 2.4).
pub record IsOfChild {D : Type 0} (reply : Reply D) (name : Labels) (c : Candidate) : Type 0 where
  pub for_ds : reply.rtype ≡ DS
  pub own_zone : c.signer ≡ place name
  pub known : (c.state ≡ secure) ⊎ (c.state ≡ insecure)

-- From a name a step leads on, with a state. By its next alias: a CNAME record that is no expansion leads to its target; so does one that is,
-- where that the name exists is denied, and as an Insecure step where that is left open; where a DS set is asked for, none of the zone below
-- does. A DNAME record that is no expansion leads to the name with its owner replaced by its target, which has at most 255 octets.
pub data LeadsTo {D : Type 0} (reply : Reply D) (name : Labels) : AliasStep D → State → Labels → Type 0 where
  by_cname : {i : ℕ} {c : Candidate} {target : Labels} → IsNextAlias reply name i c target → c.group.rtype ≡ CNAME
      → (IsOfChild reply name c → ⊥) → c.encloser ≡ None
      → LeadsTo reply name (record { group = i; denial = None }) c.state target
  by_denied : {i : ℕ} {c : Candidate} {target encloser : Labels} {d : D} → IsNextAlias reply name i c target → c.group.rtype ≡ CNAME
      → (IsOfChild reply name c → ⊥) → c.encloser ≡ Some encloser → reply.denying name c encloser ≡ denied d
      → LeadsTo reply name (record { group = i; denial = Some d }) c.state target
  by_opened : {i : ℕ} {c : Candidate} {target encloser : Labels} {d : D} → IsNextAlias reply name i c target → c.group.rtype ≡ CNAME
      → (IsOfChild reply name c → ⊥) → c.encloser ≡ Some encloser → reply.denying name c encloser ≡ opened d
      → LeadsTo reply name (record { group = i; denial = Some d }) (map_maybe_secure c.state insecure) target
  by_dname : {i : ℕ} {c : Candidate} {target mapped : Labels} → IsNextAlias reply name i c target → c.group.rtype ≡ DNAME → c.encloser ≡ None
      → IsReplaced c.group.owner target name mapped → wire_length mapped ≤ 255
      → LeadsTo reply name (record { group = i; denial = None }) c.state mapped

-- From a name no step leads on that stands; the path ends at a name, and why. By its next alias: a CNAME record of the zone below, where a DS
-- set is asked for; another that is an expansion, where that the name exists is neither denied nor left open; a DNAME record that is an
-- expansion (RFC 6672 3.3); or one that leads past 255 octets.
pub data FailsAt {D : Type 0} (reply : Reply D) (name : Labels) : Labels → Cause → Type 0 where
  of_child : {i : ℕ} {c : Candidate} {target : Labels} → IsNextAlias reply name i c target → c.group.rtype ≡ CNAME → IsOfChild reply name c
      → FailsAt reply name name CnameFromApexForDs
  not_denied : {i : ℕ} {c : Candidate} {target encloser : Labels} {cause : Cause} → IsNextAlias reply name i c target → c.group.rtype ≡ CNAME
      → (IsOfChild reply name c → ⊥) → c.encloser ≡ Some encloser → reply.denying name c encloser ≡ unproved cause → FailsAt reply name name cause
  dname_expanded : {i : ℕ} {c : Candidate} {target encloser : Labels} → IsNextAlias reply name i c target → c.group.rtype ≡ DNAME
      → c.encloser ≡ Some encloser → FailsAt reply name c.group.owner DnameFromWildcard
  dname_too_long : {i : ℕ} {c : Candidate} {target mapped : Labels} → IsNextAlias reply name i c target → c.group.rtype ≡ DNAME
      → c.encloser ≡ None → IsReplaced c.group.owner target name mapped → 255 < wire_length mapped
      → FailsAt reply name c.group.owner DnameTooLong

-- a path of so many steps at most, from a name to a final one: its state is that of its last step that isn't Secure
pub data IsPath {D : Type 0} (reply : Reply D) : ℕ → Labels → List (AliasStep D) → State → Labels → Type 0 where
  stays : {left : ℕ} {name : Labels} → IsFinal reply name → IsPath reply left name [] secure name
  leads : {left : ℕ} {name target final : Labels} {step : AliasStep D} {steps : List (AliasStep D)} {own later : State}
      → LeadsTo reply name step own target → IsPath reply left target steps later final
      → IsPath reply (suc left) name (step ∷ steps) (map_maybe_secure later own) final

-- a path of so many steps at most that ends Bogus at a name, and why: a step fails, or there is one more
pub data IsBogusPath {D : Type 0} (reply : Reply D) : ℕ → Labels → Labels → Cause → Type 0 where
  fails : {left : ℕ} {name reached : Labels} {cause : Cause} → FailsAt reply name reached cause → IsBogusPath reply left name reached cause
  too_many : {name target : Labels} {step : AliasStep D} {own : State} → LeadsTo reply name step own target
      → IsBogusPath reply zero name target TooManyAliases
  later : {left : ℕ} {name target reached : Labels} {step : AliasStep D} {own : State} {cause : Cause}
      → LeadsTo reply name step own target → IsBogusPath reply left target reached cause → IsBogusPath reply (suc left) name reached cause
