-- What a reply has for a path of aliases: its judged groups, and what denies the names of expansions of wildcards (RFC 1034 3.6.2, RFC 4035 5.3.4).
use Rattle.std.specs.Prelude.{ℕ, List, [], ◌∷◌, Option, None}
use Rattle.dsec_cause.specs.declared.cause.Cause.{Cause}
use Rattle.dsec_spec.specs.Names.{Labels, Place}
use Rattle.dsec_spec.specs.Records.{Record}
use Rattle.dsec_spec.specs.RecordViews.{target_of}
use Rattle.dsec_spec.specs.Messages.{Question}
use Rattle.dsec_spec.specs.Groups.{Group}
use Rattle.dsec_alias.specs.States.{State}

-- A judged group of the answer section, as far as aliases ask: the zone that is to have signed it, its state, and where it is Secure as an
-- expansion of a wildcard its closest encloser, the name that the wildcard is under (RFC 4035 5.3.4)
pub record Candidate : Type 0 where
  pub group : Group
  pub signer : Place
  pub state : State
  pub encloser : Option Labels

-- what denying comes to that a name exists for which a wildcard stands, where a denial is one of D
pub data Denied (D : Type 0) : Type 0 where
  -- it is denied (RFC 4035 5.3.4, RFC 5155 8.8)
  denied : D → Denied D
  -- it is left open, by a record with Opt-Out or of many iterations (RFC 5155 6, RFC 9276 3.2)
  opened : D → Denied D
  -- neither is proved, and why
  unproved : Cause → Denied D

-- What a path of aliases goes by: the anchors; the class and the type that are asked for; the judged groups of the answer section, in order of
-- arrival; and what denying comes to that a name exists, for a group that is an expansion of the wildcard under an encloser
pub record Reply (D : Type 0) : Type 0 where
  pub anchors : List Record
  pub class : ℕ
  pub rtype : ℕ
  pub candidates : List Candidate
  pub denying : Labels → Candidate → Labels → Denied D

-- the question at a name that aliases lead to: for the same class and type (RFC 1034 3.6.2)
abbrev pub asked_at : {D : Type 0} → Reply D → Labels → Question
asked_at reply name = record { name = name; rtype = reply.rtype; class = reply.class }

-- the target of a set's one record; a set of more has none (RFC 1035 3.3.1, RFC 2181 10.1, RFC 6672 2.1)
abbrev pub only_target : List Record → Option Labels
only_target (only ∷ []) = target_of only.rdata
only_target _ = None
