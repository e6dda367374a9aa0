-- What is told of a single group: its status, why, and how far its TTLs are cut (RFC 4033 5, RFC 4035 5.3.3, 5.3.4).
use Rattle.std.specs.Prelude.{◌≡◌, ℕ, Option, Some, None, IsSome}
use Rattle.dsec_spec.specs.Names.{Labels, Place}
use Rattle.dsec_spec.specs.Records.{Rrsig, rrsig_of}
use Rattle.dsec_spec.specs.Accepts.{Accepts}
use Rattle.dsec_spec.specs.Groups.{Group}
use Rattle.dsec_spec.specs.Lasting.{adjusted_ttl, ttl_for_sig}
use Rattle.dsec_spec.specs.JudgedGroups.{encloser_in, ShowsGroup}
use Rattle.dsec_link.specs.Shown.{ShownSet}
use Rattle.dsec_group.specs.declared.state.ValidationState.{ValidationState}
use Rattle.dsec_group.specs.declared.state.ValidationState.TheVariants.{Secure, Insecure, Bogus, Indeterminate}
use Rattle.dsec_validated.specs.Validated.{Validated}
use Rattle.dsec_nodes.specs.Causes.{Cause}
use Rattle.dsec_nodes.specs.Judging.{Finding, is_shown, has_no_set, is_insecure, is_bogus, is_indeterminate}
use Rattle.dsec_found.specs.Told.{state_of, cause_of}

-- a group's status; its closest encloser, where it is Secure as a wildcard's expansion; the cause of its status, if one is told; and the
-- seconds that its TTLs are cut to, where they are (RFC 4033 5, RFC 4035 5.3.3, 5.3.4)
pub record Answer : Type 0 where
  pub state : ValidationState
  pub closest_encloser : Option Labels
  pub cause : Option Cause
  pub adjusted : Option ℕ

-- the closest encloser of a group by the signature that shows it (RFC 4035 5.3.4)
abbrev pub encloser_by : Group → Option Rrsig → Option Labels
encloser_by group (Some rrsig) = encloser_in rrsig.labels group.owner
encloser_by group None = None

-- the closest encloser, where links show the group as a wildcard's expansion (RFC 4035 5.3.4)
abbrev pub encloser_of : Group → Finding → Option Labels
encloser_of group (is_shown links last signature) = encloser_by group (rrsig_of signature.rdata)
encloser_of group has_no_set = None
encloser_of group (is_insecure cause signed) = None
encloser_of group (is_bogus cause links) = None
encloser_of group is_indeterminate = None

-- the seconds that TTLs are cut to, where links show the group by a signature that may be kept for less at the moment t (RFC 4035 5.3.3)
abbrev pub cut_of : Group → ℕ → Finding → Option ℕ
cut_of group t (is_shown links last signature) = adjusted_ttl group (ttl_for_sig signature t)
cut_of group t has_no_set = None
cut_of group t (is_insecure cause signed) = None
cut_of group t (is_bogus cause links) = None
cut_of group t is_indeterminate = None

-- what is told of a group by what was found of it at the moment t (RFC 4033 5)
abbrev pub answer_by : Group → ℕ → Finding → Answer
answer_by group t finding = record {
  state = state_of finding;
  closest_encloser = encloser_of group finding;
  cause = cause_of finding;
  adjusted = cut_of group t finding;
}

-- an answer, and the links that show a Secure one (RFC 4033 2, authentication chain)
pub record Told : Type 0 where
  pub answer : Answer
  pub shown : Option ShownSet

-- a group with what is told of it, and a name for the zone that has signed it, or was to
abbrev pub validated_by : Group → Labels → Told → Validated
validated_by group signer told = record {
  group = group;
  state = told.answer.state;
  signer = signer;
  closest_encloser = told.answer.closest_encloser;
  cause = told.answer.cause;
  adjusted = told.answer.adjusted;
  shown = told.shown;
}

-- what is told of a validated group
abbrev pub told_in : Validated → Told
told_in v = record {
  answer = record { state = v.state; closest_encloser = v.closest_encloser; cause = v.cause; adjusted = v.adjusted };
  shown = v.shown;
}

-- an answer that isn't Secure has no closest encloser, and cuts no TTL
pub record HasNoGround (answer : Answer) : Type 0 where
  pub no_encloser : answer.closest_encloser ≡ None
  pub not_cut : answer.adjusted ≡ None

-- A Secure answer is shown by links from an anchor to the group, of which the last is the zone's, by its signature are the closest encloser and
-- the TTL, and it has no cause; any other has nothing to show, and a bogus one has a cause (RFC 4033 5, RFC 4035 5.3)
abbrev pub ToldBy : Accepts → Group → Place → Answer → ValidationState → Option ShownSet → Type 0
ToldBy accepts group zone a Secure (Some shown) =
    ShowsGroup accepts shown.anchor shown.links shown.moment group zone a.closest_encloser a.adjusted × (a.cause ≡ None)
ToldBy accepts group zone a Bogus None = HasNoGround a × IsSome a.cause
ToldBy accepts group zone a Insecure None = HasNoGround a
ToldBy accepts group zone a Indeterminate None = HasNoGround a
ToldBy accepts group zone a _ _ = ⊥

-- this can be told of a group and the zone that has signed it, or was to
abbrev pub CanBeTold : Accepts → Group → Place → Told → Type 0
CanBeTold accepts group zone told = ToldBy accepts group zone told.answer told.answer.state told.shown
