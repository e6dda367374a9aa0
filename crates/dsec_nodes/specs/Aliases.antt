-- Following aliases through a message's judged groups, and what stands beside them (RFC 1034 3.6.2, RFC 4035 5.3.4, RFC 6672 2.2).
use Rattle.std.specs.Prelude.{ℕ, List, [], ◌∷◌, map, filter_map, slice_get, Option, Some, None}
use Rattle.std.specs.List.{flat_map}
use Rattle.dsec_spec.specs.Names.{Labels, place}
use Rattle.dsec_spec.specs.Records.{Record}
use Rattle.dsec_spec.specs.Messages.{Question}
use Rattle.dsec_spec.specs.Groups.{Group}
use Rattle.dsec_absence.specs.Denials.{Denial, used_in}
use Rattle.dsec_nsec3.specs.Counting.{HashLimits}
use Rattle.dsec_nsec3.specs.HashedDenials.{HashedDenial, hashed_used_in}
use Rattle.dsec_nsec3.specs.Openings.{Opening, opening_index}
use Rattle.dsec_nsec3.specs.Conclusions as conclusions
use Rattle.dsec_nsec3.specs.Conclusions.{Conclusion, proved, hash_proved, left_open, closer_denied}
use Rattle.dsec_alias.specs.States.{State, secure, insecure, bogus, indeterminate}
use Rattle.dsec_alias.specs.Candidates.{Candidate, Denied, denied, opened, unproved, Reply}
use Rattle.dsec_alias.specs.Following.{AliasStep, AliasEnd, do_cname_dname}
use Rattle.dsec_nodes.specs.World.{World, limits_of}
use Rattle.dsec_nodes.specs.Judging.{Finding, is_shown, has_no_set, is_insecure, is_bogus, is_indeterminate, Judged}
use Rattle.dsec_nodes.specs.Outcomes.{Used}
use Rattle.dsec_nodes.specs.ByDenial.{source_of, used_at, encloser_of}

-- the state of what was found; signatures alone are Insecure (RFC 4033 5, RFC 4035 2.2)
abbrev pub state_in : Finding → State
state_in (is_shown links last signature) = secure
state_in has_no_set = insecure
state_in (is_insecure cause signed) = insecure
state_in (is_bogus cause links) = bogus
state_in is_indeterminate = indeterminate

-- the closest encloser of a group that links show as an expansion of a wildcard (RFC 4035 5.3.4)
abbrev pub expansion_in : Group → Finding → Option Labels
expansion_in group (is_shown links last signature) = encloser_of group signature
expansion_in group has_no_set = None
expansion_in group (is_insecure cause signed) = None
expansion_in group (is_bogus cause links) = None
expansion_in group is_indeterminate = None

-- a judged group, as far as aliases ask
abbrev pub candidate_of : Judged → Candidate
candidate_of j = record { group = j.group; signer = j.signer; state = state_in j.finding; encloser = expansion_in j.group j.finding }

-- what stands beside an alias that is an expansion: a denial of its name by NSEC or by NSEC3 records, with the indexes of their groups; or what
-- leaves the name open
pub data Beside : Type 0 where
  by_nsec : Denial ℕ → Beside
  by_hash : HashedDenial ℕ → Beside
  by_opening : Opening → Beside

-- what denying that a name exists comes to; why it is left open isn't told
abbrev pub as_denied : Conclusion → Denied Beside
as_denied (proved denial) = denied (by_nsec denial)
as_denied (hash_proved denial) = denied (by_hash denial)
as_denied (left_open cause opening) = opened (by_opening opening)
as_denied (conclusions.unproved cause) = unproved cause

-- what denying that a name exists comes to by these groups of the authority section, for an expansion of the wildcard under an encloser: the
-- records are of the class, and signed by the zone that signed the expansion
abbrev pub denying_in : HashLimits → List Judged → ℕ → Labels → Candidate → Labels → Denied Beside
denying_in limits authorities class name c encloser =
    as_denied (closer_denied limits (source_of authorities class c.signer) (place name) (place encloser))

-- what a path of aliases goes by: how far hashes are followed, the anchors, the class and the type that are asked for, and the judged groups of
-- both sections
abbrev pub reply_of : HashLimits → List Record → ℕ → ℕ → List Judged → List Judged → Reply Beside
reply_of limits anchors class rtype answers authorities =
    record { anchors = anchors; class = class; rtype = rtype; candidates = map candidate_of answers; denying = denying_in limits authorities class }

-- the same for a message's question
abbrev pub reply_to : World → Question → List Judged → List Judged → Reply Beside
reply_to w question answers authorities = reply_of (limits_of w.bounds) w.anchors question.class question.rtype answers authorities

-- where the path of names from a question's ends, which may have so many steps (RFC 1034 3.6.2)
abbrev pub alias_path : World → ℕ → Question → List Judged → List Judged → AliasEnd Beside
alias_path w most question answers authorities = do_cname_dname (reply_to w question answers authorities) most question.name

-- the question at a name that aliases lead to (RFC 1034 3.6.2)
abbrev pub reached : Question → Labels → Question
reached question name = record { name = name; rtype = question.rtype; class = question.class }

-- the groups that stand beside an alias: those that a denial uses, or the one that leaves the name open
abbrev pub used_by_one : Beside → List ℕ
used_by_one (by_nsec denial) = used_in denial
used_by_one (by_hash denial) = hashed_used_in denial
used_by_one (by_opening opening) = opening_index opening ∷ []

abbrev pub used_beside : Option Beside → List ℕ
used_beside None = []
used_beside (Some beside) = used_by_one beside

-- the judged groups that the aliases of a path are, in order
abbrev pub aliases_on : List Judged → List (AliasStep Beside) → List Judged
aliases_on answers path = filter_map (λ step. slice_get answers step.group) path

-- the judged groups that stand beside them, in order
abbrev pub denials_on : List Judged → List (AliasStep Beside) → List Used
denials_on authorities path = flat_map (λ step. filter_map (used_at authorities) (used_beside step.denial)) path
