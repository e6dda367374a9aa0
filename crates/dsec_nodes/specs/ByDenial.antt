-- What a message comes to where it denies a name or a type, and where it answers from a wildcard (RFC 2308 2, RFC 4035 5.3.4, 5.4).
use Rattle.std.specs.Prelude.{ℕ, ◌==◌, List, [], ◌∷◌, map, filter_map, slice_get, Bool, true, false, Option, Some, None, unwrap_or}
use Rattle.dsec_spec.specs.Reading.{◌>>=◌}
use Rattle.dsec_spec.specs.Names.{Labels, Place, place}
use Rattle.dsec_spec.specs.Records.{Record, rrsig_of}
use Rattle.dsec_spec.specs.Messages.{Question, rcode_of}
use Rattle.dsec_spec.specs.Groups.{Group}
use Rattle.dsec_spec.specs.JudgedGroups.{encloser_in}
use Rattle.dsec_spec.specs.Islands.{looked_for_at, island}
use Rattle.dsec_absence.specs.Denials.{Denial, used_in}
use Rattle.dsec_absence.specs.Evidence.{Evidence}
use Rattle.dsec_absence.specs.Answers.{Source}
use Rattle.dsec_absence.specs.Replies.{soa_at, no_soa_cause}
use Rattle.dsec_nsec3.specs.HashedDenials.{HashedDenial, hashed_used_in}
use Rattle.dsec_nsec3.specs.Openings.{Opening, opening_index}
use Rattle.dsec_nsec3.specs.Conclusions.{Conclusion, proved, hash_proved, left_open, unproved, denied_at, closer_denied}
use Rattle.dsec_nodes.specs.World.{World, limits_of}
use Rattle.dsec_nodes.specs.Causes.{MissingSoa}
use Rattle.dsec_nodes.specs.Signing.{is_expanded}
use Rattle.dsec_nodes.specs.Judging.{Finding, is_shown, has_no_set, is_insecure, is_bogus, is_indeterminate, Judged}
use Rattle.dsec_nodes.specs.Outcomes.{Used, Outcome, by_nothing, secure_by, open_by, bogus_by, unproved_outcome, by_finding}

-- whether links show a group's set (RFC 4035 5)
abbrev pub is_secure : Finding → Bool
is_secure (is_shown links last signature) = true
is_secure has_no_set = false
is_secure (is_insecure cause signed) = false
is_secure (is_bogus cause links) = false
is_secure is_indeterminate = false

-- whether they show it as an expansion of a wildcard (RFC 4035 5.3.4)
abbrev pub expands : Group → Finding → Bool
expands group (is_shown links last signature) = is_expanded group signature
expands group has_no_set = false
expands group (is_insecure cause signed) = false
expands group (is_bogus cause links) = false
expands group is_indeterminate = false

-- a judged group, as far as a denial asks (RFC 4035 5.3, 5.4)
abbrev pub evidence_of : Judged → Evidence
evidence_of j = record { group = j.group; signer = j.signer; is_secure = is_secure j.finding; is_expanded = expands j.group j.finding }

-- among judged groups, the denials of a class that a zone has signed (RFC 4035 5.4)
abbrev pub source_of : List Judged → ℕ → Place → Source
source_of groups class signer = record { class = class; signer = signer; groups = map evidence_of groups }

-- the judged group at an index, with the index
abbrev pub used_at : List Judged → ℕ → Option Used
used_at authorities index = do
  j ← slice_get authorities index
  Some (record { index = index; judged = j })

-- the judged groups that a denial uses, in the order of its places
abbrev pub used_by : List Judged → Denial ℕ → List Used
used_by authorities denial = filter_map (used_at authorities) (used_in denial)

abbrev pub used_by_hash : List Judged → HashedDenial ℕ → List Used
used_by_hash authorities denial = filter_map (used_at authorities) (hashed_used_in denial)

-- and the one that leaves something open
abbrev pub used_to_open : List Judged → Opening → List Used
used_to_open authorities opening = filter_map (used_at authorities) (opening_index opening ∷ [])

-- the outcome by a group that is shown: Secure where what it needs to be denied is proved, and insecure where it is left open (RFC 4035 5.4,
-- RFC 5155 8)
abbrev pub on_conclusion : List Judged → Judged → Conclusion → Outcome
on_conclusion authorities j (proved denial) = secure_by (j ∷ []) (used_by authorities denial)
on_conclusion authorities j (hash_proved denial) = secure_by (j ∷ []) (used_by_hash authorities denial)
on_conclusion authorities j (left_open cause opening) = open_by cause (j ∷ []) (used_to_open authorities opening)
on_conclusion authorities j (unproved cause) = bogus_by cause by_nothing

-- the closest encloser of an expansion of a wildcard, by a signature of the group; none where it isn't one (RFC 4035 5.3.4)
abbrev pub encloser_of : Group → Record → Option Labels
encloser_of group signature = rrsig_of signature.rdata >>= λ sig. encloser_in sig.labels group.owner

-- the outcome by a set that is shown as an expansion of the wildcard under this name, by a denial of a closer one (RFC 4035 5.3.4)
abbrev pub by_wildcard : World → Question → Place → List Judged → Judged → Labels → Outcome
by_wildcard w question name authorities j encloser =
    on_conclusion authorities j (closer_denied (limits_of w.bounds) (source_of authorities question.class j.signer) name (place encloser))

-- the outcome by a set that is shown: Secure by itself, unless it is an expansion of a wildcard (RFC 4033 5, RFC 4035 5.3.4)
abbrev pub by_encloser : World → Question → Place → List Judged → Judged → Option Labels → Outcome
by_encloser w question name authorities j None = secure_by (j ∷ []) []
by_encloser w question name authorities j (Some encloser) = by_wildcard w question name authorities j encloser

-- whether an rcode says that there was no error (RFC 1035 4.1.1)
abbrev pub no_error_in : Option ℕ → Bool
no_error_in None = false
no_error_in (Some rcode) = rcode == 0

-- what is denied of a name by the denials that the SOA set's zone has signed: without an error the type, and else the name (RFC 2308 2)
abbrev pub denied_under : World → List ℕ → Question → Place → List Judged → Judged → Conclusion
denied_under w message question name authorities soa =
    denied_at (limits_of w.bounds) (no_error_in (rcode_of message)) (source_of authorities question.class soa.signer) name question.rtype

-- the outcome by the SOA set at an index; where none counts, bogus, and why none does (RFC 2308 2.1, 2.2, RFC 4035 5.4)
abbrev pub at_soa : World → List ℕ → Question → Place → List Judged → Option Judged → Outcome
at_soa w message question name authorities None = unproved_outcome
at_soa w message question name authorities (Some soa) =
    by_finding (λ signature. on_conclusion authorities soa (denied_under w message question name authorities soa)) soa.finding

abbrev pub by_soa : World → List ℕ → Question → Place → List Judged → Option ℕ → Outcome
by_soa w message question name authorities None =
    bogus_by (unwrap_or (no_soa_cause (looked_for_at name question.rtype) question.class (λ j. j.group) authorities) MissingSoa) by_nothing
by_soa w message question name authorities (Some index) = at_soa w message question name authorities (slice_get authorities index)

-- the outcome by the first SOA set that counts, of a zone that the set may be in: for DS, of one above the name (RFC 2308 2.1, 2.2,
-- RFC 4035 2.4, 5.4)
abbrev pub by_denial : World → List ℕ → Question → Place → List Judged → Outcome
by_denial w message question name authorities =
    by_soa w message question name authorities
    (soa_at (island w.anchors name question.rtype) (looked_for_at name question.rtype) question.class (λ j. j.group) authorities)
