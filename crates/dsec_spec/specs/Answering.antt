-- Which group answers a question, and which leads on from its name, as tests (RFC 1034 3.6.2, RFC 4035 5.3.4, RFC 6672 2.2).
use Rattle.std.specs.Prelude.{ℕ, ◌==◌, ◌&&◌, ◌||◌, nat_lt, List, length, Bool}
use Rattle.std.proofs.Math.Bool.{not}
use Rattle.dsec_spec.specs.Names.{Labels, place, same_place, is_strictly_below}
use Rattle.dsec_spec.specs.Numbers.{CNAME, DNAME}
use Rattle.dsec_spec.specs.Records.{Record}
use Rattle.dsec_spec.specs.Messages.{Question}
use Rattle.dsec_spec.specs.SignedBytes.{signed_owner}
use Rattle.dsec_spec.specs.Groups.{Group}
use Rattle.dsec_spec.specs.Islands.{island, is_above}

-- whether the group is at the question's name, class and type
abbrev pub is_at_question : Question → Group → Bool
is_at_question question group =
    same_place (place group.owner) (place question.name) && (group.class == question.class) && (group.rtype == question.rtype)

-- whether the group is a CNAME at the question's name, and CNAME isn't asked for
abbrev pub is_alias_at : Question → Group → Bool
is_alias_at question group = (group.rtype == CNAME) && not (question.rtype == CNAME) && same_place (place group.owner) (place question.name)

-- whether the group is a DNAME strictly above the question's name, and not strictly above its island
abbrev pub is_alias_above : List Record → Question → Group → Bool
is_alias_above anchors question group =
    (group.rtype == DNAME) && is_strictly_below (place question.name) (place group.owner)
    && not (is_above (island anchors (place question.name) question.rtype) (place group.owner))

-- whether the group leads on from the question's name: one record of its class, an alias at the name or above it
abbrev pub leads_on : List Record → Question → Group → Bool
leads_on anchors question group =
    (group.class == question.class) && (length group.records == 1) && (is_alias_at question group || is_alias_above anchors question group)

-- whether a set with a signature of so many labels is a wildcard's expansion
abbrev pub is_expansion : ℕ → Labels → Bool
is_expansion labels owner = nat_lt labels (length owner) && not (same_place (place owner) (place (signed_owner labels owner)))
