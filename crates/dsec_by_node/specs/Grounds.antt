-- What a finding by a node rests on (RFC 4033 2, RFC 4035 5.3).
use Rattle.std.specs.Prelude.{◌≡◌, ℕ, [], ◌∷◌, ◌++◌, Some}
use Rattle.dsec_spec.specs.Records.{Record, rrsig_of}
use Rattle.dsec_spec.specs.Accepts.{Accepts}
use Rattle.dsec_spec.specs.Groups.{Group}
use Rattle.dsec_spec.specs.Lasting.{adjusted_ttl, ttl_for_sig}
use Rattle.dsec_spec.specs.JudgedGroups.{ShowsGroup}
use Rattle.dsec_nodes.specs.Nodes.{Node}
use Rattle.dsec_nodes.specs.Judging.{Finding, is_shown, has_no_set, is_insecure, is_bogus, is_indeterminate}
use Rattle.dsec_by_node.specs.Answers.{encloser_by}

-- a group that is found to be shown is, by the node's links and its own, from the node's anchor at the moment t
abbrev pub RestsOn : Accepts → Group → Node → ℕ → Finding → Type 0
RestsOn accepts group n t (is_shown links last signature) =
    (links ≡ n.links) × ((anchor : Record) × (n.anchor ≡ Some anchor)
    × ShowsGroup accepts anchor (n.links ++ last ∷ []) t group n.signer (encloser_by group (rrsig_of signature.rdata)) (adjusted_ttl group (ttl_for_sig signature t)))
RestsOn accepts group n t has_no_set = Unit {0}
RestsOn accepts group n t (is_insecure cause signed) = Unit {0}
RestsOn accepts group n t (is_bogus cause links) = Unit {0}
RestsOn accepts group n t is_indeterminate = Unit {0}
