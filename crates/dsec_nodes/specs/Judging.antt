-- What is found of a message's groups, by the nodes of the zones that are to have signed them (RFC 4033 5, RFC 4035 4.3, 5.3).
use Rattle.std.specs.Prelude.{ℕ, ◌==◌, List, [], ◌∷◌, length, Option, Some, None, if◌then◌else◌}
use Rattle.dsec_spec.specs.Names.{Place, place}
use Rattle.dsec_spec.specs.Records.{Record, Key}
use Rattle.dsec_spec.specs.Groups.{Group}
use Rattle.dsec_spec.specs.Islands.{looked_for_at, island, signers, target}
use Rattle.dsec_spec.specs.Trying.{Tried, good, nothing, all_bad, too_many_bad}
use Rattle.dsec_spec.specs.Chain as chain
use Rattle.dsec_nodes.specs.World.{World, Replies}
use Rattle.dsec_nodes.specs.Causes.{Cause, NoSignature, BadSignature, TooManyBadSignatures}
use Rattle.dsec_nodes.specs.Nodes.{Node, Standing, apex, within, insecure, bogus, SignedCause}
use Rattle.dsec_nodes.specs.Signing.{under_keys, link_under}
use Rattle.dsec_nodes.specs.Walk.{node_of}

-- what is found of a group (RFC 4033 5)
pub data Finding : Type 0 where
  -- links show its set: those to its zone's keys, and its own by this signature record
  is_shown : List chain.Link → chain.Link → Record → Finding
  -- it is of signatures alone
  has_no_set : Finding
  -- no chain leads to its zone: the cause, if one is told, and the signed record that shows it
  is_insecure : Option Cause → SignedCause → Finding
  -- it isn't to be relied on: the cause, and the links to the zone whose keys were tried, or none
  is_bogus : Cause → List chain.Link → Finding
  -- no anchor stands at or above where it is looked for
  is_indeterminate : Finding

-- a group with the zone that is to have signed it, and what was found of it (RFC 4035 4.3); where the node that says so is insecure or bogus, the
-- node's name stands in the zone's place
pub record Judged : Type 0 where
  pub group : Group
  pub signer : Place
  pub finding : Finding

-- what is found by trying a zone's keys (RFC 4035 5.3.1)
abbrev pub found_by : Group → Node → List (List ℕ) → Tried (Record × Key) → Finding
found_by group n keys (good p) = is_shown n.links (link_under chain.set keys group p) p.0
found_by group n keys nothing = is_bogus NoSignature n.links
found_by group n keys all_bad = is_bogus BadSignature n.links
found_by group n keys too_many_bad = is_bogus TooManyBadSignatures n.links

-- what is found of a group by the node of the zone that is to have signed it; below a name within a zone there are no keys, and no keys are tried
-- by a bogus node (RFC 4033 5)
abbrev pub found_at : World → Group → Node → Standing → Finding
found_at w group n (apex keys) = found_by group n keys (under_keys w n.signer keys group)
found_at w group n (within last) = is_bogus NoSignature n.links
found_at w group n (insecure cause signed) = is_insecure cause signed
found_at w group n (bogus cause) = is_bogus cause []

-- a group, judged by a node (RFC 4035 4.3)
abbrev pub by_node : World → Group → Node → Judged
by_node w group n = record { group = group; signer = n.signer; finding = found_at w group n n.standing }

-- the zone that is to have signed a group whose island is this (RFC 4035 5.3.1)
abbrev pub target_of : Group → Option Place → Place
target_of group top = target top (looked_for_at (place group.owner) group.rtype) (signers group)

-- a group with records, judged by its island (RFC 4033 2)
abbrev pub by_island : World → Replies → Group → Option Place → Judged
by_island w replies group None = record { group = group; signer = target_of group None; finding = is_indeterminate }
by_island w replies group (Some top) = by_node w group (node_of w replies top (target_of group (Some top)))

-- a group, judged; signatures without a set are insecure (RFC 4035 4.3)
abbrev pub judged_of : World → Replies → Group → Judged
judged_of w replies group =
    if length group.records == 0 then record { group = group; signer = []; finding = has_no_set }
    else by_island w replies group (island w.anchors (place group.owner) group.rtype)

-- what judging groups comes to: all are judged, or one is bogus (RFC 4033 5)
pub data AllJudged : Type 0 where
  all : List Judged → AllJudged
  one_bogus : Cause → List chain.Link → AllJudged

-- a judged group and those after it (RFC 4033 5)
abbrev pub and_others : Judged → Finding → AllJudged → AllJudged
and_others j (is_bogus cause links) others = one_bogus cause links
and_others j _ (all js) = all (j ∷ js)
and_others j _ (one_bogus cause links) = one_bogus cause links

-- groups judged in order; the first bogus one ends it, even one that has nothing to do with the question (RFC 4035 5)
unfoldable pub judged_all : World → Replies → List Group → AllJudged
judged_all w replies [] = all []
judged_all w replies (g ∷ gs) = and_others (judged_of w replies g) (judged_of w replies g).finding (judged_all w replies gs)
