-- A message whose answer stands at an anchor: its node is asked for and not held, its key set is asked for and not told, and the message is bogus.
use Rattle.std.proofs.Common.{◌≡◌, ℕ, List, [], ◌∷◌, None, Ok, refl}
use Rattle.std.specs.Prelude.{false}
use Rattle.dsec_spec.specs.Names.{place}
use Rattle.dsec_spec.specs.Records.{Record}
use Rattle.dsec_spec.specs.Messages.{question_at, record_at, data_at, parts_at, questions_of, answers_of, authorities_of}
use Rattle.dsec_spec.specs.Reading.{many_of}
use Rattle.dsec_spec.specs.WireNames.{name_at, name_within}
use Rattle.dsec_spec.specs.Groups.{Group, firsts}
use Rattle.dsec_spec.specs.Islands.{longest}
use Rattle.dsec_spec.specs.Redirection as redirection
use Rattle.dsec_spec.proofs.ChainExample.{example}
use Rattle.dsec_nodes.specs.World.{World, Replies}
use Rattle.dsec_nodes.specs.Causes.{NoDnskeyForAnchor}
use Rattle.dsec_nodes.specs.Nodes.{Node}
use Rattle.dsec_nodes.specs.Outcomes.{by_links, bogus_by}
use Rattle.dsec_nodes.specs.Alone.{alone}
use Rattle.dsec_nodes.specs.Machine.{Input, node, reply}
use Rattle.dsec_nodes.proofs.NodeExamples as nodes
use Rattle.dsec_course.specs.Course.{to_begin, Course, get_node, end_with}
use Rattle.dsec_course.specs.Advancing.{beginning, begun, going_on}
use Rattle.dsec_course.specs.Hearing.{first_run, AreHeard, after_heard}
use Rattle.dsec_course.proofs.RunLaws.{ends_from_nothing}

-- the address of `example.` is asked for, and told without a signature
abbrev pub message : List ℕ
message =
    0 ∷ 0 ∷ 132 ∷ 0 ∷ 0 ∷ 1 ∷ 0 ∷ 1 ∷ 0 ∷ 0 ∷ 0 ∷ 0
    ∷ 7 ∷ 101 ∷ 120 ∷ 97 ∷ 109 ∷ 112 ∷ 108 ∷ 101 ∷ 0 ∷ 0 ∷ 1 ∷ 0 ∷ 1
    ∷ 192 ∷ 12 ∷ 0 ∷ 1 ∷ 0 ∷ 1 ∷ 0 ∷ 0 ∷ 0 ∷ 60 ∷ 0 ∷ 4 ∷ 192 ∷ 0 ∷ 2 ∷ 1 ∷ []

abbrev address : Record
address = record { owner = example; class = 1; rtype = 1; ttl = 60; rdata = 192 ∷ 0 ∷ 2 ∷ 1 ∷ [] }

abbrev group : Group
group = record { owner = example; class = 1; rtype = 1; records = address ∷ []; signatures = []; extra = []; had_duplicate = false }

-- an anchor at `example.`, and a verifier that accepts nothing
abbrev pub w : World
w = record {
  accepts = λ flags protocol algorithm octets message signature. false;
  anchors = record { owner = example; class = 1; rtype = 48; ttl = 0; rdata = 1 ∷ 1 ∷ 3 ∷ 13 ∷ 1 ∷ 2 ∷ [] } ∷ [];
  bounds = nodes.w.bounds;
  now = 500;
}

abbrev pub c : Course
c = beginning 11 message (record { name = example; rtype = 1; class = 1 } ∷ []) 1 (group ∷ []) to_begin

pub it_begins : begun w.anchors 11 message ≡ Ok c
unfolding questions_of answers_of authorities_of many_of question_at record_at data_at parts_at name_at name_within firsts redirection.staying_from
it_begins = refl

-- the node of the island is to be got first
pub it_gets : (first_run w c).step ≡ get_node (place example)
unfolding going_on longest
it_gets = refl

abbrev inputs : List Input
inputs = node None ∷ reply None ∷ []

-- none is held, and the island's key set isn't told
pub it_hears : AreHeard w (λ (n : Node). ⊥) (first_run w c) inputs
unfolding going_on longest
it_hears = (tt, tt, (tt, tt, tt))

pub it_ends : (after_heard w (first_run w c) inputs).step ≡ end_with (Ok (bogus_by NoDnskeyForAnchor (by_links [])))
unfolding going_on longest
it_ends = refl

-- so the recursion comes to this by each table without that key set
pub it_is_alone : (replies : Replies) → replies (place example) 48 ≡ None
    → Ok (bogus_by NoDnskeyForAnchor (by_links [])) ≡ alone w 11 replies message
unfolding going_on longest
it_is_alone replies none =
    ends_from_nothing w 11 message c inputs (Ok (bogus_by NoDnskeyForAnchor (by_links []))) it_begins it_hears it_ends replies (none, tt)
