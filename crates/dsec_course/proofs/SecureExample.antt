-- A message whose signed answer stands at an anchor: the island's key set is asked for, its node is put, and the message is Secure.
use Rattle.std.proofs.Common.{◌≡◌, ℕ, List, [], ◌∷◌, ◌++◌, length, map, Option, Some, None, Ok, Err, refl}
use Rattle.std.specs.Prelude.{false}
use Rattle.dsec_spec.specs.Names.{place, wire_octets}
use Rattle.dsec_spec.specs.RecordData.{labels_in, name_in}
use Rattle.dsec_spec.specs.Records.{Record, key_octets, rrsig_octets, rrsig_of}
use Rattle.dsec_spec.specs.Messages.{question_at, record_at, data_at, parts_at, questions_of, answers_of, authorities_of, opt_of, first_opt}
use Rattle.dsec_spec.specs.Reading.{many_of}
use Rattle.dsec_spec.specs.WireNames.{name_at, name_within}
use Rattle.dsec_spec.specs.Signed.{signs}
use Rattle.dsec_spec.specs.Groups.{Group, firsts}
use Rattle.dsec_spec.specs.Lasting.{least_ttl}
use Rattle.dsec_spec.specs.Islands.{longest}
use Rattle.dsec_spec.specs.Redirection as redirection
use Rattle.dsec_spec.proofs.ChainExample.{example as parent, zone_key}
use Rattle.dsec_alias.specs.Following.{do_cname_dname}
use Rattle.dsec_nodes.specs.World.{World}
use Rattle.dsec_nodes.specs.Nodes.{Node}
use Rattle.dsec_nodes.specs.Outcomes.{State, secure}
use Rattle.dsec_nodes.specs.Machine.{Question as Asked, Input, node, stored, reply}
use Rattle.dsec_nodes.proofs.NodeExamples as nodes
use Rattle.dsec_course.specs.Course.{to_begin, Course, CourseStep, get_node, put_node, ask_for, end_with, asked_in}
use Rattle.dsec_course.specs.Advancing.{beginning, begun, going_on}
use Rattle.dsec_course.specs.Hearing.{first_run, AreHeard, after_heard}

-- an anchor: the DNSKEY record of `example.`
abbrev pub w : World
w = record {
  accepts = nodes.w.accepts;
  anchors = record { owner = parent; class = 1; rtype = 48; ttl = 0; rdata = key_octets zone_key } ∷ [];
  bounds = nodes.w.bounds;
  now = 500;
}

-- the data of a signature over a set of `example.` by its key
abbrev signature : ℕ → List ℕ
signature covered = rrsig_octets (record {
  covered = covered;
  algorithm = 13;
  labels = 1;
  original_ttl = 3600;
  expiration = 1100;
  inception = 0;
  tag = 1296;
  signer = parent;
  signature = 9 ∷ [];
})

-- a record of `example.` in a message, with TTL 300
abbrev on_wire : ℕ → List ℕ → List ℕ
on_wire rtype rdata = wire_octets parent ++ 0 ∷ rtype ∷ 0 ∷ 1 ∷ 0 ∷ 0 ∷ 1 ∷ 44 ∷ 0 ∷ length rdata ∷ rdata

-- the signed address of `example.`
abbrev pub message : List ℕ
message =
    (0 ∷ 0 ∷ 132 ∷ 0 ∷ 0 ∷ 1 ∷ 0 ∷ 2 ∷ 0 ∷ 0 ∷ 0 ∷ 0 ∷ []) ++ (wire_octets parent ++ 0 ∷ 1 ∷ 0 ∷ 1 ∷ [])
    ++ (on_wire 1 (192 ∷ 0 ∷ 2 ∷ 1 ∷ []) ++ on_wire 46 (signature 1))

-- the signed keys of `example.`
abbrev pub key_reply : List ℕ
key_reply =
    (0 ∷ 0 ∷ 132 ∷ 0 ∷ 0 ∷ 0 ∷ 0 ∷ 2 ∷ 0 ∷ 0 ∷ 0 ∷ 0 ∷ []) ++ (on_wire 48 (key_octets zone_key) ++ on_wire 46 (signature 48))

abbrev record_of : ℕ → List ℕ → Record
record_of rtype rdata = record { owner = parent; class = 1; rtype = rtype; ttl = 300; rdata = rdata }

abbrev address : Group
address = record {
  owner = parent;
  class = 1;
  rtype = 1;
  records = record_of 1 (192 ∷ 0 ∷ 2 ∷ 1 ∷ []) ∷ [];
  signatures = record_of 46 (signature 1) ∷ [];
  extra = [];
  had_duplicate = false;
}

abbrev pub c : Course
c = beginning 11 message (record { name = parent; rtype = 1; class = 1 } ∷ []) 1 (address ∷ []) to_begin

pub it_begins : begun w.anchors 11 message ≡ Ok c
unfolding questions_of answers_of authorities_of many_of question_at record_at data_at parts_at name_at name_within firsts redirection.staying_from
it_begins = refl

abbrev inputs : List Input
inputs = node None ∷ reply (Some key_reply) ∷ stored ∷ []

-- the first of nodes, if there is one
abbrev first : List Node → Option Node
first [] = None
first (n ∷ ns) = Some n

-- the state with which a step ends
abbrev state_at : CourseStep → Option State
state_at (end_with (Ok o)) = Some o.state
state_at (end_with (Err e)) = None
state_at (get_node name) = None
state_at (put_node name n) = None
state_at (ask_for name rtype) = None

pub it_hears : AreHeard w (λ (n : Node). ⊥) (first_run w c) inputs
unfolding going_on longest questions_of answers_of authorities_of many_of question_at record_at data_at parts_at name_at name_within firsts rrsig_of name_in labels_in signs least_ttl
it_hears = (tt, tt, (tt, tt, (tt, tt, tt)))

pub it_is_secure : state_at (after_heard w (first_run w c) inputs).step ≡ Some secure
unfolding going_on longest questions_of answers_of authorities_of many_of question_at record_at data_at parts_at name_at name_within firsts rrsig_of name_in labels_in signs least_ttl opt_of first_opt do_cname_dname
it_is_secure = refl

-- one question was asked, and one node put
abbrev asked : Asked
asked = record { name = place parent; rtype = 48; reply = Some key_reply }

pub it_asks : asked_in (after_heard w (first_run w c) inputs).course ≡ asked ∷ []
unfolding going_on longest questions_of answers_of authorities_of many_of question_at record_at data_at parts_at name_at name_within firsts rrsig_of name_in labels_in signs least_ttl
it_asks = refl

pub it_puts : map (λ (n : Node). n.name) (after_heard w (first_run w c) inputs).puts ≡ place parent ∷ []
unfolding going_on longest questions_of answers_of authorities_of many_of question_at record_at data_at parts_at name_at name_within firsts rrsig_of name_in labels_in signs least_ttl
it_puts = refl

-- over the node that was put, the same message asks nothing
abbrev again : List Input
again = node (first (after_heard w (first_run w c) inputs).puts) ∷ []

pub again_secure : state_at (after_heard w (first_run w c) again).step ≡ Some secure
unfolding going_on longest questions_of answers_of authorities_of many_of question_at record_at data_at parts_at name_at name_within firsts rrsig_of name_in labels_in signs least_ttl opt_of first_opt do_cname_dname
again_secure = refl

pub again_asks : asked_in (after_heard w (first_run w c) again).course ≡ []
unfolding going_on longest questions_of answers_of authorities_of many_of question_at record_at data_at parts_at name_at name_within firsts rrsig_of name_in labels_in signs least_ttl
again_asks = refl
