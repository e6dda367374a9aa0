-- Where judging a message is, what it waits for, and what it does next (RFC 4035 4.3, 5).
use Rattle.std.specs.Prelude.{◌≡◌, ℕ, ◌==◌, List, [], ◌∷◌, ◌++◌, length, map, Option, Some, None, Result, if◌then◌else◌}
use Rattle.std.specs.List.{flat_map}
use Rattle.dsec_spec.specs.Names.{Place, place}
use Rattle.dsec_spec.specs.Messages.{Question}
use Rattle.dsec_spec.specs.Groups.{Group}
use Rattle.dsec_spec.specs.Islands.{island}
use Rattle.dsec_nodes.specs.World.{World}
use Rattle.dsec_nodes.specs.Nodes.{Node}
use Rattle.dsec_nodes.specs.Machine.{Question as Asked, Walking, Input, begin, node, stored, reply, name_at, asked_type, Answers}
use Rattle.dsec_nodes.specs.Judging.{has_no_set, is_indeterminate, Judged, target_of}
use Rattle.dsec_nodes.specs.Outcomes.{Outcome}
use Rattle.dsec_nodes.specs.Alone.{Refusal}

-- what a message waits for: to begin, to end with an outcome that was known when it was read, for a walk to the zone that is to have signed a
-- group, or for nothing
pub data Waiting : Type 0 where
  to_begin : Waiting
  to_end : Outcome → Waiting
  for_walk : Group → Walking → Waiting
  for_nothing : Waiting

-- Judging a message: its octets and questions; how many aliases are followed; how many of its groups are the answer section's; the groups that come
-- after the one it waits for, in order; those that are judged, in order; and the walks that have ended, in order (RFC 4035 4.3)
pub record Course : Type 0 where
  pub message : List ℕ
  pub questions : List Question
  pub most : ℕ
  pub answers : ℕ
  pub left : List Group
  pub judged : List Judged
  pub walks : List Walking
  pub waits : Waiting

-- a step: to get the node that is kept of a name, to put one, to ask for a set, or to end
pub data CourseStep : Type 0 where
  get_node : Place → CourseStep
  put_node : Place → Node → CourseStep
  ask_for : Place → ℕ → CourseStep
  end_with : Result Outcome Refusal → CourseStep

-- the input answers the pending step: where a walk is waited for, the walk's
abbrev pub CourseAnswers : Waiting → Input → Type 0
CourseAnswers to_begin begin = Unit {0}
CourseAnswers (to_end o) begin = Unit {0}
CourseAnswers (for_walk group s) i = Answers s.phase i
CourseAnswers _ _ = ⊥

-- what was asked for a message after an input: a reply is kept with the question that it answers
abbrev pub asked_by : Waiting → Input → List Asked
asked_by (for_walk group s) (reply octets) = record { name = name_at s; rtype = asked_type s.phase s.reached; reply = octets } ∷ []
asked_by _ _ = []

-- what is waited for is what answers the step, and a reply is kept with the question that the step asks; nothing is waited for at the end alone
abbrev pub Awaits : CourseStep → Waiting → Type 0
Awaits (get_node name) waits = (o : Option Node) → CourseAnswers waits (node o)
Awaits (put_node name n) waits = CourseAnswers waits stored
Awaits (ask_for name rtype) waits =
    (octets : Option (List ℕ)) → CourseAnswers waits (reply octets) × (asked_by waits (reply octets) ≡ record { name = name; rtype = rtype; reply = octets } ∷ [])
Awaits (end_with r) waits = waits ≡ for_nothing

-- the group and the walk that are waited for, if there is one
abbrev pub group_in : Waiting → List Group
group_in (for_walk group s) = group ∷ []
group_in to_begin = []
group_in (to_end o) = []
group_in for_nothing = []

abbrev pub walk_in : Waiting → List Walking
walk_in (for_walk group s) = s ∷ []
walk_in to_begin = []
walk_in (to_end o) = []
walk_in for_nothing = []

-- the groups of a message in order: those that are judged, the one that is waited for, and those after it (RFC 2181 5)
abbrev pub groups_in : Course → List Group
groups_in c = map (λ j. j.group) c.judged ++ (group_in c.waits ++ c.left)

-- the walks of a message in order
abbrev pub walks_in : Course → List Walking
walks_in c = c.walks ++ walk_in c.waits

-- the questions that were asked for a message, each with its reply, in order
abbrev pub asked_in : Course → List Asked
asked_in c = flat_map (λ s. s.asked) (walks_in c)

-- how a group is judged: at once, or by the node that a walk from its island comes to
pub data Way : Type 0 where
  at_once : Judged → Way
  by_walk : Place → Way

-- a group with records, by its island: without one it is Indeterminate (RFC 4033 5)
abbrev pub way_under : Group → Option Place → Way
way_under group None = at_once (record { group = group; signer = target_of group None; finding = is_indeterminate })
way_under group (Some top) = by_walk top

-- how a group is judged; signatures alone have no set (RFC 4035 2.2)
abbrev pub way_of : World → Group → Way
way_of w group =
    if length group.records == 0 then at_once (record { group = group; signer = []; finding = has_no_set })
    else way_under group (island w.anchors (place group.owner) group.rtype)
