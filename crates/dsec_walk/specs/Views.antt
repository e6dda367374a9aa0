-- Steps, inputs, questions and settings of the code as the definitions have them.
use Rattle.std.specs.Option.{option_map}
use Rattle.std.specs.Arc.{arc_value}
use Rattle.dsec_spec.specs.Accepts.{Accepts}
use Rattle.dsec_spec.specs.Names.{place}
use Rattle.dsec_nodes.specs.World.{World}
use Rattle.dsec_nodes.specs.Walk as walks
use Rattle.dsec_nodes.specs.Machine as machine
use Rattle.dsec_node.specs.Views.{bounds_of, world_of}
use Rattle.dsec_walk.specs.declared.setting.Setting.{Setting}
use Rattle.dsec_walk.specs.declared.steps.Step.{Step}
use Rattle.dsec_walk.specs.declared.steps.Step.TheVariants.{NodeGet, NodePut, Ask, Done}
use Rattle.dsec_walk.specs.declared.steps.Input.{Input}
use Rattle.dsec_walk.specs.declared.steps.Input.TheVariants.{Begin, Node, Stored, Reply}
use Rattle.dsec_walk.specs.declared.steps.Question.{Question}
use Rattle.dsec_walk.specs.declared.steps.Phase.{Phase}
use Rattle.dsec_walk.specs.declared.steps.Phase.TheVariants.{Begins, Gets, AsksFirst, AsksKeys, Puts, Ends}
use Rattle.dsec_walk.specs.declared.reached.Here.{Here}

-- what judging goes by, with the signatures that are accepted (RFC 4033 2)
abbrev pub world_in : Accepts → Setting → World
world_in accepts it = world_of accepts it.anchors.now (bounds_of it.config.now) it.moment

-- a step, case by case
abbrev pub step_view : {V : Type 0} → Step V → machine.Step
step_view (NodeGet name) = machine.node_get (place name)
step_view (NodePut name node) = machine.node_put (place name) (arc_value node)
step_view (Ask name rtype) = machine.ask (place name) rtype
step_view (Done node) = machine.done (arc_value node)

-- what answers a step, case by case
abbrev pub input_view : {V : Type 0} → Input V → machine.Input
input_view Begin = machine.begin
input_view (Node found) = machine.node (option_map (λ n. arc_value n) found)
input_view Stored = machine.stored
input_view (Reply octets) = machine.reply octets

-- a question that was asked, and the octets of its reply, or none where it failed
abbrev pub question_view : Question → machine.Question
question_view q = record { name = place q.name; rtype = q.rtype; reply = q.reply }

-- what is waited for, case by case
abbrev pub phase_view : Phase → machine.Phase
phase_view Begins = machine.begins
phase_view Gets = machine.gets
phase_view AsksFirst = machine.asks_first
phase_view (AsksKeys pending) = machine.asks_keys pending
phase_view Puts = machine.puts
phase_view Ends = machine.ends

-- what is reached
abbrev pub here_view : {V : Type 0} → Here V → walks.Reached
here_view it = record { zone = arc_value it.zone; node = arc_value it.node }
