-- What the program writes of a step, what answers one at once, and to which message an event goes.
use Rattle.std.specs.Prelude.{◌≡◌, ℕ, List, [], ◌∷◌, ◌++◌, length, codes, decimal, Option, Some, None, Ok, IfSome}
use Rattle.std.specs.Arc.{arc_value}
use Rattle.std.specs.Option.{option_map}
use Rattle.dsec_spec.specs.Names.{Labels, place}
use Rattle.dsec_spec.specs.Numbers.{IN}
use Rattle.dsec_spec.specs.Records.{Record}
use Rattle.dsec_number.specs.Words.{type_words, word_of}
use Rattle.dsec_name.specs.NameDisplay.{name_text}
use Rattle.dsec_alias.specs.States.{State, secure, insecure, bogus, indeterminate}
use Rattle.dsec_crypto.specs.StandIn.{stand_in}
use Rattle.dsec_nodes.specs.Nodes.{Kept}
use Rattle.dsec_anchors.specs.Texts.{anchors_in}
use Rattle.dsec_course.specs.Advancing.{begun as begun_of}
use Rattle.dsec_node.specs.Caches.{Held, Lasting, IsHeld, Keeps, Adds}
use Rattle.dsec_lookup.specs.Finding.{GetLeads, PutLeads}
use Rattle.dsec_node.specs.Configs.{default_settings}
use Rattle.dsec_walk.specs.declared.steps.Input.{Input}
use Rattle.dsec_walk.specs.declared.steps.Input.TheVariants as inputs
use Rattle.dsec_core.specs.Validating.{Validating, begun_as}
use Rattle.dsec_core.specs.declared.step.Step.{Step}
use Rattle.dsec_core.specs.declared.step.Step.TheVariants.{NodeGet, NodePut, Ask, Done}
use Rattle.dsec_uses_steps.specs.declared.event.Event.{Event}
use Rattle.dsec_uses_steps.specs.declared.event.Event.TheVariants as events

-- a verdict's state (RFC 4033 5)
abbrev pub state_text : State → List ℕ
state_text secure = codes "Secure"
state_text insecure = codes "Insecure"
state_text bogus = codes "Bogus"
state_text indeterminate = codes "Indeterminate"

-- the question that the message with an index asks
abbrev pub ask_text : ℕ → Labels → ℕ → List ℕ
ask_text index name rtype = decimal index ++ codes " asks " ++ name_text name ++ codes " " ++ word_of type_words (codes "TYPE") rtype ++ codes "\n"

-- what it is judged to be
abbrev pub end_text : ℕ → State → List ℕ
end_text index state = decimal index ++ codes " is " ++ state_text state ++ codes "\n"

-- the line of a step, and none where a node is got or put
abbrev pub step_text : {V : Type 0} → ℕ → Step V → List ℕ
step_text index (Ask name rtype) = ask_text index name rtype
step_text index (Done outcome) = end_text index outcome.state
step_text index (NodeGet name) = []
step_text index (NodePut name node) = []

-- What answers a step at once: a node that is held for the name, or none, and by caches that forget none it is what they hold, unless they find no
-- memory; that a node was put, which these hold then, unless they find none; nothing a question, nor the end. No other node is held then than before.
abbrev pub IsAtHand : {V : Type 0} → Option Held → Option Held → Option Lasting → Option Lasting → Step V → Option (Input V) → Type 0
IsAtHand held left before after (NodeGet name) (Some (inputs.Node found)) =
    IfSome found (λ node. Kept stand_in (arc_value node) × IsHeld held (place name) (arc_value node)) × Keeps held left
    × GetLeads before after (place name) (option_map (λ node. arc_value node) found)
IsAtHand held left before after (NodePut name node) (Some inputs.Stored) =
    Adds held left (place name) (arc_value node) × PutLeads before after (place name) (arc_value node)
IsAtHand held left before after (Ask name rtype) None = (left ≡ held) × (after ≡ before)
IsAtHand held left before after (Done outcome) None = (left ≡ held) × (after ≡ before)
IsAtHand held left before after _ _ = ⊥

-- a message is to be judged at this moment from the anchors of this text by the default settings, and nothing was asked for it yet
abbrev pub IsBegun : List ℕ → ℕ → List ℕ → Validating → Type 0
IsBegun text moment message it =
    (anchors : List Record) × (anchors_in (Some IN) text ≡ Ok anchors)
    × (begun_as anchors default_settings moment (begun_of anchors default_settings.max_cname_dname message) ≡ Ok it)

-- a message that is to be judged so is put behind the others
abbrev pub IsPut : List ℕ → ℕ → List ℕ → List Validating → List Validating → Type 0
IsPut text moment message before after = (it : Validating) × (after ≡ before ++ it ∷ []) × IsBegun text moment message it

-- an event goes to the message with this index: a message to itself, which is put behind the others, and a reply to the one that it names, where the
-- messages are what they were
abbrev pub GoesTo : {V : Type 0} → List ℕ → ℕ → Event → List Validating → List Validating → ℕ × Input V → Type 0
GoesTo text moment (events.Message message) before after (index, input) =
    (index ≡ length before) × (input ≡ inputs.Begin) × IsPut text moment message before after
GoesTo text moment (events.Reply named reply) before after (index, input) = (index ≡ named) × (input ≡ inputs.Reply reply) × (after ≡ before)
