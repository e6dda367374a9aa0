-- What a call sees of the outside: the nodes that caches hold, and the counts of questions and of failures (RFC 4035 4.3, 4.5).
use Rattle.std.specs.Prelude.{◌≡◌, ◌⊎◌, ℕ, ◌+◌, ◌≤◌, ◌==◌, ◌&&◌, List, [], ◌∷◌, ◌++◌, length, filter, map, find, is_none, Contains, Option, Some, None, IfSome}
use Rattle.dsec_spec.specs.Names.{Place, place, same_place}
use Rattle.dsec_spec.specs.Records.{Record}
use Rattle.dsec_spec.specs.Accepts.{Accepts}
use Rattle.dsec_spec.specs.Outside.{Entry, Table, reply_of, risen, risen_by}
use Rattle.dsec_nodes.specs.World.{World, Replies}
use Rattle.dsec_nodes.specs.Nodes.{Node, Kept}
use Rattle.dsec_nodes.specs.Moments.{at_moment, MayCount, IsSteadyWay}
use Rattle.dsec_nodes.specs.Machine.{Question as Asked, Input, node, stored, reply}
use Rattle.dsec_nodes.specs.Likeness.{Likeness, but_for_times}
use Rattle.dsec_nodes.specs.InStep.{AskedOf}
use Rattle.dsec_node.specs.Caches.{Held, Lasting, IsHeld, Keeps, Adds}
use Rattle.dsec_lookup.specs.Finding.{GetLeads, PutLeads}
use Rattle.dsec_course.specs.Course.{CourseStep, get_node, put_node, ask_for}
use Rattle.dsec_course.specs.Hearing.{IsOfTable}

-- the replies of an upstream's table (RFC 1035 4.1)
abbrev pub replies_of : Table → Replies
replies_of table p rtype = reply_of (find (λ entry. same_place (place entry.name) p && (entry.rtype == rtype)) table)

-- what a call sees of the outside: which nodes are held, where that is told; the same of caches that forget none, and how many gets and puts have found
-- no memory; what the upstream has heard, where that is told; and how many questions were asked and have failed
pub record Outside : Type 0 where
  pub held : Option Held
  pub lasting : Option Lasting
  pub asked : ℕ
  pub faults : ℕ
  pub heard : Option (List Entry)

-- a question that was heard with its reply, by its place
abbrev pub asked_by : Entry → Asked
asked_by entry = record { name = place entry.name; rtype = entry.rtype; reply = entry.reply }

-- these questions with their replies were heard, in this order, and nothing besides, where it is told what was heard
abbrev pub HeardMore : Option (List Entry) → Option (List Entry) → List Asked → Type 0
HeardMore None now asked = now ≡ None
HeardMore (Some before) now asked = (more : List Entry) × (now ≡ Some (before ++ more)) × (map asked_by more ≡ asked)

-- how many of these questions have failed
abbrev pub failures : List Asked → ℕ
failures asked = length (filter (λ q. is_none q.reply) asked)

-- These questions were asked, each with the reply that the upstream's table has to it, where that is told, and they are what it has heard, where
-- it tells that; and so many more, which found no memory: the counts rose by them, and by those that failed (RFC 1035 4.1)
pub record AreCounted (table : Option Table) (before after : Outside) (asked : List Asked) (lost : ℕ) : Type 0 where
  pub questions : after.asked ≡ risen_by before.asked (length asked + lost)
  pub faults : after.faults ≡ risen_by before.faults (failures asked)
  pub told : IfSome table (λ t. AskedOf (replies_of t) asked)
  pub heard : HeardMore before.heard after.heard asked

-- a node stands among those that are held; where it isn't told which are, any may
abbrev pub IsAmong : Option Held → Node → Type 0
IsAmong None n = Unit {0}
IsAmong (Some held) n = (p : Place) × (held p ≡ Some n)

-- a node was held, and so is kept (RFC 4035 4.5)
abbrev pub WasHeld : Accepts → Option Held → Node → Type 0
WasHeld accepts told n = Kept accepts n × IsAmong told n

-- each node that is held afterwards was held before, or has been put and is held for its own name, and caches tell as before
abbrev pub HoldsMore : Option Held → Option Held → List Node → Type 0
HoldsMore None new puts = new ≡ None
HoldsMore (Some old) None puts = ⊥
HoldsMore (Some old) (Some new) puts = (p : Place) (n : Node) → new p ≡ Some n → (old p ≡ Some n) ⊎ (Contains puts n × (n.name ≡ p))

-- it is told which nodes are held, and each that may count is of a table, wholly or but for times
abbrev pub HoldsAlike : Likeness → World → Replies → Option Held → Type 0
HoldsAlike like w replies None = ⊥
HoldsAlike like w replies (Some held) = (p : Place) (n : Node) → held p ≡ Some n → IsOfTable like w replies n

-- it is told which nodes are held, and each that may count is of a table, whenever it was made and however long it is kept
abbrev pub HoldsTable : World → Replies → Option Held → Type 0
HoldsTable w replies held = HoldsAlike but_for_times w replies held

-- where it is told which nodes are held: each that may count at another moment, or later than that, hasn't run out at the moment of judging, and on
-- the way to it each signature in a table's replies is in its period at both moments, or at neither (RFC 4034 3.1.5, RFC 4035 4.5)
abbrev pub HoldsSteady : World → ℕ → Replies → Option Held → Type 0
HoldsSteady w other replies None = Unit {0}
HoldsSteady w other replies (Some held) =
    (p : Place) (n : Node) → held p ≡ Some n → (top : Place) → MayCount (at_moment w other) top n
    → (w.now ≤ n.made + n.valid_for) × IsSteadyWay w other replies top n.name

-- two that judge by other limits, or have no anchor in common (RFC 4033 2)
abbrev pub AreApart : World → World → Type 0
AreApart w u = w.bounds ≡ u.bounds → (anchor : Record) → Contains w.anchors anchor → Contains u.anchors anchor → ⊥

-- a question was asked, and failed or not: a failure counts as one
abbrev pub faults_after : ℕ → Option (List ℕ) → ℕ
faults_after before None = risen before
faults_after before (Some octets) = before

-- the counts of questions and of failures, and what was heard, are as they were
abbrev pub IsUnasked : Outside → Outside → Type 0
IsUnasked before after = (after.asked ≡ before.asked) × (after.faults ≡ before.faults) × (after.heard ≡ before.heard)

-- A step was served by this input: a node that is held for the name, or none, and by caches that forget none it is what they hold, unless they find no
-- memory; a node put, which may be forgotten, but not by these where they find memory; or the reply to the question, which the upstream's table has
-- where that is told, and which counts and is heard
abbrev pub IsServed : Accepts → Option Table → Outside → Outside → CourseStep → Input → Type 0
IsServed accepts table before after (get_node name) (node o) =
    Keeps before.held after.held × GetLeads before.lasting after.lasting name o × IsUnasked before after
    × IfSome o (λ n. Kept accepts n × IsHeld before.held name n)
IsServed accepts table before after (put_node name n) stored =
    Adds before.held after.held name n × PutLeads before.lasting after.lasting name n × IsUnasked before after
IsServed accepts table before after (ask_for name rtype) (reply octets) =
    (after.held ≡ before.held) × (after.lasting ≡ before.lasting) × (after.asked ≡ risen before.asked) × (after.faults ≡ faults_after before.faults octets)
    × HeardMore before.heard after.heard (record { name = name; rtype = rtype; reply = octets } ∷ []) × IfSome table (λ t. replies_of t name rtype ≡ octets)
IsServed accepts table before after _ _ = ⊥
