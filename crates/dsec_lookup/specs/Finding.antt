-- What caches that forget none give and hold, call by call (RFC 4035 4.5).
use Rattle.std.specs.Prelude.{◌≡◌, ◌⊎◌, ◌+◌, ◌≤◌, ℕ, List, [], ◌∷◌, length, Option, Some, None}
use Rattle.dsec_spec.specs.Names.{Place}
use Rattle.dsec_spec.specs.Outside.{risen_by}
use Rattle.dsec_nodes.specs.Nodes.{Node}
use Rattle.dsec_nodes.specs.Machine.{Input, node, stored}
use Rattle.dsec_node.specs.Caches.{Held, Lasting, IsFound, Becomes, Wants, with_node, with_nodes}
use Rattle.dsec_course.specs.Course.{CourseStep, get_node, put_node}

-- by a get: it gives the node that they hold for the name, and none where they hold none; or it has found no memory, which they count, and gives none;
-- they hold what they held
abbrev pub GetLeads : Option Lasting → Option Lasting → Place → Option Node → Type 0
GetLeads old new name found = (IsFound old name found × Becomes old new (λ held. held)) ⊎ ((found ≡ None) × Wants old new)

-- by a put: they hold what they held, with the node for the name; or it has found no memory, which they count, and they hold what they held
abbrev pub PutLeads : Option Lasting → Option Lasting → Place → Node → Type 0
PutLeads old new name n = Becomes old new (λ held. with_node held name n) ⊎ Wants old new

-- a call to caches: for a name a node was got, or none; or one was put
pub data CacheCall : Type 0 where
  got : Place → Option Node → CacheCall
  put : Place → Node → CacheCall

-- a call leads from what they hold to what they hold then
abbrev pub LeadsTo : Option Lasting → CacheCall → Option Lasting → Type 0
LeadsTo old (got name found) new = GetLeads old new name found
LeadsTo old (put name n) new = PutLeads old new name n

-- and so do calls, one after the other
abbrev pub LeadTo : Option Lasting → List CacheCall → Option Lasting → Type 0
LeadTo old [] new = new ≡ old
LeadTo old (call ∷ calls) new = (now : Option Lasting) × LeadsTo old call now × LeadTo now calls new

-- the calls that answer a step
abbrev pub calls_by : CourseStep → Input → List CacheCall
calls_by (get_node name) (node found) = got name found ∷ []
calls_by (put_node name n) stored = put name n ∷ []
calls_by step input = []

-- a part of a list of nodes, in its order
abbrev pub IsPart : List Node → List Node → Type 0
IsPart [] whole = Unit {0}
IsPart (m ∷ part) [] = ⊥
IsPart (m ∷ part) (n ∷ whole) = ((m ≡ n) × IsPart part whole) ⊎ IsPart (m ∷ part) whole

-- Once these nodes were put, each for its own name, one after the other, what is held is what was held with some of them: the others are no more than the
-- calls that have found no memory since, all of which are counted
pub record Stored (old new : Lasting) (puts : List Node) : Type 0 where
  pub kept : List Node
  pub part : IsPart kept puts
  pub held : (p : Place) → new.held p ≡ with_nodes old.held kept p
  pub wants : ℕ
  pub counted : new.wants ≡ risen_by old.wants wants
  pub others : length puts ≤ length kept + wants

-- the same, as long as they tell what they hold
abbrev pub AreStored : Option Lasting → Option Lasting → List Node → Type 0
AreStored None new puts = new ≡ None
AreStored (Some old) None puts = Unit {0}
AreStored (Some old) (Some new) puts = Stored old new puts

-- calls that have all found memory: each get gave what was held then, and each put is held
abbrev pub AreExact : Held → List CacheCall → Held → Type 0
AreExact held [] left = (p : Place) → left p ≡ held p
AreExact held (got name found ∷ calls) left = (found ≡ held name) × AreExact held calls left
AreExact held (put name n ∷ calls) left = AreExact (with_node held name n) calls left
