-- Walks in step with the recursion, by the replies and the nodes that they were given (RFC 4035 5).
use Rattle.std.specs.Prelude.{◌≡◌, ℕ, suc, ◌+◌, ◌-◌, ◌*◌, ◌≤◌, List, length, take, Option, Some, None}
use Rattle.std.specs.List.{AllByRecursion}
use Rattle.dsec_spec.specs.Names.{Place}
use Rattle.dsec_spec.specs.Numbers.{DS}
use Rattle.dsec_nodes.specs.World.{World, Replies}
use Rattle.dsec_nodes.specs.Nodes.{Node}
use Rattle.dsec_nodes.specs.Replies.{read_reply}
use Rattle.dsec_nodes.specs.ByDs.{asks, by_ds_reply}
use Rattle.dsec_nodes.specs.Walk.{Reached, held_keys, way, node_of}
use Rattle.dsec_nodes.specs.Likeness.{Likeness, Alike, AlikeReached}
use Rattle.dsec_nodes.specs.Machine.{Question, Phase, begins, gets, asks_first, asks_keys, puts, ends, Walking, Step, node_get, node_put, ask, done, name_at, asked_type, IsAhead}

-- the replies that were given are those of a table
abbrev pub AskedOf : Replies → List Question → Type 0
AskedOf replies asked = AllByRecursion (λ q. replies q.name q.rtype ≡ q.reply) asked

-- the nodes that were given are of the table: each is like the one that the recursion makes at its name by these replies
abbrev pub GotOf : Likeness → World → Replies → Place → List Node → Type 0
GotOf like w replies top got = AllByRecursion (λ n. Alike like (way w replies top n.name (length n.name - length top)).node n) got

-- what a walk has reached is like what the recursion reaches there
abbrev pub ReachedIs : Likeness → World → Replies → Walking → Option Reached → Type 0
ReachedIs like w replies s None = s.behind ≡ 0
ReachedIs like w replies s (Some r) =
    (k : ℕ) × (s.behind ≡ suc k) × (length s.top + k ≤ length s.target) × AlikeReached like (way w replies s.top s.target k) r

-- where a key set is waited for, its DS set is that of the reply
abbrev pub PendingIs : World → Replies → Walking → Phase → Option Reached → Type 0
PendingIs w replies s (asks_keys pending) (Some r) =
    by_ds_reply w r.zone (held_keys r.zone.standing) (name_at s) (read_reply (replies (name_at s) DS)) ≡ asks pending
PendingIs w replies s (asks_keys pending) None = ⊥
PendingIs w replies s begins o = Unit {0}
PendingIs w replies s gets o = Unit {0}
PendingIs w replies s asks_first o = Unit {0}
PendingIs w replies s puts o = Unit {0}
PendingIs w replies s ends o = Unit {0}

-- a walk in step with the recursion: wherever the replies it was given are a table's, and the nodes are of it, wholly or but for times, what is
-- reached and what is waited for are so the recursion's
pub record InStep (w : World) (s : Walking) : Type 0 where
  pub below : s.top ≡ take (length s.top) s.target
  pub shorter : length s.top ≤ length s.target
  pub is_ahead : IsAhead s s.phase
  pub agrees : (like : Likeness) (replies : Replies) → AskedOf replies s.asked → GotOf like w replies s.top s.got
      → ReachedIs like w replies s s.reached × PendingIs w replies s s.phase s.reached

-- what a step says is like what the recursion says; its question is the one under which the reply is kept
abbrev pub StepIs : Likeness → World → Replies → Walking → Step → Type 0
StepIs like w replies s (node_get name) = name ≡ name_at s
StepIs like w replies s (node_put name n) = Alike like (way w replies s.top name (length name - length s.top)).node n
StepIs like w replies s (ask name rtype) = (name ≡ name_at s) × (rtype ≡ asked_type s.phase s.reached)
StepIs like w replies s (done n) = Alike like (node_of w replies s.top s.target) n

-- a walk goes on in step, and what it does next is what the recursion does
pub record Goes (w : World) (p : Walking × Step) : Type 0 where
  pub in_step : InStep w p.0
  pub says : (like : Likeness) (replies : Replies) → AskedOf replies p.0.asked → GotOf like w replies p.0.top p.0.got → StepIs like w replies p.0 p.1

-- how many questions a walk asks at most until so many names are behind it: one at the island, and two at each name below (RFC 4035 5.2)
abbrev pub most_asked : ℕ → ℕ
most_asked behind = 2 * behind - 1

-- a walk that waits for a key set has asked one question more
abbrev pub one_more : Phase → ℕ
one_more (asks_keys pending) = 1
one_more begins = 0
one_more gets = 0
one_more asks_first = 0
one_more puts = 0
one_more ends = 0

-- where something is reached, the island is behind
abbrev pub HasBegun : Walking → Option Reached → Type 0
HasBegun s None = Unit {0}
HasBegun s (Some r) = 1 ≤ s.behind

-- a key set that a DS set is to admit is waited for below an island alone
abbrev pub WaitsBelow : Phase → Option Reached → Type 0
WaitsBelow (asks_keys pending) None = ⊥
WaitsBelow (asks_keys pending) (Some r) = Unit {0}
WaitsBelow begins o = Unit {0}
WaitsBelow gets o = Unit {0}
WaitsBelow asks_first o = Unit {0}
WaitsBelow puts o = Unit {0}
WaitsBelow ends o = Unit {0}

-- a walk has asked no more questions than that
pub record IsCounted (s : Walking) : Type 0 where
  pub begun : HasBegun s s.reached
  pub waits : WaitsBelow s.phase s.reached
  pub counted : length s.asked ≤ most_asked s.behind + one_more s.phase
