-- A walk for a single group, over nodes that were held before and an upstream (RFC 4035 4.5, 5).
use Rattle.std.specs.Prelude.{◌≡◌, ◌≤◌, ◌+◌, ℕ, List, [], ◌∷◌, ◌++◌, length, take, Option}
use Rattle.dsec_spec.specs.Names.{Place}
use Rattle.dsec_spec.specs.Outside.{Table}
use Rattle.dsec_nodes.specs.World.{World}
use Rattle.dsec_nodes.specs.Nodes.{Node}
use Rattle.dsec_nodes.specs.Machine.{Walking, Step, node_get, node_put, ask, done, Input, begin, node, stored, started, Answers, advanced}
use Rattle.dsec_course.specs.Hearing.{GivenFrom}
use Rattle.dsec_course.specs.Justified.{most_on}
use Rattle.dsec_lookup.specs.Outside.{Outside, AreCounted, WasHeld, HoldsMore}
use Rattle.dsec_lookup.specs.Finding.{CacheCall, got, put, LeadTo, AreStored}

-- how far a walk has come, its pending step, and the nodes that it has put, in order
pub record Trip : Type 0 where
  pub walk : Walking
  pub step : Step
  pub puts : List Node

-- the node that a step puts
abbrev pub put_in : Step → List Node
put_in (node_put name n) = n ∷ []
put_in (node_get name) = []
put_in (ask name rtype) = []
put_in (done n) = []

-- a walk with its next step, behind these puts
abbrev pub trip_at : List Node → Walking × Step → Trip
trip_at puts p = record { walk = p.0; step = p.1; puts = puts ++ put_in p.1 }

-- a walk from an island to a name that has begun
abbrev pub first_trip : World → Place → Place → Trip
first_trip w top target = trip_at [] (advanced w (started top target) begin)

-- it goes on by an input
abbrev pub trip_on : World → Trip → Input → Trip
trip_on w t input = trip_at t.puts (advanced w t.walk input)

-- inputs one after the other, each of which answers the pending step, and each node of which was held before, or put on the way
abbrev pub AreGiven : World → (Node → Type 0) → Trip → List Input → Type 0
AreGiven w held t [] = Unit {0}
AreGiven w held t (i ∷ inputs) = Answers t.walk.phase i × GivenFrom held t.puts i × AreGiven w held (trip_on w t i) inputs

-- how far it has come after these inputs
abbrev pub after_given : World → Trip → List Input → Trip
after_given w t [] = t
after_given w t (i ∷ inputs) = after_given w (trip_on w t i) inputs

-- the calls to caches that answer a step of a walk
abbrev pub calls_for : Step → Input → List CacheCall
calls_for (node_get name) (node found) = got name found ∷ []
calls_for (node_put name n) stored = put name n ∷ []
calls_for step input = []

-- and those by which the steps of a walk were answered
abbrev pub calls_in : World → Trip → List Input → List CacheCall
calls_in w t [] = []
calls_in w t (i ∷ inputs) = calls_for t.step i ++ calls_in w (trip_on w t i) inputs

-- A walk from an island to a name has come so far: it began and was given inputs, whose nodes were held when the call began or were put on the way; its
-- questions are counted, beside so many that found no memory, and what is held now was held then or was put, but for the node of the pending step. Caches
-- that forget none gave, at each call, what they held, and hold what they held with what was put, but where they have found no memory, which they count
pub record IsTrip (w : World) (table : Option Table) (before now : Outside) (top target : Place) (lost : ℕ) (t : Trip) : Type 0 where
  pub below : top ≡ take (length top) target
  pub shorter : length top ≤ length target
  pub inputs : List Input
  pub given : AreGiven w (WasHeld w.accepts before.held) (first_trip w top target) inputs
  pub comes_to : after_given w (first_trip w top target) inputs ≡ t
  pub counted : AreCounted table before now t.walk.asked lost
  pub few : length t.walk.asked + lost ≤ most_on (top, target)
  pub stored : List Node
  pub puts_are : t.puts ≡ stored ++ put_in t.step
  pub holds_more : HoldsMore before.held now.held stored
  pub found : LeadTo before.lasting (calls_in w (first_trip w top target) inputs) now.lasting
  pub lasts : AreStored before.lasting now.lasting stored
