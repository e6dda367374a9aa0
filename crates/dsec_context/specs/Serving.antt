-- A message judged a step at a time over caches and an upstream, as far as it has come (RFC 4035 4.3, 4.5).
use Rattle.std.specs.Prelude.{◌≡◌, ℕ, List, [], ◌∷◌, ◌++◌, Option, Ok}
use Rattle.dsec_spec.specs.Outside.{Table}
use Rattle.dsec_nodes.specs.World.{World}
use Rattle.dsec_nodes.specs.Nodes.{Node}
use Rattle.dsec_nodes.specs.Machine.{Input}
use Rattle.dsec_course.specs.Course.{Course, asked_in}
use Rattle.dsec_course.specs.Advancing.{begun}
use Rattle.dsec_course.specs.Hearing.{Run, put_by, first_run, ran_on, AreHeard, after_heard}
use Rattle.dsec_context.specs.Outside.{Outside, AreCounted, WasHeld, HoldsMore}
use Rattle.dsec_context.specs.Finding.{CacheCall, calls_by, LeadTo, AreStored}

-- the calls to caches by which a message's steps were answered
abbrev pub calls_in : World → Run → List Input → List CacheCall
calls_in w r [] = []
calls_in w r (i ∷ inputs) = calls_by r.step i ++ calls_in w (ran_on w r i) inputs

-- A message has come so far: it began and heard inputs, whose nodes were held when the call began or were put on the way; its questions are counted, and
-- what is held now was held then or was put, but for the node of the pending step. Caches that forget none gave, at each call, what they held, and hold what
-- they held with what was put, but where they have found no memory, which they count
pub record IsServing (w : World) (most : ℕ) (message : List ℕ) (table : Option Table) (before now : Outside) (r : Run) : Type 0 where
  pub course : Course
  pub begins : begun w.anchors most message ≡ Ok course
  pub inputs : List Input
  pub heard : AreHeard w (WasHeld w.accepts before.held) (first_run w course) inputs
  pub comes_to : after_heard w (first_run w course) inputs ≡ r
  pub counted : AreCounted table before now (asked_in r.course) 0
  pub stored : List Node
  pub puts_are : r.puts ≡ stored ++ put_by r.step
  pub holds_more : HoldsMore before.held now.held stored
  pub found : LeadTo before.lasting (calls_in w (first_run w course) inputs) now.lasting
  pub lasts : AreStored before.lasting now.lasting stored
