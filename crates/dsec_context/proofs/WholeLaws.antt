-- What a context gave and holds after a call in which no get and no put has found no memory (RFC 4035 4.5).
use Rattle.std.proofs.Common.{◌≡◌, ◌<◌, ℕ, List, Option, Result, refl, subst}
use Rattle.dsec_spec.specs.Names.{Labels, Place}
use Rattle.dsec_spec.specs.Outside.{Table, last_count}
use Rattle.dsec_nodes.specs.World.{World}
use Rattle.dsec_nodes.specs.Nodes.{Node}
use Rattle.dsec_nodes.specs.Machine.{Question as Asked}
use Rattle.dsec_nodes.specs.Outcomes.{Outcome}
use Rattle.dsec_nodes.specs.Alone.{Refusal}
use Rattle.dsec_cut.specs.Ended.{Both}
use Rattle.dsec_found.specs.declared.error.Error.{Error}
use Rattle.dsec_course.specs.Hearing.{first_run}
use Rattle.dsec_node.specs.Caches.{Lasting, held_in, lasting_in, with_nodes}
use Rattle.dsec_context.specs.Verdicts.{Verdict}
use Rattle.dsec_context.specs.Outside.{Outside}
use Rattle.dsec_context.specs.Finding.{AreStored, AreExact}
use Rattle.dsec_context.specs.Serving.{calls_in}
use Rattle.dsec_context.specs.Calls.{WereHeard, IsCall}
use Rattle.dsec_context.specs.Judgements.{IsToRewrite}
use Rattle.dsec_lookup.proofs.ExactLaws.{stored_all, lead_exactly}

module _ (old new : List (Labels × Node)) (wants : ℕ) (below : wants < last_count) where
  -- A context that counts as many wants of memory as before a call holds what it held with all that the call put, whatever it answered
  pub call_stored : (w : World) (most : ℕ) (message : List ℕ) (table : Option Table) (before after : Outside) (answer : Result Verdict Error)
      → before.lasting ≡ lasting_in old wants → after.lasting ≡ lasting_in new wants → (c : IsCall w most message table before after answer)
      → (p : Place) → held_in new p ≡ with_nodes (held_in old) c.puts p
  call_stored w most message table before after answer at_first at_last c =
      stored_all (record { held = held_in old; wants = wants }) (record { held = held_in new; wants = wants }) c.puts
      (subst (λ (o : Option Lasting). AreStored o (lasting_in new wants) c.puts) at_first
      (subst (λ (o : Option Lasting). AreStored before.lasting o c.puts) at_last c.stores)) refl below

  -- and each get in it gave what was held then
  pub heard_exactly : (w : World) (most : ℕ) (message : List ℕ) (held : Node → Type 0) (asked : List Asked) (puts : List Node)
      → (h : WereHeard w most message held (lasting_in old wants) (lasting_in new wants) asked puts)
      → AreExact (held_in old) (calls_in w (first_run w h.course) h.inputs) (held_in new)
  heard_exactly w most message held asked puts h =
      lead_exactly (calls_in w (first_run w h.course) h.inputs) (record { held = held_in old; wants = wants }) (record { held = held_in new; wants = wants })
      h.found refl below

  -- of a verdict too, by the inputs that it comes from
  pub judged_exactly : (w : World) (most : ℕ) (message : List ℕ) (held : Node → Type 0) (asked : List Asked) (puts : List Node) (end : Result Outcome Refusal)
      (groups : Option Both) → (h : IsToRewrite w most message held (lasting_in old wants) (lasting_in new wants) asked puts end groups)
      → AreExact (held_in old) (calls_in w (first_run w h.course) h.inputs) (held_in new)
  judged_exactly w most message held asked puts end groups h =
      lead_exactly (calls_in w (first_run w h.course) h.inputs) (record { held = held_in old; wants = wants }) (record { held = held_in new; wants = wants })
      h.found refl below
