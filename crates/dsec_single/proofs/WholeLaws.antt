-- What caches that forget none gave and hold after a walk in which no get and no put has found no memory (RFC 4035 4.5).
use Rattle.std.proofs.Common.{◌≡◌, ◌<◌, List, Option, Some, subst}
use Rattle.dsec_spec.specs.Names.{Place}
use Rattle.dsec_spec.specs.Outside.{Table, last_count}
use Rattle.dsec_spec.specs.Groups.{Group}
use Rattle.dsec_nodes.specs.World.{World}
use Rattle.dsec_nodes.specs.Nodes.{Node}
use Rattle.dsec_nodes.specs.Machine.{Question as Asked}
use Rattle.dsec_nodes.specs.Judging.{target_of}
use Rattle.dsec_node.specs.Caches.{Lasting, with_nodes}
use Rattle.dsec_by_node.specs.Answers.{Told}
use Rattle.dsec_lookup.specs.Outside.{Outside}
use Rattle.dsec_lookup.specs.Finding.{AreStored, AreExact}
use Rattle.dsec_lookup.proofs.ExactLaws.{stored_all, lead_exactly}
use Rattle.dsec_single.specs.Trips.{first_trip, calls_in}
use Rattle.dsec_single.specs.Calls.{WasWalked, IsSingleCall}

module _ (old new : Lasting) (same : new.wants ≡ old.wants) (below : old.wants < last_count) where
  -- what they held, with all that the call put, is held, whether there is an answer or not
  pub single_stored : (w : World) (group : Group) (table : Option Table) (before after : Outside) (told : Option Told) → before.lasting ≡ Some old
      → after.lasting ≡ Some new → (c : IsSingleCall w group table before after told) → (p : Place) → new.held p ≡ with_nodes old.held c.puts p
  single_stored w group table before after told at_first at_last c =
      stored_all old new c.puts
      (subst (λ (o : Option Lasting). AreStored o (Some new) c.puts) at_first
      (subst (λ (o : Option Lasting). AreStored before.lasting o c.puts) at_last c.stores)) same below

  -- and each get of the walk gave what was held then
  pub walked_exactly : (w : World) (group : Group) (held : Node → Type 0) (top : Place) (asked : List Asked) (puts : List Node) (told : Option Told)
      → (h : WasWalked w group held (Some old) (Some new) top asked puts told)
      → AreExact old.held (calls_in w (first_trip w top (target_of group (Some top))) h.inputs) new.held
  walked_exactly w group held top asked puts told h =
      lead_exactly (calls_in w (first_trip w top (target_of group (Some top))) h.inputs) old new h.found same below
