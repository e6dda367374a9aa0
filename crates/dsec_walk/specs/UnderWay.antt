-- Walks that can be taken on at the moment of judging (RFC 4035 4.5, 5.2).
use Rattle.std.specs.Prelude.{◌≡◌, ℕ, ◌+◌, ◌≤◌, List, length, true, Option, Some, None}
use Rattle.dsec_spec.specs.Names.{IsStrictlyBelow}
use Rattle.dsec_nodes.specs.World.{World}
use Rattle.dsec_nodes.specs.Nodes.{Node, apex}
use Rattle.dsec_nodes.specs.Walk.{Reached, goes_on}
use Rattle.dsec_nodes.specs.Machine.{Walking, name_at}
use Rattle.dsec_nodes.specs.InStep.{IsCounted, WaitsBelow}
use Rattle.dsec_nodes.specs.SoundSteps.{PendingSound, SoundStep}

-- a zone, and it counts at the moment of judging (RFC 4035 4.5)
pub record IsZoneNow (w : World) (zone : Node) : Type 0 where
  pub keys : List (List ℕ)
  pub begins : zone.standing ≡ apex keys
  pub from : zone.made ≤ w.now
  pub to : w.now ≤ zone.made + zone.valid_for

-- where a walk goes on below what it has reached, the last zone on the way is one that counts (RFC 4035 5.2)
abbrev pub IsInZone : World → Option Reached → Type 0
IsInZone w None = Unit {0}
IsInZone w (Some r) = goes_on r.node ≡ true → IsZoneNow w r.zone

-- a walk that can be taken on: it is sound, it has asked no more questions than it may, and its last zone counts (RFC 4035 4.5, 5.2)
pub record IsUnderWay (w : World) (s : Walking) : Type 0 where
  pub is_sound : SoundStep w s
  pub is_counted : IsCounted s
  pub in_zone : IsInZone w s.reached

-- the next name has no more labels than the target (RFC 4033 2)
abbrev pub Fits : Walking → Type 0
Fits s = length s.top + s.behind ≤ length s.target

-- so it has where nothing is reached
abbrev pub FitsFirst : Walking → Option Reached → Type 0
FitsFirst s None = Fits s
FitsFirst s (Some r) = Unit {0}

-- the last zone counts, and the next name is strictly below it (RFC 4035 5.2)
abbrev pub IsBelowZone : World → Walking → Option Reached → Type 0
IsBelowZone w s None = Unit {0}
IsBelowZone w s (Some r) = IsZoneNow w r.zone × IsStrictlyBelow (name_at s) r.zone.signer

-- what a walk that is given a reply makes of it can be relied on (RFC 4035 5.2)
pub record CanHear (w : World) (s : Walking) : Type 0 where
  pub fits : Fits s
  pub below : IsBelowZone w s s.reached
  pub pends : PendingSound w s s.phase s.reached
  pub waits : WaitsBelow s.phase s.reached
