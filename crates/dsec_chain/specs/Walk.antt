-- The owners inside a zone, met in canonical order: the last delegation that was met is the only one to look at.
use Rattle.std.specs.Prelude.{◌&&◌, List, Bool, false, Option, Some, None}
use Rattle.std.proofs.Math.Bool.{not}
use Rattle.std.specs.List.{list_any}
use Rattle.dsec_spec.specs.Names.{Place, is_below, is_strictly_below}
use Rattle.dsec_spec.specs.Records.{Record}
use Rattle.dsec_spec.specs.ZonesOfRecords.{is_cut}

-- whether the name is strictly below the last delegation, if any
abbrev pub is_under : Place → Option Place → Bool
is_under n None = false
is_under n (Some c) = is_strictly_below n c

-- whether the name is the zone's, where this was the last delegation
abbrev pub is_open : Place → Option Place → Place → Bool
is_open apex cut n = is_below n apex && not (is_under n cut)

-- whether one of an owner's records makes it a delegation
abbrev pub cuts : Place → List Record → Bool
cuts apex run = list_any (is_cut apex) run
