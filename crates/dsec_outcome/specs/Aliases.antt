-- The judged groups of a path of aliases, by its steps as they are told (RFC 1034 3.6.2, RFC 4035 5.3.4).
use Rattle.std.specs.Prelude.{List, Option, filter_map, slice_get}
use Rattle.std.specs.List.{flat_map}
use Rattle.dsec_nodes.specs.Judging.{Judged}
use Rattle.dsec_nodes.specs.Outcomes.{Used}
use Rattle.dsec_nodes.specs.ByDenial.{used_at}
use Rattle.dsec_follow.specs.Ends.{StepTold}

-- the judged group that the alias of a step is
abbrev pub alias_at : List Judged → StepTold → Option Judged
alias_at answers step = slice_get answers step.group

-- the judged groups that stand beside it
abbrev pub beside_at : List Judged → StepTold → List Used
beside_at authorities step = filter_map (used_at authorities) step.used

-- those of the aliases of a path, in order
abbrev pub aliases_at : List Judged → List StepTold → List Judged
aliases_at answers steps = filter_map (alias_at answers) steps

-- and those beside them, in order
abbrev pub denials_at : List Judged → List StepTold → List Used
denials_at authorities steps = flat_map (beside_at authorities) steps
