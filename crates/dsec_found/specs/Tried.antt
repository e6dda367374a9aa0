-- The zone whose keys were tried, as the code keeps it (RFC 4033 5, RFC 4035 5.3).
use Rattle.std.specs.Prelude.{◌≡◌, true, List, []}
use Rattle.std.specs.Arc.{arc_value}
use Rattle.dsec_spec.specs.Chain.{Link}
use Rattle.dsec_found.specs.Founds.{LeadsToKeys}
use Rattle.dsec_found.specs.declared.shared.TriedZone.{TriedZone}
use Rattle.dsec_found.specs.declared.shared.TriedZone.TheVariants.{NoZone, Zone}

-- the links to the zone whose keys were tried (RFC 4033 2, authentication chain)
abbrev pub tried_links : {V : Type 0} → TriedZone V → List Link
tried_links NoZone = []
tried_links (Zone node) = (arc_value node).links

-- they lead to its keys (RFC 4033 5)
abbrev pub HasKeys : {V : Type 0} → TriedZone V → Type 0
HasKeys NoZone = Unit {0}
HasKeys (Zone node) = LeadsToKeys (arc_value node).standing ≡ true
