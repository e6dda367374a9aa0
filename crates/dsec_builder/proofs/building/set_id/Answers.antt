use Rattle.std.proofs.Common.{arith}
use Rattle.dsec_builder.proofs.BuildingLemmas.{has_room, id_set}
use Rattle.dsec_builder.proofs.building.set_id.Goals as goal

pub set_number-requires : goal.set_number-requires
set_number-requires c = omega (arith, (has_room c.args.octets.now.items c.requires).header)

pub returns : goal.returns
returns c = rw c.set_number.ensures (id_set c.args.octets.now.items c.args.id c.requires (omega arith))
