use Rattle.dsec_builder.proofs.BuildingLemmas.{nothing_says}
use Rattle.dsec_builder.proofs.building.empty_message.Goals as goal

pub returns : goal.returns
returns c = rw c.in_ok-from_slice.ensures.items nothing_says
