use Rattle.std.proofs.Common.{◌≡◌, subst}
use Rattle.std.specs.Prelude.{IfOk}
use Rattle.dsec_builder.proofs.BuildingLemmas.{has_room, is_message}
use Rattle.dsec_builder.proofs.building.finished.Goals as goal

pub unwrap-requires : goal.unwrap-requires
unwrap-requires c = c.from_octets.ensures.long.1 (has_room c.args.octets.items c.requires).header

pub returns : goal.returns
returns c =
    let is : c.unwrap.result ≡ c.args.octets.items = subst (λ r. IfOk r (λ message. message ≡ c.args.octets.items)) c.unwrap.ensures c.from_octets.ensures.value in
    rw is (is_message c.args.octets.items c.requires)
