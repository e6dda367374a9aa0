use Rattle.std.proofs.lemmas.Bool.Decides.{same_from_decides}
use Rattle.dsec_spec.specs.Names.{place}
use Rattle.dsec_name.specs.NameLaws.{same_place_decides}
use Rattle.dsec_name.specs.Parts.{same_name}
use Rattle.dsec_name.proofs.NamePrefix.{same_octets}
use Rattle.dsec_name.proofs.order.NamePartialEq.eq.Goals as goal

pub returns : goal.returns
returns c =
    let one = c.args.self.now in
    let two = c.args.other.now in
    let same = same_octets one two c.octets.result.now c.octets-2.result.now c.octets.ensures.octets c.octets-2.ensures.octets c.octets.ensures.name c.octets-2.ensures.name in
    same_from_decides c.same_ignoring_case.result (same_name one two)
    (λ e. same.0 (c.same_ignoring_case.ensures.0 e), λ e. c.same_ignoring_case.ensures.1 (same.1 e))
    (same_place_decides (place one) (place two))
