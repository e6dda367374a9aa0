use Rattle.dsec_name.proofs.NamePrefix.{same_octets}
use Rattle.dsec_name.proofs.name_ref.NameRef.is.Goals as goal
use Rattle.dsec_name.specs.NameRefs.{name_view}

pub returns : goal.returns
returns c =
    let same = same_octets (name_view c.args.self.now) c.args.name.now c.args.self.now.octets.now c.octets.result.now c.args.self.now.whole.whole c.octets.ensures.octets c.args.self.now.whole.name c.octets.ensures.name in
    (λ e. same.0 (c.same_ignoring_case.ensures.0 e), λ e. c.same_ignoring_case.ensures.1 (same.1 e))
