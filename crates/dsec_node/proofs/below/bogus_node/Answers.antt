use Rattle.std.proofs.Common.{[], None, refl, ap, ◌∙◌}
use Rattle.std.proofs.lemmas.Bool.{true≢false}
use Rattle.dsec_spec.specs.Names.{place}
use Rattle.dsec_nodes.specs.Nodes.{bogus}
use Rattle.dsec_node.specs.Views.{bounds_view, world_of}
use Rattle.dsec_node.proofs.KeyData.{if_ok}
use Rattle.dsec_node.proofs.NodeSteps.{same_parts}
use Rattle.dsec_node.proofs.below.bogus_node.Goals as goal

pub new_delegation-requires : goal.new_delegation-requires
new_delegation-requires g c = λ e. absurd (true≢false e)

pub returns : goal.returns
returns g c =
    let w = world_of g.V.Verifier.accepts [] (bounds_view c.args.bounds.now) c.args.now in
    if_ok c.new_delegation.result (λ n h. h
    ∙ same_parts w (place c.in_ok-signer.signer) (place c.args.name.now) c.args.bounds.now.max_bogus_validity c.args.bounds.now.max_bogus_validity None None (place c.in_ok-signer.signer) (place c.args.name.now) c.new-links.result [] (bogus c.args.cause) (bogus c.args.cause)
    (ap place c.in_ok-signer.ensures) refl refl (ap place c.in_ok-signer.ensures) (c.new-links.ensures ∙ c.new.ensures.items) refl)
    c.new_delegation.ensures
