use Rattle.std.proofs.Common.{ap, rules, ◌∙◌}
use Rattle.dsec_spec.specs.Records.{Key}
use Rattle.dsec_wire.specs.Views.{key_view}
use Rattle.dsec_uses_signer.proofs.WholeLaws.{has_protocol}
use Rattle.dsec_uses_signer.proofs.keys.device_of.Goals as goal

pub returns-clause-protocol : goal.returns-clause-protocol
returns-clause-protocol c =
    ap (λ (key : Key). key.protocol) (c.new.ensures.key ∙ c.in-Ok.ensures.made)
    ∙ has_protocol (key_view c.args.dnskey.now) c.from_dnskey.result c.in-Ok.key _ (search rules) c.from_dnskey.ensures.protocol
