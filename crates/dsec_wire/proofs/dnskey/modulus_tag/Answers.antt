use Rattle.std.proofs.Common.{◌∙◌, sym}
use Rattle.dsec_wire.proofs.KeyTags.{modulus_octets}
use Rattle.dsec_wire.proofs.dnskey.modulus_tag.Goals as goal

pub returns-in-len3-up : goal.returns-in-len3-up
returns-in-len3-up c = c.from_be_bytes.ensures ∙ sym (modulus_octets c.args.octets.now c.in-len3-up.len_at_least)
