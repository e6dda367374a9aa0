use Rattle.std.proofs.Common.{◌∙◌, ap, Some, List, ℕ}
use Rattle.dsec_zonefile.proofs.Ipv6Text.{ipv6_read, no_ipv6}
use Rattle.dsec_zonefile.proofs.address.ipv6.Goals as goal

pub returns-in-Ok-clause-value : goal.returns-in-Ok-clause-value
returns-in-Ok-clause-value c = ap (λ (octets : List ℕ). Some octets) c.octets.ensures ∙ ipv6_read c.args.text.now _ c.in-Ok.ensures

pub returns-in-Err-clause-value : goal.returns-in-Err-clause-value
returns-in-Err-clause-value c = no_ipv6 c.args.text.now (λ segments h. c.in-Err.ensures (record { segments = segments }) h)

pub returns-in-Err-clause-meaning : goal.returns-in-Err-clause-meaning
returns-in-Err-clause-meaning c = λ octets h. c.in-Err.ensures (record { segments = h.0 }) h.1
