use Rattle.std.proofs.Common.{◌∙◌, ◌++◌, ◌∷◌, [], ap}
use Rattle.dsec_spec.specs.Records.{Record}
use Rattle.dsec_signing.specs.Signed.{dnskey_record}
use Rattle.dsec_signing.proofs.Adding.{union_of_all}
use Rattle.dsec_signing.proofs.making.zone_with_key.Goals as goal

pub returns : goal.returns
returns c =
    union_of_all c.args.records.items c.new-zone.result c.push.new.self.items c.extend.new.self (dnskey_record c.args.apex.now c.args.key.now) c.new-zone.ensures
    (c.in_ok-push.ensures.items ∙ ap (λ (r : Record). c.args.records.items ++ r ∷ []) c.in_ok-key_record.ensures)
    c.in_ok-extend.ensures.canonical c.in_ok-extend.ensures.ok
