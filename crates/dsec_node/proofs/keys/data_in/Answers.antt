use Rattle.std.proofs.Common.{sym, ap, ◌∙◌}
use Rattle.std.specs.Option.{option_map}
use Rattle.dsec_wire.specs.Views.{key_view}
use Rattle.dsec_node.proofs.KeyData.{data_found, if_ok}
use Rattle.dsec_node.proofs.keys.data_in.Goals as goal

pub returns-in-Some : goal.returns-in-Some
returns-in-Some c =
    let found = data_found (key_view c.args.key.now) c.args.datas.now _ c.requires (ap (option_map (λ one. one.now)) (sym c.in-Some.is) ∙ c.first_saying.ensures) in
    if_ok c.octets_in.result (λ octets h. h ∙ found) c.octets_in.ensures

pub returns-in-None : goal.returns-in-None
returns-in-None c =
    let found = data_found (key_view c.args.key.now) c.args.datas.now _ c.requires (ap (option_map (λ one. one.now)) (sym c.in-None.is) ∙ c.first_saying.ensures) in
    c.new-in-None.ensures ∙ (c.new.ensures.items ∙ found)
