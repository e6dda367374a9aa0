use Rattle.std.proofs.Common.{◌≡◌, Some, ◌∙◌, sym, ap, subst, List, ℕ}
use Rattle.std.specs.Option.{option_map}
use Rattle.dsec_name.specs.Wire.{IsOnWire}
use Rattle.dsec_wire.specs.NameOctets.{octets_read, name_octets}
use Rattle.dsec_wire.proofs.NameReads.{from_name_octets, kept_name, no_name}
use Rattle.dsec_wire.proofs.names.name_at.Goals as goal

pub returns-in_default-clause-exact : goal.returns-in_default-clause-exact
returns-in_default-clause-exact c = no_name c.args.message.now c.args.at (sym c.name_octets_at.ensures.exact ∙ ap (option_map octets_read) c.in_default.is)

pub returns-in-Ok-clause-exact : goal.returns-in-Ok-clause-exact
returns-in-Ok-clause-exact c =
    let e : name_octets c.args.message.now c.args.at ≡ Some (c.in-Some.octets.items, c.in-Some.after) =
    sym c.name_octets_at.ensures.exact ∙ ap (option_map octets_read) c.in-Some.is in
    let u = from_name_octets c.args.message.now c.args.at (c.in-Some.octets.items, c.in-Some.after) e in
    let meant = c.in-Ok.ensures.meaning in
    kept_name c.args.message.now c.args.at c.in-Some.octets.items c.in-Some.after c.in-Ok.name u
    (subst (λ (x : List ℕ). IsOnWire c.in-Ok.name x) c.as_slice.ensures.value meant.0) meant.1
