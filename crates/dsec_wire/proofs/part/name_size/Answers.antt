use Rattle.std.proofs.Common.{◌≡◌, ◌∙◌, sym, ap, Some}
use Rattle.std.specs.Option.{option_map}
use Rattle.dsec_spec.specs.RecordData.{name_in}
use Rattle.dsec_name.specs.NameRefs.{name_view, prefix_view}
use Rattle.dsec_wire.proofs.PartLoops.{name_taken}
use Rattle.dsec_wire.proofs.part.name_size.Goals as goal

pub overflow_sub-result : goal.overflow_sub-result
overflow_sub-result c =
    let read : name_in c.args.octets.now ≡ Some (name_view c.in_ok-rest.field-0-0, c.in_ok-rest.rest.now) = sym c.from_prefix.ensures ∙ ap (option_map prefix_view) c.in_ok-rest.was in
    (name_taken c.args.octets.now _ c.in_ok-rest.rest.now read).1

pub returns-clause-exact : goal.returns-clause-exact
returns-clause-exact c =
    let read : name_in c.args.octets.now ≡ Some (name_view c.in_ok-rest.field-0-0, c.in_ok-rest.rest.now) = sym c.from_prefix.ensures ∙ ap (option_map prefix_view) c.in_ok-rest.was in
    sym (name_taken c.args.octets.now _ c.in_ok-rest.rest.now read).0
