use Rattle.std.proofs.Common.{◌≡◌, ◌∙◌, ap}
use Rattle.dsec_name.specs.Keys.{labels_of}
use Rattle.dsec_name.specs.Wire.{wire_labels}
use Rattle.dsec_name.proofs.NameParts.{IsWhole-octets, labels_of-octets}
use Rattle.dsec_name.proofs.WireNames.{fitting, wire_too_long, wire_fits, wire_named, wire_front}
use Rattle.dsec_name.proofs.name.Name.read_wire.Goals as goal

pub returns-then-octets-gt-MAX_NAME : goal.returns-then-octets-gt-MAX_NAME
returns-then-octets-gt-MAX_NAME c =
    let f = fitting (wire_labels c.args.octets.now) _ _ c.has_long_label.ensures c.in-Some-false.is c.in-Some-false.field-0-test in
    wire_too_long c.args.octets.now f c.if-octets-gt-MAX_NAME.true

pub keep-requires : goal.keep-requires
keep-requires c =
    let f = fitting (wire_labels c.args.octets.now) _ _ c.has_long_label.ensures c.in-Some-false.is c.in-Some-false.field-0-test in
    rw (c.in_ok-from_slice.ensures.items, wire_front c.args.octets.now f) (IsWhole-octets f.labels (wire_named c.args.octets.now f c.if-octets-gt-MAX_NAME.false))

pub returns : goal.returns
returns c =
    let f = fitting (wire_labels c.args.octets.now) _ _ c.has_long_label.ensures c.in-Some-false.is c.in-Some-false.field-0-test in
    let kept : c.keep.result ≡ f.labels = c.keep.ensures ∙ (ap labels_of (c.in_ok-from_slice.ensures.items ∙ wire_front c.args.octets.now f) ∙ labels_of-octets f.labels) in
    rw kept (wire_fits c.args.octets.now f c.if-octets-gt-MAX_NAME.false)
