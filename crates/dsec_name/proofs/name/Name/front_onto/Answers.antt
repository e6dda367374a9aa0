use Rattle.std.proofs.Common.{◌++◌, ◌∙◌, ap, take, length, arith}
use Rattle.dsec_name.specs.Keys.{labels_of}
use Rattle.dsec_name.proofs.NameParts.{IsWhole-octets, labels_of-octets}
use Rattle.std.proofs.lemmas.Bool.Decides.{nat_tests}
use Rattle.dsec_name.proofs.NamePieces.{fits_name, front_is, pieces, IsName-joined, after_whole, joined_long, no_longer}
use Rattle.dsec_name.proofs.name.Name.front_onto.Goals as goal

pub after_labels-requires : goal.after_labels-requires
after_labels-requires c = rw c.octets-octets.ensures.octets (IsWhole-octets c.args.self.now c.octets-octets.ensures.name)

pub slice_bounds-front-count : goal.slice_bounds-front-count
slice_bounds-front-count c =
    let rest = after_whole c.args.labels c.args.self.now c.octets-octets.result.now c.after_labels.result.now c.octets-octets.ensures.name c.octets-octets.ensures.octets c.after_labels.ensures in
    rw (rest, c.octets-octets.ensures.octets) (no_longer c.args.labels c.args.self.now)

pub returns-then-front-end-ge-MAX_NAME : goal.returns-then-front-end-ge-MAX_NAME
returns-then-front-end-ge-MAX_NAME c =
    let front = front_is c.args.labels c.args.self.now c.octets-octets.result.now c.after_labels.result.now c.octets-octets.ensures.name c.octets-octets.ensures.octets c.after_labels.ensures in
    let long = joined_long c.args.labels c.args.self.now c.args.base.now (omega (arith, ap length front, ap length c.octets-end.ensures.octets, c.if-front-end-ge-MAX_NAME.true)) in
    grind (arith, nat_tests, long)

pub keep-requires : goal.keep-requires
keep-requires c =
    let n = c.args.labels in
    let name = c.args.self.now in
    let base = c.args.base.now in
    let front = front_is n name c.octets-octets.result.now c.after_labels.result.now c.octets-octets.ensures.name c.octets-octets.ensures.octets c.after_labels.ensures in
    let is = pieces n name base _ c.octets-end.result.now _ _ c.extend_from_slice-2.new.self.items front c.octets-end.ensures.octets
    c.in_ok-joined.ensures.items c.in_ok-extend_from_slice.ensures.items c.in_ok-extend_from_slice-2.ensures.items in
    rw is (IsWhole-octets (take n name ++ base) (IsName-joined n name base c.octets-octets.ensures.name c.octets-end.ensures.name (omega (arith, ap length front, ap length c.octets-end.ensures.octets, c.if-front-end-ge-MAX_NAME.false))))

pub returns : goal.returns
returns c =
    let n = c.args.labels in
    let name = c.args.self.now in
    let base = c.args.base.now in
    let front = front_is n name c.octets-octets.result.now c.after_labels.result.now c.octets-octets.ensures.name c.octets-octets.ensures.octets c.after_labels.ensures in
    let is = pieces n name base _ c.octets-end.result.now _ _ c.extend_from_slice-2.new.self.items front c.octets-end.ensures.octets
    c.in_ok-joined.ensures.items c.in_ok-extend_from_slice.ensures.items c.in_ok-extend_from_slice-2.ensures.items in
    let named = IsName-joined n name base c.octets-octets.ensures.name c.octets-end.ensures.name (omega (arith, ap length front, ap length c.octets-end.ensures.octets, c.if-front-end-ge-MAX_NAME.false)) in
    let kept = c.keep.ensures ∙ (ap labels_of is ∙ labels_of-octets (take n name ++ base)) in
    rw kept (fits_name (take n name ++ base) named)
