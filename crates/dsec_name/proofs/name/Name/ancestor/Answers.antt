use Rattle.std.proofs.Common.{◌≡◌, drop, ◌-◌, length, arith}
use Rattle.dsec_name.proofs.NameParts.{IsWhole-octets, labels_of-octets}
use Rattle.dsec_name.proofs.NamePieces.{IsName-drop, after_whole}
use Rattle.dsec_name.proofs.name.Name.ancestor.Goals as goal

pub after_labels-rest-requires : goal.after_labels-rest-requires
after_labels-rest-requires c = rw c.octets.ensures.octets (IsWhole-octets c.args.self.now c.octets.ensures.name)

pub keep-requires : goal.keep-requires
keep-requires c =
    let name = c.args.self.now in
    let n = c.saturating_sub-before.result in
    let rest = after_whole n name c.octets.result.now c.after_labels-rest.result.now c.octets.ensures.name c.octets.ensures.octets c.after_labels-rest.ensures in
    rw (c.in_ok-from_slice.ensures.items, rest) (IsWhole-octets (drop n name) (IsName-drop n name c.octets.ensures.name))

pub returns : goal.returns
returns c =
    let name = c.args.self.now in
    let n = c.saturating_sub-before.result in
    let rest = after_whole n name c.octets.result.now c.after_labels-rest.result.now c.octets.ensures.name c.octets.ensures.octets c.after_labels-rest.ensures in
    let before : n ≡ length name - c.args.labels = omega (arith, c.saturating_sub-before.ensures, c.label_count.ensures) in
    rw (← before, ← labels_of-octets (drop n name), ← rest, ← c.in_ok-from_slice.ensures.items) c.keep.ensures
