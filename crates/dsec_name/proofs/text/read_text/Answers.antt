use Rattle.std.proofs.Common.{◌≡◌, length, arith}
use Rattle.std.specs.Prelude.{vec_len}
use Rattle.dsec_name.specs.Keys.{labels_of}
use Rattle.dsec_name.proofs.NameReading.{IsName-some}
use Rattle.dsec_name.proofs.TextNames.{text_too_long, text_whole, text_fits}
use Rattle.dsec_name.proofs.text.read_text.Goals as goal

pub returns-then-len-ge-MAX_NAME : goal.returns-then-len-ge-MAX_NAME
returns-then-len-ge-MAX_NAME c =
    let read = rw c.in-Some.is at c.in_ok-octets.ensures in
    let size : vec_len c.in-Some.octets ≡ length c.in-Some.octets.items = c.in-Some.octets.ok.0 in
    text_too_long (labels_of c.args.origin.now) _ _ _ read c.if-long.false (omega arith)

pub keep-requires : goal.keep-requires
keep-requires c =
    let read = rw c.in-Some.is at c.in_ok-octets.ensures in
    let size : vec_len c.in-Some.octets ≡ length c.in-Some.octets.items = c.in-Some.octets.ok.0 in
    text_whole (labels_of c.args.origin.now) _ _ _ (IsName-some (labels_of c.args.origin.now) c.requires.name.labels) read c.if-long.false (omega arith)

pub returns : goal.returns
returns c =
    let read = rw c.in-Some.is at c.in_ok-octets.ensures in
    let size : vec_len c.in-Some.octets ≡ length c.in-Some.octets.items = c.in-Some.octets.ok.0 in
    rw c.keep.ensures (text_fits (labels_of c.args.origin.now) _ _ _ read c.if-long.false (omega arith))
