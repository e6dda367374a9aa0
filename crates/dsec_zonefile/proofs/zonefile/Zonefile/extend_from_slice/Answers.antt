use Rattle.std.proofs.Common.{◌≡◌, ◌-◌, ℕ, List, length, drop, arith, ap, sym, ◌∙◌}
use Rattle.std.proofs.lemmas.List.{length-append, length-drop}
use Rattle.dsec_zonefile.proofs.zonefile.Zonefile.extend_from_slice.Goals as goal

-- what is left of two texts is as long, where it is the same
same_left : (xs ys : List ℕ) (m n : ℕ) → drop m xs ≡ drop n ys → length xs - m ≡ length ys - n
same_left xs ys m n e = sym (length-drop m xs) ∙ ap length e ∙ length-drop n ys

pub invariant_of-self : goal.invariant_of-self
invariant_of-self c =
    let rest = same_left c.give_up_read.new.text.items c.self.inside.text.items c.give_up_read.new.at c.self.inside.place.at c.give_up_read.ensures.left in
    let half = c.give_up_read.ensures.half in
    let before = c.self.invariant in
    (omega (arith, half), omega (arith, half, rest, before.0, before.1))

pub invariant_of-self-in_err-extend_from_slice : goal.invariant_of-self-in_err-extend_from_slice
invariant_of-self-in_err-extend_from_slice c =
    let rest = same_left c.give_up_read.new.text.items c.self.inside.text.items c.give_up_read.new.at c.self.inside.place.at c.give_up_read.ensures.left in
    let size = ap length c.in_err-extend_from_slice.ensures.items in
    let half = c.give_up_read.ensures.half in
    let before = c.self.invariant in
    (omega (arith, size, half), omega (arith, size, half, rest, before.0, before.1))

pub invariant_of-self-2 : goal.invariant_of-self-2
invariant_of-self-2 c =
    let rest = same_left c.give_up_read.new.text.items c.self.inside.text.items c.give_up_read.new.at c.self.inside.place.at c.give_up_read.ensures.left in
    let size = ap length c.in_ok-extend_from_slice.ensures.items ∙ length-append c.give_up_read.new.text.items c.args.more.now in
    let half = c.give_up_read.ensures.half in
    let before = c.self.invariant in
    let room = c.if-more-self.false in
    let all = c.len.ensures in
    (omega (arith, size, half), omega (arith, size, half, rest, before.0, before.1, room, all))
