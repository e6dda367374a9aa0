use Rattle.std.proofs.Common.{ℕ, ◌+◌, ◌≤◌, ◌++◌, length, take, sym, subst, arith, length-append}
use Rattle.std.proofs.lemmas.List.{length-take}
use Rattle.std.proofs.KnownBytes.{Consumes-trans}
use Rattle.dsec_outside.specs.Limit.{limit}
use Rattle.dsec_outside.proofs.whole.read_all.Goals as goal

pub returns-in_err-extend_from_slice-clause-within : goal.returns-in_err-extend_from_slice-clause-within
returns-in_err-extend_from_slice-clause-within g c =
    let all = c.loop-piece.all.items in
    let more = take c.in-Ok.count c.read.new.buffer in
    let given = c.in-Ok.ensures.bound in
    let within : length all + length more ≤ limit + 1 =
    omega (arith, sym given.1, given.0, c.read.auto.buffer, length-take c.min-room.result c.loop-piece.piece, c.min-room.ensures, c.len-in-loop-piece.ensures, c.loop-piece-test.true, c.loop-piece.invariant.2) in
    (all ++ more, subst (λ (n : ℕ). n ≤ limit + 1) (sym (length-append all more)) within, Consumes-trans _ _ _ all more c.loop-piece.invariant.3 c.in-Ok.ensures.octets.0)
