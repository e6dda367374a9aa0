use Rattle.std.proofs.Common.{◌≡◌, ◌∙◌, ◌∷◌, ◌++◌, refl, take, arith, append_assoc}
use Rattle.dsec_sorted.proofs.Windows.{window_added, all_encoded}
use Rattle.dsec_sorted.proofs.bitmap.push_bitmap.Goals as goal

pub loop-window-preserved : goal.loop-window-preserved
loop-window-preserved c =
    let i = c.loop-window.invariant in
    let old = c.args.out.now.items in
    let was = c.loop-window.out.items in
    let w = c.loop-window.window in
    let n = c.used-size.result in
    let bits = c.window_bits-bits.result in
    let low = c.loop-window-test.true in
    let found = i.found low in
    let new : c.extend_from_slice.new.self.items ≡ was ++ w ∷ n ∷ take n bits =
    c.in_ok-extend_from_slice.ensures.items ∙ rw (c.in_ok-push-2.ensures.items, c.in_ok-push.ensures.items, append_assoc, append_assoc) refl in
    record {
      bounds = (omega arith, c.least_window-window-in-loop-window.ensures.at_most);
      least = c.least_window-window-in-loop-window.ensures.least;
      found = c.least_window-window-in-loop-window.ensures.found;
      encoded = rw new (window_added old was c.args.types.now bits c.loop-window.from w n c.window_bits-bits.ensures.bits c.used-size.ensures.fits c.window_bits-bits.ensures.len c.used-size.ensures.rest c.used-size.ensures.last i.least found.0 found.1 i.encoded);
    }

pub returns-clause-ok : goal.returns-clause-ok
returns-clause-ok c =
    let i = c.loop-window.invariant in
    all_encoded c.args.out.now.items c.loop-window.out.items c.args.types.now c.loop-window.from c.loop-window.window i.bounds.0 (let h = c.loop-window-test.false in omega arith) i.least i.encoded
