use Rattle.std.proofs.Common.{◌≡◌, ℕ, ◌+◌, ◌-◌, ◌≤◌, ◌++◌, suc, sym, ap, ◌∙◌, arith, Some, None, length, length-append}
use Rattle.std.specs.Prelude.{slice_range}
use Rattle.std.specs.Option.{option_map}
use Rattle.arrayvec.specs.ArrayVec.{array_vec_len}
use Rattle.dsec_spec.specs.WireNames.{root, label, pointer, head_at, name_at}
use Rattle.dsec_wire.specs.Heads.{head_view}
use Rattle.dsec_wire.specs.NameOctets.{name_octets}
use Rattle.dsec_wire.proofs.NameLoop.{from_on_ok, length-label_here, starts, ends_without_head, ends_without_room, ends_without_pointer, ends_at_root, goes_on_label, goes_on_pointer, ends_at_limit}
use Rattle.dsec_wire.proofs.NameReads.{name_ends_within}
use Rattle.dsec_wire.proofs.names.name_octets_at.Goals as goal
use Rattle.dsec_wire.proofs.names.name_octets_at.Goals.{in-Label+else-len-size, in-Pointer+else-pointers-eq0}

pub loop-init : goal.loop-init
unfolding name_at
loop-init c = rw c.new-octets.ensures (starts 383 c.args.message.now c.args.start 255 255, omega arith)

pub returns-in_err-head_at-clause-exact : goal.returns-in_err-head_at-clause-exact
returns-in_err-head_at-clause-exact c =
    let h : head_at c.args.message.now c.loop.at ≡ None = sym c.head_at.ensures.head ∙ ap (option_map head_view) c.in_err-head_at.was in
    rw c.from_residual.ensures (sym (ends_without_head 383 c.loop.counter c.args.message.now c.loop.at c.loop.pointers (255 - array_vec_len c.loop.octets) c.loop.octets.items c.loop.after _ c.loop-test.true h c.loop.invariant.0))

pub returns-in-Root-clause-exact : goal.returns-in-Root-clause-exact
returns-in-Root-clause-exact c =
    let h : head_at c.args.message.now c.loop.at ≡ Some root = sym c.head_at.ensures.head ∙ ap (option_map head_view) (c.in_ok-head_at.was ∙ ap Some c.in-Root.is) in
    rw (c.push.ensures.items, c.unwrap_or.ensures) (sym (ends_at_root 383 c.loop.counter c.args.message.now c.loop.at c.loop.pointers (255 - array_vec_len c.loop.octets) c.loop.octets.items c.loop.after _ c.loop-test.true h c.loop.invariant.0))

pub returns-in-Root-clause-within : goal.returns-in-Root-clause-within
returns-in-Root-clause-within c =
    let h : head_at c.args.message.now c.loop.at ≡ Some root = sym c.head_at.ensures.head ∙ ap (option_map head_view) (c.in_ok-head_at.was ∙ ap Some c.in-Root.is) in
    rw c.unwrap_or.ensures (name_ends_within c.args.message.now c.args.start _ (ends_at_root 383 c.loop.counter c.args.message.now c.loop.at c.loop.pointers (255 - array_vec_len c.loop.octets) c.loop.octets.items c.loop.after _ c.loop-test.true h c.loop.invariant.0))

pub returns-then-len-size-clause-exact : goal.returns-then-len-size-clause-exact
returns-then-len-size-clause-exact c =
    let h : head_at c.args.message.now c.loop.at ≡ Some (label c.in-Label.size) = sym c.head_at.ensures.head ∙ ap (option_map head_view) (c.in_ok-head_at.was ∙ ap Some c.in-Label.is) in
    sym (ends_without_room 383 c.loop.counter c.args.message.now c.loop.at c.loop.pointers (255 - array_vec_len c.loop.octets) c.in-Label.size c.loop.octets.items c.loop.after _ c.loop-test.true h (omega arith) c.loop.invariant.0)

pub returns-then-pointers-eq0-clause-exact : goal.returns-then-pointers-eq0-clause-exact
returns-then-pointers-eq0-clause-exact c =
    let h : head_at c.args.message.now c.loop.at ≡ Some (pointer c.in-Pointer.target) = sym c.head_at.ensures.head ∙ ap (option_map head_view) (c.in_ok-head_at.was ∙ ap Some c.in-Pointer.is) in
    sym (ends_without_pointer 383 c.loop.counter c.args.message.now c.loop.at c.loop.pointers (255 - array_vec_len c.loop.octets) c.in-Pointer.target c.loop.octets.items c.loop.after _ c.loop-test.true h (omega arith) c.loop.invariant.0)

pub loop-preserved : goal.loop-preserved
loop-preserved c =
    elim c.match-branch-2.branch [
      | in-Label+else-len-size w ↦
          let h : head_at c.args.message.now c.loop.at ≡ Some (label w.in-Label.size) = sym c.head_at.ensures.head ∙ ap (option_map head_view) (c.in_ok-head_at.was ∙ ap Some w.in-Label.is) in
          let long : length (slice_range c.args.message.now c.loop.at (c.loop.at + 1 + w.in-Label.size)) ≡ w.in-Label.size + 1 = length-label_here c.args.message.now c.loop.at w.in-Label.size h in
          let fits : array_vec_len c.loop.octets + length (slice_range c.args.message.now c.loop.at (c.loop.at + 1 + w.in-Label.size)) ≤ 255 = omega (arith, long) in
          let e : w.try_extend_from_slice-fits.new.self.items ≡ c.loop.octets.items ++ slice_range c.args.message.now c.loop.at (c.loop.at + 1 + w.in-Label.size) =
          from_on_ok w.try_extend_from_slice-fits.result (w.try_extend_from_slice-fits.ensures.variant.1 fits) w.try_extend_from_slice-fits.ensures.ok in
          let n : length (c.loop.octets.items ++ slice_range c.args.message.now c.loop.at (c.loop.at + 1 + w.in-Label.size)) ≡ array_vec_len c.loop.octets + (w.in-Label.size + 1) = omega (arith, length-append {A = ℕ}, long) in
          rw (w.at-is, w.pointers-is, w.after-is, w.octets-is, e) (
            goes_on_label 383 c.loop.counter c.args.message.now c.loop.at c.loop.pointers (255 - array_vec_len c.loop.octets) w.in-Label.size _ c.loop.octets.items c.loop.after _ c.loop-test.true h (omega arith) (omega (arith, n)) c.loop.invariant.0,
            omega (arith, n),
          )
      | in-Pointer+else-pointers-eq0 w ↦
          let h : head_at c.args.message.now c.loop.at ≡ Some (pointer w.in-Pointer.target) = sym c.head_at.ensures.head ∙ ap (option_map head_view) (c.in_ok-head_at.was ∙ ap Some w.in-Pointer.is) in
          let one : c.loop.pointers ≡ suc (c.loop.pointers - 1) = omega arith in
          rw (w.at-is, w.pointers-is, w.after-is, w.octets-is, w.unwrap_or-in-Pointer.ensures) (
            goes_on_pointer 383 c.loop.counter c.args.message.now c.loop.at c.loop.pointers (c.loop.pointers - 1) (255 - array_vec_len c.loop.octets) w.in-Pointer.target c.loop.octets.items c.loop.after _ c.loop-test.true h one c.loop.invariant.0,
            c.loop.invariant.1,
          )
    ]

pub returns-clause-exact : goal.returns-clause-exact
returns-clause-exact c = sym (ends_at_limit 383 c.loop.counter c.args.message.now c.loop.at c.loop.pointers (255 - array_vec_len c.loop.octets) c.loop.octets.items c.loop.after (name_octets c.args.message.now c.args.start) c.loop-test.false c.loop.invariant.0)
