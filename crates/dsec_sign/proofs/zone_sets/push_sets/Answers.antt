use Rattle.std.proofs.Common.{◌≡◌, ◌++◌, ◌∙◌, List, [], ◌∷◌, length, take, drop, refl, sym, ap, subst, arith, append_assoc, length-append, length-drop, length-take-le}
use Rattle.std.proofs.lemmas.List.{append-nil, take-append-drop}
use Rattle.dsec_spec.specs.Names.{place}
use Rattle.dsec_spec.specs.Records.{Record}
use Rattle.dsec_spec.specs.SetsToSign.{is_signed}
use Rattle.dsec_sign.specs.Pushing.{Pushed}
use Rattle.dsec_sign.proofs.ZoneSets.{none_pushed, run_is, step_set}
use Rattle.dsec_sign.proofs.zone_sets.push_sets.Goals as goal

pub overflow_add-start : goal.overflow_add-start
overflow_add-start c =
    let inv = c.loop-first.invariant in
    let rest = c.loop-first.rest.now in
    let start = inv.start in
    let fits = c.requires.fits in
    let size = c.set_length-size.ensures.fits in
    omega (arith, start, fits, size, ap length inv.split, length-append inv.done rest)

pub loop-first-smaller : goal.loop-first-smaller
loop-first-smaller c =
    let inv = c.loop-first.invariant in
    let rest = c.loop-first.rest.now in
    let size = c.set_length-size.result in
    let facts = run_is c.args.owner.now.records.now c.requires.owner inv.done rest c.in-Some.first.now c.in-Some.field-0-1.now size inv.split c.in-Some.ensures.cases.0 c.set_length-size.ensures.run c.set_length-size.ensures.next in
    let some = facts.0 in
    let fits = c.set_length-size.ensures.fits in
    rw (c.split_at.ensures.back) (omega (arith, length-drop size rest, some, fits))

pub loop-first-init : goal.loop-first-init
loop-first-init c = record {
  done = [];
  split = refl;
  start = omega arith;
  pushed = λ records placed. none_pushed records (is_signed (place c.args.apex.now) c.args.owner.now.is_cut) c.args.owner.now.records.now c.args.sets.now.items;
}

pub loop-first-preserved : goal.loop-first-preserved
loop-first-preserved c =
    let inv = c.loop-first.invariant in
    let rest = c.loop-first.rest.now in
    let size = c.set_length-size.result in
    let owner = c.args.owner.now in
    let fits = c.set_length-size.ensures.fits in
    let taken : length (take size rest) ≡ size = length-take-le size rest fits in
    record {
      done = inv.done ++ take size rest;
      split = rw (c.split_at.ensures.back, append_assoc inv.done (take size rest) (drop size rest), take-append-drop size rest) inv.split;
      start = let start = inv.start in omega (arith, start, length-append inv.done (take size rest), taken);
      pushed = λ records placed.
          rw (c.split_at.ensures.back) (step_set records (is_signed (place c.args.apex.now) owner.is_cut) owner inv.done rest c.in-Some.first.now c.in-Some.field-0-1.now c.loop-first.start size c.is_signed.result
          c.args.sets.now.items c.loop-first.sets.items c.push_if.new.sets.items (λ r s at type. rw (at, type) refl) c.requires.owner inv.split c.in-Some.ensures.cases.0 fits c.set_length-size.ensures.run
          c.set_length-size.ensures.next inv.start c.is_signed.ensures c.in_ok-push_if.ensures placed (inv.pushed records placed));
    }

pub returns : goal.returns
returns c records placed =
    let inv = c.loop-first.invariant in
    let signed = is_signed (place c.args.apex.now) c.args.owner.now.is_cut in
    let none : c.loop-first.rest.now ≡ [] = nothing c.loop-first.rest.now c.in_default.ensures.cases in
    let all : c.args.owner.now.records.now ≡ inv.done = inv.split ∙ (ap (λ (xs : List Record). inv.done ++ xs) none ∙ append-nil inv.done) in
    subst (λ (xs : List Record). Pushed records signed xs [] c.args.sets.now.items c.loop-first.sets.items) (sym all)
    (subst (λ (xs : List Record). Pushed records signed inv.done xs c.args.sets.now.items c.loop-first.sets.items) none (inv.pushed records placed))
  where
    nothing : (xs : List Record) → length xs ≡ 0 → xs ≡ []
    nothing [] e = refl
    nothing (x ∷ xs) e = absurd (omega (arith, e))
