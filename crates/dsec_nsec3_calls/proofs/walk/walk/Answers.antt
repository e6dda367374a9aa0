use Rattle.std.proofs.Common.{◌≡◌, ◌+◌, ◌-◌, length, take, sym, ◌∙◌, arith}
use Rattle.dsec_spec.specs.Names.{place}
use Rattle.dsec_nsec3_calls.specs.Looks.{top_of}
use Rattle.dsec_nsec3_calls.specs.Sources.{seen_view}
use Rattle.dsec_nsec3_calls.specs.Views.{place_octets}
use Rattle.dsec_nsec3_calls.specs.Walked.{candidate_view}
use Rattle.dsec_nsec3_calls.proofs.OctetLaws.{above_octets, octets_of_place}
use Rattle.dsec_nsec3_calls.proofs.WalkLaws.{same_walk, walk_ends, walk_goes, walk_stops}
use Rattle.dsec_spec.proofs.PlaceLemmas.{length_of_place}
use Rattle.dsec_nsec3.specs.Walks.{is_signer}
use Rattle.dsec_nsec3_calls.proofs.walk.walk.Goals as goal

pub returns-in-Ends-clause-walk : goal.returns-in-Ends-clause-walk
returns-in-Ends-clause-walk g c =
    let source = c.args.source.now in
    let signer = place source.signer.now in
    let name = c.args.target.now in
    let d = c.loop-depth.depth in
    let t = c.loop-depth-test.true in
    let n = c.label_count-labels.ensures in
    let octets : c.after_labels.result.now ≡ place_octets (take (d + 1) (place name)) =
    above_octets name (d + 1) (c.label_count-labels.result - 1 - 1 - d) c.as_slice.result.now c.after_labels.result.now (omega (arith, n, t)) (c.as_slice.ensures.value ∙ c.canonical_octets-octets.ensures) c.after_labels.ensures in
    let zone : c.as_slice-in-loop-depth.result.now ≡ place_octets signer = c.as_slice-in-loop-depth.ensures.value ∙ (c.canonical_octets-zone.ensures ∙ octets_of_place source.signer.now) in
    walk_stops (seen_view source) signer name c.loop-depth.left c.loop-depth.above d (d + 1) (length name - d) (length name - (d + 1)) (omega (arith, n, t)) (omega arith)
    c.look_for-look.result.0 c.look_for-look.result.1 (top_of c.is_signer.result signer) (c.look_for-look.ensures.look (take (d + 1) (place name)) octets zone) (c.is_signer.ensures source.signer.now)
    c.next_step.result (λ later. c.next_step.ensures name c.look_for-look.result.1 later) c.in-Ends.walk c.in-Ends.is
    ∙ sym c.loop-depth.invariant.0

pub loop-depth-init : goal.loop-depth-init
loop-depth-init g c =
    let source = c.args.source.now in
    let signer = place source.signer.now in
    let n = place c.args.target.now in
    let s = length_of_place source.signer.now in
    let t = length_of_place c.args.target.now in
    let a = c.label_count-depth.ensures in (
      same_walk (seen_view source) signer n source.limits.now.max_nsec3_hashes is_signer (length signer) (c.label_count-depth.result - 1) (length n - length signer) (length c.args.target.now - (c.label_count-depth.result - 1))
          (omega (arith, s, a)) (omega (arith, s, t, a)),
      omega arith,
    )

pub loop-depth-preserved : goal.loop-depth-preserved
loop-depth-preserved g c =
    let source = c.args.source.now in
    let signer = place source.signer.now in
    let name = c.args.target.now in
    let d = c.loop-depth.depth in
    let t = c.loop-depth-test.true in
    let n = c.label_count-labels.ensures in
    let octets : c.after_labels.result.now ≡ place_octets (take (d + 1) (place name)) =
    above_octets name (d + 1) (c.label_count-labels.result - 1 - 1 - d) c.as_slice.result.now c.after_labels.result.now (omega (arith, n, t)) (c.as_slice.ensures.value ∙ c.canonical_octets-octets.ensures) c.after_labels.ensures in
    let zone : c.as_slice-in-loop-depth.result.now ≡ place_octets signer = c.as_slice-in-loop-depth.ensures.value ∙ (c.canonical_octets-zone.ensures ∙ octets_of_place source.signer.now) in (
      c.loop-depth.invariant.0
          ∙ walk_goes (seen_view source) signer name c.loop-depth.left c.loop-depth.above d (d + 1) (length name - d) (length name - (d + 1)) (omega (arith, n, t)) (omega arith)
          c.look_for-look.result.0 c.look_for-look.result.1 (top_of c.is_signer.result signer) (c.look_for-look.ensures.look (take (d + 1) (place name)) octets zone) (c.is_signer.ensures source.signer.now)
          c.next_step.result (λ later. c.next_step.ensures name c.look_for-look.result.1 later) c.in-On.next c.in-On.is,
      (let fewer = c.look_for-look.ensures.fewer in omega (arith, fewer, c.loop-depth.invariant.1)),
    )

pub returns-clause-walk : goal.returns-clause-walk
returns-clause-walk g c =
    let source = c.args.source.now in
    let n = c.label_count-labels.ensures in
    let t = c.loop-depth-test.false in
    sym (c.loop-depth.invariant.0 ∙ walk_ends (seen_view source) (place source.signer.now) (place c.args.target.now) c.loop-depth.left (candidate_view c.loop-depth.above) c.loop-depth.depth (length c.args.target.now - c.loop-depth.depth) (omega (arith, n, t)))
