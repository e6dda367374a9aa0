use Rattle.std.proofs.Common.{drop, sym, ap, ◌∙◌, arith}
use Rattle.dsec_spec.specs.Names.{place}
use Rattle.dsec_nsec3_calls.specs.Sources.{limits_view, seen_view}
use Rattle.dsec_nsec3_calls.specs.Tellings.{told_of}
use Rattle.dsec_nsec3_calls.proofs.LoopLaws.{none_left, cover_none}
use Rattle.dsec_nsec3_calls.proofs.OctetLaws.{octets_of_place}
use Rattle.dsec_nsec3_calls.proofs.StepLaws.{cover_ends, cover_goes}
use Rattle.dsec_nsec3_calls.proofs.covering.search_cover.Goals as goal

pub returns-in-Some : goal.returns-in-Some
returns-in-Some g c =
    let source = c.args.source.now in
    cover_ends (limits_view source) source.groups.now source.class source.signer.now c.loop-index.index c.index-source-index.result c.loop-index-test.true c.index-source-index.is
    (place source.signer.now) (place c.args.target.now) c.cover_by_group.result
    (λ later. c.cover_by_group.ensures (place c.args.target.now) later (c.as_slice.ensures.value ∙ (c.canonical_octets-octets.ensures ∙ octets_of_place c.args.target.now))
    (c.as_slice-in-loop-index.ensures.value ∙ (c.canonical_octets-zone.ensures ∙ octets_of_place source.signer.now))) c.in-Some.told c.in-Some.is
    ∙ sym c.loop-index.invariant

pub loop-index-preserved : goal.loop-index-preserved
loop-index-preserved g c =
    let source = c.args.source.now in
    c.loop-index.invariant
    ∙ cover_goes (limits_view source) source.groups.now source.class source.signer.now c.loop-index.index c.index-source-index.result c.loop-index-test.true c.index-source-index.is
    (place source.signer.now) (place c.args.target.now) c.cover_by_group.result
    (λ later. c.cover_by_group.ensures (place c.args.target.now) later (c.as_slice.ensures.value ∙ (c.canonical_octets-octets.ensures ∙ octets_of_place c.args.target.now))
    (c.as_slice-in-loop-index.ensures.value ∙ (c.canonical_octets-zone.ensures ∙ octets_of_place source.signer.now))) c.in-None.is

pub returns : goal.returns
returns g c =
    let source = c.args.source.now in
    sym (c.loop-index.invariant
    ∙ ap told_of (cover_none (place source.signer.now) (place c.args.target.now) c.loop-index.index (drop c.loop-index.index (seen_view source))
    (none_left (limits_view source) source.groups.now source.class source.signer.now c.loop-index.index (omega (arith, c.loop-index-test.false)))))
