use Rattle.std.proofs.Common.{sym, ap, ◌∙◌, ◌+◌, Bool, drop, arith}
use Rattle.dsec_spec.specs.Names.{place}
use Rattle.dsec_spec.specs.Groups.{Group}
use Rattle.dsec_absence.specs.Tests.{shows_type}
use Rattle.dsec_absence.specs.Answers.{search, sightings, undecided}
use Rattle.dsec_absence.proofs.SearchSteps.{after_some, ends_undecided}
use Rattle.dsec_negative.specs.Views.{type_shown}
use Rattle.dsec_negative.specs.Sources.{source_view}
use Rattle.dsec_negative.proofs.EvidenceLaws.{none_left}
use Rattle.dsec_negative.proofs.SearchLaws.{refusal_is, goes_past, goes_refused, goes_silent, ends_by_refusal, ends_by_record}
use Rattle.dsec_negative.proofs.nodata.search_type.Goals as goal
use Rattle.dsec_negative.proofs.nodata.search_type.Goals.{in-Passed, in-Expanded, in-Counts+in_ok-shows_type-in-Counts+in-Silent}

pub returns-in-Refutes : goal.returns-in-Refutes
returns-in-Refutes g c =
    let source = c.args.source.now in
    ends_by_refusal (λ r. shows_type r (place c.args.target.now) c.args.rtype) source.groups.now source.class source.signer.now c.loop-index.index c.index-source-index.result c.loop-index-test.true c.index-source-index.is
    c.loop-index.refused c.loop-index.invariant c.in_ok-sighted.field-0 c.in_ok-sighted.ensures c.in-Counts.nsec c.in-Counts.is c.owner.result.now (c.owner.ensures ∙ ap (λ (group : Group). group.owner) c.group.ensures)
    (type_shown c.in_ok-shows_type-in-Counts.field-0) c.in_ok-shows_type-in-Counts.ensures c.in-Refutes.cause (ap type_shown c.in-Refutes.is)

pub returns-in-Denies : goal.returns-in-Denies
returns-in-Denies g c =
    let source = c.args.source.now in
    ends_by_record (λ r. shows_type r (place c.args.target.now) c.args.rtype) source.groups.now source.class source.signer.now c.loop-index.index c.index-source-index.result c.loop-index-test.true c.index-source-index.is
    c.loop-index.refused c.loop-index.invariant c.in_ok-sighted.field-0 c.in_ok-sighted.ensures c.in-Counts.nsec c.in-Counts.is c.owner.result.now (c.owner.ensures ∙ ap (λ (group : Group). group.owner) c.group.ensures)
    (type_shown c.in_ok-shows_type-in-Counts.field-0) c.in_ok-shows_type-in-Counts.ensures tt (ap type_shown c.in-Denies.is)

pub loop-index-preserved : goal.loop-index-preserved
loop-index-preserved g c =
    let source = c.args.source.now in
    elim c.match-branch-2.branch [
      | in-Passed w ↦
          ap (λ (b : Bool). after_some b (search (λ r. shows_type r (place c.args.target.now) c.args.rtype) (c.loop-index.index + 1) (drop (c.loop-index.index + 1) (sightings (source_view source))))) w.refused-is
          ∙ goes_past (λ r. shows_type r (place c.args.target.now) c.args.rtype) source.groups.now source.class source.signer.now c.loop-index.index c.index-source-index.result c.loop-index-test.true c.index-source-index.is
          c.loop-index.refused c.loop-index.invariant c.in_ok-sighted.field-0 c.in_ok-sighted.ensures w.in-Passed.is
      | in-Expanded w ↦
          ap (λ (b : Bool). after_some b (search (λ r. shows_type r (place c.args.target.now) c.args.rtype) (c.loop-index.index + 1) (drop (c.loop-index.index + 1) (sightings (source_view source))))) w.refused-is
          ∙ goes_refused (λ r. shows_type r (place c.args.target.now) c.args.rtype) source.groups.now source.class source.signer.now c.loop-index.index c.index-source-index.result c.loop-index-test.true c.index-source-index.is
          c.loop-index.refused c.loop-index.invariant c.in_ok-sighted.field-0 c.in_ok-sighted.ensures w.in-Expanded.is
      | in-Counts+in_ok-shows_type-in-Counts+in-Silent w ↦
          ap (λ (b : Bool). after_some b (search (λ r. shows_type r (place c.args.target.now) c.args.rtype) (c.loop-index.index + 1) (drop (c.loop-index.index + 1) (sightings (source_view source))))) w.refused-is
          ∙ goes_silent (λ r. shows_type r (place c.args.target.now) c.args.rtype) source.groups.now source.class source.signer.now c.loop-index.index c.index-source-index.result c.loop-index-test.true c.index-source-index.is
          c.loop-index.refused c.loop-index.invariant c.in_ok-sighted.field-0 c.in_ok-sighted.ensures w.in-Counts.nsec w.in-Counts.is w.owner.result.now (w.owner.ensures ∙ ap (λ (group : Group). group.owner) w.group.ensures)
          (type_shown w.in_ok-shows_type-in-Counts.field-0) w.in_ok-shows_type-in-Counts.ensures (ap type_shown w.in-Silent.is)
    ]

pub returns : goal.returns
returns g c =
    let source = c.args.source.now in
    ap undecided (c.refusal.ensures ∙ refusal_is c.loop-index.refused)
    ∙ sym (ends_undecided (λ r. shows_type r (place c.args.target.now) c.args.rtype) (sightings (source_view source)) c.loop-index.index c.loop-index.refused
    (none_left source.groups.now source.class source.signer.now c.loop-index.index (omega (arith, c.loop-index-test.false))) c.loop-index.invariant)
