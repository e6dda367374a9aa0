use Rattle.std.proofs.Common.{sym, ap, ◌∙◌, ◌+◌, Bool, drop, arith}
use Rattle.dsec_spec.specs.Names.{place}
use Rattle.dsec_spec.specs.Groups.{Group}
use Rattle.dsec_spec.specs.SignedBytes.{rightmost}
use Rattle.dsec_absence.specs.Tests.{shows_missing}
use Rattle.dsec_absence.specs.Answers.{search, sightings, undecided}
use Rattle.dsec_absence.proofs.SearchSteps.{after_some, ends_undecided}
use Rattle.dsec_negative.specs.Views.{name_shown}
use Rattle.dsec_negative.specs.Sources.{source_view}
use Rattle.dsec_negative.proofs.EvidenceLaws.{none_left}
use Rattle.dsec_negative.proofs.SearchLaws.{refusal_is, goes_past, goes_refused, goes_silent, ends_by_refusal, ends_by_record}
use Rattle.dsec_negative.proofs.missing.search_missing.Goals as goal
use Rattle.dsec_negative.proofs.missing.search_missing.Goals.{in-Passed, in-Expanded, in-Counts+in_ok-shows_missing-in-Counts+in-Silent}

pub returns-in-Refutes : goal.returns-in-Refutes
returns-in-Refutes g c =
    let source = c.args.source.now in
    ends_by_refusal (λ r. shows_missing r (place c.args.target.now)) source.groups.now source.class source.signer.now c.loop-index.index c.index-source-index.result c.loop-index-test.true c.index-source-index.is
    c.loop-index.refused c.loop-index.invariant c.in_ok-sighted.field-0 c.in_ok-sighted.ensures c.in-Counts.nsec c.in-Counts.is c.owner.result.now (c.owner.ensures ∙ ap (λ (group : Group). group.owner) c.group.ensures)
    (name_shown c.args.target.now c.in_ok-shows_missing-in-Counts.field-0) c.in_ok-shows_missing-in-Counts.ensures c.in-Refutes.cause (ap (name_shown c.args.target.now) c.in-Refutes.is)

pub returns-in-Denies : goal.returns-in-Denies
returns-in-Denies g c =
    let source = c.args.source.now in
    ends_by_record (λ r. shows_missing r (place c.args.target.now)) source.groups.now source.class source.signer.now c.loop-index.index c.index-source-index.result c.loop-index-test.true c.index-source-index.is
    c.loop-index.refused c.loop-index.invariant c.in_ok-sighted.field-0 c.in_ok-sighted.ensures c.in-Counts.nsec c.in-Counts.is c.owner.result.now (c.owner.ensures ∙ ap (λ (group : Group). group.owner) c.group.ensures)
    (name_shown c.args.target.now c.in_ok-shows_missing-in-Counts.field-0) c.in_ok-shows_missing-in-Counts.ensures (place (rightmost c.in-Denies.labels c.args.target.now)) (ap (name_shown c.args.target.now) c.in-Denies.is)

pub loop-index-preserved : goal.loop-index-preserved
loop-index-preserved g c =
    let source = c.args.source.now in
    elim c.match-branch-2.branch [
      | in-Passed w ↦
          ap (λ (b : Bool). after_some b (search (λ r. shows_missing r (place c.args.target.now)) (c.loop-index.index + 1) (drop (c.loop-index.index + 1) (sightings (source_view source))))) w.refused-is
          ∙ goes_past (λ r. shows_missing r (place c.args.target.now)) source.groups.now source.class source.signer.now c.loop-index.index c.index-source-index.result c.loop-index-test.true c.index-source-index.is
          c.loop-index.refused c.loop-index.invariant c.in_ok-sighted.field-0 c.in_ok-sighted.ensures w.in-Passed.is
      | in-Expanded w ↦
          ap (λ (b : Bool). after_some b (search (λ r. shows_missing r (place c.args.target.now)) (c.loop-index.index + 1) (drop (c.loop-index.index + 1) (sightings (source_view source))))) w.refused-is
          ∙ goes_refused (λ r. shows_missing r (place c.args.target.now)) source.groups.now source.class source.signer.now c.loop-index.index c.index-source-index.result c.loop-index-test.true c.index-source-index.is
          c.loop-index.refused c.loop-index.invariant c.in_ok-sighted.field-0 c.in_ok-sighted.ensures w.in-Expanded.is
      | in-Counts+in_ok-shows_missing-in-Counts+in-Silent w ↦
          ap (λ (b : Bool). after_some b (search (λ r. shows_missing r (place c.args.target.now)) (c.loop-index.index + 1) (drop (c.loop-index.index + 1) (sightings (source_view source))))) w.refused-is
          ∙ goes_silent (λ r. shows_missing r (place c.args.target.now)) source.groups.now source.class source.signer.now c.loop-index.index c.index-source-index.result c.loop-index-test.true c.index-source-index.is
          c.loop-index.refused c.loop-index.invariant c.in_ok-sighted.field-0 c.in_ok-sighted.ensures w.in-Counts.nsec w.in-Counts.is w.owner.result.now (w.owner.ensures ∙ ap (λ (group : Group). group.owner) w.group.ensures)
          (name_shown c.args.target.now w.in_ok-shows_missing-in-Counts.field-0) w.in_ok-shows_missing-in-Counts.ensures (ap (name_shown c.args.target.now) w.in-Silent.is)
    ]

pub returns : goal.returns
returns g c =
    let source = c.args.source.now in
    ap undecided (c.refusal.ensures ∙ refusal_is c.loop-index.refused)
    ∙ sym (ends_undecided (λ r. shows_missing r (place c.args.target.now)) (sightings (source_view source)) c.loop-index.index c.loop-index.refused
    (none_left source.groups.now source.class source.signer.now c.loop-index.index (omega (arith, c.loop-index-test.false))) c.loop-index.invariant)
