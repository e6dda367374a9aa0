use Rattle.std.proofs.Common.{◌≡◌, sym, ap, ◌∙◌}
use Rattle.dsec_spec.specs.Names.{Place, place, is_below}
use Rattle.dsec_spec.specs.DenyingRecords.{next_of}
use Rattle.dsec_absence.specs.Tests.{common, longer}
use Rattle.dsec_nodes.specs.MissingDs.{is_in_range}
use Rattle.dsec_negative.specs.Views.{record_at}
use Rattle.dsec_negative.proofs.ShownLaws.{missing_refused, missing_denied}
use Rattle.dsec_negative.proofs.shown.shows_missing.Goals as goal

pub returns-then-is_refused_below : goal.returns-then-is_refused_below
returns-then-is_refused_below c =
    let owner = place c.args.owner.now in
    let target = place c.args.target.now in
    let r = record_at c.args.owner.now c.args.nsec.now in
    let next : next_of r ≡ place c.in_ok-next.next = ap place (sym c.in_ok-next.ensures) in
    missing_refused r target (sym c.is_same.ensures ∙ c.if-is_same.false) (ap (λ (p : Place). is_in_range owner p target) next ∙ (sym c.nsec_in_range.ensures.test ∙ c.if-not-nsec_in_range.false))
    (ap (λ (p : Place). is_below p target) next ∙ (sym c.is_below.ensures ∙ c.if-is_below.false)) (sym c.is_refused_below.ensures ∙ c.if-is_refused_below.true)

pub returns : goal.returns
returns c =
    let owner = place c.args.owner.now in
    let target = place c.args.target.now in
    let r = record_at c.args.owner.now c.args.nsec.now in
    let next : next_of r ≡ place c.in_ok-next.next = ap place (sym c.in_ok-next.ensures) in
    missing_denied r target (sym c.is_same.ensures ∙ c.if-is_same.false) (ap (λ (p : Place). is_in_range owner p target) next ∙ (sym c.nsec_in_range.ensures.test ∙ c.if-not-nsec_in_range.false))
    (ap (λ (p : Place). is_below p target) next ∙ (sym c.is_below.ensures ∙ c.if-is_below.false)) _ (sym c.is_refused_below.ensures ∙ c.if-is_refused_below.false)
    (c.in_ok-labels.ensures ∙ ap (λ (p : Place). longer (common target owner) (common target p)) (sym next))
