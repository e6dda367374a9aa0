use Rattle.std.proofs.Common.{◌≡◌, ℕ, ◌+◌, sym, ap, ◌∙◌, drop}
use Rattle.std.specs.Prelude.{min}
use Rattle.std.proofs.lemmas.List.{at_drop_more, at_drop_all}
use Rattle.dsec_spec.specs.Records.{Record}
use Rattle.dsec_spec.specs.Lasting.{least_ttl}
use Rattle.dsec_group.specs.Spans.{least_from}
use Rattle.dsec_group.proofs.SpanLaws.{least_is, least_none}
use Rattle.dsec_group.proofs.lasting.least_of.Goals as goal

pub loop-one-preserved : goal.loop-one-preserved
unfolding least_from
loop-one-preserved c =
    let item = c.one-item.result in
    let others = c.in-Some.others.now in
    let i = c.loop-one.one-index in
    let same : c.min-least.result ≡ min c.loop-one.least item.ttl = c.min-least.ensures ∙ ap (min c.loop-one.least) (c.as_secs.ensures ∙ c.ttl-in-loop-one.ensures) in
    ap (λ n. least_from n (drop (i + 1) others)) same
    ∙ (ap (λ (r : Record). least_from (min c.loop-one.least r.ttl) (drop (i + 1) others)) c.one-item.is
    ∙ (sym (at_drop_more (least_from c.loop-one.least) others i item c.loop-one-test.true) ∙ c.loop-one.invariant))

pub returns : goal.returns
unfolding least_from
returns c =
    c.from_secs.ensures
    ∙ (sym (at_drop_all (least_from c.loop-one.least) c.in-Some.others.now c.loop-one.one-index c.loop-one-test.false)
    ∙ (c.loop-one.invariant
    ∙ (ap (λ (n : ℕ). least_from n c.in-Some.others.now) (c.as_secs-least.ensures ∙ c.ttl.ensures)
    ∙ (sym (least_is c.in-Some.first.now c.in-Some.others.now) ∙ sym (ap least_ttl c.in-Some.ensures.cases.0)))))

pub returns-in_default : goal.returns-in_default
returns-in_default c = least_none c.args.records.now c.in_default.ensures.cases
