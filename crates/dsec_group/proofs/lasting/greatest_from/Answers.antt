use Rattle.std.proofs.Common.{◌≡◌, ◌+◌, ◌∷◌, sym, ap, ◌∙◌, drop}
use Rattle.std.specs.Prelude.{max}
use Rattle.std.proofs.lemmas.List.{at_drop_more, at_drop_all}
use Rattle.dsec_spec.specs.Records.{Record}
use Rattle.dsec_spec.specs.Lasting.{greatest_ttl}
use Rattle.dsec_group.proofs.SpanLaws.{greatest_step, greatest_none}
use Rattle.dsec_group.proofs.lasting.greatest_from.Goals as goal

pub loop-one-preserved : goal.loop-one-preserved
loop-one-preserved c =
    let item = c.one-item.result in
    let records = c.args.records.now in
    let i = c.loop-one.one-index in
    let next : c.max-greatest.result ≡ max c.loop-one.greatest item.ttl = c.max-greatest.ensures ∙ ap (max c.loop-one.greatest) (c.as_secs.ensures ∙ c.ttl.ensures) in
    greatest_step c.loop-one.greatest c.max-greatest.result item (drop (i + 1) records) next
    ∙ (ap (λ (r : Record). max c.loop-one.greatest (greatest_ttl (r ∷ drop (i + 1) records))) c.one-item.is
    ∙ (sym (at_drop_more (λ rs. max c.loop-one.greatest (greatest_ttl rs)) records i item c.loop-one-test.true) ∙ c.loop-one.invariant))

pub returns : goal.returns
returns c =
    sym (greatest_none c.loop-one.greatest)
    ∙ (sym (at_drop_all (λ rs. max c.loop-one.greatest (greatest_ttl rs)) c.args.records.now c.loop-one.one-index c.loop-one-test.false) ∙ c.loop-one.invariant)
