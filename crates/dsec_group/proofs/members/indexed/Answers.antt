use Rattle.std.proofs.Common.{◌+◌, ◌++◌, ◌∷◌, [], take, ap, sym, refl, ◌∙◌}
use Rattle.std.proofs.lemmas.List.{take_more, take_all}
use Rattle.dsec_group.specs.Adding.{has_data}
use Rattle.dsec_group.proofs.DataSets.{data_kept}
use Rattle.dsec_group.proofs.members.indexed.Goals as goal

pub loop-record-preserved : goal.loop-record-preserved
loop-record-preserved c = λ o.
    let records = c.args.records.now in
    let i = c.loop-record.record-index in
    let item = c.record-item.result in
    data_kept item (take i records) (take i records) (take (i + 1) records) c.in_ok-octets.octets o _ _
    (c.in_ok-insert.ensures.updates.0 o) c.in_ok-octets.ensures (c.loop-record.invariant o) refl
    (take_more records i item c.loop-record-test.true ∙ ap (λ r. take i records ++ r ∷ []) (sym c.record-item.is))

pub returns : goal.returns
returns c = λ o. c.loop-record.invariant o ∙ ap (has_data o) (take_all c.loop-record.record-index c.args.records.now c.loop-record-test.false)
