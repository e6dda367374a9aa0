use Rattle.std.proofs.Common.{refl, ap, ◌∙◌, ◌≡◌, ◌≤◌, length, take, ℕ, List, ◌∷◌, map}
use Rattle.std.proofs.lemmas.List.{take_all}
use Rattle.dsec_wire.specs.TypedData.{TypedData, data_of}
use Rattle.dsec_spec.specs.Records.{Record}
use Rattle.dsec_link.proofs.SetLemmas.{datas_typed, octets_of-data_of}
use Rattle.dsec_link.proofs.record_set.RecordSet.from_records.Goals as goal

all_of : (first : Record) (others : List Record) (n : ℕ) (datas : List TypedData) → length others ≤ n → datas ≡ data_of first ∷ map data_of (take n others) → datas ≡ data_of first ∷ map data_of others
all_of first others n datas past is = is ∙ ap (λ (records : List Record). data_of first ∷ map data_of records) (take_all n others past)

pub invariant_of-result : goal.invariant_of-result
invariant_of-result c =
    let is = all_of c.args.first.now c.args.others.now c.loop-record.record-index c.loop-record.datas.items c.loop-record-test.false c.loop-record.invariant in
    rw (is, c.rtype.ensures) (datas_typed c.args.first.now c.args.others.now c.requires)

pub returns : goal.returns
returns c =
    let is = all_of c.args.first.now c.args.others.now c.loop-record.record-index c.loop-record.datas.items c.loop-record-test.false c.loop-record.invariant in
    rw (is, c.rtype.ensures, c.class.ensures, c.in_ok-owner_of.ensures, octets_of-data_of c.args.others.now) refl
