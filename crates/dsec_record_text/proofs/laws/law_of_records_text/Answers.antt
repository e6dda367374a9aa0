use Rattle.std.proofs.Common.{All, subst}
use Rattle.std.proofs.lemmas.List.{take_all}
use Rattle.std.proofs.lemmas.List.Elements.{All-more}
use Rattle.dsec_record_text.specs.RecordText.{IsWritable}
use Rattle.dsec_record_text.proofs.ReadBack.{text_back}
use Rattle.dsec_record_text.proofs.laws.law_of_records_text.Goals as goal

pub loop-it-preserved : goal.loop-it-preserved
loop-it-preserved c =
    All-more IsWritable c.args.records.now c.loop-it.it-index c.it-item.result c.loop-it-test.true c.loop-it.invariant (subst IsWritable c.it-item.is c.writable.ensures)

pub returns : goal.returns
returns c reader text free =
    text_back c.args.records.now (subst (All IsWritable) (take_all c.loop-it.it-index c.args.records.now c.loop-it-test.false) c.loop-it.invariant) reader text free
