use Rattle.dsec_text.specs.Words.{plain_of}
use Rattle.dsec_zonefile.proofs.JoinedWords.{one_more}
use Rattle.dsec_zonefile.proofs.word.join.Goals as goal

pub loop-word-preserved : goal.loop-word-preserved
loop-word-preserved c =
    one_more plain_of c.args.words.now c.loop-word.word-index _ c.loop-word.out.items c.push_plain.new.out.items _ c.loop-word-test.true c.in_ok-push_plain.ensures c.loop-word.invariant
