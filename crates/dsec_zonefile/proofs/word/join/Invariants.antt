use Rattle.std.proofs.Common.{◌≡◌, drop, map}
use Rattle.dsec_text.specs.Words.{plain_of, word_view}
use Rattle.dsec_zonefile.specs.Words.{added, joined}
use Rattle.dsec_zonefile.proofs.word.join.Given as goal

abbrev pub invariant-loop-word : goal.invariant-loop-word
invariant-loop-word l = added l.out.items (joined plain_of (map word_view (drop l.word-index l.words))) ≡ joined plain_of (map word_view l.words)
