use Rattle.std.proofs.Common.{◌≡◌, drop, map}
use Rattle.dsec_text.specs.Words.{word_view}
use Rattle.dsec_zonefile.specs.Words.{added, joined, string_in}
use Rattle.dsec_zonefile.proofs.word.strings.Given as goal

abbrev pub invariant-loop-word : goal.invariant-loop-word
invariant-loop-word l = added l.out.items (joined string_in (map word_view (drop l.word-index l.words))) ≡ joined string_in (map word_view l.words)
