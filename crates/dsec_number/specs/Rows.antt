-- The rows of a table of words, as contracts see them.
use Rattle.std.specs.Prelude.{List, map}
use Rattle.dsec_number.specs.declared.word.Row.{Row}
use Rattle.dsec_number.specs.Words.{Words}

abbrev pub words_in : List Row → Words
words_in rows = map (λ row. (row.word.now, row.number)) rows
