-- What zone text says, line by line (RFC 1035 5.1).
use Rattle.std.specs.Prelude.{ℕ, ◌+◌, List, [], ◌∷◌, Option, Some, None}
use Rattle.dsec_text.specs.Lines.{line_ends, lines_of}
use Rattle.dsec_text.specs.Words.{Word, words_of}
use Rattle.dsec_zonefile.specs.Entries.{Reader}
use Rattle.dsec_zonefile.specs.Lines.{said_in}
use Rattle.dsec_zonefile.specs.Setting.{after, entry_of}
use Rattle.dsec_zonefile.specs.declared.entry.Entry.{Entry}
use Rattle.dsec_zonefile.specs.declared.setting.Said.{Said}
use Rattle.dsec_zonefile.specs.declared.setting.Setting.{Setting}

-- what lines say: their entries in order, and the number of the line that is refused behind them, if one is
pub record Reading : Type 0 where
  pub entries : List Entry
  pub end : Option ℕ

-- the line behind so many line ends is refused, and none behind it says anything; lines are numbered from 1
abbrev pub refused_at : ℕ → Reading
refused_at passed = record { entries = []; end = Some (passed + 1) }

-- the entry that a line gives, if it gives one, and then what the lines behind it say
abbrev pub with_entry : Option Entry → Reading → Reading
with_entry None others = others
with_entry (Some it) others = record { entries = it ∷ others.entries; end = others.end }

-- what a line says, or its refusal; the lines behind it are read under the setting that it leaves
abbrev pub with_said : ℕ → Setting → Option Said → (Setting → Reading) → Reading
with_said passed setting None others = refused_at passed
with_said passed setting (Some said) others = with_entry (entry_of said) (others (after setting said))

-- a line by its words: one without a word says nothing
abbrev pub with_line : ℕ → Setting → List ℕ → List Word → (Setting → Reading) → Reading
with_line passed setting line [] others = others setting
with_line passed setting line (word ∷ words) others = with_said passed setting (said_in setting line) others

-- what lines say under a setting, where the first of them stands behind so many line ends
unfoldable pub reading_from : ℕ → Setting → List (Option (List ℕ)) → Reading
reading_from passed setting [] = record { entries = []; end = None }
reading_from passed setting (None ∷ lines) = refused_at passed
reading_from passed setting (Some line ∷ lines) = with_line passed setting line (words_of line) (λ next. reading_from (passed + line_ends line) next lines)

-- what a reader has left; a refusal stays
abbrev pub left_unless : Option ℕ → Reader → Reading
left_unless None reader = reading_from reader.passed reader.setting (lines_of reader.text)
left_unless (Some line) reader = record { entries = []; end = Some line }

abbrev pub reading_of : Reader → Reading
reading_of reader = left_unless reader.refused reader
