-- What a text says wherever it is read.
use Rattle.std.specs.Prelude.{◌≡◌, ℕ, List, map, None}
use Rattle.dsec_spec.specs.Records.{Record}
use Rattle.dsec_zonefile.specs.Entries.{HasEntries, Reader}
use Rattle.dsec_zonefile.specs.declared.entry.Entry.TheVariants as entries

-- whoever has this text left, whatever was read before it and under whatever setting, is given these records, and no line is refused
abbrev pub ReadsAs : List ℕ → List Record → Type 0
ReadsAs text records = (reader : Reader) → reader.text ≡ text → reader.refused ≡ None → HasEntries reader (map entries.Record records) None
