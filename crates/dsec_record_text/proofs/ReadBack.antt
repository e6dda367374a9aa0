-- The text of records is read back as the records.
use Rattle.std.proofs.Common.{◌≡◌, ℕ, List, [], ◌∷◌, ◌++◌, ◌+◌, ◌-◌, length, refl, sym, ap, ◌∙◌, subst, arith, map, take, Some, None, Ok}
use Rattle.std.specs.Prelude.{All, slice_range}
use Rattle.std.specs.List.{flat_map}
use Rattle.std.proofs.lemmas.List.{take_at, drop_at}
use Rattle.std.proofs.lemmas.List.Elements.{All-head, All-tail}
use Rattle.hex.specs.Hex.{encode_lower}
use Rattle.dsec_spec.specs.Records.{Record}
use Rattle.dsec_text.specs.Lines.{first_line_of, first_of, line_ends, line_or, lines_of}
use Rattle.dsec_text.specs.Words.{Word}
use Rattle.dsec_text.specs.declared.line.Span.{Span}
use Rattle.dsec_zonefile.specs.Entries.{HasEntries, IsNext, Reader, at_end, end, entry, first_told, found, goes_on, no_more, step_of, told}
use Rattle.dsec_zonefile.specs.Lines.{said_in}
use Rattle.dsec_zonefile.specs.Setting.{after}
use Rattle.dsec_zonefile.specs.declared.entry.Entry.TheVariants as entries
use Rattle.dsec_zonefile.specs.declared.setting.Setting.{Setting}
use Rattle.dsec_zonefile.specs.declared.setting.Said.TheVariants as said
use Rattle.dsec_zonefile.specs.declared.step.Step.{Step}
use Rattle.dsec_record_text.specs.RecordText.{IsWritable, records_text}
use Rattle.dsec_record_text.proofs.LineSaid.{front_are_words, front_words, last_is_word, line_is, line_says, words_are, worded_line}
use Rattle.dsec_record_text.proofs.LineText.{line_first}

slice_line : (line rest : List ℕ) → slice_range (line ++ rest) 0 (length line) ≡ line
slice_line line rest =
    let size : length line - 0 ≡ length line = omega arith in
    ap (λ (n : ℕ). take n (line ++ rest)) size ∙ take_at line rest (length line) refl

abbrev reader_of : ℕ → List ℕ → ℕ → Setting → Reader
reader_of begun text passed setting = record { text = text; passed = passed; setting = setting; refused = None; begun = begun }

-- what the line of a record says, and where it ends
abbrev step_for : ℕ → Record → Step
step_for passed r = record { said = said.Entry (entries.Record r); octets = length (worded_line r); lines = 0 + line_ends (worded_line r); begins = passed + 0 + 1 }

-- the first line is the record's
line_found : (r : Record) (rest : List ℕ) → IsWritable r → first_line_of (worded_line r ++ rest) ≡ Ok (Some (record { before = 0; start = 0; end = length (worded_line r) }))
line_found r rest h =
    ap first_of (line_first (front_words r) (encode_lower r.rdata) rest (front_are_words r h) (last_is_word r h))
    ∙ ap (λ (words : List Word). line_or (worded_line r) words (first_of (lines_of rest))) (words_are r h)

step_is : (r : Record) (rest : List ℕ) (begun passed : ℕ) (setting : Setting) → IsWritable r → step_of (reader_of begun (worded_line r ++ rest) passed setting) ≡ Ok (Some (step_for passed r))
step_is r rest begun passed setting h =
    let reader = reader_of begun (worded_line r ++ rest) passed setting in
    let span : Span = record { before = 0; start = 0; end = length (worded_line r) } in
    ap (first_told reader) (line_found r rest h)
    ∙ ap (λ (line : List ℕ). told passed span line (said_in setting line)) (slice_line (worded_line r) rest)
    ∙ ap (told passed span (worded_line r)) (line_says setting r h)

-- the record comes next, and the reader behind it has the rest
record_next : (r : Record) (rest : List ℕ) (begun passed : ℕ) (setting : Setting) → IsWritable r
    → IsNext (reader_of begun (worded_line r ++ rest) passed setting) (found (entries.Record r) (reader_of (passed + 0 + 1) rest (passed + (step_for passed r).lines) (after setting (step_for passed r).said)))
record_next r rest begun passed setting h =
    let reader = reader_of begun (worded_line r ++ rest) passed setting in
    subst (λ (text : List ℕ). IsNext reader (found (entries.Record r) (reader_of (passed + 0 + 1) text (passed + (step_for passed r).lines) (after setting (step_for passed r).said))))
    (drop_at (worded_line r) rest (length (worded_line r)) refl)
    (entry reader (step_for passed r) (entries.Record r) refl (step_is r rest begun passed setting h) refl)

abbrev worded_text : List Record → List ℕ
worded_text records = flat_map worded_line records

text_is : (records : List Record) → records_text records ≡ worded_text records
text_is [] = refl
text_is (r ∷ records) = λ i. line_is r i ++ text_is records i

-- the records come one by one
records_next : (records : List Record) (begun passed : ℕ) (setting : Setting) → All IsWritable records
    → HasEntries (reader_of begun (worded_text records) passed setting) (map entries.Record records) None
records_next [] begun passed setting h =
    let reader = reader_of begun [] passed setting in
    no_more reader (at_end reader) (end reader refl refl)
records_next (r ∷ records) begun passed setting h =
    goes_on (reader_of begun (worded_text (r ∷ records)) passed setting) (reader_of (passed + 0 + 1) (worded_text records) (passed + (step_for passed r).lines) (after setting (step_for passed r).said)) (entries.Record r) (map entries.Record records) None
    (record_next r (worded_text records) begun passed setting (All-head IsWritable r records h))
    (records_next records (passed + 0 + 1) (passed + (step_for passed r).lines) (after setting (step_for passed r).said) (All-tail IsWritable r records h))

-- whoever has the text of records left is given the records
pub text_back : (records : List Record) → All IsWritable records → (reader : Reader) → reader.text ≡ records_text records → reader.refused ≡ None
    → HasEntries reader (map entries.Record records) None
text_back records h reader text free =
    subst (λ (r : Reader). HasEntries r (map entries.Record records) None)
    (λ i. record { text = sym (text ∙ text_is records) i; passed = reader.passed; setting = reader.setting; refused = sym free i; begun = reader.begun })
    (records_next records reader.begun reader.passed reader.setting h)
