-- Lines of records, one after the other.
use Rattle.std.proofs.Common.{◌≡◌, ℕ, zero, suc, List, [], ◌∷◌, ◌++◌, ◌<◌, ◌+◌, length, take, drop, get_or, refl, sym, ap, ◌∙◌, subst, append_assoc, append-nil, length-append, arith}
use Rattle.std.specs.Prelude.{Option}
use Rattle.std.specs.Io.KnownBytes.{Appends}
use Rattle.std.proofs.Math.Seq.{take-append_seam}
use Rattle.std.proofs.lemmas.List.{take_more, take-append-drop}
use Rattle.dsec_spec.specs.Records.{Record}
use Rattle.dsec_outside.specs.Sending.{SentBut}
use Rattle.dsec_record_text.specs.Parts.{SentPart}
use Rattle.dsec_record_text.specs.RecordText.{line_data, line_head, record_line, records_text}

text_append : (xs ys : List Record) → records_text (xs ++ ys) ≡ records_text xs ++ records_text ys
text_append [] ys = refl
text_append (x ∷ xs) ys = ap (λ t. record_line x ++ t) (text_append xs ys) ∙ sym (append_assoc (record_line x) (records_text xs) (records_text ys))

-- the text of the first records, and of one more
pub one_more : (records : List Record) (k : ℕ) (it : Record) → k < length records → it ≡ get_or records k it
    → records_text (take (k + 1) records) ≡ records_text (take k records) ++ record_line it
one_more records k it l is =
    ap records_text (take_more records k it l)
    ∙ text_append (take k records) (get_or records k it ∷ [])
    ∙ ap (λ t. records_text (take k records) ++ t) (append-nil (record_line (get_or records k it)) ∙ ap record_line (sym is))

-- the text of the first records, and of the others
pub first_lines : (records : List Record) (k : ℕ) → records_text records ≡ records_text (take k records) ++ records_text (drop k records)
first_lines records k = ap records_text (sym (take-append-drop k records)) ∙ text_append (take k records) (drop k records)

-- a line is left
pub line_left : (records : List Record) (k : ℕ) → k < length records → 0 < length (records_text (drop k records))
line_left [] k l = absurd (omega arith)
line_left (r ∷ records) zero l =
    let all : length (records_text (drop 0 (r ∷ records))) ≡ length (record_line r) + length (records_text records) = length-append (record_line r) (records_text records) in
    let end : List ℕ = 10 ∷ [] in
    let line : length (record_line r) ≡ length (line_head r ++ line_data r) + length end = length-append (line_head r ++ line_data r) end in
    omega (arith, all, line)
line_left (r ∷ records) (suc k) l = line_left records k (omega arith)

-- what went out of a text's beginning, with more to come, isn't all of the text
pub part_of : (a b : Option (List ℕ)) (text rest more whole : List ℕ) → whole ≡ text ++ more → SentBut a b text rest → 0 < length more → SentPart a b whole
part_of a b text rest more whole e h some =
    let is : whole ≡ h.sent ++ (rest ++ more) = e ∙ (ap (λ (t : List ℕ). t ++ more) h.is ∙ append_assoc h.sent rest more) in
    let lt : length h.sent < length whole = omega (arith, some, ap length is, length-append h.sent (rest ++ more), length-append rest more) in
    (length h.sent, lt, subst (Appends a b) (sym (ap (take (length h.sent)) is ∙ take-append_seam h.sent (rest ++ more))) h.went)
