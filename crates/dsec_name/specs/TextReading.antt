-- Names as text, read from the front: the functions that `WritesNameIn` and `WritesName` are the graphs of.
use Rattle.std.specs.Prelude.{ℕ, zero, suc, nat_le, List, [], ◌∷◌, ◌++◌, length, ◌&&◌, Option, Some, None, Result, ◌==◌, if◌then◌else◌}
use Rattle.std.specs.Char.{is_ascii_digit}
use Rattle.std.specs.Str.{bytes_eq}
use Rattle.dsec_spec.specs.Names.{Labels}
use Rattle.dsec_spec.specs.Reading.{◌>>=◌}
use Rattle.dsec_name.specs.Errors.{name_of_read}
use Rattle.dsec_name.specs.NameText.{number_of}
use Rattle.dsec_name.specs.declared.error.NameError.{NameError}

-- the octet that three digits write
abbrev pub read_number : ℕ → ℕ → ℕ → Option ℕ
read_number a b c = if is_ascii_digit b && (is_ascii_digit c && nat_le (number_of a b c) 255) then Some (number_of a b c) else None

-- the octet that three digits at the front write, of which the first was read, and the text after them
abbrev pub read_digits : ℕ → List ℕ → Option (ℕ × List ℕ)
read_digits a [] = None
read_digits a (b ∷ []) = None
read_digits a (b ∷ c ∷ text) = read_number a b c >>= λ octet. Some (octet, text)

-- the octet that the front of a text after `\` writes, and the text after that
abbrev pub read_escape : List ℕ → Option (ℕ × List ℕ)
read_escape [] = None
read_escape (a ∷ text) = if is_ascii_digit a then read_digits a text else Some (a, text)

-- the octet that the front of a text writes, and the text after it
abbrev pub read_octet : List ℕ → Option (ℕ × List ℕ)
read_octet [] = None
read_octet (c ∷ text) = if c == 46 then None else if c == 92 then read_escape text else Some (c, text)

-- the octets up to a `.` or the end, and the text from there on
abbrev pub read_label_within : ℕ → List ℕ → Option (List ℕ × List ℕ)
read_label_within n [] = Some ([], [])
read_label_within zero (c ∷ text) = None
read_label_within (suc n) (c ∷ text) =
    if c == 46 then Some ([], c ∷ text)
    else read_octet (c ∷ text) >>= λ first. read_label_within n first.1 >>= λ more. Some (first.0 ∷ more.0, more.1)

abbrev pub read_label : List ℕ → Option (List ℕ × List ℕ)
read_label text = read_label_within (length text) text

-- a label, and the labels after its `.`, if there is more after that; without a `.` it stands before the origin
abbrev pub then_labels : Labels → (List ℕ → Option Labels) → List ℕ × List ℕ → Option Labels
then_labels origin others ([], rest) = None
then_labels origin others (c ∷ label, []) = Some ((c ∷ label) ∷ origin)
then_labels origin others (c ∷ label, dot ∷ []) = Some ((c ∷ label) ∷ [])
then_labels origin others (c ∷ label, dot ∷ d ∷ rest) = others (d ∷ rest) >>= λ labels. Some ((c ∷ label) ∷ labels)

abbrev pub read_labels_within : Labels → ℕ → List ℕ → Option Labels
read_labels_within origin zero text = None
read_labels_within origin (suc n) text = read_label text >>= then_labels origin (read_labels_within origin n)

-- the labels, one at least, that a text writes before the origin's, where it doesn't end by a `.`
abbrev pub read_labels : Labels → List ℕ → Option Labels
read_labels origin text = read_labels_within origin (length text) text

-- the labels that a text writes in a zone
abbrev pub text_labels_in : Labels → List ℕ → Option Labels
text_labels_in origin text = if bytes_eq text (46 ∷ []) then Some [] else read_labels origin text

-- the name that a text writes in a zone
abbrev pub name_of_text_in : Labels → List ℕ → Result Labels NameError
name_of_text_in origin text = name_of_read (text_labels_in origin text)

-- the labels that a text writes: as with the root for an origin
abbrev pub text_labels : List ℕ → Option Labels
text_labels text = text_labels_in [] text

-- the name that a text writes
abbrev pub name_of_text : List ℕ → Result Labels NameError
name_of_text text = name_of_text_in [] text

-- what was read after a front that was read before
abbrev pub after_octets : List ℕ → Option (List ℕ × List ℕ) → Option (List ℕ × List ℕ)
after_octets front read = read >>= λ label. Some (front ++ label.0, label.1)

abbrev pub after_labels : Labels → Option Labels → Option Labels
after_labels front read = read >>= λ labels. Some (front ++ labels)
