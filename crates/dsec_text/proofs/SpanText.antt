-- The first line with a word has one.
use Rattle.std.proofs.Common.{◌≡◌, ℕ, ◌+◌, ◌-◌, ◌<◌, List, [], ◌∷◌, ◌++◌, length, take, refl, sym, ap, ◌∙◌, subst, arith}
use Rattle.std.specs.Prelude.{Option, Some, None, Result, Ok, Err, slice_range}
use Rattle.std.proofs.lemmas.List.{take_at}
use Rattle.std.proofs.Math.Seq.{drop-append-add}
use Rattle.dsec_text.specs.Words.{Word, words_of}
use Rattle.dsec_text.specs.Lines.{lines_of, line_ends, moved, line_or, first_of, first_line_of}
use Rattle.dsec_text.specs.declared.line.Span.{Span}
use Rattle.dsec_text.specs.declared.line.BadLine.{BadLine}
use Rattle.dsec_text.proofs.LineText.{line_begins}

abbrev HasWord : List ℕ → Span → Type 0
HasWord text span = 0 < length (words_of (slice_range text span.start span.end))

slice_behind : (line rest : List ℕ) (a b : ℕ) → slice_range (line ++ rest) (length line + a) (length line + b) ≡ slice_range rest a b
slice_behind line rest a b =
    let size : (length line + b) - (length line + a) ≡ b - a = omega arith in
    λ i. take (size i) (drop-append-add line rest a i)

slice_line : (line rest : List ℕ) → slice_range (line ++ rest) 0 (length line) ≡ line
slice_line line rest = let size : length line - 0 ≡ length line = omega arith in ap (λ (n : ℕ). take n (line ++ rest)) size ∙ take_at line rest (length line) refl

word_later : (line rest text : List ℕ) (span : Span) (found : Result (Option Span) BadLine) → text ≡ line ++ rest → ((s : Span) → found ≡ Ok (Some s) → HasWord rest s)
    → moved (length line) (line_ends line) found ≡ Ok (Some span) → HasWord text span
word_later line rest text span (Err b) is next e = absurd cc
word_later line rest text span (Ok None) is next e = absurd cc
word_later line rest text span (Ok (Some s)) is next e =
    let same : record { before = line_ends line + s.before; start = length line + s.start; end = length line + s.end } ≡ span = cc in
    subst (HasWord text) same
    (subst (λ (x : List ℕ). 0 < length (words_of x)) (sym (slice_behind line rest s.start s.end) ∙ ap (λ (x : List ℕ). slice_range x (length line + s.start) (length line + s.end)) (sym is)) (next s refl))

word_here : (line rest text : List ℕ) (span : Span) (word : Word) (words : List Word) → text ≡ line ++ rest → words_of line ≡ word ∷ words
    → ◌≡◌ {A = Result (Option Span) BadLine} (Ok (Some (record { before = 0; start = 0; end = length line }))) (Ok (Some span)) → HasWord text span
word_here line rest text span word words is some e =
    let same : record { before = 0; start = 0; end = length line } ≡ span = cc in
    let line_is : slice_range text 0 (length line) ≡ line = ap (λ (x : List ℕ). slice_range x 0 (length line)) is ∙ slice_line line rest in
    let l = ap (λ (x : List Word). length x) (ap words_of line_is ∙ some) in
    subst (HasWord text) same (omega (arith, l))

word_in_line : (line rest text : List ℕ) (span : Span) (words : List Word) (found : Result (Option Span) BadLine) → text ≡ line ++ rest → words_of line ≡ words → ((s : Span) → found ≡ Ok (Some s) → HasWord rest s)
    → line_or line words found ≡ Ok (Some span) → HasWord text span
word_in_line line rest text span [] found is some next e = word_later line rest text span found is next e
word_in_line line rest text span (word ∷ words) found is some next e = word_here line rest text span word words is some e

found_word : (lines : List (Option (List ℕ))) (text : List ℕ) (span : Span) → lines_of text ≡ lines → first_of lines ≡ Ok (Some span) → HasWord text span
found_word [] text span is e = absurd cc
found_word (None ∷ lines) text span is e = absurd cc
found_word (Some line ∷ lines) text span is e =
    let h = line_begins text line lines is in
    word_in_line line h.rest text span (words_of line) (first_of lines) h.is refl (λ s f. found_word lines h.rest s (sym h.follow) f) e

-- what is found has a word
pub line_has_word : (text : List ℕ) (span : Span) → first_line_of text ≡ Ok (Some span) → 0 < length (words_of (slice_range text span.start span.end))
line_has_word text span e = found_word (lines_of text) text span refl e
