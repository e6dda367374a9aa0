-- What is found among the rows of a table is what is found among their words and numbers.
use Rattle.std.proofs.Common.{◌≡◌, ℕ, Bool, true, false, cond, List, [], ◌∷◌, Option, Some, None, refl, ap, ◌∙◌}
use Rattle.std.specs.Prelude.{find, nat_eq}
use Rattle.std.specs.Option.{option_map}
use Rattle.std.specs.Str.{str_eq_ignore_ascii_case}
use Rattle.dsec_number.specs.declared.word.Row.{Row}
use Rattle.dsec_number.specs.Words.{named_of}
use Rattle.dsec_number.specs.Rows.{words_in}

-- a row as its word and number
abbrev view : Row → List ℕ × ℕ
view row = (row.word.now, row.number)

found : (b : Bool) (row : Row) (p q : Option Row) (r : Option (List ℕ × ℕ)) → option_map view q ≡ r → option_map view (cond b (Some row) q) ≡ cond b (Some (view row)) r
found true row p q r e = refl
found false row p q r e = e

find-words_in : (test : List ℕ × ℕ → Bool) (rows : List Row) → option_map view (find (λ row. test (view row)) rows) ≡ find test (words_in rows)
find-words_in test [] = refl
find-words_in test (row ∷ rows) = found (test (view row)) row None (find (λ row. test (view row)) rows) (find test (words_in rows)) (find-words_in test rows)

number_of_view : (found_row : Option Row) → option_map (λ (row : Row). row.number) found_row ≡ option_map (λ (pair : List ℕ × ℕ). pair.1) (option_map view found_row)
number_of_view None = refl
number_of_view (Some row) = refl

word_of_view : (found_row : Option Row) → option_map (λ (row : Row). row.word.now) found_row ≡ option_map (λ (pair : List ℕ × ℕ). pair.0) (option_map view found_row)
word_of_view None = refl
word_of_view (Some row) = refl

-- the number that is found by a word
pub number_by_word : (rows : List Row) (word : List ℕ) → option_map (λ (row : Row). row.number) (find (λ row. str_eq_ignore_ascii_case row.word.now word) rows) ≡ named_of (words_in rows) word
number_by_word rows word =
    number_of_view (find (λ row. str_eq_ignore_ascii_case row.word.now word) rows)
    ∙ ap (option_map (λ (pair : List ℕ × ℕ). pair.1)) (find-words_in (λ pair. str_eq_ignore_ascii_case pair.0 word) rows)

-- the word that is found by a number
pub word_by_number : (rows : List Row) (number : ℕ) → option_map (λ (row : Row). row.word.now) (find (λ row. nat_eq row.number number) rows) ≡ option_map (λ (pair : List ℕ × ℕ). pair.0) (find (λ pair. nat_eq pair.1 number) (words_in rows))
word_by_number rows number =
    word_of_view (find (λ row. nat_eq row.number number) rows)
    ∙ ap (option_map (λ (pair : List ℕ × ℕ). pair.0)) (find-words_in (λ pair. nat_eq pair.1 number) rows)
