-- The word for a number is read back as the number.
use Rattle.std.proofs.Common.{◌≡◌, ℕ, ◌<◌, ◌^◌, ◌&&◌, Bool, true, false, cond, List, [], ◌∷◌, ◌++◌, length, take, drop, Option, Some, None, refl, ap, sym, subst, ◌∙◌, arith}
use Rattle.std.specs.Prelude.{find, nat_eq, codes, ⊤, IfSome, IfNone}
use Rattle.std.specs.Option.{SomeIff}
use Rattle.std.specs.Str.{str_eq_ignore_ascii_case}
use Rattle.std.specs.Str.Parse.{digits_value}
use Rattle.std.specs.Fmt.{decimal}
use Rattle.std.proofs.lemmas.Bool.{eqb-true, false≢true}
use Rattle.std.proofs.lemmas.Fmt.{decimal_is_IsNumeral}
use Rattle.dsec_number.specs.Words.{Words, IsNumberOf, IsNumbered, IsShortNumeral, ReadsBack, named_of, word_or_number, type_words, class_words}

-- whether what a word stands for is the number
abbrev is_own : Option ℕ → ℕ → Bool
is_own None n = false
is_own (Some m) n = nat_eq m n

own_says : (named : Option ℕ) (n : ℕ) → is_own named n ≡ true → named ≡ Some n
own_says None n e = absurd (false≢true e)
own_says (Some m) n e = ap Some (eqb-true m n e)

-- whether each row's word stands for its number among all
abbrev are_own : Words → Words → Bool
are_own all [] = true
are_own all (row ∷ rows) = is_own (named_of all row.0) row.1 && are_own all rows

both : (x y : Bool) → (x && y) ≡ true → (x ≡ true) × (y ≡ true)
both true true e = (refl, refl)
both true false e = absurd (false≢true e)
both false y e = absurd (false≢true e)

-- the word of a row that was found stands for the number
abbrev Stands : Words → ℕ → Option (List ℕ × ℕ) → Type 0
Stands all n None = ⊤
Stands all n (Some row) = named_of all row.0 ≡ Some n

found : (all rows : Words) (row : List ℕ × ℕ) (n : ℕ) (b : Bool) → nat_eq row.1 n ≡ b → named_of all row.0 ≡ Some row.1 → Stands all n (find (λ row. nat_eq row.1 n) rows) → Stands all n (cond b (Some row) (find (λ row. nat_eq row.1 n) rows))
found all rows row n true e own others = own ∙ ap Some (eqb-true row.1 n e)
found all rows row n false e own others = others

stands : (all rows : Words) (n : ℕ) → are_own all rows ≡ true → Stands all n (find (λ row. nat_eq row.1 n) rows)
stands all [] n own = tt
stands all (row ∷ rows) n own =
    let parts = both (is_own (named_of all row.0) row.1) (are_own all rows) own in
    found all rows row n (nat_eq row.1 n) refl (own_says (named_of all row.0) row.1 parts.0) (stands all rows n parts.1)

-- a word from the table
named_back : (words : Words) (prefix word : List ℕ) (n : ℕ) (named : Option ℕ) → named ≡ Some n → IfSome named (λ m. Some n ≡ Some m) × IfNone named (SomeIff (Some n) (IsNumbered prefix word) (digits_value 10 (drop (length prefix) word)))
named_back words prefix word n named e = subst (λ (o : Option ℕ). IfSome o (λ m. Some n ≡ Some m) × IfNone o (SomeIff (Some n) (IsNumbered prefix word) (digits_value 10 (drop (length prefix) word)))) (sym e) (refl, tt)

-- a word of the prefix and the number
not_named : (n : ℕ) (S : Type 0) (named : Option ℕ) → named ≡ None → S → IfSome named (λ m. Some n ≡ Some m) × IfNone named S
not_named n S named e says = subst (λ (o : Option ℕ). IfSome o (λ m. Some n ≡ Some m) × IfNone o S) (sym e) (tt, says)

numbered_back : (words : Words) (prefix : List ℕ) (n : ℕ) → n < 2 ^ 16 → named_of words (prefix ++ decimal n) ≡ None → str_eq_ignore_ascii_case (take (length prefix) (prefix ++ decimal n)) prefix ≡ true → drop (length prefix) (prefix ++ decimal n) ≡ decimal n → IsNumberOf words prefix (prefix ++ decimal n) (Some n)
numbered_back words prefix n h unnamed begins rest =
    let k = decimal_is_IsNumeral n (omega (arith, h)) in
    let short : IsShortNumeral (decimal n) = record { numeral = k.0; fits = subst (λ m. m < 2 ^ 16) (sym k.1) h } in
    let numbered : IsNumbered prefix (prefix ++ decimal n) = record { begins = begins; numeral = subst IsShortNumeral (sym rest) short } in
    let parts = not_named n _ (named_of words (prefix ++ decimal n)) unnamed (numbered, sym (ap (digits_value 10) rest ∙ k.1)) in
    record { named = parts.0; numbered = parts.1 }

back : (words : Words) (prefix : List ℕ) (n : ℕ) (row : Option (List ℕ × ℕ)) → Stands words n row → IsNumberOf words prefix (prefix ++ decimal n) (Some n) → IsNumberOf words prefix (word_or_number prefix n row) (Some n)
back words prefix n None own numbered = numbered
back words prefix n (Some row) own numbered =
    let parts = named_back words prefix row.0 n (named_of words row.0) own in
    record { named = parts.0; numbered = parts.1 }

pub types_read_back : ReadsBack type_words (codes "TYPE")
types_read_back n h = back type_words (codes "TYPE") n (find (λ row. nat_eq row.1 n) type_words) (stands type_words type_words n refl) (numbered_back type_words (codes "TYPE") n h refl refl refl)

pub classes_read_back : ReadsBack class_words (codes "CLASS")
classes_read_back n h = back class_words (codes "CLASS") n (find (λ row. nat_eq row.1 n) class_words) (stands class_words class_words n refl) (numbered_back class_words (codes "CLASS") n h refl refl refl)
