-- What cuts of a text say of its lines and words.
use Rattle.std.proofs.Common.{◌≡◌, ℕ, zero, suc, List, [], ◌∷◌, ◌<◌, ◌≤◌, ◌+◌, ◌&&◌, length, take, drop, get_or, refl, sym, ap, ◌∙◌, true, false, true≢false, Bool, Some, None, arith, cond}
use Rattle.std.proofs.Math.Bool.{not}
use Rattle.dsec_spec.proofs.CutLaws.{Cut}
use Rattle.dsec_script.specs.Text.{after_blanks, cut_word, ends_word, first_word_of, is_blank, is_line_end, is_return, lines_of, onto, without_return, words_of}
use Rattle.dsec_spec.specs.Cuts.{cut_of}

-- ---- a CR at the end

pub return_dropped : (xs : List ℕ) (n : ℕ) → length xs ≡ n + 1 → is_return (get_or xs n 0) ≡ true → take n xs ≡ without_return xs
unfolding without_return
return_dropped [] n l e = absurd (omega (arith, l))
return_dropped (b ∷ []) zero l e = ap (λ t. cond t [] (b ∷ [])) (sym e)
return_dropped (b ∷ []) (suc n) l e = absurd (omega (arith, l))
return_dropped (b ∷ c ∷ cs) zero l e = absurd (omega (arith, l))
return_dropped (b ∷ c ∷ cs) (suc n) l e = ap (λ r. b ∷ r) (return_dropped (c ∷ cs) n (omega (arith, l)) e)

pub no_return : (xs : List ℕ) (n : ℕ) → length xs ≡ n + 1 → is_return (get_or xs n 0) ≡ false → xs ≡ without_return xs
unfolding without_return
no_return [] n l e = absurd (omega (arith, l))
no_return (b ∷ []) zero l e = ap (λ t. cond t [] (b ∷ [])) (sym e)
no_return (b ∷ []) (suc n) l e = absurd (omega (arith, l))
no_return (b ∷ c ∷ cs) zero l e = absurd (omega (arith, l))
no_return (b ∷ c ∷ cs) (suc n) l e = ap (λ r. b ∷ r) (no_return (c ∷ cs) n (omega (arith, l)) e)

pub no_octet : (xs : List ℕ) → length xs ≤ 0 → xs ≡ without_return xs
unfolding without_return
no_octet [] l = refl
no_octet (b ∷ bs) l = absurd (omega (arith, l))

-- ---- lines

-- the lines of a text that was cut at its first LF
abbrev pub lines_from : Cut → List (List ℕ)
lines_from (line, []) = line ∷ []
lines_from (line, octet ∷ after) = without_return line ∷ lines_of after

onto_more : (b c : ℕ) (q r : List ℕ) → onto b (lines_from (c ∷ q, r)) ≡ lines_from (b ∷ c ∷ q, r)
unfolding without_return
onto_more b c q [] = refl
onto_more b c q (d ∷ after) = refl

alone : (b : ℕ) (t : Bool) → cond (t && false) (lines_of []) (onto b (lines_of [])) ≡ (b ∷ []) ∷ []
unfolding lines_of
alone b true = refl
alone b false = refl

ended : (b : ℕ) (cs : List ℕ) (t : Bool) → cond (t && true) ([] ∷ lines_of cs) ((b ∷ []) ∷ lines_of cs) ≡ (cond t [] (b ∷ [])) ∷ lines_of cs
ended b cs true = refl
ended b cs false = refl

not_ended : (t : Bool) (xs ys : List (List ℕ)) → cond (t && false) xs ys ≡ ys
not_ended true xs ys = refl
not_ended false xs ys = refl

later_line : (b c : ℕ) (cs : List ℕ) (u : Bool) (others : List (List ℕ)) (cut : Cut)
    → cond u ([] ∷ lines_of cs) others ≡ lines_from (cond {A = Cut} u ([], c ∷ cs) (c ∷ cut.0, cut.1))
    → cond (is_return b && u) (cond u ([] ∷ lines_of cs) others) (onto b (cond u ([] ∷ lines_of cs) others))
    ≡ lines_from (b ∷ (cond {A = Cut} u ([], c ∷ cs) (c ∷ cut.0, cut.1)).0, (cond {A = Cut} u ([], c ∷ cs) (c ∷ cut.0, cut.1)).1)
unfolding without_return
later_line b c cs true others cut h = ended b cs (is_return b)
later_line b c cs false others cut h = not_ended (is_return b) others (onto b others) ∙ ap (onto b) h ∙ onto_more b c cut.0 cut.1

line_by : (b : ℕ) (bs : List ℕ) (t : Bool) (others : List (List ℕ)) → others ≡ lines_from (b ∷ (cut_of is_line_end bs).0, (cut_of is_line_end bs).1)
    → cond t ([] ∷ lines_of bs) others ≡ lines_from (cond {A = Cut} t ([], b ∷ bs) (b ∷ (cut_of is_line_end bs).0, (cut_of is_line_end bs).1))
unfolding without_return
line_by b bs true others h = refl
line_by b bs false others h = h

-- the lines of a text that isn't empty
pub lines_cut : (text : List ℕ) → 0 < length text → lines_of text ≡ lines_from (cut_of is_line_end text)
unfolding lines_of cut_of
lines_cut [] l = absurd (omega (arith, l))
lines_cut (b ∷ []) l = line_by b [] (is_line_end b) _ (alone b (is_return b))
lines_cut (b ∷ c ∷ cs) l = line_by b (c ∷ cs) (is_line_end b) _ (later_line b c cs (is_line_end c) _ (cut_of is_line_end cs) (lines_cut (c ∷ cs) (omega arith)))

shorter_by : (b : ℕ) (bs : List ℕ) (t : Bool) (cut : Cut) → length cut.1 ≤ length bs → length (cond {A = Cut} t ([], b ∷ bs) (b ∷ cut.0, cut.1)).1 ≤ length (b ∷ bs)
shorter_by b bs true cut h = omega arith
shorter_by b bs false cut h = omega (arith, h)

-- what is cut off is no longer than the text
pub cut_length : (test : ℕ → Bool) (text : List ℕ) → length (cut_of test text).1 ≤ length text
unfolding cut_of
cut_length test [] = omega arith
cut_length test (b ∷ bs) = shorter_by b bs (test b) (cut_of test bs) (cut_length test bs)

-- a text without LF is a line
pub last_line : (text line rest : List ℕ) → 0 < length text → (line, rest) ≡ cut_of is_line_end text → length rest ≤ 0 → lines_of text ≡ line ∷ lines_of rest
unfolding lines_of
last_line text line [] l cut e = lines_cut text l ∙ ap lines_from (sym cut)
last_line text line (b ∷ bs) l cut e = absurd (omega (arith, e))

-- LF ends the first line
pub ended_line : (text line rest : List ℕ) → 0 < length text → (line, rest) ≡ cut_of is_line_end text → 0 < length rest → lines_of text ≡ without_return line ∷ lines_of (drop 1 rest)
ended_line text line [] l cut e = absurd (omega (arith, e))
ended_line text line (b ∷ bs) l cut e = lines_cut text l ∙ ap lines_from (sym cut)

pub shorter : (test : ℕ → Bool) (text line rest : List ℕ) → (line, rest) ≡ cut_of test text → 0 < length rest → length (drop 1 rest) < length text
shorter test text line [] cut e = absurd (omega (arith, e))
shorter test text line (b ∷ bs) cut e =
    let h = cut_length test text in
    let k : length (b ∷ bs) ≡ length (cut_of test text).1 = ap (λ (c : Cut). length c.1) cut in
    omega (arith, h, k)

-- ---- words

-- the words of a line that was cut at the end of its first word
abbrev pub words_from : Cut → List (List ℕ)
words_from cut = cut.0 ∷ words_of cut.1

sole : (b : ℕ) (t : Bool) → t ≡ false → cond t [] ((b ∷ []) ∷ []) ≡ words_from (cond {A = Cut} t ([], b ∷ []) (b ∷ [], []))
unfolding words_of
sole b true e = absurd (true≢false e)
sole b false e = refl

word_by : (b c : ℕ) (cs : List ℕ) (t u : Bool) (words : List (List ℕ)) (cut : Cut) → t ≡ false → words ≡ words_of (c ∷ cs)
    → (u ≡ false → words ≡ words_from (cond {A = Cut} u ([], c ∷ cs) cut))
    → cond t words (cond u ((b ∷ []) ∷ words) (onto b words))
    ≡ words_from (cond {A = Cut} t ([], b ∷ c ∷ cs) (b ∷ (cond {A = Cut} u ([], c ∷ cs) cut).0, (cond {A = Cut} u ([], c ∷ cs) cut).1))
word_by b c cs true u words cut e w h = absurd (true≢false e)
word_by b c cs false true words cut e w h = ap (λ r. (b ∷ []) ∷ r) w
word_by b c cs false false words cut e w h = ap (onto b) (h refl)

-- the first word at the front of a line
first_word_cut : (b : ℕ) (bs : List ℕ) → is_blank b ≡ false → words_of (b ∷ bs) ≡ words_from (cut_of is_blank (b ∷ bs))
unfolding words_of cut_of
first_word_cut b [] e = sole b (is_blank b) e
first_word_cut b (c ∷ cs) e = word_by b c cs (is_blank b) (is_blank c) (words_of (c ∷ cs)) (c ∷ (cut_of is_blank cs).0, (cut_of is_blank cs).1) e refl (first_word_cut c cs)

abbrev in_word : ℕ → Bool
in_word octet = not (is_blank octet)

skip_by : (b : ℕ) (bs : List ℕ) (t : Bool) (cut : Cut) → is_blank b ≡ t → words_of bs ≡ words_of cut.1 → words_of (b ∷ bs) ≡ words_of (cond {A = Cut} (not t) ([], b ∷ bs) (b ∷ cut.0, cut.1)).1
unfolding words_of
skip_by b bs true cut e h = ap (λ t. cond t (words_of bs) (cond (ends_word bs) ((b ∷ []) ∷ words_of bs) (onto b (words_of bs)))) e ∙ h
skip_by b bs false cut e h = refl

-- blanks before the first word
words_front : (text : List ℕ) → words_of text ≡ words_of (cut_of in_word text).1
unfolding cut_of
words_front [] = refl
words_front (b ∷ bs) = skip_by b bs (is_blank b) (cut_of in_word bs) refl (words_front bs)

starts_by : (x : ℕ) (xs : List ℕ) (b : ℕ) (bs : List ℕ) (t : Bool) (cut : Cut) → is_blank x ≡ t → (cut.1 ≡ b ∷ bs → is_blank b ≡ false) → (cond {A = Cut} (not t) ([], x ∷ xs) (x ∷ cut.0, cut.1)).1 ≡ b ∷ bs → is_blank b ≡ false
starts_by x xs b bs true cut e rest h = rest h
starts_by x xs b bs false cut e rest h = ap (λ l. is_blank (get_or l 0 0)) (sym h) ∙ e

starts : (text : List ℕ) (b : ℕ) (bs : List ℕ) → (cut_of in_word text).1 ≡ b ∷ bs → is_blank b ≡ false
unfolding cut_of
starts [] b bs h = absurd cc
starts (x ∷ xs) b bs h = starts_by x xs b bs (is_blank x) (cut_of in_word xs) refl (starts xs b bs) h

-- the first word, after the blanks
pub word_found : (text rest word after : List ℕ) → rest ≡ after_blanks text → 0 < length rest → (word, after) ≡ cut_of is_blank rest → words_of text ≡ word ∷ words_of after
word_found text [] word after cut l h = absurd (omega (arith, l))
word_found text (b ∷ bs) word after cut l h =
    words_front text ∙ ap words_of (sym cut) ∙ first_word_cut b bs (starts text b bs (sym cut)) ∙ ap words_from (sym h)

-- no word
pub no_word : (text rest : List ℕ) → rest ≡ after_blanks text → length rest ≤ 0 → words_of text ≡ []
unfolding words_of
no_word text [] cut l = words_front text ∙ ap words_of (sym cut)
no_word text (b ∷ bs) cut l = absurd (omega (arith, l))

-- the first word and what stands after it
pub first_cut : (text rest word after : List ℕ) → rest ≡ after_blanks text → 0 < length rest → (word, after) ≡ cut_of is_blank rest → Some (word, after) ≡ first_word_of text
first_cut text [] word after cut l h = absurd (omega (arith, l))
first_cut text (b ∷ bs) word after cut l h = ap (λ (found : Cut). Some found) h ∙ ap cut_word cut

-- none
pub no_first : (text rest : List ℕ) → rest ≡ after_blanks text → length rest ≤ 0 → None ≡ first_word_of text
no_first text [] cut l = ap cut_word cut
no_first text (b ∷ bs) cut l = absurd (omega (arith, l))
