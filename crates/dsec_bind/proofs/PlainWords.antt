-- Words that stand in a line as they are, and the words of a line that was made of them.
use Rattle.std.proofs.Common.{◌≡◌, ◌≢◌, ℕ, List, [], ◌∷◌, ◌++◌, ◌<◌, ◌&&◌, length, refl, sym, ap, ◌∙◌, true, false, Bool, arith, cond, length-append}
use Rattle.std.specs.Prelude.{nat_lt, ◌==◌}
use Rattle.std.specs.List.{join_with_byte, list_all}
use Rattle.std.specs.Cmp.{first_so, second_so}
use Rattle.std.proofs.Math.Bool.{not}
use Rattle.std.proofs.lemmas.Bool.{lt-ltb, ltb-true, ne_eqb}
use Rattle.std.proofs.lemmas.List.Folds.{list_all-append}
use Rattle.dsec_spec.specs.Reading.{◌>>=◌}
use Rattle.dsec_bind.specs.KeyText.{bind_record, record_in}
use Rattle.dsec_bind.specs.Lines.{ends_part, is_mark, lines_of, onto, only, parts, uncommented, words_of, worded_lines}
use Rattle.dsec_spec.specs.Cuts.{cut_of}
use Rattle.dsec_bind.specs.declared.line.Mark.TheVariants as marks
use Rattle.dsec_bind.proofs.LineLemmas.{first_part_cut, line_found, no_line, parts_from}
use Rattle.dsec_spec.proofs.CutLaws.{behind, cut_here, cut_later, cut_nil}

-- whether an octet is printable ASCII, and neither a space nor `;`
abbrev pub is_plain : ℕ → Bool
is_plain octet = nat_lt 32 octet && (nat_lt octet 127 && not (octet == 59))

-- a word of such octets
pub record IsPlainWord (word : List ℕ) : Type 0 where
  pub some : 0 < length word
  pub octets : list_all is_plain word ≡ true

abbrev pub PlainWords : List (List ℕ) → Type 0
PlainWords [] = Unit {0}
PlainWords (word ∷ words) = IsPlainWord word × PlainWords words

pub plain_octet : (b : ℕ) → 32 < b → b < 127 → b ≢ 59 → is_plain b ≡ true
plain_octet b low high other = λ i. lt-ltb 32 b low i && (lt-ltb b 127 high i && not (ne_eqb b 59 other i))

not_true : (t : Bool) → not t ≡ true → t ≡ false
not_true true e = sym e
not_true false e = refl

pub all_more : (p q : ℕ → Bool) → ((b : ℕ) → p b ≡ true → q b ≡ true) → (word : List ℕ) → list_all p word ≡ true → list_all q word ≡ true
all_more p q h [] e = refl
all_more p q h (b ∷ bs) e = λ i. h b (first_so (p b) (list_all p bs) e) i && all_more p q h bs (second_so (p b) (list_all p bs) e) i

-- ---- cuts of texts without marks

abbrev free : (ℕ → Bool) → ℕ → Bool
free test octet = not (test octet)

cut_at : (test : ℕ → Bool) (word : List ℕ) (mark : ℕ) (rest : List ℕ) → list_all (free test) word ≡ true → test mark ≡ true → cut_of test (word ++ mark ∷ rest) ≡ (word, mark ∷ rest)
cut_at test [] mark rest e m = cut_here test mark rest m
cut_at test (b ∷ bs) mark rest e m =
    cut_later test b (bs ++ mark ∷ rest) (not_true (test b) (first_so (free test b) (list_all (free test) bs) e))
    ∙ ap (behind (b ∷ [])) (cut_at test bs mark rest (second_so (free test b) (list_all (free test) bs) e) m)

cut_end : (test : ℕ → Bool) (word : List ℕ) → list_all (free test) word ≡ true → cut_of test word ≡ (word, [])
cut_end test [] e = cut_nil test
cut_end test (b ∷ bs) e =
    cut_later test b bs (not_true (test b) (first_so (free test b) (list_all (free test) bs) e))
    ∙ ap (behind (b ∷ [])) (cut_end test bs (second_so (free test b) (list_all (free test) bs) e))

mark_passed : (test : ℕ → Bool) (mark : ℕ) (rest : List ℕ) → test mark ≡ true → parts test (mark ∷ rest) ≡ parts test rest
unfolding parts
mark_passed test mark rest m = ap (λ t. cond t (parts test rest) (cond (ends_part test rest) ((mark ∷ []) ∷ parts test rest) (onto mark (parts test rest)))) m

nothing_left : (test : ℕ → Bool) → parts test [] ≡ []
unfolding parts
nothing_left test = refl

part_before : (test : ℕ → Bool) (word : List ℕ) (mark : ℕ) (rest : List ℕ) → 0 < length word → list_all (free test) word ≡ true → test mark ≡ true
    → parts test (word ++ mark ∷ rest) ≡ word ∷ parts test rest
part_before test [] mark rest l e m = absurd (omega (arith, l))
part_before test (b ∷ bs) mark rest l e m =
    first_part_cut test b (bs ++ mark ∷ rest) (not_true (test b) (first_so (free test b) (list_all (free test) bs) e))
    ∙ ap (parts_from test) (cut_at test (b ∷ bs) mark rest e m) ∙ ap (λ more. (b ∷ bs) ∷ more) (mark_passed test mark rest m)

part_alone : (test : ℕ → Bool) (word : List ℕ) → 0 < length word → list_all (free test) word ≡ true → parts test word ≡ word ∷ []
part_alone test [] l e = absurd (omega (arith, l))
part_alone test (b ∷ bs) l e =
    first_part_cut test b bs (not_true (test b) (first_so (free test b) (list_all (free test) bs) e))
    ∙ ap (parts_from test) (cut_end test (b ∷ bs) e) ∙ ap (λ more. (b ∷ bs) ∷ more) (nothing_left test)

-- ---- lines that were made of plain words

abbrev blank : ℕ → Bool
blank = is_mark marks.Blank

abbrev comment : ℕ → Bool
comment = is_mark marks.Comment

abbrev line_end : ℕ → Bool
line_end = is_mark marks.LineEnd

above : (b : ℕ) → is_plain b ≡ true → 32 < b
above b e = ltb-true 32 b (first_so (nat_lt 32 b) (nat_lt b 127 && not (b == 59)) e)

plain_blank : (b : ℕ) → is_plain b ≡ true → free blank b ≡ true
plain_blank b e =
    let l = above b e in
    let n : (b == 32) ≡ false = ne_eqb b 32 (λ h. omega (arith, l, h)) in
    let t : (b == 9) ≡ false = ne_eqb b 9 (λ h. omega (arith, l, h)) in
    rw (n, t) refl

plain_comment : (b : ℕ) → is_plain b ≡ true → free comment b ≡ true
plain_comment b e = second_so (nat_lt b 127) (not (b == 59)) (second_so (nat_lt 32 b) (nat_lt b 127 && not (b == 59)) e)

plain_line_end : (b : ℕ) → is_plain b ≡ true → free line_end b ≡ true
plain_line_end b e =
    let l = above b e in
    ap not (ne_eqb b 10 (λ h. omega (arith, l, h)))

free_join : (p : ℕ → Bool) → p 32 ≡ true → ((b : ℕ) → is_plain b ≡ true → p b ≡ true) → (words : List (List ℕ)) → PlainWords words → list_all p (join_with_byte 32 words) ≡ true
free_join p s h [] plain = refl
free_join p s h (word ∷ []) plain = all_more is_plain p h word plain.0.octets
free_join p s h (word ∷ next ∷ words) plain =
    list_all-append p word (32 ∷ join_with_byte 32 (next ∷ words))
    ∙ (λ i. all_more is_plain p h word plain.0.octets i && (s i && free_join p s h (next ∷ words) plain.1 i))

some_join : (word : List ℕ) (words : List (List ℕ)) → PlainWords (word ∷ words) → 0 < length (join_with_byte 32 (word ∷ words))
some_join word [] plain = plain.0.some
some_join word (next ∷ words) plain =
    let l = length-append word (32 ∷ join_with_byte 32 (next ∷ words)) in
    omega (arith, l, plain.0.some)

words_joined : (word : List ℕ) (words : List (List ℕ)) → PlainWords (word ∷ words) → words_of (join_with_byte 32 (word ∷ words)) ≡ word ∷ words
words_joined word [] plain = part_alone blank word plain.0.some (all_more is_plain (free blank) plain_blank word plain.0.octets)
words_joined word (next ∷ words) plain =
    part_before blank word 32 (join_with_byte 32 (next ∷ words)) plain.0.some (all_more is_plain (free blank) plain_blank word plain.0.octets) refl
    ∙ ap (λ more. word ∷ more) (words_joined next words plain.1)

-- a text of one line without marks says what the line's words do
line_says : (line word : List ℕ) (words : List (List ℕ)) → 0 < length line → list_all (free line_end) line ≡ true → list_all (free comment) line ≡ true → words_of line ≡ word ∷ words
    → bind_record (line ++ 10 ∷ []) ≡ record_in (word ∷ words)
line_says line word words some ends comments is =
    let cut : lines_of (line ++ 10 ∷ []) ≡ line ∷ lines_of [] = part_before line_end line 10 [] some ends refl in
    let whole : uncommented line ≡ line = ap (λ (c : List ℕ × List ℕ). c.0) (cut_end comment line comments) in
    let said : words_of (uncommented line) ≡ word ∷ words = ap words_of whole ∙ is in
    let one : worded_lines (line ++ 10 ∷ []) ≡ (word ∷ words) ∷ [] =
    line_found (line ++ 10 ∷ []) line [] word words cut said ∙ (λ i. said i ∷ no_line [] (nothing_left line_end) i) in
    ap (λ (lines : List (List (List ℕ))). only lines >>= record_in) one

-- a text of one line of plain words says what the words do
pub line_read : (word : List ℕ) (words : List (List ℕ)) → PlainWords (word ∷ words) → bind_record (join_with_byte 32 (word ∷ words) ++ 10 ∷ []) ≡ record_in (word ∷ words)
line_read word words plain =
    line_says (join_with_byte 32 (word ∷ words)) word words (some_join word words plain) (free_join (free line_end) refl plain_line_end (word ∷ words) plain)
    (free_join (free comment) refl plain_comment (word ∷ words) plain) (words_joined word words plain)

-- ---- the same with nothing behind the last space

-- plain words, and nothing behind them
abbrev pub open_words : List (List ℕ) → List (List ℕ)
open_words words = words ++ [] ∷ []

free_open : (p : ℕ → Bool) → p 32 ≡ true → ((b : ℕ) → is_plain b ≡ true → p b ≡ true) → (word : List ℕ) (words : List (List ℕ)) → PlainWords (word ∷ words)
    → list_all p (join_with_byte 32 (open_words (word ∷ words))) ≡ true
free_open p s h word [] plain = list_all-append p word (32 ∷ []) ∙ (λ i. all_more is_plain p h word plain.0.octets i && (s i && true))
free_open p s h word (next ∷ words) plain =
    list_all-append p word (32 ∷ join_with_byte 32 (open_words (next ∷ words)))
    ∙ (λ i. all_more is_plain p h word plain.0.octets i && (s i && free_open p s h next words plain.1 i))

some_open : (word : List ℕ) (words : List (List ℕ)) → PlainWords (word ∷ words) → 0 < length (join_with_byte 32 (open_words (word ∷ words)))
some_open word [] plain =
    let l = length-append word (32 ∷ []) in
    omega (arith, l, plain.0.some)
some_open word (next ∷ words) plain =
    let l = length-append word (32 ∷ join_with_byte 32 (open_words (next ∷ words))) in
    omega (arith, l, plain.0.some)

words_open : (word : List ℕ) (words : List (List ℕ)) → PlainWords (word ∷ words) → words_of (join_with_byte 32 (open_words (word ∷ words))) ≡ word ∷ words
words_open word [] plain =
    part_before blank word 32 [] plain.0.some (all_more is_plain (free blank) plain_blank word plain.0.octets) refl
    ∙ ap (λ more. word ∷ more) (nothing_left blank)
words_open word (next ∷ words) plain =
    part_before blank word 32 (join_with_byte 32 (open_words (next ∷ words))) plain.0.some (all_more is_plain (free blank) plain_blank word plain.0.octets) refl
    ∙ ap (λ more. word ∷ more) (words_open next words plain.1)

-- a text of one line of plain words and a space behind them says what the words do
pub line_read_open : (word : List ℕ) (words : List (List ℕ)) → PlainWords (word ∷ words)
    → bind_record (join_with_byte 32 (open_words (word ∷ words)) ++ 10 ∷ []) ≡ record_in (word ∷ words)
line_read_open word words plain =
    line_says (join_with_byte 32 (open_words (word ∷ words))) word words (some_open word words plain) (free_open (free line_end) refl plain_line_end word words plain)
    (free_open (free comment) refl plain_comment word words plain) (words_open word words plain)
