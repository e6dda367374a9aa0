-- What cuts of a text say of its parts, and of its lines that have words.
use Rattle.std.proofs.Common.{◌≡◌, ℕ, List, [], ◌∷◌, ◌<◌, ◌≤◌, length, get_or, refl, sym, ap, ◌∙◌, true, false, true≢false, Bool, arith, cond}
use Rattle.std.specs.Prelude.{filter, map}
use Rattle.std.proofs.Math.Bool.{not}
use Rattle.dsec_spec.proofs.CutLaws.{Cut}
use Rattle.dsec_bind.specs.Lines.{ends_part, has_words, lines_of, onto, parts, uncommented, words_of, worded_lines}
use Rattle.dsec_spec.specs.Cuts.{cut_of}

-- ---- parts

-- the parts of a text that was cut at the end of its first
abbrev pub parts_from : (ℕ → Bool) → Cut → List (List ℕ)
parts_from test cut = cut.0 ∷ parts test cut.1

sole : (test : ℕ → Bool) (b : ℕ) (t : Bool) → t ≡ false → cond t [] ((b ∷ []) ∷ []) ≡ parts_from test (cond {A = Cut} t ([], b ∷ []) (b ∷ [], []))
unfolding parts
sole test b true e = absurd (true≢false e)
sole test b false e = refl

part_by : (test : ℕ → Bool) (b c : ℕ) (cs : List ℕ) (t u : Bool) (others : List (List ℕ)) (cut : Cut) → t ≡ false → others ≡ parts test (c ∷ cs)
    → (u ≡ false → others ≡ parts_from test (cond {A = Cut} u ([], c ∷ cs) cut))
    → cond t others (cond u ((b ∷ []) ∷ others) (onto b others))
    ≡ parts_from test (cond {A = Cut} t ([], b ∷ c ∷ cs) (b ∷ (cond {A = Cut} u ([], c ∷ cs) cut).0, (cond {A = Cut} u ([], c ∷ cs) cut).1))
part_by test b c cs true u others cut e w h = absurd (true≢false e)
part_by test b c cs false true others cut e w h = ap (λ r. (b ∷ []) ∷ r) w
part_by test b c cs false false others cut e w h = ap (onto b) (h refl)

-- the first part at the front of a text
pub first_part_cut : (test : ℕ → Bool) (b : ℕ) (bs : List ℕ) → test b ≡ false → parts test (b ∷ bs) ≡ parts_from test (cut_of test (b ∷ bs))
unfolding parts cut_of
first_part_cut test b [] e = sole test b (test b) e
first_part_cut test b (c ∷ cs) e = part_by test b c cs (test b) (test c) (parts test (c ∷ cs)) (c ∷ (cut_of test cs).0, (cut_of test cs).1) e refl (first_part_cut test c cs)

abbrev others : (ℕ → Bool) → ℕ → Bool
others test octet = not (test octet)

skip_by : (test : ℕ → Bool) (b : ℕ) (bs : List ℕ) (t : Bool) (cut : Cut) → test b ≡ t → parts test bs ≡ parts test cut.1
    → parts test (b ∷ bs) ≡ parts test (cond {A = Cut} (not t) ([], b ∷ bs) (b ∷ cut.0, cut.1)).1
unfolding parts
skip_by test b bs true cut e h = ap (λ t. cond t (parts test bs) (cond (ends_part test bs) ((b ∷ []) ∷ parts test bs) (onto b (parts test bs)))) e ∙ h
skip_by test b bs false cut e h = refl

-- marks before the first part
parts_front : (test : ℕ → Bool) (text : List ℕ) → parts test text ≡ parts test (cut_of (others test) text).1
unfolding cut_of
parts_front test [] = refl
parts_front test (b ∷ bs) = skip_by test b bs (test b) (cut_of (others test) bs) refl (parts_front test bs)

starts_by : (test : ℕ → Bool) (x : ℕ) (xs : List ℕ) (b : ℕ) (bs : List ℕ) (t : Bool) (cut : Cut) → test x ≡ t → (cut.1 ≡ b ∷ bs → test b ≡ false)
    → (cond {A = Cut} (not t) ([], x ∷ xs) (x ∷ cut.0, cut.1)).1 ≡ b ∷ bs → test b ≡ false
starts_by test x xs b bs true cut e rest h = rest h
starts_by test x xs b bs false cut e rest h = ap (λ l. test (get_or l 0 0)) (sym h) ∙ e

starts : (test : ℕ → Bool) (text : List ℕ) (b : ℕ) (bs : List ℕ) → (cut_of (others test) text).1 ≡ b ∷ bs → test b ≡ false
unfolding cut_of
starts test [] b bs h = absurd cc
starts test (x ∷ xs) b bs h = starts_by test x xs b bs (test x) (cut_of (others test) xs) refl (starts test xs b bs) h

-- the first part, after the marks
pub part_found : (test : ℕ → Bool) (text front rest part after : List ℕ) → (front, rest) ≡ cut_of (λ octet. not (test octet)) text → 0 < length rest → (part, after) ≡ cut_of test rest
    → parts test text ≡ part ∷ parts test after
part_found test text front [] part after cut l h = absurd (omega (arith, l))
part_found test text front (b ∷ bs) part after cut l h =
    let e : (cut_of (others test) text).1 ≡ b ∷ bs = ap (λ (c : Cut). c.1) (sym cut) in
    parts_front test text ∙ ap (parts test) e ∙ first_part_cut test b bs (starts test text b bs e) ∙ ap (parts_from test) (sym h)

-- no part
pub no_part : (test : ℕ → Bool) (text front rest : List ℕ) → (front, rest) ≡ cut_of (λ octet. not (test octet)) text → length rest ≤ 0 → parts test text ≡ []
unfolding parts
no_part test text front [] cut l = parts_front test text ∙ ap (λ (c : Cut). parts test c.1) (sym cut)
no_part test text front (b ∷ bs) cut l = absurd (omega (arith, l))

-- ---- lines with words

abbrev line_words : List ℕ → List (List ℕ)
line_words line = words_of (uncommented line)

-- lines with words, of lines
abbrev worded : List (List ℕ) → List (List (List ℕ))
worded lines = filter has_words (map line_words lines)

worded_on : (lines : List (List ℕ)) (words : List (List ℕ)) → words ≡ [] → cond (has_words words) (words ∷ worded lines) (worded lines) ≡ worded lines
worded_on lines [] e = refl
worded_on lines (word ∷ words) e = absurd cc

worded_here : (lines : List (List ℕ)) (words : List (List ℕ)) (word : List ℕ) (more : List (List ℕ)) → words ≡ word ∷ more
    → cond (has_words words) (words ∷ worded lines) (worded lines) ≡ words ∷ worded lines
worded_here lines [] word more e = absurd cc
worded_here lines (first ∷ words) word more e = refl

-- a line without a word is passed over
pub line_passed : (text line after : List ℕ) → lines_of text ≡ line ∷ lines_of after → words_of (uncommented line) ≡ [] → worded_lines text ≡ worded_lines after
line_passed text line after cut none = ap worded cut ∙ worded_on (lines_of after) (line_words line) none

-- a line with a word
pub line_found : (text line after word : List ℕ) (more : List (List ℕ)) → lines_of text ≡ line ∷ lines_of after → words_of (uncommented line) ≡ word ∷ more
    → worded_lines text ≡ words_of (uncommented line) ∷ worded_lines after
line_found text line after word more cut some = ap worded cut ∙ worded_here (lines_of after) (line_words line) word more some

-- no line
pub no_line : (text : List ℕ) → lines_of text ≡ [] → worded_lines text ≡ []
no_line text none = ap worded none
