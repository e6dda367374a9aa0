-- The first line with a word, after those without.
use Rattle.std.proofs.Common.{◌≡◌, ℕ, ◌+◌, ◌-◌, ◌<◌, ◌≤◌, List, [], ◌∷◌, ◌++◌, length, map, take, drop, refl, sym, ap, ◌∙◌, arith, append_assoc, length-append}
use Rattle.std.specs.Prelude.{Bool, Option, Some, None, Result, Ok, Err, slice_range}
use Rattle.std.proofs.lemmas.List.{drop_at, length-drop, length-map, length-take-le, take-append-drop}
use Rattle.dsec_text.specs.Finding.{IsFirst, IsPassed}
use Rattle.dsec_text.specs.Words.{Word, word_view, words_of}
use Rattle.dsec_text.specs.Lines.{begins_with_blank, lines_of, line_ends, moved, line_or, first_of, first_line_of}
use Rattle.dsec_text.specs.declared.pass.Passed.{Passed}
use Rattle.dsec_text.proofs.ReadLemmas.{line_ends-append}
use Rattle.dsec_text.specs.declared.line.Span.{Span}
use Rattle.dsec_text.specs.declared.line.BadLine.{BadLine}

abbrev Found : Type 0
Found = Result (Option Span) BadLine

-- lines without a word were passed, and the search goes on at the rest
pub record HasNoWord (text rest : List ℕ) (start before : ℕ) : Type 0 where
  pub found : moved start before (first_line_of rest) ≡ first_line_of text
  pub sizes : start + length rest ≡ length text
  pub fewer : before ≤ start
  pub front : List ℕ
  pub is : text ≡ front ++ rest
  pub front_size : length front ≡ start
  pub ends : before + line_ends rest ≡ line_ends text

none_plus : (a : ℕ) → 0 + a ≡ a
none_plus a = omega arith

moved_none : (found : Found) → moved 0 0 found ≡ found
moved_none (Err bad) = λ i. Err (record { before = none_plus bad.before i })
moved_none (Ok None) = refl
moved_none (Ok (Some span)) = λ i. Ok (Some (record { before = none_plus span.before i; start = none_plus span.start i; end = none_plus span.end i }))

pub at_first : (text : List ℕ) → HasNoWord text text 0 0
at_first text =
    record { found = moved_none (first_line_of text); sizes = omega arith; fewer = omega arith; front = []; is = refl; front_size = refl; ends = omega arith }

plus_assoc : (a b c : ℕ) → a + (b + c) ≡ (a + b) + c
plus_assoc a b c = omega arith

moved_moved : (a b c d : ℕ) (found : Found) → moved a b (moved c d found) ≡ moved (a + c) (b + d) found
moved_moved a b c d (Err bad) = λ i. Err (record { before = plus_assoc b d bad.before i })
moved_moved a b c d (Ok None) = refl
moved_moved a b c d (Ok (Some span)) = λ i. Ok (Some (record { before = plus_assoc b d span.before i; start = plus_assoc a c span.start i; end = plus_assoc a c span.end i }))

plus_none : (a : ℕ) → a + 0 ≡ a
plus_none a = omega arith

-- a line is refused
pub found_bad : (text rest : List ℕ) (start before : ℕ) → HasNoWord text rest start before → lines_of rest ≡ None ∷ [] → first_line_of text ≡ Err (record { before = before })
found_bad text rest start before h e =
    sym h.found ∙ ap (λ (x : List (Option (List ℕ))). moved start before (first_of x)) e ∙ (λ i. Err (record { before = plus_none before i }))

-- ---- a line has a word

placed : (text rest line : List ℕ) (start before size : ℕ) (words : List Word) (others : List (Option (List ℕ))) → HasNoWord text rest start before → lines_of rest ≡ Some line ∷ others → words_of line ≡ words → 0 < length words → length line ≡ size
    → first_line_of text ≡ Ok (Some (record { before = before; start = start; end = start + size }))
placed text rest line start before size [] others h e f some l = absurd (omega (arith, some))
placed text rest line start before size (word ∷ words) others h e f some l =
    sym h.found
    ∙ (ap (λ (x : List (Option (List ℕ))). moved start before (first_of x)) e ∙ ap (λ (x : List Word). moved start before (line_or line x (first_of others))) f)
    ∙ (λ i. Ok (Some (record { before = plus_none before i; start = plus_none start i; end = start + l i })))

-- its place has its octets
line_there : (text rest : List ℕ) (start before size : ℕ) → HasNoWord text rest start before → slice_range text start (start + size) ≡ take size rest
line_there text rest start before size h =
    let n : (start + size) - start ≡ size = omega arith in
    let behind : drop start text ≡ rest = ap (drop start) h.is ∙ drop_at h.front rest start h.front_size in
    λ i. take (n i) (behind i)

pub found_line : (text rest : List ℕ) (start before : ℕ) (passed : Passed) (blank : Bool) → HasNoWord text rest start before → IsPassed rest passed → 0 < length passed.words.items → passed.octets ≤ length rest
    → blank ≡ begins_with_blank (take passed.octets rest)
    → IsFirst text (record { words = passed.words; begins_with_blank = blank; span = record { before = before; start = start; end = start + passed.octets }; line_ends = passed.line_ends })
found_line text rest start before passed blank h p some within begins =
    let there = sym (line_there text rest start before passed.octets h) in
    let size = length-take-le passed.octets rest within in
    record {
      place = placed text rest (take passed.octets rest) start before passed.octets (map word_view passed.words.items) (lines_of (drop passed.octets rest)) h p.line (sym p.words)
          (omega (arith, some, length-map passed.words.items word_view)) size;
      words = p.words ∙ ap words_of there;
      ends = p.ends ∙ ap line_ends there;
      begins = begins ∙ ap begins_with_blank there;
    }

-- ---- a line has none

no_words : (text rest line after : List ℕ) (start before size ends : ℕ) (words : List Word) → HasNoWord text rest start before → lines_of rest ≡ Some line ∷ lines_of after → words_of line ≡ words → length words ≤ 0 → length line ≡ size → ends ≡ line_ends line
    → moved (start + size) (before + ends) (first_line_of after) ≡ first_line_of text
no_words text rest line after start before size ends (word ∷ words) h e f none l k = absurd (omega (arith, none))
no_words text rest line after start before size ends [] h e f none l k =
    (λ i. moved (start + sym l i) (before + k i) (first_line_of after))
    ∙ (sym (moved_moved start before (length line) (line_ends line) (first_line_of after))
    ∙ (sym (ap (λ (x : List (Option (List ℕ))). moved start before (first_of x)) e ∙ ap (λ (x : List Word). moved start before (line_or line x (first_line_of after))) f) ∙ h.found))

pub found_later : (text rest : List ℕ) (start before : ℕ) (passed : Passed) → HasNoWord text rest start before → IsPassed rest passed → length passed.words.items ≤ 0 → passed.octets ≤ length rest → passed.line_ends ≤ passed.octets
    → HasNoWord text (drop passed.octets rest) (start + passed.octets) (before + passed.line_ends)
found_later text rest start before passed h p none within few =
    let size = length-take-le passed.octets rest within in
    let line = take passed.octets rest in
    let after = drop passed.octets rest in
    let sizes = h.sizes in
    let fewer = h.fewer in
    let front_size = h.front_size in
    let here = p.ends in
    let counted = h.ends in
    let parts : line_ends rest ≡ line_ends line + line_ends after = ap line_ends (sym (take-append-drop passed.octets rest)) ∙ line_ends-append line after in
    record {
      found = no_words text rest line after start before passed.octets passed.line_ends (map word_view passed.words.items) h p.line (sym p.words)
          (omega (arith, none, length-map passed.words.items word_view)) size p.ends;
      sizes = omega (arith, sizes, length-drop passed.octets rest, within);
      fewer = omega (arith, fewer, few);
      front = h.front ++ line;
      is = h.is ∙ ap (λ (x : List ℕ). h.front ++ x) (sym (take-append-drop passed.octets rest)) ∙ sym (append_assoc h.front line after);
      front_size = omega (arith, length-append h.front line, front_size, size);
      ends = omega (arith, parts, here, counted);
    }

-- ---- the text ends

pub found_end : (text rest : List ℕ) (start before : ℕ) → HasNoWord text rest start before → length rest ≤ 0 → (first_line_of text ≡ Ok None) × (before ≡ line_ends text)
found_end text [] start before h e = (sym h.found, let counted = h.ends in omega (arith, counted))
found_end text (c ∷ rest) start before h e = absurd (omega (arith, e))
