-- What was read of a line while it was passed: its words and its line ends.
use Rattle.std.proofs.Common.{◌≡◌, ◌≢◌, ℕ, ◌+◌, ◌<◌, ◌≤◌, List, [], ◌∷◌, ◌++◌, length, map, take, drop, refl, sym, ap, ◌∙◌, subst, arith, append_assoc, inl, inr}
use Rattle.std.specs.Prelude.{All, Bool, true, false, Option, Some, None, ◌==◌}
use Rattle.std.specs.Char.{IsAsciiDigit}
use Rattle.std.proofs.lemmas.List.{append-nil, append_cancel_left, append_cancel_right, take-append-drop, take_at, drop_at}
use Rattle.std.proofs.lemmas.List.Elements.{All-head, All-tail}
use Rattle.std.proofs.lemmas.List.Sums.{sum_by-append}
use Rattle.dsec_name.proofs.OctetText.{test_yes, no_test}
use Rattle.dsec_text.specs.Escapes.{is_blank, is_line_end, is_plain, WritesOctet, WritesOctets}
use Rattle.dsec_text.specs.Escapes.WritesOctet.{plain, escaped, numbered}
use Rattle.dsec_text.specs.Escapes.WritesOctets.{none, more}
use Rattle.dsec_text.specs.Finding.{IsPassed, line_ends_in}
use Rattle.dsec_text.specs.Lines.{depth_after, line_ends, lines_of}
use Rattle.dsec_text.specs.Tokens.{IsToken, Token, token_at, tokens_of}
use Rattle.dsec_text.specs.Tokens.IsToken.{blank, comment, line_end, opening, closing, word as in_word, quoted as in_quotes}
use Rattle.dsec_text.specs.Words.{Word, word_view, with_word, word_in, words_in, words_of}
use Rattle.dsec_text.specs.declared.pass.Passed.{Passed}
use Rattle.dsec_text.specs.declared.token.Kind.{Kind}
use Rattle.dsec_text.specs.declared.token.Kind.TheVariants.{Bad}
use Rattle.dsec_text.proofs.LineLemmas.{HasPassed, Passes, ends_whole}
use Rattle.dsec_text.proofs.LineText.{line_begins}
use Rattle.dsec_text.proofs.TokenLemmas.{words_step}
use Rattle.dsec_text.proofs.TokenReading.{Reads, token_reads}

-- ---- a token has a line end where it is one

pub line_ends-append : (a b : List ℕ) → line_ends (a ++ b) ≡ line_ends a + line_ends b
line_ends-append a b = sum_by-append _ a b

other : (c : ℕ) (octets : List ℕ) → is_line_end c ≡ false → line_ends octets ≡ 0 → line_ends (c ∷ octets) ≡ 0
other c octets e f = rw (e, f) refl

not_itself : (quoted : Bool) → is_plain quoted 10 ≡ true → ⊥
not_itself true e = absurd cc
not_itself false e = absurd cc

plain_other : (quoted : Bool) (c : ℕ) → is_plain quoted c ≡ true → is_line_end c ≡ false
plain_other quoted c e =
    elim (c == 10) as (λ t. (c == 10) ≡ t → t ≡ false) [
      | true ↦ λ f. absurd (not_itself quoted (ap (is_plain quoted) (sym (test_yes c 10 f)) ∙ e))
      | false ↦ λ f. refl
    ] refl

digit_other : (c : ℕ) → IsAsciiDigit c → is_line_end c ≡ false
digit_other c d = no_test c 10 (λ e. absurd (omega (arith, d.0, d.1, e)))

octet_ends : (quoted : Bool) (octet : ℕ) (text : List ℕ) → WritesOctet quoted octet text → line_ends text ≡ 0
octet_ends quoted _ _ (plain octet itself) = other octet [] (plain_other quoted octet itself) refl
octet_ends quoted _ _ (escaped octet n e) = other 92 (octet ∷ []) refl (other octet [] (no_test octet 10 e) refl)
octet_ends quoted _ _ (numbered a b c x y z at_most) =
    other 92 (a ∷ b ∷ c ∷ []) refl (other a (b ∷ c ∷ []) (digit_other a x) (other b (c ∷ []) (digit_other b y) (other c [] (digit_other c z) refl)))

word_ends : (quoted : Bool) (octets text : List ℕ) → WritesOctets quoted octets text → line_ends text ≡ 0
word_ends quoted _ _ none = refl
word_ends quoted _ _ (more octet octets first rest w ws) =
    let a = octet_ends quoted octet first w in
    let b = word_ends quoted octets rest ws in
    omega (arith, line_ends-append first rest, a, b)

comment_ends : (octets : List ℕ) → All (λ (octet : ℕ). octet ≢ 10) octets → line_ends octets ≡ 0
comment_ends [] h = refl
comment_ends (c ∷ octets) h = other c octets (no_test c 10 (All-head (λ (octet : ℕ). octet ≢ 10) c octets h)) (comment_ends octets (All-tail (λ (octet : ℕ). octet ≢ 10) c octets h))

blank_other : (c : ℕ) → is_blank c ≡ true → is_line_end c ≡ false
blank_other c e =
    elim (c == 10) as (λ t. (c == 10) ≡ t → t ≡ false) [
      | true ↦ λ f. let no : is_blank 10 ≡ true = ap is_blank (sym (test_yes c 10 f)) ∙ e in absurd cc
      | false ↦ λ f. refl
    ] refl

quoted_ends : (text : List ℕ) → line_ends text ≡ 0 → line_ends (34 ∷ text ++ 34 ∷ []) ≡ 0
quoted_ends text e = other 34 (text ++ 34 ∷ []) refl (let end : line_ends (34 ∷ []) ≡ 0 = refl in omega (arith, line_ends-append text (34 ∷ []), e, end))

pub token_ends : (kind : Kind) (octets : List ℕ) → IsToken kind octets → line_ends octets ≡ line_ends_in kind
token_ends _ _ (blank octet e) = other octet [] (blank_other octet e) refl
token_ends _ _ (comment octets h) = other 59 octets refl (comment_ends octets h)
token_ends _ _ line_end = refl
token_ends _ _ opening = refl
token_ends _ _ closing = refl
token_ends _ _ (in_word octets text some w) = word_ends false octets text w
token_ends _ _ (in_quotes octets text w) = quoted_ends text (word_ends true octets text w)

-- ---- from token to token

-- the words and the line ends of a text are those that were read, and those of the rest
pub record HasRead (text rest : List ℕ) (words : List Word) (ends : ℕ) : Type 0 where
  pub words_are : words ++ words_of rest ≡ words_of text
  pub ends_are : ends + line_ends rest ≡ line_ends text

pub none_read : (text : List ℕ) → HasRead text text [] 0
none_read text = record { words_are = refl; ends_are = omega arith }

may_stand : (depth next : ℕ) (kind : Kind) → Some next ≡ depth_after depth kind → kind ≡ Bad → ⊥
may_stand depth next kind e b = let no : Some next ≡ depth_after depth Bad = e ∙ ap (depth_after depth) b in absurd cc

is_token : (text : List ℕ) (token : Kind × ℕ) (depth next : ℕ) → Reads text token → Some next ≡ depth_after depth token.0 → IsToken token.0 (take token.1 text)
is_token text token depth next (inl r) e =
    let octets : take token.1 text ≡ r.octets = ap (take token.1) r.starts.is ∙ take_at r.octets r.rest token.1 (sym r.size) in
    subst (IsToken token.0) (sym octets) r.starts.token
is_token text token depth next (inr b) e = absurd (may_stand depth next token.0 e b.0)

reads : (text : List ℕ) → 0 < length text → Reads text (token_at text)
reads [] some = absurd (omega arith)
reads (c ∷ text) some = token_reads c text

with_nothing : (first : Option Word) (words others : List Word) → (words ++ with_word first []) ++ others ≡ words ++ with_word first others
with_nothing None words others = ap (λ (x : List Word). x ++ others) (append-nil words)
with_nothing (Some word) words others = append_assoc words (word ∷ []) others

-- a token more
pub read_more : (text rest octets after : List ℕ) (words : List Word) (ends depth next : ℕ) (token : Kind × ℕ) → HasRead text rest words ends → 0 < length rest → token ≡ token_at rest
    → octets ≡ take token.1 rest → after ≡ drop token.1 rest → Some next ≡ depth_after depth token.0
    → HasRead text after (words ++ with_word (word_in token.0 octets) []) (ends + line_ends_in token.0)
read_more text rest octets after words ends depth next token h some e f g stands =
    let t : IsToken token.0 octets = subst (IsToken token.0) (sym f) (is_token rest token depth next (subst (Reads rest) (sym e) (reads rest some)) stands) in
    let parts : octets ++ after ≡ rest = (λ i. f i ++ g i) ∙ take-append-drop token.1 rest in
    let all : line_ends rest ≡ line_ends octets + line_ends after = ap line_ends (sym parts) ∙ line_ends-append octets after in
    let here = token_ends token.0 octets t in
    let before = h.ends_are in
    record {
      words_are = with_nothing (word_in token.0 octets) words (words_of after)
          ∙ (ap (λ (x : List Word). words ++ x) (sym (words_step rest octets after token some e f g)) ∙ h.words_are);
      ends_are = omega (arith, all, here, before);
    }

-- ---- at the line's end

with_word-append : (first : Option Word) (words others : List Word) → with_word first words ++ others ≡ with_word first (words ++ others)
with_word-append None words others = refl
with_word-append (Some word) words others = refl

words_in-append : (a b : List Token) → words_in (a ++ b) ≡ words_in a ++ words_in b
words_in-append [] b = refl
words_in-append (token ∷ a) b =
    ap (with_word (word_in token.kind token.octets)) (words_in-append a b) ∙ sym (with_word-append (word_in token.kind token.octets) (words_in a) (words_in b))

-- what was read is what the line has
pub line_words : (text line rest : List ℕ) (words : List Word) (ends : ℕ) → HasRead text rest words ends → text ≡ line ++ rest → lines_of text ≡ Some line ∷ lines_of rest → words ≡ words_of line
line_words text line rest words ends h is e =
    let begins = line_begins text line (lines_of rest) e in
    let same : begins.rest ≡ rest = append_cancel_left line begins.rest rest (sym begins.is ∙ is) in
    append_cancel_right words (words_of line) (words_of rest)
    (h.words_are ∙ (ap words_in begins.tokens ∙ (words_in-append (tokens_of line) (tokens_of begins.rest) ∙ ap (λ (x : List ℕ). words_of line ++ words_of x) same)))

pub line_line_ends : (text line rest : List ℕ) (words : List Word) (ends : ℕ) → HasRead text rest words ends → text ≡ line ++ rest → ends ≡ line_ends line
line_line_ends text line rest words ends h is =
    let all : line_ends text ≡ line_ends line + line_ends rest = ap line_ends is ∙ line_ends-append line rest in
    let read = h.ends_are in
    omega (arith, all, read)

-- so what was read is the line, where its octets are known
pub passed_at : (text after : List ℕ) (passed : Passed) → lines_of text ≡ Some (take passed.octets text) ∷ lines_of (drop passed.octets text) → after ≡ drop passed.octets text
    → HasRead text after (map word_view passed.words.items) passed.line_ends → IsPassed text passed
passed_at text after passed line behind h =
    let octets = passed.octets in
    let read = subst (λ (x : List ℕ). HasRead text x (map word_view passed.words.items) passed.line_ends) behind h in
    record {
      line = line;
      words = line_words text (take octets text) (drop octets text) _ passed.line_ends read (sym (take-append-drop octets text)) line;
      ends = line_line_ends text (take octets text) (drop octets text) (map word_view passed.words.items) passed.line_ends read (sym (take-append-drop octets text));
    }

-- what a step of the code read, as it has it
pub has_read_as : (text after : List ℕ) (words new : List Word) (ends counted : ℕ) → HasRead text after words ends → new ≡ words → counted ≡ ends → HasRead text after new counted
has_read_as text after words new ends counted h e f = rw (e, f) h

pub behind_line : (text rest after : List ℕ) (size depth : ℕ) (token : Kind × ℕ) → Passes text rest after size depth token → after ≡ drop (size + token.1) text
behind_line text rest after size depth token p =
    sym (ap (drop (size + token.1)) p.is ∙ drop_at (p.front ++ p.octets) after (size + token.1) (sym p.front_size))

-- the text ends outside parentheses
pub whole_line : (text rest : List ℕ) (passed : Passed) → 0 < length text → HasPassed text rest passed.octets 0 → length rest ≤ 0 → HasRead text rest (map word_view passed.words.items) passed.line_ends → IsPassed text passed
whole_line text rest passed some h e read =
    let size = h.front_size in
    let behind : rest ≡ drop passed.octets text = sym (ap (drop passed.octets) h.is ∙ drop_at h.front rest passed.octets (sym size)) in
    passed_at text rest passed (ends_whole text rest passed.octets 0 some h e (omega arith)) behind read
