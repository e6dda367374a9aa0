-- The tokens of zone text: what is read stands there, and a text is made of its tokens.
use Rattle.std.proofs.Common.{◌≡◌, ◌≢◌, ℕ, zero, suc, ◌+◌, ◌<◌, ◌≤◌, List, [], ◌∷◌, ◌++◌, length, take, drop, refl, sym, ap, ◌∙◌, arith, length-append, append_assoc, inl, inr, ◌⊎◌}
use Rattle.std.specs.Prelude.{All, Bool, true, false, ◌==◌, if◌then◌else◌}
use Rattle.std.specs.List.{position_or_len}
use Rattle.std.proofs.lemmas.List.{take_all, take_at, drop_all, drop_at}
use Rattle.std.proofs.lemmas.List.Elements.{All-cons, All-nil}
use Rattle.dsec_name.proofs.OctetText.{test_no, test_yes}
use Rattle.dsec_text.specs.Escapes.{is_blank, is_line_end, is_between, front}
use Rattle.dsec_text.specs.Tokens.{Token, IsToken, MayFollow, StartsWith, IsMadeOf, ends_word, ends_quote, word_at, quoted_at, token_at, tokens_within, tokens_of}
use Rattle.dsec_text.specs.Tokens.IsToken.{blank, comment, line_end, opening, closing, word, quoted}
use Rattle.dsec_text.specs.Tokens.IsMadeOf.{end, more, bad}
use Rattle.dsec_text.specs.declared.token.Kind.{Kind}
use Rattle.dsec_text.specs.declared.token.Kind.TheVariants.{Blank, Comment, LineEnd, Open, Close, Plain, Quoted, Bad}
use Rattle.dsec_text.proofs.FrontText.{front_written}
use Rattle.dsec_text.proofs.TokenLemmas.{choose, no_end, tokens_step}
use Rattle.dsec_text.proofs.TokenText.{line_here, line_later, one_more, two_more, some_token, token_read}

-- the token that is read stands there
pub record IsRead (text : List ℕ) (token : Kind × ℕ) : Type 0 where
  pub octets : List ℕ
  pub rest : List ℕ
  pub starts : StartsWith token.0 octets rest text
  pub size : token.1 ≡ length octets

-- or the text is bad
abbrev pub Reads : List ℕ → Kind × ℕ → Type 0
Reads text token = IsRead text token ⊎ ((token.0 ≡ Bad) × (token.1 ≡ length text))

free_blank : (text : List ℕ) → MayFollow Blank text
free_blank [] = tt
free_blank (c ∷ text) = tt

free_line_end : (text : List ℕ) → MayFollow LineEnd text
free_line_end [] = tt
free_line_end (c ∷ text) = tt

free_open : (text : List ℕ) → MayFollow Open text
free_open [] = tt
free_open (c ∷ text) = tt

free_close : (text : List ℕ) → MayFollow Close text
free_close [] = tt
free_close (c ∷ text) = tt

single : (kind : Kind) (c d : ℕ) (text : List ℕ) → (c == d) ≡ true → IsToken kind (d ∷ []) → MayFollow kind text → Reads (c ∷ text) (kind, 1)
single kind c d text e t f = inl (record { octets = d ∷ []; rest = text; starts = record { is = ap (λ (x : ℕ). x ∷ text) (test_yes c d e); token = t; followed = f }; size = refl })

-- the octets before LF
record IsComment (text : List ℕ) (n : ℕ) : Type 0 where
  octets : List ℕ
  rest : List ℕ
  is : text ≡ octets ++ rest
  size : n ≡ length octets
  inside : All (λ (o : ℕ). o ≢ 10) octets
  followed : MayFollow Comment rest

comment_front : (text : List ℕ) → IsComment text (position_or_len is_line_end text)
comment_front [] = record { octets = []; rest = []; is = refl; size = refl; inside = All-nil (λ (o : ℕ). o ≢ 10); followed = tt }
comment_front (c ∷ text) =
    elim (is_line_end c) as (λ t. is_line_end c ≡ t → IsComment (c ∷ text) (position_or_len is_line_end (c ∷ text))) [
      | true ↦ λ e. record { octets = []; rest = c ∷ text; is = refl; size = line_here c text e; inside = All-nil (λ (o : ℕ). o ≢ 10); followed = test_yes c 10 e }
      | false ↦ λ e.
          let h = comment_front text in
          record {
            octets = c ∷ h.octets;
            rest = h.rest;
            is = ap (λ (x : List ℕ). c ∷ x) h.is;
            size = line_later c text e ∙ ap (λ (n : ℕ). suc n) h.size;
            inside = All-cons (λ (o : ℕ). o ≢ 10) c h.octets (test_no c 10 e) h.inside;
            followed = h.followed;
          }
    ] refl

comment_reads : (c : ℕ) (text : List ℕ) → (c == 59) ≡ true → Reads (c ∷ text) (Comment, position_or_len is_line_end text + 1)
comment_reads c text e =
    let h = comment_front text in
    inl (record {
      octets = 59 ∷ h.octets;
      rest = h.rest;
      starts = record { is = (λ i. test_yes c 59 e i ∷ h.is i); token = comment h.octets h.inside; followed = h.followed };
      size = one_more (position_or_len is_line_end text) ∙ ap (λ (n : ℕ). suc n) h.size;
    })

follow_plain : (rest : List ℕ) → ends_word rest ≡ true → MayFollow Plain rest
follow_plain [] e = tt
follow_plain (c ∷ rest) e = e

follow_quoted : (rest : List ℕ) → ends_word rest ≡ true → MayFollow Quoted rest
follow_quoted [] e = tt
follow_quoted (c ∷ rest) e = e

word_reads : (c : ℕ) (text : List ℕ) → is_between c ≡ false → Reads (c ∷ text) (word_at (c ∷ text))
word_reads c text b =
    let all = c ∷ text in
    let h = front_written false all in
    let n = (front false all).1 in
    let rest : drop n all ≡ h.rest = ap (drop n) h.is ∙ drop_at h.first h.rest n (sym h.size) in
    choose (Reads all) (ends_word (drop n all)) _ _
    (λ e. inl (record {
      octets = h.first;
      rest = h.rest;
      starts = record {
        is = h.is;
        token = word (front false all).0 h.first (let some = no_end c text n b e in let size = h.size in omega (arith, some, size)) h.writes;
        followed = follow_plain h.rest (ap ends_word (sym rest) ∙ e);
      };
      size = h.size;
    }))
    (λ e. inr (refl, refl))

-- a `"` stands there, and may end a word
record EndsQuote (text : List ℕ) : Type 0 where
  rest : List ℕ
  is : text ≡ 34 ∷ rest
  ends : ends_word rest ≡ true

quote_ends : (text : List ℕ) → ends_quote text ≡ true → EndsQuote text
quote_ends [] e = absurd cc
quote_ends (c ∷ text) e =
    elim (c == 34) as (λ t. (c == 34) ≡ t → (if t then ends_word text else false) ≡ true → EndsQuote (c ∷ text)) [
      | true ↦ λ f g. record { rest = text; is = ap (λ (x : ℕ). x ∷ text) (test_yes c 34 f); ends = g }
      | false ↦ λ f g. absurd cc
    ] refl e

quoted_reads : (c : ℕ) (text : List ℕ) → (c == 34) ≡ true → Reads (c ∷ text) (quoted_at text)
quoted_reads c text b =
    let h = front_written true text in
    let n = (front true text).1 in
    let behind : drop n text ≡ h.rest = ap (drop n) h.is ∙ drop_at h.first h.rest n (sym h.size) in
    choose (Reads (c ∷ text)) (ends_quote (drop n text)) _ _
    (λ e.
    let q = quote_ends h.rest (ap ends_quote (sym behind) ∙ e) in
    inl (record {
      octets = 34 ∷ h.first ++ 34 ∷ [];
      rest = q.rest;
      starts = record {
        is = (λ i. test_yes c 34 b i ∷ (h.is ∙ (ap (λ (x : List ℕ). h.first ++ x) q.is ∙ sym (append_assoc h.first (34 ∷ []) q.rest))) i);
        token = quoted (front true text).0 h.first h.writes;
        followed = follow_quoted q.rest q.ends;
      };
      size = ap (λ (k : ℕ). k + 2) h.size ∙ two_more h.first;
    }))
    (λ e. inr (refl, one_more (length text)))

blank_reads : (c : ℕ) (text : List ℕ) → is_blank c ≡ true → Reads (c ∷ text) (Blank, 1)
blank_reads c text e = inl (record { octets = c ∷ []; rest = text; starts = record { is = refl; token = blank c e; followed = free_blank text }; size = refl })

-- what is read stands there, or the text is bad
pub token_reads : (c : ℕ) (text : List ℕ) → Reads (c ∷ text) (token_at (c ∷ text))
token_reads c text =
    let P : Kind × ℕ → Type 0 = Reads (c ∷ text) in
    choose P (is_blank c) _ _ (blank_reads c text)
    (λ a. choose P (is_line_end c) _ _ (λ e. single LineEnd c 10 text e line_end (free_line_end text))
    (λ b. choose P (c == 40) _ _ (λ e. single Open c 40 text e opening (free_open text))
    (λ d. choose P (c == 41) _ _ (λ e. single Close c 41 text e closing (free_close text))
    (λ f. choose P (c == 59) _ _ (comment_reads c text)
    (λ g. choose P (c == 34) _ _ (quoted_reads c text)
    (λ h. word_reads c text (rw (a, b, d, f, g) refl)))))))

-- ---- a text and its tokens

abbrev is_good : Kind → Bool
is_good Bad = false
is_good _ = true

good_token : (kind : Kind) (octets : List ℕ) → IsToken kind octets → is_good kind ≡ true
good_token _ _ (blank octet e) = refl
good_token _ _ (comment octets h) = refl
good_token _ _ line_end = refl
good_token _ _ opening = refl
good_token _ _ closing = refl
good_token _ _ (word octets text some w) = refl
good_token _ _ (quoted octets text w) = refl

none_stands : (text : List ℕ) → (token_at text).0 ≡ Bad → (kind : Kind) (octets rest : List ℕ) → StartsWith kind octets rest text → ⊥
none_stands text e kind octets rest s =
    let same : kind ≡ Bad = sym (ap (λ (x : Kind × ℕ). x.0) (token_read kind octets rest text s)) ∙ e in
    let good : is_good Bad ≡ true = ap is_good (sym same) ∙ good_token kind octets s.token in
    absurd cc

tokens_none : (n : ℕ) → tokens_within n [] ≡ []
tokens_none zero = refl
tokens_none (suc n) = refl

after_read : (n : ℕ) (text : List ℕ) (token : Kind × ℕ) → token_at text ≡ token → 0 < length text → Reads text token → ((rest : List ℕ) → length rest < length text → IsMadeOf (tokens_within n rest) rest)
    → IsMadeOf (record { kind = token.0; octets = take token.1 text } ∷ tokens_within n (drop token.1 text)) text
after_read n text token is some (inl r) next =
    let octets : take token.1 text ≡ r.octets = ap (take token.1) r.starts.is ∙ take_at r.octets r.rest token.1 (sym r.size) in
    let rest : drop token.1 text ≡ r.rest = ap (drop token.1) r.starts.is ∙ drop_at r.octets r.rest token.1 (sym r.size) in
    let l = ap (λ (x : List ℕ). length x) r.starts.is in
    let s = some_token token.0 r.octets r.starts.token in
    rw (octets, rest) (more token.0 r.octets r.rest text (tokens_within n r.rest) r.starts (next r.rest (omega (arith, length-append r.octets r.rest, l, s))))
after_read n text token is some (inr b) next =
    let size = b.1 in
    let octets : take token.1 text ≡ text = take_all token.1 text (omega (arith, size)) in
    let rest : drop token.1 text ≡ [] = drop_all token.1 text (omega (arith, size)) in
    let kind = ap (λ (x : Kind × ℕ). x.0) is ∙ b.0 in
    rw (octets, rest, b.0, tokens_none n) (bad text some (none_stands text kind))

made : (n : ℕ) (text : List ℕ) → length text ≤ n → IsMadeOf (tokens_within n text) text
made zero [] l = end
made (suc n) [] l = end
made zero (c ∷ text) l = absurd (omega arith)
made (suc n) (c ∷ text) l =
    after_read n (c ∷ text) (token_at (c ∷ text)) refl (omega arith) (token_reads c text) (λ rest s. made n rest (omega arith))

-- a text is made of its tokens
pub text_made : (text : List ℕ) → IsMadeOf (tokens_of text) text
text_made text = made (length text) text (omega arith)

bad_by : (text : List ℕ) → 0 < length text → ((kind : Kind) (octets rest : List ℕ) → StartsWith kind octets rest text → ⊥) → Reads text (token_at text) → tokens_of text ≡ record { kind = Bad; octets = text } ∷ []
bad_by text some never (inl r) = absurd (never (token_at text).0 r.octets r.rest r.starts)
bad_by text some never (inr b) =
    let size = b.1 in
    let octets : take (token_at text).1 text ≡ text = take_all (token_at text).1 text (omega (arith, size)) in
    let rest : drop (token_at text).1 text ≡ [] = drop_all (token_at text).1 text (omega (arith, size)) in
    tokens_step text some ∙ (λ i. record { kind = b.0 i; octets = octets i } ∷ tokens_of (rest i))

bad_is : (text : List ℕ) → 0 < length text → ((kind : Kind) (octets rest : List ℕ) → StartsWith kind octets rest text → ⊥) → tokens_of text ≡ record { kind = Bad; octets = text } ∷ []
bad_is [] some never = absurd (omega arith)
bad_is (c ∷ text) some never = bad_by (c ∷ text) some never (token_reads c text)

-- and of no others
pub made_is : (tokens : List Token) (text : List ℕ) → IsMadeOf tokens text → tokens_of text ≡ tokens
made_is _ _ end = refl
made_is _ _ (more kind octets rest text tokens s ws) =
    let l = ap (λ (x : List ℕ). length x) s.is in
    let some = some_token kind octets s.token in
    let read = token_read kind octets rest text s in
    let front : take (length octets) text ≡ octets = ap (take (length octets)) s.is ∙ take_at octets rest (length octets) refl in
    let behind : drop (length octets) text ≡ rest = ap (drop (length octets)) s.is ∙ drop_at octets rest (length octets) refl in
    tokens_step text (omega (arith, length-append octets rest, l, some))
    ∙ (ap (λ (x : Kind × ℕ). record { kind = x.0; octets = take x.1 text } ∷ tokens_of (drop x.1 text)) read
    ∙ ((λ i. record { kind = kind; octets = front i } ∷ tokens_of (behind i))
    ∙ ap (λ (x : List Token). record { kind = kind; octets = octets } ∷ x) (made_is tokens rest ws)))
made_is _ _ (bad text some never) = bad_is text some never
