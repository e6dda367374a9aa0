-- The tokens of zone text: what stands there is read.
use Rattle.std.proofs.Common.{◌≡◌, ◌≢◌, ℕ, suc, ◌+◌, ◌<◌, List, [], ◌∷◌, ◌++◌, length, drop, refl, sym, ap, ◌∙◌, arith, length-append, append_assoc}
use Rattle.std.specs.Prelude.{All, Bool, true, false, ◌||◌, None, ◌==◌, if◌then◌else◌}
use Rattle.std.proofs.Math.Bool.{not}
use Rattle.std.specs.List.{position_or_len}
use Rattle.std.proofs.lemmas.List.{drop_at}
use Rattle.std.proofs.lemmas.List.Elements.{All-head, All-tail}
use Rattle.dsec_name.proofs.OctetText.{test_yes, no_test}
use Rattle.dsec_text.specs.Escapes.{is_blank, is_line_end, is_between, is_plain, WritesOctet, WritesOctets, octet_at, front}
use Rattle.dsec_text.specs.Escapes.WritesOctet.{plain, escaped, numbered}
use Rattle.dsec_text.specs.Escapes.WritesOctets.{none, more as octet_more}
use Rattle.dsec_text.specs.Tokens.{IsToken, MayFollow, StartsWith, ends_word, ends_quote, word_at, quoted_at, token_at}
use Rattle.dsec_text.specs.Tokens.IsToken.{blank, comment, line_end, opening, closing, word, quoted}
use Rattle.dsec_text.specs.declared.token.Kind.{Kind}
use Rattle.dsec_text.specs.declared.token.Kind.TheVariants.{Comment, Plain, Quoted, Bad}
use Rattle.dsec_text.proofs.FrontText.{front_read}

left_no : (a b : Bool) → (a || b) ≡ false → a ≡ false
left_no true b e = e
left_no false b e = refl

right_no : (a b : Bool) → (a || b) ≡ false → b ≡ false
right_no true b e = absurd cc
right_no false b e = e

-- an octet that doesn't stand between words
record IsInWord (c : ℕ) : Type 0 where
  no_blank : is_blank c ≡ false
  no_line_end : is_line_end c ≡ false
  no_open : (c == 40) ≡ false
  no_close : (c == 41) ≡ false
  no_comment : (c == 59) ≡ false
  no_quote : (c == 34) ≡ false

in_word : (c : ℕ) → is_between c ≡ false → (c == 34) ≡ false → IsInWord c
in_word c e q =
    let a = right_no (is_blank c) _ e in
    let b = right_no (is_line_end c) _ a in
    let d = right_no (c == 59) _ b in
    record {
      no_blank = left_no (is_blank c) _ e;
      no_line_end = left_no (is_line_end c) _ a;
      no_comment = left_no (c == 59) _ b;
      no_open = left_no (c == 40) _ d;
      no_close = right_no (c == 40) _ d;
      no_quote = q;
    }

plain_no : (t : Bool) → not t ≡ true → t ≡ false
plain_no true e = absurd cc
plain_no false e = refl

-- a word begins with an octet of a word
record HasHead (text : List ℕ) : Type 0 where
  head : ℕ
  tail : List ℕ
  is : text ≡ head ∷ tail
  inside : IsInWord head

plain_head : (c : ℕ) → is_plain false c ≡ true → IsInWord c
plain_head c e =
    let n = plain_no _ e in
    in_word c (left_no (is_between c) _ n) (left_no (c == 34) _ (right_no (is_between c) _ n))

octet_head : (octet : ℕ) (first : List ℕ) → WritesOctet false octet first → HasHead first
octet_head _ _ (plain octet itself) = record { head = octet; tail = []; is = refl; inside = plain_head octet itself }
octet_head _ _ (escaped octet n e) = record { head = 92; tail = octet ∷ []; is = refl; inside = in_word 92 refl refl }
octet_head _ _ (numbered a b c x y z at_most) = record { head = 92; tail = a ∷ b ∷ c ∷ []; is = refl; inside = in_word 92 refl refl }

word_head : (octets text : List ℕ) → 0 < length text → WritesOctets false octets text → HasHead text
word_head _ _ some none = absurd (omega arith)
word_head _ _ some (octet_more octet octets first rest w ws) =
    let h = octet_head octet first w in
    record { head = h.head; tail = h.tail ++ rest; is = ap (λ (x : List ℕ). x ++ rest) h.is; inside = h.inside }

between_stops : (c : ℕ) (rest : List ℕ) → is_between c ≡ true → octet_at false (c ∷ rest) ≡ None
between_stops c rest e =
    elim (c == 92) as (λ t. (c == 92) ≡ t → octet_at false (c ∷ rest) ≡ None) [
      | true ↦ λ f. let no : is_between 92 ≡ true = ap is_between (sym (test_yes c 92 f)) ∙ e in absurd cc
      | false ↦ λ f. rw (e, f) refl
    ] refl

-- no octet of a word stands where the word may end
stops_word : (rest : List ℕ) → MayFollow Plain rest → octet_at false rest ≡ None
stops_word [] f = refl
stops_word (c ∷ rest) f = between_stops c rest f

ends_plain : (rest : List ℕ) → MayFollow Plain rest → ends_word rest ≡ true
ends_plain [] f = refl
ends_plain (c ∷ rest) f = f

ends_quoted : (rest : List ℕ) → MayFollow Quoted rest → ends_word rest ≡ true
ends_quoted [] f = refl
ends_quoted (c ∷ rest) f = f

word_token : (c : ℕ) (text : List ℕ) → IsInWord c → token_at (c ∷ text) ≡ word_at (c ∷ text)
word_token c text h = rw (h.no_blank, h.no_line_end, h.no_open, h.no_close, h.no_comment, h.no_quote) refl

word_sized : (text all rest : List ℕ) (octets : List ℕ) (n : ℕ) → front false all ≡ (octets, n) → drop n all ≡ rest → ends_word rest ≡ true → word_at all ≡ (Plain, n)
word_sized text all rest octets n f d e =
    ap (λ (p : List ℕ × ℕ). if ends_word (drop p.1 all) then (Plain, p.1) else (Bad, length all)) f
    ∙ ap (λ (t : Bool). if t then (Plain, n) else (Bad, length all)) (ap ends_word d ∙ e)

word_read : (octets text rest : List ℕ) → 0 < length text → WritesOctets false octets text → MayFollow Plain rest → token_at (text ++ rest) ≡ (Plain, length text)
word_read octets text rest some w f =
    let h = word_head octets text some w in
    let all : text ++ rest ≡ h.head ∷ (h.tail ++ rest) = ap (λ (x : List ℕ). x ++ rest) h.is in
    ap token_at all
    ∙ (word_token h.head (h.tail ++ rest) h.inside
    ∙ (ap word_at (sym all)
    ∙ word_sized text (text ++ rest) rest octets (length text) (front_read false octets text rest w (stops_word rest f)) (drop_at text rest (length text) refl) (ends_plain rest f)))

quoted_sized : (all rest octets : List ℕ) (n : ℕ) → front true all ≡ (octets, n) → drop n all ≡ 34 ∷ rest → ends_word rest ≡ true → quoted_at all ≡ (Quoted, n + 2)
quoted_sized all rest octets n f d e =
    ap (λ (p : List ℕ × ℕ). if ends_quote (drop p.1 all) then (Quoted, p.1 + 2) else (Bad, length all + 1)) f
    ∙ ap (λ (t : Bool). if t then (Quoted, n + 2) else (Bad, length all + 1)) (ap ends_quote d ∙ e)

pub two_more : (text : List ℕ) → length text + 2 ≡ length (34 ∷ text ++ 34 ∷ [])
two_more text = omega (arith, length-append text (34 ∷ []))

quoted_read : (octets text rest : List ℕ) → WritesOctets true octets text → MayFollow Quoted rest → token_at ((34 ∷ text ++ 34 ∷ []) ++ rest) ≡ (Quoted, length (34 ∷ text ++ 34 ∷ []))
quoted_read octets text rest w f =
    ap quoted_at (append_assoc text (34 ∷ []) rest)
    ∙ (quoted_sized (text ++ 34 ∷ rest) rest octets (length text) (front_read true octets text (34 ∷ rest) w refl) (drop_at text (34 ∷ rest) (length text) refl) (ends_quoted rest f)
    ∙ ap (λ (n : ℕ). (Quoted, n)) (two_more text))

pub line_here : (c : ℕ) (text : List ℕ) → is_line_end c ≡ true → position_or_len is_line_end (c ∷ text) ≡ 0
line_here c text e = rw e refl

pub line_later : (c : ℕ) (text : List ℕ) → is_line_end c ≡ false → position_or_len is_line_end (c ∷ text) ≡ suc (position_or_len is_line_end text)
line_later c text e = rw e (omega arith)

comment_size : (octets rest : List ℕ) → All (λ (o : ℕ). o ≢ 10) octets → MayFollow Comment rest → position_or_len is_line_end (octets ++ rest) ≡ length octets
comment_size [] [] h f = refl
comment_size [] (c ∷ rest) h f = line_here c rest (ap is_line_end f)
comment_size (c ∷ octets) rest h f =
    line_later c (octets ++ rest) (no_test c 10 (All-head (λ (o : ℕ). o ≢ 10) c octets h))
    ∙ ap (λ (n : ℕ). suc n) (comment_size octets rest (All-tail (λ (o : ℕ). o ≢ 10) c octets h) f)

pub one_more : (n : ℕ) → n + 1 ≡ suc n
one_more n = omega arith

by_token : (kind : Kind) (octets rest : List ℕ) → IsToken kind octets → MayFollow kind rest → token_at (octets ++ rest) ≡ (kind, length octets)
by_token _ _ rest (blank octet e) f = rw e refl
by_token _ _ rest (comment octets h) f = ap (λ (n : ℕ). (Comment, n)) (ap (λ (n : ℕ). n + 1) (comment_size octets rest h f) ∙ one_more (length octets))
by_token _ _ rest line_end f = refl
by_token _ _ rest opening f = refl
by_token _ _ rest closing f = refl
by_token _ _ rest (word octets text some w) f = word_read octets text rest some w f
by_token _ _ rest (quoted octets text w) f = quoted_read octets text rest w f

-- what stands there is read
pub token_read : (kind : Kind) (octets rest text : List ℕ) → StartsWith kind octets rest text → token_at text ≡ (kind, length octets)
token_read kind octets rest text s = ap token_at s.is ∙ by_token kind octets rest s.token s.followed

pub some_token : (kind : Kind) (octets : List ℕ) → IsToken kind octets → 0 < length octets
some_token _ _ (blank octet e) = omega arith
some_token _ _ (comment octets h) = omega arith
some_token _ _ line_end = omega arith
some_token _ _ opening = omega arith
some_token _ _ closing = omega arith
some_token _ _ (word octets text some w) = some
some_token _ _ (quoted octets text w) = omega arith
