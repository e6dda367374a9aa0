-- Lines of zone text, put together from their tokens.
use Rattle.std.proofs.Common.{◌≡◌, ℕ, zero, suc, ◌+◌, ◌<◌, ◌≤◌, List, [], ◌∷◌, ◌++◌, length, take, drop, refl, sym, ap, ◌∙◌, arith, length-append, append_assoc}
use Rattle.std.specs.Prelude.{Bool, true, false, Option, Some, None, if◌then◌else◌}
use Rattle.std.proofs.lemmas.List.{append-nil, length-take-le, take-append-drop, take_all, take_at, drop_all, drop_at}
use Rattle.dsec_text.specs.Tokens.{Token, token_at, tokens_of}
use Rattle.dsec_text.specs.Lines.{ends_line, depth_after, onto, going_on, lines_at_end, lines_from, lines_of}
use Rattle.dsec_text.specs.declared.token.Kind.{Kind}
use Rattle.dsec_text.specs.declared.token.Kind.TheVariants.{Blank, Comment, LineEnd, Open, Close, Plain, Quoted, Bad}
use Rattle.dsec_text.proofs.TokenLemmas.{token_some, token_within, tokens_step}

abbrev Lines : Type 0
Lines = List (Option (List ℕ))

-- octets before a text, if there are any
abbrev pub put : List ℕ → Lines → Lines
put [] lines = lines
put (octet ∷ front) lines = onto (octet ∷ front) lines

onto_onto : (a b : List ℕ) (lines : Lines) → onto a (onto b lines) ≡ onto (a ++ b) lines
onto_onto a b [] = refl
onto_onto a b (None ∷ lines) = refl
onto_onto a b (Some line ∷ lines) = ap (λ (x : List ℕ). Some x ∷ lines) (sym (append_assoc a b line))

put_onto : (front octets : List ℕ) (lines : Lines) → 0 < length octets → put front (onto octets lines) ≡ put (front ++ octets) lines
put_onto [] [] lines some = absurd (omega arith)
put_onto [] (c ∷ octets) lines some = refl
put_onto (c ∷ front) octets lines some = onto_onto (c ∷ front) octets lines

put_line : (front octets : List ℕ) (lines : Lines) → put front (Some octets ∷ lines) ≡ Some (front ++ octets) ∷ lines
put_line [] octets lines = refl
put_line (c ∷ front) octets lines = refl

put_bad : (front : List ℕ) → put front (None ∷ []) ≡ None ∷ []
put_bad [] = refl
put_bad (c ∷ front) = refl

put_end : (front : List ℕ) → 0 < length front → put front [] ≡ Some front ∷ []
put_end [] some = absurd (omega arith)
put_end (c ∷ front) some = refl

-- the front of a text was passed, and its first line goes on at the rest
pub record HasPassed (text rest : List ℕ) (size depth : ℕ) : Type 0 where
  pub front : List ℕ
  pub is : text ≡ front ++ rest
  pub front_size : size ≡ length front
  pub lines : put front (lines_from depth (tokens_of rest)) ≡ lines_of text
  pub sizes : size + length rest ≡ length text
  pub shallow : depth ≤ size

pub at_first : (text : List ℕ) → HasPassed text text 0 0
at_first text = record { front = []; is = refl; front_size = refl; lines = refl; sizes = omega arith; shallow = omega arith }

-- a token at the front of the rest
pub record Passes (text rest after : List ℕ) (size depth : ℕ) (token : Kind × ℕ) : Type 0 where
  pub octets : List ℕ
  pub front : List ℕ
  pub is : text ≡ (front ++ octets) ++ after
  pub front_size : size + token.1 ≡ length (front ++ octets)
  pub some : 0 < length octets
  pub taken : length octets ≡ token.1
  pub lines : put front (lines_from depth (record { kind = token.0; octets = octets } ∷ tokens_of after)) ≡ lines_of text
  pub sizes : size + token.1 + length after ≡ length text

pub passes : (text rest after : List ℕ) (size depth : ℕ) (token : Kind × ℕ) → HasPassed text rest size depth → 0 < length rest → token ≡ token_at rest → after ≡ drop token.1 rest → Passes text rest after size depth token
passes text rest after size depth token h some e f =
    let k : (token_at rest).1 ≡ token.1 = ap (λ (x : Kind × ℕ). x.1) (sym e) in
    let least = token_some rest some in
    let most = token_within rest some in
    let octets = take token.1 rest in
    let l : length octets ≡ token.1 = length-take-le token.1 rest (omega (arith, most, k)) in
    let there : text ≡ (h.front ++ octets) ++ after =
    h.is ∙ (ap (λ (x : List ℕ). h.front ++ x) (sym (take-append-drop token.1 rest)) ∙ (sym (append_assoc h.front octets (drop token.1 rest)) ∙ ap (λ (x : List ℕ). (h.front ++ octets) ++ x) (sym f))) in
    let size_is = h.front_size in
    let front_is : size + token.1 ≡ length (h.front ++ octets) = omega (arith, length-append h.front octets, l, size_is) in
    let all = ap (λ (x : List ℕ). length x) there in
    record {
      octets = octets;
      front = h.front;
      is = there;
      front_size = front_is;
      some = omega (arith, l, least, k);
      taken = l;
      lines = rw (f, e) (ap (λ (x : List Token). put h.front (lines_from depth x)) (sym (tokens_step rest some)) ∙ h.lines);
      sizes = omega (arith, length-append (h.front ++ octets) after, all, front_is);
    }

-- what the line of the rest says, by what a token makes of it
choose_end : (t : Bool) (x y : Lines) → t ≡ true → (if t then x else y) ≡ x
choose_end true x y e = refl
choose_end false x y e = absurd cc

choose_on : (t : Bool) (x y : Lines) → t ≡ false → (if t then x else y) ≡ y
choose_on true x y e = absurd cc
choose_on false x y e = refl

-- the line ends with a token
pub line_ended : (text rest after : List ℕ) (size depth : ℕ) (token : Kind × ℕ) → Passes text rest after size depth token → ends_line depth token.0 ≡ true
    → lines_of text ≡ Some (take (size + token.1) text) ∷ lines_of (drop (size + token.1) text)
line_ended text rest after size depth token p e =
    let front = p.front ++ p.octets in
    let line : take (size + token.1) text ≡ front = ap (take (size + token.1)) p.is ∙ take_at front after (size + token.1) (sym p.front_size) in
    let others : drop (size + token.1) text ≡ after = ap (drop (size + token.1)) p.is ∙ drop_at front after (size + token.1) (sym p.front_size) in
    rw (line, others) (sym p.lines ∙ (ap (put p.front) (choose_end (ends_line depth token.0) _ _ e) ∙ put_line p.front p.octets (lines_of after)))

-- a token that may not stand there doesn't end the line
no_end : (depth : ℕ) (kind : Kind) → None ≡ depth_after depth kind → ends_line depth kind ≡ false
no_end zero LineEnd e = absurd cc
no_end (suc depth) kind e = refl
no_end zero Blank e = refl
no_end zero Comment e = refl
no_end zero Open e = refl
no_end zero Close e = refl
no_end zero Plain e = refl
no_end zero Quoted e = refl
no_end zero Bad e = refl

-- a token may not stand there
pub line_refused : (text rest after : List ℕ) (size depth : ℕ) (token : Kind × ℕ) → Passes text rest after size depth token → None ≡ depth_after depth token.0
    → lines_of text ≡ None ∷ []
line_refused text rest after size depth token p f =
    sym p.lines
    ∙ (ap (put p.front) (choose_on (ends_line depth token.0) _ _ (no_end depth token.0 f) ∙ ap (going_on p.octets (λ next. lines_from next (tokens_of after))) (sym f)) ∙ put_bad p.front)

next_depth : (depth next : ℕ) (kind : Kind) → Some next ≡ depth_after depth kind → next ≤ depth + 1
next_depth depth next Open e = let same : next ≡ suc depth = cc in omega (arith, same)
next_depth zero next Close e = absurd cc
next_depth (suc depth) next Close e = let same : next ≡ depth = cc in omega (arith, same)
next_depth depth next Bad e = absurd cc
next_depth depth next Blank e = let same : next ≡ depth = cc in omega (arith, same)
next_depth depth next Comment e = let same : next ≡ depth = cc in omega (arith, same)
next_depth depth next LineEnd e = let same : next ≡ depth = cc in omega (arith, same)
next_depth depth next Plain e = let same : next ≡ depth = cc in omega (arith, same)
next_depth depth next Quoted e = let same : next ≡ depth = cc in omega (arith, same)

-- the line goes on behind a token
pub line_goes_on : (text rest after : List ℕ) (size depth next : ℕ) (token : Kind × ℕ) → HasPassed text rest size depth → Passes text rest after size depth token → ends_line depth token.0 ≡ false → Some next ≡ depth_after depth token.0
    → HasPassed text after (size + token.1) next
line_goes_on text rest after size depth next token h p e f =
    let low = next_depth depth next token.0 f in
    let shallow = h.shallow in
    let some = p.some in
    let taken = p.taken in
    record {
      front = p.front ++ p.octets;
      is = p.is;
      front_size = p.front_size;
      lines = sym (put_onto p.front p.octets (lines_from next (tokens_of after)) p.some)
          ∙ (ap (put p.front) (ap (going_on p.octets (λ d. lines_from d (tokens_of after))) f ∙ sym (choose_on (ends_line depth token.0) _ _ e)) ∙ p.lines);
      sizes = p.sizes;
      shallow = omega (arith, low, shallow, some, taken);
    }

-- the text ends
text_ended : (text rest : List ℕ) (size depth : ℕ) → (h : HasPassed text rest size depth) → length rest ≤ 0 → put h.front (lines_at_end depth) ≡ lines_of text
text_ended text [] size depth h e = h.lines
text_ended text (c ∷ rest) size depth h e = absurd (omega (arith, e))

pub ends_within : (text rest : List ℕ) (size depth : ℕ) → HasPassed text rest size depth → length rest ≤ 0 → 0 < depth → lines_of text ≡ None ∷ []
ends_within text rest size zero h e d = absurd (omega (arith, d))
ends_within text rest size (suc depth) h e d = sym (text_ended text rest size (suc depth) h e) ∙ put_bad h.front

whole_front : (text front rest : List ℕ) → text ≡ front ++ rest → length rest ≤ 0 → text ≡ front
whole_front text front [] e l = e ∙ append-nil front
whole_front text front (c ∷ rest) e l = absurd (omega (arith, l))

pub ends_whole : (text rest : List ℕ) (size depth : ℕ) → 0 < length text → HasPassed text rest size depth → length rest ≤ 0 → depth ≤ 0 → lines_of text ≡ Some (take size text) ∷ lines_of (drop size text)
ends_whole text rest size (suc depth) some h e d = absurd (omega (arith, d))
ends_whole text rest size zero some h e d =
    let whole : text ≡ h.front = whole_front text h.front rest h.is e in
    let l = ap (λ (x : List ℕ). length x) whole in
    let size_is = h.front_size in
    let line : take size text ≡ h.front = take_all size text (omega (arith, l, size_is)) ∙ whole in
    let others : drop size text ≡ [] = drop_all size text (omega (arith, l, size_is)) in
    rw (line, others) (sym (text_ended text rest size zero h e) ∙ put_end h.front (omega (arith, l, some)))
