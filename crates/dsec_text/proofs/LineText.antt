-- A line of zone text is made of the tokens that it has there.
use Rattle.std.proofs.Common.{◌≡◌, ℕ, zero, suc, List, [], ◌∷◌, ◌++◌, refl, sym, ap, ◌∙◌, subst, append_assoc}
use Rattle.std.specs.Prelude.{Bool, true, false, Option, Some, None, if◌then◌else◌}
use Rattle.std.proofs.lemmas.List.{append-nil}
use Rattle.dsec_text.specs.Tokens.{Token, MayFollow, StartsWith, IsMadeOf, tokens_of}
use Rattle.dsec_text.specs.Tokens.IsMadeOf.{end, more, bad}
use Rattle.dsec_text.specs.Lines.{BeginsWith, ends_line, depth_after, onto, going_on, lines_at_end, lines_from, lines_of}
use Rattle.dsec_text.specs.declared.token.Kind.{Kind}
use Rattle.dsec_text.specs.declared.token.Kind.TheVariants.{Blank, Comment, LineEnd, Open, Close, Plain, Quoted, Bad}
use Rattle.dsec_text.proofs.TokenReading.{text_made, made_is}

abbrev Lines : Type 0
Lines = List (Option (List ℕ))

-- the tokens of the first line, and those of the others
record Splits (tokens : List Token) (line text : List ℕ) (others : Lines) : Type 0 where
  front : List Token
  behind : List Token
  rest : List ℕ
  is : text ≡ line ++ rest
  tokens_are : tokens ≡ front ++ behind
  line_made : IsMadeOf front line
  rest_made : IsMadeOf behind rest
  follow : others ≡ lines_from 0 behind

-- what may follow depends on one octet
follow_front : (kind : Kind) (line rest : List ℕ) → MayFollow kind (line ++ rest) → MayFollow kind line
follow_front kind [] rest f = tt
follow_front Blank (c ∷ line) rest f = tt
follow_front Comment (c ∷ line) rest f = f
follow_front LineEnd (c ∷ line) rest f = tt
follow_front Open (c ∷ line) rest f = tt
follow_front Close (c ∷ line) rest f = tt
follow_front Plain (c ∷ line) rest f = f
follow_front Quoted (c ∷ line) rest f = f
follow_front Bad (c ∷ line) rest f = tt

-- a line of one token
alone : (kind : Kind) (octets rest text : List ℕ) → StartsWith kind octets rest text → IsMadeOf (record { kind = kind; octets = octets } ∷ []) octets
alone kind octets rest text s = more kind octets [] octets [] (record { is = sym (append-nil octets); token = s.token; followed = tt }) end

nothing_left : (text : List ℕ) (tokens : List Token) → IsMadeOf tokens text → tokens ≡ [] → text ≡ []
nothing_left _ _ end e = refl
nothing_left _ _ (more kind octets rest text tokens s ws) e = absurd cc
nothing_left _ _ (bad text some never) e = absurd cc

onto_some : (octets : List ℕ) (lines : Lines) → onto octets lines ≡ [] → ⊥
onto_some octets [] e = absurd cc
onto_some octets (None ∷ lines) e = absurd cc
onto_some octets (Some line ∷ lines) e = absurd cc

on_some : (octets : List ℕ) (others : ℕ → Lines) (next : Option ℕ) → going_on octets others next ≡ [] → ⊥
on_some octets others None e = absurd cc
on_some octets others (Some depth) e = onto_some octets (others depth) e

step_some : (t : Bool) (octets : List ℕ) (after : Lines) (others : ℕ → Lines) (next : Option ℕ) → (if t then Some octets ∷ after else going_on octets others next) ≡ [] → ⊥
step_some true octets after others next e = absurd cc
step_some false octets after others next e = on_some octets others next e

-- where there are no lines, there are no tokens
no_lines : (depth : ℕ) (tokens : List Token) → lines_from depth tokens ≡ [] → tokens ≡ []
no_lines depth [] e = refl
no_lines depth (token ∷ tokens) e = absurd (step_some (ends_line depth token.kind) token.octets (lines_from 0 tokens) (λ next. lines_from next tokens) (depth_after depth token.kind) e)

line_is : (a b : List ℕ) (others later : Lines) → ◌≡◌ {A = Lines} (Some a ∷ others) (Some b ∷ later) → (a ≡ b) × (others ≡ later)
line_is a b others later e = (cc, cc)

-- a token before the rest of its line
before : (kind : Kind) (octets rest text line : List ℕ) (tokens : List Token) (others : Lines) → StartsWith kind octets rest text → Splits tokens line rest others → Splits (record { kind = kind; octets = octets } ∷ tokens) (octets ++ line) text others
before kind octets rest text line tokens others s h =
    record {
      front = record { kind = kind; octets = octets } ∷ h.front;
      behind = h.behind;
      rest = h.rest;
      is = s.is ∙ (ap (λ (x : List ℕ). octets ++ x) h.is ∙ sym (append_assoc octets line h.rest));
      tokens_are = ap (λ (x : List Token). record { kind = kind; octets = octets } ∷ x) h.tokens_are;
      line_made = more kind octets line (octets ++ line) h.front (record { is = refl; token = s.token; followed = follow_front kind line h.rest (subst (MayFollow kind) h.is s.followed) }) h.line_made;
      rest_made = h.rest_made;
      follow = h.follow;
    }

-- the only token
only : (kind : Kind) (octets rest text : List ℕ) (tokens : List Token) → StartsWith kind octets rest text → IsMadeOf tokens rest → tokens ≡ [] → Splits (record { kind = kind; octets = octets } ∷ tokens) octets text []
only kind octets rest text tokens s ws e =
    record {
      front = record { kind = kind; octets = octets } ∷ [];
      behind = [];
      rest = [];
      is = s.is ∙ ap (λ (x : List ℕ). octets ++ x) (nothing_left rest tokens ws e);
      tokens_are = ap (λ (x : List Token). record { kind = kind; octets = octets } ∷ x) e;
      line_made = alone kind octets rest text s;
      rest_made = end;
      follow = refl;
    }

by_onto : (kind : Kind) (octets rest text line : List ℕ) (tokens : List Token) (others lines : Lines) → StartsWith kind octets rest text → IsMadeOf tokens rest
    → (lines ≡ [] → tokens ≡ []) → ((inner : List ℕ) (after : Lines) → lines ≡ Some inner ∷ after → Splits tokens inner rest after)
    → onto octets lines ≡ Some line ∷ others → Splits (record { kind = kind; octets = octets } ∷ tokens) line text others
by_onto kind octets rest text line tokens others [] s ws left next e =
    let same = line_is octets line [] others e in
    rw (← same.0, ← same.1) (only kind octets rest text tokens s ws (left refl))
by_onto kind octets rest text line tokens others (None ∷ lines) s ws left next e = absurd cc
by_onto kind octets rest text line tokens others (Some inner ∷ lines) s ws left next e =
    let same = line_is (octets ++ inner) line lines others e in
    rw (← same.0, ← same.1) (before kind octets rest text inner tokens lines s (next inner lines refl))

by_depth : (kind : Kind) (octets rest text line : List ℕ) (tokens : List Token) (others : Lines) (next : Option ℕ) → StartsWith kind octets rest text → IsMadeOf tokens rest
    → ((depth : ℕ) (inner : List ℕ) (after : Lines) → lines_from depth tokens ≡ Some inner ∷ after → Splits tokens inner rest after)
    → going_on octets (λ depth. lines_from depth tokens) next ≡ Some line ∷ others → Splits (record { kind = kind; octets = octets } ∷ tokens) line text others
by_depth kind octets rest text line tokens others None s ws next e = absurd cc
by_depth kind octets rest text line tokens others (Some depth) s ws next e =
    by_onto kind octets rest text line tokens others (lines_from depth tokens) s ws (no_lines depth tokens) (next depth) e

by_end : (t : Bool) (kind : Kind) (octets rest text line : List ℕ) (tokens : List Token) (others : Lines) (after : Option ℕ) → StartsWith kind octets rest text → IsMadeOf tokens rest
    → ((depth : ℕ) (inner : List ℕ) (more : Lines) → lines_from depth tokens ≡ Some inner ∷ more → Splits tokens inner rest more)
    → (if t then Some octets ∷ lines_from 0 tokens else going_on octets (λ depth. lines_from depth tokens) after) ≡ Some line ∷ others → Splits (record { kind = kind; octets = octets } ∷ tokens) line text others
by_end true kind octets rest text line tokens others after s ws next e =
    let same = line_is octets line (lines_from 0 tokens) others e in
    record {
      front = record { kind = kind; octets = octets } ∷ [];
      behind = tokens;
      rest = rest;
      is = s.is ∙ ap (λ (x : List ℕ). x ++ rest) same.0;
      tokens_are = refl;
      line_made = subst (IsMadeOf (record { kind = kind; octets = octets } ∷ [])) same.0 (alone kind octets rest text s);
      rest_made = ws;
      follow = sym same.1;
    }
by_end false kind octets rest text line tokens others after s ws next e = by_depth kind octets rest text line tokens others after s ws next e

bad_line : (depth : ℕ) (text line : List ℕ) (others : Lines) → lines_from depth (record { kind = Bad; octets = text } ∷ []) ≡ Some line ∷ others → ⊥
bad_line zero text line others e = absurd cc
bad_line (suc depth) text line others e = absurd cc

no_line : (depth : ℕ) (line : List ℕ) (others : Lines) → lines_at_end depth ≡ Some line ∷ others → ⊥
no_line zero line others e = absurd cc
no_line (suc depth) line others e = absurd cc

splits : (depth : ℕ) (tokens : List Token) (text line : List ℕ) (others : Lines) → IsMadeOf tokens text → lines_from depth tokens ≡ Some line ∷ others → Splits tokens line text others
splits depth _ _ line others end e = absurd (no_line depth line others e)
splits depth _ _ line others (more kind octets rest text tokens s ws) e =
    by_end (ends_line depth kind) kind octets rest text line tokens others (depth_after depth kind) s ws (λ d inner after f. splits d tokens rest inner after ws f) e
splits depth _ _ line others (bad text some never) e = absurd (bad_line depth text line others e)

-- a line's tokens are those that it has in the text
pub line_begins : (text line : List ℕ) (others : Lines) → lines_of text ≡ Some line ∷ others → BeginsWith line text others
line_begins text line others e =
    let h = splits 0 (tokens_of text) text line others (text_made text) e in
    let front = made_is h.front line h.line_made in
    let behind = made_is h.behind h.rest h.rest_made in
    record {
      rest = h.rest;
      is = h.is;
      tokens = h.tokens_are ∙ (λ i. sym front i ++ sym behind i);
      follow = h.follow ∙ ap (lines_from 0) (sym behind);
    }
