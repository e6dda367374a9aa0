-- A line of words is read as these words, before any text.
use Rattle.std.proofs.Common.{◌≡◌, ℕ, List, [], ◌∷◌, ◌++◌, ◌<◌, length, refl, ap, ◌∙◌, arith, Option, Some, append_assoc, map}
use Rattle.dsec_text.specs.Lines.{lines_from, lines_of, onto}
use Rattle.dsec_text.specs.Tokens.{Token, IsMadeOf, MayFollow, tokens_of}
use Rattle.dsec_text.specs.Tokens.IsMadeOf.{more}
use Rattle.dsec_text.specs.Tokens.IsToken.{blank as blank_token, line_end as end_token, word as word_token}
use Rattle.dsec_text.specs.Words.{Word, words_in, words_of}
use Rattle.dsec_text.specs.declared.token.Kind.{Kind}
use Rattle.dsec_text.specs.declared.token.Kind.TheVariants.{Blank, LineEnd, Plain}
use Rattle.dsec_text.proofs.TokenReading.{text_made, made_is}
use Rattle.dsec_record_text.proofs.PlainWords.{IsWord, bare}

-- words, each with a blank behind it, before a text
abbrev pub spaced : List (List ℕ) → List ℕ → List ℕ
spaced [] text = text
spaced (word ∷ words) text = word ++ 32 ∷ spaced words text

abbrev pub AreWords : List (List ℕ) → Type 0
AreWords [] = Unit {0}
AreWords (word ∷ words) = IsWord word × AreWords words

abbrev token_of : Kind → List ℕ → Token
token_of kind octets = record { kind = kind; octets = octets }

abbrev blank : Token
blank = token_of Blank (32 ∷ [])

abbrev line_end : Token
line_end = token_of LineEnd (10 ∷ [])

-- the tokens of words with blanks behind them, and those after
abbrev word_tokens : List (List ℕ) → List Token → List Token
word_tokens [] tokens = tokens
word_tokens (word ∷ words) tokens = token_of Plain word ∷ blank ∷ word_tokens words tokens

-- the token of a word that may be missing
abbrev last_tokens : List ℕ → List Token → List Token
last_tokens [] tokens = tokens
last_tokens (octet ∷ word) tokens = token_of Plain (octet ∷ word) ∷ tokens

-- the same as a word
abbrev pub last_words : List ℕ → List Word
last_words [] = []
last_words (octet ∷ word) = bare (octet ∷ word) ∷ []

free_blank : (text : List ℕ) → MayFollow Blank text
free_blank [] = tt
free_blank (c ∷ text) = tt

free_end : (text : List ℕ) → MayFollow LineEnd text
free_end [] = tt
free_end (c ∷ text) = tt

made_blank : (rest : List ℕ) → IsMadeOf (blank ∷ tokens_of rest) (32 ∷ rest)
made_blank rest = more Blank (32 ∷ []) rest (32 ∷ rest) (tokens_of rest) (record { is = refl; token = blank_token 32 refl; followed = free_blank rest }) (text_made rest)

made_end : (rest : List ℕ) → IsMadeOf (line_end ∷ tokens_of rest) (10 ∷ rest)
made_end rest = more LineEnd (10 ∷ []) rest (10 ∷ rest) (tokens_of rest) (record { is = refl; token = end_token; followed = free_end rest }) (text_made rest)

-- a word, and a blank behind it
word_blank : (word rest : List ℕ) → IsWord word → tokens_of (word ++ 32 ∷ rest) ≡ token_of Plain word ∷ blank ∷ tokens_of rest
word_blank word rest h =
    made_is (token_of Plain word ∷ blank ∷ tokens_of rest) (word ++ 32 ∷ rest)
    (more Plain word (32 ∷ rest) (word ++ 32 ∷ rest) (blank ∷ tokens_of rest) (record { is = refl; token = word_token h.octets word h.some h.writes; followed = refl }) (made_blank rest))

-- the last word, and LF behind it
word_end : (word rest : List ℕ) → (0 < length word → IsWord word) → tokens_of (word ++ 10 ∷ rest) ≡ last_tokens word (line_end ∷ tokens_of rest)
word_end [] rest h = made_is (line_end ∷ tokens_of rest) (10 ∷ rest) (made_end rest)
word_end (c ∷ cs) rest h =
    let w = h (omega arith) in
    made_is (token_of Plain (c ∷ cs) ∷ line_end ∷ tokens_of rest) ((c ∷ cs) ++ 10 ∷ rest)
    (more Plain (c ∷ cs) (10 ∷ rest) ((c ∷ cs) ++ 10 ∷ rest) (line_end ∷ tokens_of rest) (record { is = refl; token = word_token w.octets (c ∷ cs) w.some w.writes; followed = refl }) (made_end rest))

tokens_spaced : (words : List (List ℕ)) (text : List ℕ) → AreWords words → tokens_of (spaced words text) ≡ word_tokens words (tokens_of text)
tokens_spaced [] text h = refl
tokens_spaced (word ∷ words) text h =
    word_blank word (spaced words text) h.0
    ∙ ap (λ (tokens : List Token). token_of Plain word ∷ blank ∷ tokens) (tokens_spaced words text h.1)

lines_spaced : (words : List (List ℕ)) (line : List ℕ) (tokens : List Token) (others : List (Option (List ℕ))) → lines_from 0 tokens ≡ Some line ∷ others
    → lines_from 0 (word_tokens words tokens) ≡ Some (spaced words line) ∷ others
lines_spaced [] line tokens others e = e
lines_spaced (word ∷ words) line tokens others e =
    ap (λ (lines : List (Option (List ℕ))). onto word (onto (32 ∷ []) lines)) (lines_spaced words line tokens others e)

lines_end : (word : List ℕ) (tokens : List Token) → lines_from 0 (last_tokens word (line_end ∷ tokens)) ≡ Some (word ++ 10 ∷ []) ∷ lines_from 0 tokens
lines_end [] tokens = refl
lines_end (c ∷ cs) tokens = refl

words_spaced : (words : List (List ℕ)) (tokens : List Token) → words_in (word_tokens words tokens) ≡ map bare words ++ words_in tokens
words_spaced [] tokens = refl
words_spaced (word ∷ words) tokens = ap (λ (others : List Word). bare word ∷ others) (words_spaced words tokens)

words_end : (word : List ℕ) → words_in (last_tokens word (line_end ∷ [])) ≡ last_words word
words_end [] = refl
words_end (c ∷ cs) = refl

-- words, a last one that may be missing, and LF
abbrev pub line_of : List (List ℕ) → List ℕ → List ℕ
line_of words word = spaced words (word ++ 10 ∷ [])

behind : (words : List (List ℕ)) (text rest : List ℕ) → spaced words text ++ rest ≡ spaced words (text ++ rest)
behind [] text rest = refl
behind (word ∷ words) text rest = append_assoc word (32 ∷ spaced words text) rest ∙ ap (λ (x : List ℕ). word ++ 32 ∷ x) (behind words text rest)

tokens_line : (words : List (List ℕ)) (word rest : List ℕ) → AreWords words → (0 < length word → IsWord word)
    → tokens_of (spaced words (word ++ 10 ∷ rest)) ≡ word_tokens words (last_tokens word (line_end ∷ tokens_of rest))
tokens_line words word rest h g = tokens_spaced words (word ++ 10 ∷ rest) h ∙ ap (word_tokens words) (word_end word rest g)

-- the line is the first one of the text
pub line_first : (words : List (List ℕ)) (word rest : List ℕ) → AreWords words → (0 < length word → IsWord word)
    → lines_of (line_of words word ++ rest) ≡ Some (line_of words word) ∷ lines_of rest
line_first words word rest h g =
    ap lines_of (behind words (word ++ 10 ∷ []) rest ∙ ap (spaced words) (append_assoc word (10 ∷ []) rest))
    ∙ ap (lines_from 0) (tokens_line words word rest h g)
    ∙ lines_spaced words (word ++ 10 ∷ []) (last_tokens word (line_end ∷ tokens_of rest)) (lines_of rest) (lines_end word (tokens_of rest))

-- its words
pub line_words : (words : List (List ℕ)) (word : List ℕ) → AreWords words → (0 < length word → IsWord word) → words_of (line_of words word) ≡ map bare words ++ last_words word
line_words words word h g =
    ap words_in (tokens_line words word [] h g)
    ∙ words_spaced words (last_tokens word (line_end ∷ []))
    ∙ ap (λ (others : List Word). map bare words ++ others) (words_end word)
