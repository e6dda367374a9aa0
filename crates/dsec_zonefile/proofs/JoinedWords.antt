-- The octets of words, joined one after the other.
use Rattle.std.proofs.Common.{◌≡◌, ℕ, suc, ◌+◌, ◌<◌, ◌≤◌, List, [], ◌∷◌, ◌++◌, length, map, drop, get_or, Option, Some, None, refl, sym, ap, ◌∙◌, append_assoc, append-nil, add-one, drop-cons}
use Rattle.std.specs.Bool.{OnFalse}
use Rattle.std.proofs.lemmas.List.{drop_all}
use Rattle.dsec_spec.specs.Reading.{◌>>=◌}
use Rattle.dsec_text.specs.Words.{Word, word_view}
use Rattle.dsec_text.specs.declared.word.Word as code
use Rattle.dsec_zonefile.specs.Words.{added, joined}
use Rattle.dsec_word.specs.Words.{wants_memory}
use Rattle.dsec_word.specs.declared.error.ReadError.{ReadError}
use Rattle.dsec_word.specs.declared.error.ReadError.TheVariants as errors

-- at first nothing was taken
pub added-nil : (front : List ℕ) (read : Option (List ℕ)) → front ≡ [] → added front read ≡ read
added-nil front None e = refl
added-nil front (Some octets) e = ap (λ (x : List ℕ). Some (x ++ octets)) e

added_twice : (front first : List ℕ) (read : Option (List ℕ)) → added front (added first read) ≡ added (front ++ first) read
added_twice front first None = refl
added_twice front first (Some octets) = ap Some (sym (append_assoc front first octets))

one_more_by : (front new : List ℕ) (others first : Option (List ℕ)) → added front first ≡ Some new → added front (first >>= λ x. others >>= λ xs. Some (x ++ xs)) ≡ added new others
one_more_by front new others None e = absurd cc
one_more_by front new others (Some first) e = added_twice front first others ∙ ap (λ (o : Option (List ℕ)). o >>= λ x. added x others) e

pub drop_from : {A : Type 0} (xs : List A) (i : ℕ) (d : A) → i < length xs → drop i xs ≡ get_or xs i d ∷ drop (i + 1) xs
drop_from xs i d below = let n : i + 1 ≡ suc i = add-one i in rw n (drop-cons xs i d below)

pub words_from : (words : List code.Word) (i : ℕ) (d : code.Word) → i < length words → map word_view (drop i words) ≡ word_view (get_or words i d) ∷ map word_view (drop (i + 1) words)
words_from words i d below = ap (map word_view) (drop_from words i d below)

-- one word more
pub one_more : (read : Word → Option (List ℕ)) (words : List code.Word) (i : ℕ) (d : code.Word) (front new : List ℕ) (all : Option (List ℕ))
    → i < length words → added front (read (word_view (get_or words i d))) ≡ Some new → added front (joined read (map word_view (drop i words))) ≡ all
    → added new (joined read (map word_view (drop (i + 1) words))) ≡ all
one_more read words i d front new all below e inv =
    sym (one_more_by front new (joined read (map word_view (drop (i + 1) words))) (read (word_view (get_or words i d))) e)
    ∙ ap (λ (ws : List Word). added front (joined read ws)) (sym (words_from words i d below)) ∙ inv

none_by : (front : List ℕ) (others first : Option (List ℕ)) → added front first ≡ None → added front (first >>= λ x. others >>= λ xs. Some (x ++ xs)) ≡ None
none_by front others None e = refl
none_by front others (Some first) e = absurd cc

-- a word that says nothing
stops : (read : Word → Option (List ℕ)) (words : List code.Word) (i : ℕ) (d : code.Word) (front : List ℕ) (all : Option (List ℕ))
    → i < length words → added front (read (word_view (get_or words i d))) ≡ None → added front (joined read (map word_view (drop i words))) ≡ all → all ≡ None
stops read words i d front all below e inv =
    sym inv ∙ ap (λ (ws : List Word). added front (joined read ws)) (words_from words i d below)
    ∙ none_by front (joined read (map word_view (drop (i + 1) words))) (read (word_view (get_or words i d))) e

-- a word that was not read: it says nothing, or memory is wanting
pub stops_reading : (error : ReadError) (read : Word → Option (List ℕ)) (words : List code.Word) (i : ℕ) (d : code.Word) (front : List ℕ) (all : Option (List ℕ))
    → i < length words → OnFalse (wants_memory error) (added front (read (word_view (get_or words i d))) ≡ None) → added front (joined read (map word_view (drop i words))) ≡ all
    → OnFalse (wants_memory error) (all ≡ None)
stops_reading errors.NoMemory read words i d front all below e inv = tt
stops_reading errors.Bad read words i d front all below e inv = stops read words i d front all below e inv

-- the end
pub ends : (read : Word → Option (List ℕ)) (words : List code.Word) (i : ℕ) (front : List ℕ) (all : Option (List ℕ)) → length words ≤ i → added front (joined read (map word_view (drop i words))) ≡ all → all ≡ Some front
ends read words i front all over inv =
    sym inv ∙ ap (λ (ws : List code.Word). added front (joined read (map word_view ws))) (drop_all i words over) ∙ ap Some (append-nil front)
