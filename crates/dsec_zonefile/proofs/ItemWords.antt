-- The octets of items, one word each.
use Rattle.std.proofs.Common.{◌≡◌, ℕ, ◌+◌, ◌<◌, ◌≤◌, List, [], ◌∷◌, ◌++◌, length, drop, get_or, map, Option, Some, None, refl, sym, ap, ◌∙◌, append_assoc, append-nil, arith}
use Rattle.std.specs.Bool.{OnFalse}
use Rattle.std.proofs.lemmas.List.{drop_all}
use Rattle.dsec_spec.specs.Names.{Labels}
use Rattle.dsec_spec.specs.Reading.{◌>>=◌}
use Rattle.dsec_text.specs.Words.{Word, word_view}
use Rattle.dsec_text.specs.declared.word.Word as code
use Rattle.dsec_zonefile.specs.Words.{added}
use Rattle.dsec_zonefile.specs.Forms.{added_items, item_in, items_in}
use Rattle.dsec_zonefile.proofs.JoinedWords.{drop_from, words_from}
use Rattle.dsec_word.specs.Words.{wants_memory}
use Rattle.dsec_word.specs.declared.error.ReadError.{ReadError}
use Rattle.dsec_word.specs.declared.error.ReadError.TheVariants as errors
use Rattle.dsec_wire.specs.Fields.{item_view}
use Rattle.dsec_wire.specs.declared.layout.Item.{Item}

abbrev Read : Type 0
Read = Option (List ℕ × List Word)

-- at first nothing was taken
pub items-nil : (front : List ℕ) (read : Option (List ℕ × List Word)) → front ≡ [] → added_items front read ≡ read
items-nil front None e = refl
items-nil front (Some x) e = ap (λ (f : List ℕ). Some (f ++ x.0, x.1)) e

added_twice : (front first : List ℕ) (read : Read) → added_items front (read >>= λ x. Some (first ++ x.0, x.1)) ≡ added_items (front ++ first) read
added_twice front first None = refl
added_twice front first (Some x) = ap (λ (f : List ℕ). Some (f, x.1)) (sym (append_assoc front first x.0))

one_more_by : (front new : List ℕ) (others : Read) (first : Option (List ℕ)) → added front first ≡ Some new
    → added_items front (first >>= λ x. others >>= λ xs. Some (x ++ xs.0, xs.1)) ≡ added_items new others
one_more_by front new others None e = absurd cc
one_more_by front new others (Some first) e = added_twice front first others ∙ ap (λ (o : Option (List ℕ)). o >>= λ x. added_items x others) e

items_from : (items : List Item) (i : ℕ) (d : Item) → i < length items → map item_view (drop i items) ≡ item_view (get_or items i d) ∷ map item_view (drop (i + 1) items)
items_from items i d below = ap (map item_view) (drop_from items i d below)

-- the octets of the items from a place on, of which the first has the word there
step_at : (origin : Labels) (items : List Item) (words : List code.Word) (i : ℕ) (a : Item) (b : code.Word) → i < length items → length items ≤ length words
    → items_in origin (map item_view (drop i items)) (map word_view (drop i words))
    ≡ (item_in origin (item_view (get_or items i a)) (word_view (get_or words i b)) >>= λ x. items_in origin (map item_view (drop (i + 1) items)) (map word_view (drop (i + 1) words)) >>= λ xs. Some (x ++ xs.0, xs.1))
step_at origin items words i a b below enough =
    λ k. items_in origin (items_from items i a below k) (words_from words i b (omega arith) k)

-- one item more
pub item_more : (origin : Labels) (items : List Item) (words : List code.Word) (i : ℕ) (a : Item) (b : code.Word) (front new : List ℕ) (all : Read)
    → i < length items → length items ≤ length words → added front (item_in origin (item_view (get_or items i a)) (word_view (get_or words i b))) ≡ Some new
    → added_items front (items_in origin (map item_view (drop i items)) (map word_view (drop i words))) ≡ all
    → added_items new (items_in origin (map item_view (drop (i + 1) items)) (map word_view (drop (i + 1) words))) ≡ all
item_more origin items words i a b front new all below enough e inv =
    sym (one_more_by front new (items_in origin (map item_view (drop (i + 1) items)) (map word_view (drop (i + 1) words))) (item_in origin (item_view (get_or items i a)) (word_view (get_or words i b))) e)
    ∙ ap (added_items front) (sym (step_at origin items words i a b below enough)) ∙ inv

none_by : (front : List ℕ) (others : Read) (first : Option (List ℕ)) → added front first ≡ None
    → added_items front (first >>= λ x. others >>= λ xs. Some (x ++ xs.0, xs.1)) ≡ None
none_by front others None e = refl
none_by front others (Some first) e = absurd cc

item_stops : (origin : Labels) (items : List Item) (words : List code.Word) (i : ℕ) (a : Item) (b : code.Word) (front : List ℕ) (all : Read)
    → i < length items → length items ≤ length words → added front (item_in origin (item_view (get_or items i a)) (word_view (get_or words i b))) ≡ None
    → added_items front (items_in origin (map item_view (drop i items)) (map word_view (drop i words))) ≡ all → all ≡ None
item_stops origin items words i a b front all below enough e inv =
    sym inv ∙ ap (added_items front) (step_at origin items words i a b below enough)
    ∙ none_by front (items_in origin (map item_view (drop (i + 1) items)) (map word_view (drop (i + 1) words))) (item_in origin (item_view (get_or items i a)) (word_view (get_or words i b))) e

-- an item that was not read
pub item_stops_reading : (error : ReadError) (origin : Labels) (items : List Item) (words : List code.Word) (i : ℕ) (a : Item) (b : code.Word) (front : List ℕ) (all : Read)
    → i < length items → length items ≤ length words → OnFalse (wants_memory error) (added front (item_in origin (item_view (get_or items i a)) (word_view (get_or words i b))) ≡ None)
    → added_items front (items_in origin (map item_view (drop i items)) (map word_view (drop i words))) ≡ all → OnFalse (wants_memory error) (all ≡ None)
item_stops_reading errors.NoMemory origin items words i a b front all below enough e inv = tt
item_stops_reading errors.Bad origin items words i a b front all below enough e inv = item_stops origin items words i a b front all below enough e inv

none_after : (first : Option (List ℕ)) → (first >>= λ x. (◌>>=◌ {A = List ℕ × List Word} {B = List ℕ × List Word} None (λ xs. Some (x ++ xs.0, xs.1)))) ≡ None
none_after None = refl
none_after (Some first) = refl

-- fewer words than items
pub too_few : (origin : Labels) (items : List Item) (words : List code.Word) → length words < length items → items_in origin (map item_view items) (map word_view words) ≡ None
too_few origin [] words fewer = absurd (omega arith)
too_few origin (item ∷ items) [] fewer = refl
too_few origin (item ∷ items) (word ∷ words) fewer =
    ap (λ (others : Read). item_in origin (item_view item) (word_view word) >>= λ x. others >>= λ xs. Some (x ++ xs.0, xs.1)) (too_few origin items words (omega arith))
    ∙ none_after (item_in origin (item_view item) (word_view word))

-- the end of the items
pub items_end : (origin : Labels) (items : List Item) (words : List code.Word) (i : ℕ) (front : List ℕ) (all : Read)
    → i ≡ length items → added_items front (items_in origin (map item_view (drop i items)) (map word_view (drop i words))) ≡ all → all ≡ Some (front, map word_view (drop (length items) words))
items_end origin items words i front all over inv =
    sym inv ∙ (λ k. added_items front (items_in origin (map item_view (drop (over k) items)) (map word_view (drop (over k) words))))
    ∙ ap (λ (is : List Item). added_items front (items_in origin (map item_view is) (map word_view (drop (length items) words)))) (drop_all (length items) items (omega arith))
    ∙ ap (λ (f : List ℕ). Some (f, map word_view (drop (length items) words))) (append-nil front)
