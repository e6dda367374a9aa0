-- The first of alike things, kept one by one; what is found among them; and the same of the answers in a table.
use Rattle.std.proofs.Common.{◌≡◌, ℕ, List, [], ◌∷◌, ◌++◌, Bool, true, false, cond, not, ◌&&◌, ◌||◌, refl, sym, ap, ◌∙◌, append_assoc, append-nil, true≢false, Some, None, if◌then◌else◌}
use Rattle.std.specs.List.{filter, find, fold, list_any}
use Rattle.std.specs.Cmp.{IsEquivalence, on_equiv, and_equiv, back_equiv, nat_eq_equiv}
use Rattle.std.specs.Cmp.Lexicographic.{lists_equiv, nat_list_eq_equiv}
use Rattle.dsec_spec.specs.Names.{Labels, place}
use Rattle.dsec_spec.specs.Groups.{firsts}
use Rattle.dsec_spec.specs.Outside.{Entry, Table, answers, asked_of, reply_of, same_question, with_entry}

-- a list with one more thing, unless one in it is alike
abbrev with_first : {A : Type 0} → (A → A → Bool) → List A → A → List A
with_first alike kept x = if list_any (alike x) kept then kept else kept ++ x ∷ []

module _ {A : Type 0} where
  filter_twice : (p q r : A → Bool) → ((y : A) → (q y && p y) ≡ r y) → (xs : List A) → filter p (filter q xs) ≡ filter r xs
  filter_twice p q r h [] = refl
  filter_twice p q r h (x ∷ xs) = by (q x) (h x) (filter_twice p q r h xs)
    where
      by : (b : Bool) → (b && p x) ≡ r x → filter p (filter q xs) ≡ filter r xs → filter p (cond b (x ∷ filter q xs) (filter q xs)) ≡ cond (r x) (x ∷ filter r xs) (filter r xs)
      by true e rest = λ i. cond (e i) (x ∷ rest i) (rest i)
      by false e rest = rest ∙ ap (λ d. cond d (x ∷ filter r xs) (filter r xs)) e

  any_same : (f g : A → Bool) → ((z : A) → f z ≡ g z) → (xs : List A) → list_any f xs ≡ list_any g xs
  any_same f g h [] = refl
  any_same f g h (x ∷ xs) = λ i. h x i || any_same f g h xs i

  any_more : (f : A → Bool) (xs : List A) (x : A) → list_any f (xs ++ x ∷ []) ≡ (f x || list_any f xs)
  any_more f [] x = refl
  any_more f (k ∷ ks) x = ap (λ b. f k || b) (any_more f ks x) ∙ by (f k) (f x)
    where
      by : (b c : Bool) → (b || (c || list_any f ks)) ≡ (c || (b || list_any f ks))
      by true true = refl
      by true false = refl
      by false c = refl

  find_kept : (p q : A → Bool) → ((y : A) → q y ≡ false → p y ≡ false) → (ys : List A) → find p (filter q ys) ≡ find p ys
  find_kept p q h [] = refl
  find_kept p q h (y ∷ ys) = by (q y) refl (find_kept p q h ys)
    where
      by : (b : Bool) → q y ≡ b → find p (filter q ys) ≡ find p ys → find p (cond b (y ∷ filter q ys) (filter q ys)) ≡ cond (p y) (Some y) (find p ys)
      by true e rest = ap (cond (p y) (Some y)) rest
      by false e rest = rest ∙ ap (λ b. cond b (Some y) (find p ys)) (sym (h y e))

  module _ (alike : A → A → Bool) (laws : IsEquivalence alike) where
    -- what is alike to nothing that is kept
    abbrev left : List A → A → Bool
    left kept y = not (list_any (alike y) kept)

    no_more : (kept : List A) (x y : A) → list_any (alike x) kept ≡ true → (not (alike x y) && left kept y) ≡ left kept y
    no_more kept x y h = by (alike x y) refl
      where
        by : (b : Bool) → alike x y ≡ b → (not b && left kept y) ≡ left kept y
        by true e = sym (ap not (any_same (alike y) (alike x) (λ z. sym (laws.congr x y z e)) kept ∙ h))
        by false e = refl

    one_more : (kept : List A) (x y : A) → (not (alike x y) && left kept y) ≡ left (kept ++ x ∷ []) y
    one_more kept x y = ap (λ b. not b && left kept y) (laws.symm x y) ∙ by (alike y x) ∙ sym (ap not (any_more (alike y) kept x))
      where
        by : (b : Bool) → (not b && left kept y) ≡ not (b || list_any (alike y) kept)
        by true = refl
        by false = refl

    all_kept : (kept xs : List A) → fold (with_first alike) kept xs ≡ kept ++ filter (left kept) (firsts alike xs)
    unfolding firsts
    all_kept kept [] = sym (append-nil kept)
    all_kept kept (x ∷ xs) = by (list_any (alike x) kept) refl (λ k. all_kept k xs)
      where
        others : List A
        others = filter (λ y. not (alike x y)) (firsts alike xs)

        by : (b : Bool) → list_any (alike x) kept ≡ b → ((k : List A) → fold (with_first alike) k xs ≡ k ++ filter (left k) (firsts alike xs)) → fold (with_first alike) (cond b kept (kept ++ x ∷ [])) xs ≡ kept ++ cond (not b) (x ∷ filter (left kept) others) (filter (left kept) others)
        by true e rest = rest kept ∙ ap (λ r. kept ++ r) (sym (filter_twice (left kept) (λ y. not (alike x y)) (left kept) (λ y. no_more kept x y e) (firsts alike xs)))
        by false e rest = rest (kept ++ x ∷ []) ∙ append_assoc kept (x ∷ []) _ ∙ ap (λ r. kept ++ x ∷ r) (sym (filter_twice (left kept) (λ y. not (alike x y)) (left (kept ++ x ∷ [])) (λ y. one_more kept x y) (firsts alike xs)))

    all_left : (xs : List A) → filter (left []) xs ≡ xs
    all_left [] = refl
    all_left (x ∷ xs) = ap (λ r. x ∷ r) (all_left xs)

    -- things kept one by one, but those alike to one that is kept, are the first of the alike ones
    pub fold-firsts : (xs : List A) → fold (with_first alike) [] xs ≡ firsts alike xs
    fold-firsts xs = all_kept [] xs ∙ all_left (firsts alike xs)

    -- a test that tells no alike things apart finds among the first ones what it finds among all
    pub find-firsts : (p : A → Bool) → ((x y : A) → alike x y ≡ true → p x ≡ p y) → (xs : List A) → find p (firsts alike xs) ≡ find p xs
    unfolding firsts
    find-firsts p same [] = refl
    find-firsts p same (x ∷ xs) = by (p x) refl (find-firsts p same xs)
      where
        apart : p x ≡ false → (y : A) (b : Bool) → alike x y ≡ b → not b ≡ false → p y ≡ false
        apart e y true s h = sym (same x y s) ∙ e
        apart e y false s h = absurd (true≢false h)

        by : (b : Bool) → p x ≡ b → find p (firsts alike xs) ≡ find p xs → cond b (Some x) (find p (filter (λ y. not (alike x y)) (firsts alike xs))) ≡ cond b (Some x) (find p xs)
        by true e rest = refl
        by false e rest = find_kept p (λ y. not (alike x y)) (λ y. apart e y (alike x y) refl) (firsts alike xs) ∙ rest

-- to be for one question is an equivalence
pub same_question_equiv : IsEquivalence same_question
same_question_equiv = back_equiv (and_equiv (on_equiv (λ (entry : Entry). place entry.name) (lists_equiv nat_list_eq_equiv)) (on_equiv (λ (entry : Entry). entry.rtype) nat_eq_equiv))

-- answers added one by one leave the first of each question
pub table-firsts : (entries : Table) → fold with_entry [] entries ≡ firsts same_question entries
table-firsts entries = fold-firsts same_question same_question_equiv entries

tells_none_apart : (name : Labels) (rtype : ℕ) (x y : Entry) → same_question x y ≡ true → answers name rtype x ≡ answers name rtype y
tells_none_apart name rtype x y h =
    let asked : Entry = record { name = name; rtype = rtype; reply = None } in
    same_question_equiv.symm asked x ∙ same_question_equiv.congr x y asked h ∙ same_question_equiv.symm y asked

-- and the first of each question answer as all do
pub asked_of-firsts : (entries : Table) (name : Labels) (rtype : ℕ) → asked_of (firsts same_question entries) name rtype ≡ asked_of entries name rtype
asked_of-firsts entries name rtype = ap reply_of (find-firsts same_question same_question_equiv (answers name rtype) (tells_none_apart name rtype) entries)
