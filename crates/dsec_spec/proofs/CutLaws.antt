-- What cuts of a text say, octet by octet.
use Rattle.std.proofs.Common.{◌≡◌, ℕ, zero, suc, List, [], ◌∷◌, ◌++◌, ◌<◌, ◌≤◌, ◌+◌, length, take, drop, get_or, refl, sym, ap, ◌∙◌, append_assoc, append-nil, true, false, Bool, arith, cond}
use Rattle.std.specs.Prelude.{slice_index}
use Rattle.std.proofs.lemmas.List.{at_drop_more, at_drop_all, take_more, take_all}
use Rattle.dsec_spec.specs.Cuts.{cut_of}

abbrev pub Cut : Type 0
Cut = List ℕ × List ℕ

abbrev pub behind : List ℕ → Cut → Cut
behind front cut = (front ++ cut.0, cut.1)

pub cut_here : (test : ℕ → Bool) (b : ℕ) (bs : List ℕ) → test b ≡ true → cut_of test (b ∷ bs) ≡ ([], b ∷ bs)
unfolding cut_of
cut_here test b bs h = ap (λ t. cond {A = Cut} t ([], b ∷ bs) (b ∷ (cut_of test bs).0, (cut_of test bs).1)) h

pub cut_later : (test : ℕ → Bool) (b : ℕ) (bs : List ℕ) → test b ≡ false → cut_of test (b ∷ bs) ≡ behind (b ∷ []) (cut_of test bs)
unfolding cut_of
cut_later test b bs h = ap (λ t. cond {A = Cut} t ([], b ∷ bs) (b ∷ (cut_of test bs).0, (cut_of test bs).1)) h

pub cut_nil : (test : ℕ → Bool) → cut_of test [] ≡ ([], [])
unfolding cut_of
cut_nil test = refl

drop_more : (at : ℕ) (xs : List ℕ) → at < length xs → drop at xs ≡ get_or xs at 0 ∷ drop (at + 1) xs
drop_more at xs l = at_drop_more (λ rest. rest) xs at 0 l

-- the octet at this place passes
pub cut_found : (test : ℕ → Bool) (at : ℕ) (xs : List ℕ) → at < length xs → test (get_or xs at 0) ≡ true → behind (take at xs) (cut_of test (drop at xs)) ≡ cut_of test xs
    → (take at xs, drop at xs) ≡ cut_of test xs
cut_found test at xs l e inv =
    let h : cut_of test (drop at xs) ≡ ([], drop at xs) = at_drop_more (cut_of test) xs at 0 l ∙ cut_here test _ _ e ∙ ap (λ rest. ([], rest)) (sym (drop_more at xs l)) in
    ap (λ front. (front, drop at xs)) (sym (append-nil (take at xs))) ∙ ap (behind (take at xs)) (sym h) ∙ inv

-- it doesn't
pub cut_on : (test : ℕ → Bool) (at : ℕ) (xs : List ℕ) → at < length xs → test (get_or xs at 0) ≡ false → behind (take at xs) (cut_of test (drop at xs)) ≡ cut_of test xs
    → behind (take (at + 1) xs) (cut_of test (drop (at + 1) xs)) ≡ cut_of test xs
cut_on test at xs l e inv =
    let h : cut_of test (drop at xs) ≡ behind (get_or xs at 0 ∷ []) (cut_of test (drop (at + 1) xs)) = at_drop_more (cut_of test) xs at 0 l ∙ cut_later test _ _ e in
    ap (λ front. behind front (cut_of test (drop (at + 1) xs))) (take_more xs at 0 l) ∙ ap (λ front. (front, (cut_of test (drop (at + 1) xs)).1)) (append_assoc (take at xs) _ _) ∙ ap (behind (take at xs)) (sym h) ∙ inv

-- none does
pub cut_none : (test : ℕ → Bool) (at : ℕ) (xs : List ℕ) → length xs ≤ at → behind (take at xs) (cut_of test (drop at xs)) ≡ cut_of test xs
    → (xs, []) ≡ cut_of test xs
cut_none test at xs l inv =
    let h : cut_of test (drop at xs) ≡ ([], []) = at_drop_all (cut_of test) xs at l ∙ cut_nil test in
    ap (λ front. (front, [])) (sym (append-nil xs) ∙ ap (λ front. front ++ []) (sym (take_all at xs l))) ∙ ap (behind (take at xs)) (sym h) ∙ inv

fails : (t : Bool) → (t ≡ true → ⊥) → t ≡ false
fails true never = absurd (never refl)
fails false never = refl

-- the first place that passes
pub cut_first : (test : ℕ → Bool) (at : ℕ) (xs : List ℕ) → at < length xs → ((k : ℕ) → k < at → test (slice_index xs k) ≡ true → ⊥) → test (slice_index xs at) ≡ true → (take at xs, drop at xs) ≡ cut_of test xs
cut_first test at [] l before e = absurd (omega (arith, l))
cut_first test zero (x ∷ xs) l before e = sym (cut_here test x xs e)
cut_first test (suc at) (x ∷ xs) l before e =
    ap (behind (x ∷ [])) (cut_first test at xs (omega (arith, l)) (λ k h. before (suc k) (omega (arith, h))) e) ∙ sym (cut_later test x xs (fails (test x) (before 0 (omega arith))))

-- no place passes
pub cut_nowhere : (test : ℕ → Bool) (xs : List ℕ) → ((k : ℕ) → k < length xs → test (slice_index xs k) ≡ true → ⊥) → (xs, []) ≡ cut_of test xs
cut_nowhere test [] none = sym (cut_nil test)
cut_nowhere test (x ∷ xs) none =
    ap (behind (x ∷ [])) (cut_nowhere test xs (λ k h. none (suc k) (omega (arith, h)))) ∙ sym (cut_later test x xs (fails (test x) (none 0 (omega arith))))
