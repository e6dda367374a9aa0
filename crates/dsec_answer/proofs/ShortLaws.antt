-- Of a text not all went out.
use Rattle.std.proofs.Common.{◌≡◌, ◌≢◌, ◌⊎◌, ℕ, List, [], ◌∷◌, ◌++◌, Option, inl, inr, refl, sym, ◌∙◌, subst, append-nil}
use Rattle.dsec_outside.specs.Sending.{SentBut}
use Rattle.dsec_outside.proofs.Pieces.{more_gathered, more_went}
use Rattle.dsec_answer.specs.Sending.{HoldsBack, NotAll}

pub not_empty : (xs ys : List ℕ) → xs ≢ [] → xs ++ ys ≢ []
not_empty [] ys ne = absurd (ne refl)
not_empty (x ∷ xs) ys ne = none
  where
    none : x ∷ (xs ++ ys) ≡ [] → ⊥
    none e = cc

-- more was gathered, and nothing went out
pub pushed : (a : Option (List ℕ)) (old piece new : List ℕ) → new ≡ old ++ piece → HoldsBack a a old new
pushed a old piece new e = (λ ne. subst (λ (t : List ℕ). t ≢ []) (sym e) (not_empty old piece ne), inl refl)

-- one after the other
pub joined : (a b c : Option (List ℕ)) (old now new : List ℕ) → HoldsBack a b old now → HoldsBack b c now new → HoldsBack a c old new
joined a b c old now new p q = (λ ne. q.0 (p.0 ne), by p.1 q.1)
  where
    by : (b ≡ a) ⊎ (now ≢ []) → (c ≡ b) ⊎ (new ≢ []) → (c ≡ a) ⊎ (new ≢ [])
    by x (inr ne) = inr ne
    by (inl e) (inl f) = inl (f ∙ e)
    by (inr ne) (inl f) = inr (q.0 ne)

-- not all went out where something is gathered still
pub short_now : (a b : Option (List ℕ)) (whole gathered more : List ℕ) → (b ≡ a) ⊎ (gathered ≢ []) → SentBut a b whole (gathered ++ more) → NotAll a b whole
short_now a b whole gathered more (inl e) h = inl e
short_now a b whole gathered more (inr ne) h = inr (gathered ++ more, not_empty gathered more ne, h)

pub short_here : (a b : Option (List ℕ)) (whole gathered : List ℕ) → (b ≡ a) ⊎ (gathered ≢ []) → SentBut a b whole gathered → NotAll a b whole
short_here a b whole gathered x h = short_now a b whole gathered [] x (subst (SentBut a b whole) (sym (append-nil gathered)) h)

-- and where not all of the rest went out
pub short_next : (a b c : Option (List ℕ)) (whole gathered more : List ℕ) → (b ≡ a) ⊎ (gathered ≢ []) → SentBut a b whole (gathered ++ more)
    → NotAll b c (gathered ++ more) → NotAll a c whole
short_next a b c whole gathered more x h (inr left) = inr (left.0, left.1, more_went a b c whole (gathered ++ more) left.0 h left.2)
short_next a b c whole gathered more (inl e) h (inl f) = inl (f ∙ e)
short_next a b c whole gathered more (inr ne) h (inl f) =
    inr (gathered ++ more, not_empty gathered more ne, subst (λ (o : Option (List ℕ)). SentBut a o whole (gathered ++ more)) (sym f) h)

-- what is not all of a text is not all of a longer one
pub short_wider : (a b : Option (List ℕ)) (text more whole : List ℕ) → whole ≡ text ++ more → NotAll a b text → NotAll a b whole
short_wider a b text more whole e (inl f) = inl f
short_wider a b text more whole e (inr left) =
    inr (left.0 ++ more, not_empty left.0 more left.1, subst (λ (t : List ℕ). SentBut a b t (left.0 ++ more)) (sym e) (more_gathered a b text left.0 more left.2))
