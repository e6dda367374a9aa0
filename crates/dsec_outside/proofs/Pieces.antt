-- What goes out in pieces.
use Rattle.std.proofs.Common.{◌≡◌, ℕ, List, [], ◌++◌, length, take, drop, ◌+◌, ◌-◌, refl, sym, ap, ◌∙◌, subst, append_assoc, append-nil}
use Rattle.std.specs.Prelude.{Option}
use Rattle.std.proofs.KnownBytes.{Appends-nil, Appends-trans}
use Rattle.std.specs.Io.KnownBytes.{Appends}
use Rattle.std.proofs.Math.Seq.{take-add, take-append_seam}
use Rattle.std.proofs.lemmas.List.{take-append-drop, take_rest}
use Rattle.dsec_spec.specs.Outside.{SentFront}
use Rattle.dsec_outside.specs.Sending.{SentBut}

-- one more piece of what is left
pub more_sent : (a b c : Option (List ℕ)) (at n : ℕ) (text : List ℕ) → Appends a b (take at text) → Appends b c (take n (take (length text - at) (drop at text))) → Appends a c (take (at + n) text)
more_sent a b c at n text p q =
    let r : Appends b c (take n (drop at text)) = subst (λ l. Appends b c (take n l)) (take_rest text at) q in
    subst (Appends a c) (sym (take-add at n text)) (Appends-trans a b c _ _ p r)

-- what went out is a front of the whole
pub front_of : (a b : Option (List ℕ)) (whole front rest : List ℕ) → whole ≡ front ++ rest → Appends a b front → SentFront a b whole
front_of a b whole front rest e sent = (length front, subst (Appends a b) (sym (ap (take (length front)) e ∙ take-append_seam front rest)) sent)

-- ---- in blocks

-- nothing went out yet
pub none_sent : (a : Option (List ℕ)) (text : List ℕ) → SentBut a a text text
none_sent a text = record { sent = []; went = Appends-nil a; is = refl }

-- all of it did
pub block_sent : (a b : Option (List ℕ)) (text : List ℕ) → Appends a b text → SentBut a b text []
block_sent a b text sent = record { sent = text; went = sent; is = sym (append-nil text) }

-- more is gathered
pub more_gathered : (a b : Option (List ℕ)) (text rest more : List ℕ) → SentBut a b text rest → SentBut a b (text ++ more) (rest ++ more)
more_gathered a b text rest more h = record { sent = h.sent; went = h.went; is = ap (λ t. t ++ more) h.is ∙ append_assoc h.sent rest more }

-- more of what was gathered goes out
pub more_went : (a b c : Option (List ℕ)) (text rest left : List ℕ) → SentBut a b text rest → SentBut b c rest left → SentBut a c text left
more_went a b c text rest left h g = record {
  sent = h.sent ++ g.sent;
  went = Appends-trans a b c h.sent g.sent h.went g.went;
  is = h.is ∙ ap (λ t. h.sent ++ t) g.is ∙ sym (append_assoc h.sent g.sent left);
}

-- the rest went out too
pub rest_went : (a b c : Option (List ℕ)) (text rest : List ℕ) → SentBut a b text rest → Appends b c rest → Appends a c text
rest_went a b c text rest h sent = subst (Appends a c) (sym h.is) (Appends-trans a b c h.sent rest h.went sent)

-- what went out of a text's beginning is a front of the text
pub but_front : (a b : Option (List ℕ)) (text rest more whole : List ℕ) → whole ≡ text ++ more → SentBut a b text rest → SentFront a b whole
but_front a b text rest more whole e h =
    front_of a b whole h.sent (rest ++ more) (e ∙ ap (λ t. t ++ more) h.is ∙ append_assoc h.sent rest more) h.went

-- and so is that with a front of the rest
pub but_front_more : (a b c : Option (List ℕ)) (text rest more whole : List ℕ) → whole ≡ text ++ more → SentBut a b text rest → SentFront b c rest → SentFront a c whole
but_front_more a b c text rest more whole e h front =
    let is : rest ≡ take front.0 rest ++ drop front.0 rest = sym (take-append-drop front.0 rest) in
    front_of a c whole (h.sent ++ take front.0 rest) (drop front.0 rest ++ more)
    (e
    ∙ (ap (λ t. t ++ more) (h.is ∙ ap (λ t. h.sent ++ t) is ∙ sym (append_assoc h.sent (take front.0 rest) (drop front.0 rest)))
    ∙ append_assoc (h.sent ++ take front.0 rest) (drop front.0 rest) more))
    (Appends-trans a b c h.sent (take front.0 rest) h.went front.1)
