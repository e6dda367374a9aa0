-- For callers: what was read up to the limit says what all of it says.
use Rattle.std.proofs.Common.{◌≡◌, ℕ, List, ◌++◌, ◌<◌, ◌≤◌, length, refl, Option, Some, None, Bool, true, false, sym, ap, ◌∙◌, subst, append-nil, arith}
use Rattle.std.specs.Prelude.{nat_lt, IfSome}
use Rattle.std.specs.Io.KnownBytes.{Consumes, IsAtEnd}
use Rattle.std.proofs.lemmas.Bool.{ltb-true, ltb-false}
use Rattle.std.proofs.lemmas.List.{take-append-le}
use Rattle.dsec_outside.specs.Limit.{limit, line_past}

-- the line of the first octet past the limit doesn't depend on those behind it
pub line_past-append : (content more : List ℕ) → limit < length content → line_past (content ++ more) ≡ line_past content
unfolding line_past
line_past-append content more l = rw (take-append-le limit content more (omega (arith, l))) refl

-- where nothing past the limit changes what octets say, what `read_all` took says what all that was left says
pub says-taken : {A : Type 0} (says : List ℕ → A) → ((content more : List ℕ) → limit < length content → says (content ++ more) ≡ says content)
    → (left rest : Option (List ℕ)) (content : List ℕ) → Consumes left rest content → (length content ≤ limit → IsAtEnd rest) → IfSome left (λ all. says all ≡ says content)
says-taken says same None rest content taken ended = tt
says-taken says same (Some all) None content taken ended = absurd taken
says-taken {A} says same (Some all) (Some more) content taken ended = by (nat_lt limit (length content)) refl
  where
    by : (t : Bool) → nat_lt limit (length content) ≡ t → says all ≡ says content
    by true t = ap says taken ∙ same content more (ltb-true limit (length content) t)
    by false t = ap says (taken ∙ ap (λ rest. content ++ rest) (ended (ltb-false limit (length content) t)) ∙ append-nil content)

-- the same of a fact: where nothing past the limit takes it away, it holds of all that was left
pub holds-taken : (Holds : List ℕ → Type 0) → ((content more : List ℕ) → limit < length content → Holds content → Holds (content ++ more))
    → (left rest : Option (List ℕ)) (content : List ℕ) → Consumes left rest content → (length content ≤ limit → IsAtEnd rest) → Holds content → IfSome left Holds
holds-taken Holds stays None rest content taken ended h = tt
holds-taken Holds stays (Some all) None content taken ended h = absurd taken
holds-taken Holds stays (Some all) (Some more) content taken ended h = by (nat_lt limit (length content)) refl
  where
    by : (t : Bool) → nat_lt limit (length content) ≡ t → Holds all
    by true t = subst Holds (sym taken) (stays content more (ltb-true limit (length content) t) h)
    by false t = subst Holds (sym (taken ∙ ap (λ rest. content ++ rest) (ended (ltb-false limit (length content) t)) ∙ append-nil content)) h
