-- Reading: what octets or text give, or that they give nothing; and what a call may answer.
use Rattle.std.specs.Prelude.{◌≡◌, ℕ, zero, suc, ◌+◌, ◌*◌, List, [], ◌∷◌, drop, Bool, Option, Some, None, Result, Ok, Err}
use Rattle.std.specs.Bool.{OnFalse}

-- what was read goes on to the next reader; from nothing comes nothing
infixl 10 ◌>>=◌
abbrev pub ◌>>=◌ : {A B : Type 0} → Option A → (A → Option B) → Option B
(Some x) >>= f = f x
None >>= f = None

-- so many things, read one after the other from a place on, and the place after them
unfoldable pub many_of : {A : Type 0} → (ℕ → Option (A × ℕ)) → ℕ → ℕ → Option (List A × ℕ)
many_of read zero at = Some ([], at)
many_of read (suc n) at = do
  first ← read at
  others ← many_of read n first.1
  Some (first.0 ∷ others.0, others.1)

-- a number of two octets at the front, the high one first
abbrev pub u16_in : List ℕ → Option ℕ
u16_in (high ∷ low ∷ octets) = Some (high * 256 + low)
u16_in _ = None

-- a number of four octets at the front, the high one first
abbrev pub u32_in : List ℕ → Option ℕ
u32_in (a ∷ b ∷ c ∷ d ∷ octets) = Some (((a * 256 + b) * 256 + c) * 256 + d)
u32_in _ = None

-- the number of two octets at a place
abbrev pub u16_at : List ℕ → ℕ → Option ℕ
u16_at message at = u16_in (drop at message)

-- the number of four octets at a place
abbrev pub u32_at : List ℕ → ℕ → Option ℕ
u32_at message at = u32_in (drop at message)

-- A call answers as defined: the value, as seen by `view`, or the refusal. The errors that `free` marks, which stand for want of
-- memory, may come at any time; any other answer is the defined one.
abbrev pub Gives : {X Y E : Type 0} → (E → Bool) → (X → Y) → Result X E → Result Y E → Type 0
Gives free view (Ok x) defined = defined ≡ Ok (view x)
Gives free view (Err e) defined = OnFalse (free e) (defined ≡ Err e)

-- The same, where the definition says what is read or that nothing is, and not which refusal comes.
abbrev pub Reads : {X Y E : Type 0} → (E → Bool) → (X → Y) → Result X E → Option Y → Type 0
Reads free view (Ok x) read = read ≡ Some (view x)
Reads free view (Err e) read = OnFalse (free e) (read ≡ None)
