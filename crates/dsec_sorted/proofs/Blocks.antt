-- A type bitmap, read block by block.
use Rattle.std.proofs.Common.{◌≡◌, ℕ, zero, suc, ◌≤◌, Bool, true, false, ◌||◌, ◌==◌, nat_lt, List, [], ◌∷◌, length, take, drop, Option, Some, None, refl, sym, ap, ◌∙◌, arith, length-drop, inl, inr, ◌⊎◌}
use Rattle.std.specs.Prelude.{unwrap_or, if◌then◌else◌}
use Rattle.std.proofs.lemmas.Option.{same_Some}
use Rattle.std.proofs.lemmas.Bool.{false≢true, eqb-true}
use Rattle.dsec_spec.specs.Reading.{◌>>=◌}
use Rattle.dsec_spec.specs.RecordData.{Block, blocks_in}
use Rattle.dsec_spec.specs.TypeBitmaps.{block_has, blocks_have, has_type}
use Rattle.dsec_sorted.specs.Blocks.{first_block, found_in, found_or_left}

-- so many octets from the front, where there are so many
abbrev taken : ℕ → List ℕ → Bool → Option (List ℕ × List ℕ)
taken size x short = if short then None else Some (take size x, drop size x)

abbrev first_of : ℕ → List ℕ × List ℕ → Option (Block × List ℕ)
first_of w bits = Some (record { window = w; bits = bits.0 }, bits.1)

-- more room than octets changes nothing
room : (n m : ℕ) (x : List ℕ) → length x ≤ n → length x ≤ m → blocks_in n x ≡ blocks_in m x
unfolding blocks_in
room n m [] a b = refl
room zero m (w ∷ x) a b = absurd (omega arith)
room (suc n) zero (w ∷ x) a b = absurd (omega arith)
room (suc n) (suc m) (w ∷ []) a b = refl
room (suc n) (suc m) (w ∷ size ∷ x) a b =
    by ((size == 0) || nat_lt 32 size) (nat_lt (length x) size) (room n m (drop size x) (omega (arith, length-drop size x)) (omega (arith, length-drop size x)))
  where
    by : (bad short : Bool) → blocks_in n (drop size x) ≡ blocks_in m (drop size x)
        → (if bad then None else (taken size x short >>= λ bits. (blocks_in n bits.1 >>= λ others. Some (record { window = w; bits = bits.0 } ∷ others))))
        ≡ (if bad then None else (taken size x short >>= λ bits. (blocks_in m bits.1 >>= λ others. Some (record { window = w; bits = bits.0 } ∷ others))))
    by true short others = refl
    by false true others = refl
    by false false others = ap (λ (o : Option (List Block)). o >>= λ blocks. Some (record { window = w; bits = take size x } ∷ blocks)) others

-- the octets after the first block
pub block_read : (x : List ℕ) (block : Block) (next : List ℕ) → first_block x ≡ Some (block, next) → blocks_in (length x) x ≡ (blocks_in (length next) next >>= λ blocks. Some (block ∷ blocks))
unfolding blocks_in
block_read [] block next e = absurd cc
block_read (w ∷ []) block next e = absurd cc
block_read (w ∷ size ∷ x) block next e =
    by ((size == 0) || nat_lt 32 size) (nat_lt (length x) size) e
  where
    by : (bad short : Bool) → (if bad then None else (taken size x short >>= first_of w)) ≡ Some (block, next)
        → (if bad then None else (taken size x short >>= λ bits. (blocks_in (suc (length x)) bits.1 >>= λ others. Some (record { window = w; bits = bits.0 } ∷ others))))
        ≡ (blocks_in (length next) next >>= λ blocks. Some (block ∷ blocks))
    by true short f = absurd cc
    by false true f = absurd cc
    by false false f =
        let same = same_Some _ _ f in
        let b : record { window = w; bits = take size x } ≡ block = ap (λ (p : Block × List ℕ). p.0) same in
        let n : drop size x ≡ next = ap (λ (p : Block × List ℕ). p.1) same in
        rw (← b, ← n, room (suc (length x)) (length (drop size x)) (drop size x) (omega (arith, length-drop size x)) (omega arith)) refl

-- where no block stands at the front, there is none, or the octets are no bitmap
pub no_block : (x : List ℕ) → first_block x ≡ None → (x ≡ []) ⊎ (blocks_in (length x) x ≡ None)
unfolding blocks_in
no_block [] e = inl refl
no_block (w ∷ []) e = inr refl
no_block (w ∷ size ∷ x) e = inr (by ((size == 0) || nat_lt 32 size) (nat_lt (length x) size) e)
  where
    by : (bad short : Bool) → (if bad then None else (taken size x short >>= first_of w)) ≡ None
        → (if bad then None else (taken size x short >>= λ bits. (blocks_in (suc (length x)) bits.1 >>= λ others. Some (record { window = w; bits = bits.0 } ∷ others)))) ≡ None
    by true short f = refl
    by false true f = refl
    by false false f = absurd cc

-- ---- what was found

pub begins : (x : List ℕ) (t : ℕ) → has_type x t ≡ found_or_left false x t
begins x t = by (blocks_in (length x) x)
  where
    by : (o : Option (List Block)) → blocks_have (unwrap_or o []) t ≡ found_in false o t
    by (Some blocks) = refl
    by None = refl

pub goes_on : (found now : Bool) (x : List ℕ) (t : ℕ) (block : Block) (next : List ℕ) → first_block x ≡ Some (block, next) → now ≡ block_has t block → found_or_left found x t ≡ found_or_left (found || now) next t
goes_on found now x t block next e is = ap (λ (o : Option (List Block)). found_in found o t) (block_read x block next e) ∙ by (blocks_in (length next) next)
  where
    assoc : (a b c : Bool) → (a || (b || c)) ≡ ((a || b) || c)
    assoc true b c = refl
    assoc false b c = refl

    by : (o : Option (List Block)) → found_in found (o >>= λ blocks. Some (block ∷ blocks)) t ≡ found_in (found || now) o t
    by (Some blocks) = rw is (assoc found (block_has t block) (blocks_have blocks t))
    by None = refl

pub ends : (found : Bool) (x : List ℕ) (t : ℕ) → first_block x ≡ None → x ≡ [] → found_or_left found x t ≡ found
unfolding blocks_in
ends found x t e none = rw none (by found)
  where
    by : (b : Bool) → (b || false) ≡ b
    by true = refl
    by false = refl

pub breaks : (found : Bool) (x : List ℕ) (t : ℕ) → first_block x ≡ None → (x ≡ [] → ⊥) → found_or_left found x t ≡ false
breaks found x t e some = elim (no_block x e) [
  | inl none ↦ absurd (some none)
  | inr none ↦ rw none refl
]

-- ---- what is answered in the end

no_zero : (n : ℕ) → (suc n == 0) ≡ true → ⊥
no_zero n h = let e = eqb-true (suc n) 0 h in absurd (omega (arith, e))

pub at_end : (found empty : Bool) (x all : List ℕ) (t : ℕ) → has_type all t ≡ found_or_left found x t → first_block x ≡ None → empty ≡ (length x == 0) → empty ≡ true → found ≡ has_type all t
at_end found empty [] all t so none e is = sym (so ∙ ends found [] t none refl)
at_end found empty (w ∷ x) all t so none e is = absurd (no_zero (length x) (sym e ∙ is))

pub at_break : (found empty : Bool) (x all : List ℕ) (t : ℕ) → has_type all t ≡ found_or_left found x t → first_block x ≡ None → empty ≡ (length x == 0) → empty ≡ false → empty ≡ has_type all t
at_break found empty [] all t so none e is = absurd (false≢true (sym is ∙ e))
at_break found empty (w ∷ x) all t so none e is = is ∙ sym (so ∙ breaks found (w ∷ x) t none (λ n. absurd cc))
