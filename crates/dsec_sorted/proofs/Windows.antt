-- The bitmap of types, one window after the other.
use Rattle.std.proofs.Common.{◌≡◌, ◌≢◌, ℕ, suc, ◌+◌, ◌-◌, ◌*◌, ◌/◌, ◌%◌, ◌<◌, ◌≤◌, Bool, true, false, cond, ◌&&◌, ◌||◌, nat_eq, nat_lt, List, [], ◌∷◌, ◌++◌, length, take, get_or, refl, sym, ap, ◌∙◌, subst, inl, inr, arith, eq-eqb, length-take, append_assoc, length-append}
use Rattle.std.specs.Prelude.{All, AllPairs, Any, slice_index}
use Rattle.std.proofs.lemmas.List.Elements.{All-push}
use Rattle.std.proofs.lemmas.List.Quantifiers.{all_pairs_push}
use Rattle.std.specs.List.{list_any, flat_map}
use Rattle.std.proofs.lemmas.Bool.{cases_lt, lt-ltb, le-ltb, true≢false}
use Rattle.std.proofs.lemmas.List.{get_or-take, get_or_past, append-nil}
use Rattle.std.proofs.lemmas.List.Folds.{list_any-append, list_any_none}
use Rattle.std.proofs.lemmas.Grind.{flat_map-append}
use Rattle.std.proofs.lemmas.Nat.Bits.{bit_at-zero}
use Rattle.dsec_spec.specs.RecordData.{Block, IsBlock, block_octets}
use Rattle.dsec_spec.proofs.Members.{none_passes}
use Rattle.dsec_spec.specs.TypeBitmaps.{bit_of, block_has, blocks_have}
use Rattle.dsec_sorted.specs.Written.{AddsBitmap}
use Rattle.dsec_sorted.proofs.SetBit.{differ}

and_false : (a : Bool) → (a && false) ≡ false
and_false true = refl
and_false false = refl

or_false : (a : Bool) → (a || false) ≡ a
or_false true = refl
or_false false = refl

bit_of-take : (bits : List ℕ) (n k : ℕ) → n ≤ length bits → ((j : ℕ) → n * 8 ≤ j → bit_of bits j ≡ false) → bit_of (take n bits) k ≡ bit_of bits k
bit_of-take bits n k fits rest =
    elim (cases_lt (k / 8) n) [
      | inl h ↦ rw (get_or-take) refl
      | inr h ↦ rw (get_or_past (take n bits) (k / 8) 0 (omega (arith, length-take n bits)), bit_at-zero (7 - k % 8), rest k (omega arith)) refl
    ]

-- a type in a window that none of the types is in isn't one of them
not_listed : (types : List ℕ) (t from least : ℕ) → All (λ u. from ≤ u / 256 → least ≤ u / 256) types → from ≤ t / 256 → t / 256 < least → list_any (nat_eq t) types ≡ false
not_listed types t from least all low high =
    list_any_none (nat_eq t) types (λ k d lt. differ t (get_or types k d) (λ e. let m = all k d lt (subst (λ (u : ℕ). from ≤ u / 256) e low) in let h : get_or types k d / 256 < least = subst (λ (u : ℕ). u / 256 < least) e high in omega arith))

-- what was written of the windows below `from`
pub record Encoded (old new types : List ℕ) (from : ℕ) : Type 0 where
  pub blocks : List Block
  pub good : All IsBlock blocks
  pub rise : AllPairs (λ (b c : Block). b.window < c.window) blocks
  pub ends : All (λ (b : Block). slice_index b.bits (length b.bits - 1) ≢ 0) blocks
  pub low : All (λ (b : Block). b.window < from) blocks
  pub few : length blocks ≤ from
  pub is : new ≡ old ++ flat_map block_octets blocks
  pub below : (t : ℕ) → t < 65536 → blocks_have blocks t ≡ cond (nat_lt (t / 256) from) (list_any (nat_eq t) types) false

pub nothing_encoded : (old types : List ℕ) → Encoded old old types 0
nothing_encoded old types = record {
  blocks = [];
  good = λ k d lt. absurd (omega arith);
  rise = λ i j d lt lj. absurd (omega arith);
  ends = λ k d lt. absurd (omega arith);
  low = λ k d lt. absurd (omega arith);
  few = omega arith;
  is = sym (append-nil old);
  below = λ t small. rw (le-ltb (t / 256) 0 (omega arith)) refl;
}

abbrev block_of : (w : ℕ) (bits : List ℕ) → Block
block_of w bits = record { window = w; bits = bits }

module _ (old new types bits : List ℕ) (from w n : ℕ) (found : (k : ℕ) → k < 256 → bit_of bits k ≡ list_any (nat_eq (w * 256 + k)) types) (fits : n ≤ length bits) (whole : length bits ≡ 32) (rest : (j : ℕ) → n * 8 ≤ j → bit_of bits j ≡ false) (last : 0 < n → slice_index bits (n - 1) ≢ 0) (least : All (λ t. from ≤ t / 256 → w ≤ t / 256) types) (from_w : from ≤ w) (some : Any (λ t. t / 256 ≡ w) types) (i : Encoded old new types from) where
  with_window : (t : ℕ) → t < 65536 → (blocks_have i.blocks t || (nat_eq w (t / 256) && bit_of bits (t % 256))) ≡ cond (nat_lt (t / 256) (w + 1)) (list_any (nat_eq t) types) false
  with_window t small =
      elim (cases_lt (t / 256) from) [
        | inl low ↦ rw (i.below t small, lt-ltb (t / 256) from low, lt-ltb (t / 256) (w + 1) (omega arith), differ w (t / 256) (λ e. absurd (omega arith))) (or_false (list_any (nat_eq t) types))
        | inr high ↦ elim (cases_lt (t / 256) w) [
          | inl gap ↦ rw (i.below t small, le-ltb (t / 256) from high, lt-ltb (t / 256) (w + 1) (omega arith), differ w (t / 256) (λ e. absurd (omega arith))) (sym (not_listed types t from w least high gap))
          | inr up ↦ elim (cases_lt w (t / 256)) [
            | inl more ↦ rw (i.below t small, le-ltb (t / 256) from high, le-ltb (t / 256) (w + 1) (omega arith), differ w (t / 256) (λ e. absurd (omega arith))) refl
            | inr less ↦
                let here : w ≡ t / 256 = omega arith in
                let all : w * 256 + t % 256 ≡ t = omega arith in
                rw (i.below t small, le-ltb (t / 256) from high, lt-ltb (t / 256) (w + 1) (omega arith), eq-eqb w (t / 256) here)
                (found (t % 256) (omega arith) ∙ ap (λ (x : ℕ). list_any (nat_eq x) types) all)
          ]
        ]
      ]

  -- the window has a type, so that a bit is set
  not_none : 0 < n
  not_none = elim (cases_lt 0 n) [
    | inl h ↦ h
    | inr h ↦
        let t = some.1 in
        let there : t / 256 ≡ w = some.4 in
        let whole_t : w * 256 + t % 256 ≡ t = omega arith in
        let clear : bit_of bits (t % 256) ≡ false = rest (t % 256) (omega arith) in
        let unlisted : list_any (nat_eq t) types ≡ false = subst (λ (x : ℕ). list_any (nat_eq x) types ≡ false) whole_t (sym (found (t % 256) (omega arith)) ∙ clear) in
        absurd (true≢false (sym (eq-eqb t t refl) ∙ none_passes (nat_eq t) types unlisted t (some.0, some.2, some.3)))
  ]

  -- and the last octet that is written has one
  end : slice_index (take n bits) (length (take n bits) - 1) ≢ 0
  end e =
      let len : length (take n bits) ≡ n = omega (arith, length-take n bits) in
      let some = not_none in
      last some (sym (get_or-take n bits (n - 1) 0 (omega arith)) ∙ (ap (λ (m : ℕ). get_or (take n bits) (m - 1) 0) (sym len) ∙ e))

  pub window_added : Encoded old (new ++ w ∷ n ∷ take n bits) types (w + 1)
  window_added =
      let len : length (take n bits) ≡ n = omega (arith, length-take n bits) in
      let b = block_of w (take n bits) in
      record {
        blocks = i.blocks ++ b ∷ [];
        good = All-push IsBlock i.blocks b i.good (record { not_empty = let s = not_none in omega arith; at_most = omega arith });
        rise = all_pairs_push (λ (c d : Block). c.window < d.window) i.blocks b i.rise (λ k d lt. let below = i.low k d lt in omega arith);
        ends = All-push (λ (c : Block). slice_index c.bits (length c.bits - 1) ≢ 0) i.blocks b i.ends end;
        low = All-push (λ (c : Block). c.window < w + 1) i.blocks b (λ k d lt. let below = i.low k d lt in omega arith) (omega arith);
        few = omega (arith, length-append i.blocks (b ∷ []), i.few);
        is =
            let octets : block_octets b ++ [] ≡ w ∷ n ∷ take n bits = append-nil (block_octets b) ∙ ap (λ (c : ℕ). w ∷ c ∷ take n bits) len in
            ap (λ (x : List ℕ). x ++ w ∷ n ∷ take n bits) i.is ∙ (append_assoc old (flat_map block_octets i.blocks) (w ∷ n ∷ take n bits)
            ∙ ap (λ (x : List ℕ). old ++ x) (sym (flat_map-append block_octets i.blocks (b ∷ []) ∙ ap (λ (x : List ℕ). flat_map block_octets i.blocks ++ x) octets)));
        below = λ t small.
            list_any-append (block_has t) i.blocks (b ∷ [])
            ∙ (ap (λ (x : Bool). blocks_have i.blocks t || x) (or_false (block_has t b) ∙ ap (λ (x : Bool). nat_eq w (t / 256) && x) (bit_of-take bits n (t % 256) fits rest))
            ∙ with_window t small);
      }

octets_at_most : (blocks : List Block) → All IsBlock blocks → length (flat_map block_octets blocks) ≤ 34 * length blocks
octets_at_most [] all = omega arith
octets_at_most (b ∷ blocks) all =
    let rest = octets_at_most blocks (λ k d lt. all (suc k) d (omega arith)) in
    let most = (all 0 b (omega arith)).at_most in
    omega (arith, length-append (block_octets b) (flat_map block_octets blocks), rest, most)

-- no type is left
pub all_encoded : (old new types : List ℕ) (from least : ℕ) → from ≤ 256 → 256 ≤ least → All (λ t. from ≤ t / 256 → least ≤ t / 256) types → Encoded old new types from → AddsBitmap old new types
all_encoded old new types from least in_range past all i = record {
  bitmap = flat_map block_octets i.blocks;
  is = i.is;
  short = omega (arith, octets_at_most i.blocks i.good, i.few);
  of = record {
    blocks = i.blocks;
    are = record { good = i.good; is = refl };
    rise = i.rise;
    ends = i.ends;
    has = λ t small. i.below t small ∙ elim (cases_lt (t / 256) from) [
      | inl low ↦ rw (lt-ltb (t / 256) from low) refl
      | inr high ↦ rw (le-ltb (t / 256) from high) (sym (not_listed types t from least all high (omega arith)))
    ];
  };
}
