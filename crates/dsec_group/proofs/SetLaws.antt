-- Groups of which no two have one key.
use Rattle.std.proofs.Common.{◌≡◌, ℕ, zero, suc, ◌<◌, Bool, true, false, ◌||◌, List, [], ◌∷◌, map, length, take, Some, refl, sym, ap, ◌∙◌, arith, get_or}
use Rattle.std.specs.Prelude.{slice_get, unwrap_or}
use Rattle.std.specs.List.{AllByRecursion, IsDistinct}
use Rattle.std.specs.Option.{is_some}
use Rattle.std.proofs.lemmas.Bool.{true≢false, false≢true}
use Rattle.dsec_spec.specs.Groups.{Group}
use Rattle.dsec_group.specs.Keys.{GroupKey, AreDistinct, AreKeys, group_key, has_key, is_key, same_key}
use Rattle.dsec_group.proofs.KeyLaws.{key_decides}

pub either : (b c : Bool) → (b || c) ≡ false → (b ≡ false) × (c ≡ false)
either true c h = absurd (true≢false h)
either false c h = (refl, h)

-- the key of a group among those of groups
pub key_at : (keys : List GroupKey) (gs : List Group) (i : ℕ) (g : Group) (k : GroupKey) → AreKeys keys gs → slice_get gs i ≡ Some g → group_key g ≡ Some k → (i < length keys) × (get_or keys i k ≡ k)
key_at keys [] i g k h at e = absurd (false≢true (ap is_some at))
key_at [] (x ∷ gs) i g k h at e = absurd (let f : 0 ≡ suc (length (map group_key gs)) = ap length h in omega (arith, f))
key_at (j ∷ keys) (x ∷ gs) zero g k h at e =
    let f : Some j ∷ map (λ k. Some k) keys ≡ group_key x ∷ map group_key gs = h in
    let first : Some j ≡ group_key x = cc in
    let one : x ≡ g = ap (λ o. unwrap_or o x) at in
    let same : j ≡ k = ap (λ o. unwrap_or o j) (first ∙ ap group_key one ∙ e) in
    (omega arith, same)
key_at (j ∷ keys) (x ∷ gs) (suc i) g k h at e =
    let f : Some j ∷ map (λ k. Some k) keys ≡ group_key x ∷ map group_key gs = h in
    let others : map (λ k. Some k) keys ≡ map group_key gs = cc in
    let r = key_at keys gs i g k others at e in
    (omega (arith, r.0), r.1)

pub other_way : (a b : GroupKey) → same_key a b ≡ false → same_key b a ≡ false
other_way a b h = go (same_key b a) refl where
  go : (c : Bool) → same_key b a ≡ c → same_key b a ≡ false
  go true e = absurd (true≢false (sym ((key_decides a b).1 (sym ((key_decides b a).0 e))) ∙ h))
  go false e = e

pub apart_from : (j : GroupKey) (keys : List GroupKey) (i : ℕ) (k : GroupKey) → AllByRecursion (λ y. same_key j y ≡ false) keys → i < length keys → same_key j (get_or keys i k) ≡ false
apart_from j [] i k h within = absurd (omega (arith, within))
apart_from j (x ∷ keys) zero k h within = h.0
apart_from j (x ∷ keys) (suc i) k h within = apart_from j keys i k h.1 (omega (arith, within))

-- groups with distinct keys are distinct
pub distinct_groups : (keys : List GroupKey) (gs : List Group) → IsDistinct same_key keys → AreKeys keys gs → AreDistinct gs
unfolding IsDistinct
distinct_groups keys [] d h = λ i g at k e. absurd (false≢true (ap is_some at))
distinct_groups [] (x ∷ gs) d h = λ i g at k e. absurd (let f : 0 ≡ suc (length (map group_key gs)) = ap length h in omega (arith, f))
distinct_groups (j ∷ keys) (x ∷ gs) d h = go (λ rest. distinct_groups keys gs d.1 rest) where
  f : Some j ∷ map (λ k. Some k) keys ≡ group_key x ∷ map group_key gs
  f = h

  first : Some j ≡ group_key x
  first = cc

  others : map (λ k. Some k) keys ≡ map group_key gs
  others = cc

  go : (AreKeys keys gs → AreDistinct gs) → (i : ℕ) (g : Group) → slice_get (x ∷ gs) i ≡ Some g → (k : GroupKey) → group_key g ≡ Some k → has_key k (take i (x ∷ gs)) ≡ false
  go rest zero g at k e = refl
  go rest (suc i) g at k e =
      let r = key_at keys gs i g k others at e in
      let apart : same_key j k ≡ false = ap (same_key j) (sym r.1) ∙ apart_from j keys i k d.0 r.0 in
      let here : is_key k (group_key x) ≡ false = ap (is_key k) (sym first) ∙ other_way j k apart in
      let later : has_key k (take i gs) ≡ false = rest others i g at k e in
      rw (here, later) refl
