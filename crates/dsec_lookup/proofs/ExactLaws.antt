-- Where no call has found no memory, caches that forget none have given what they held, and hold all that was put.
use Rattle.std.proofs.Common.{◌≡◌, ◌⊎◌, ℕ, zero, suc, ◌+◌, ◌≤◌, ◌<◌, List, [], ◌∷◌, length, Option, Some, None, refl, sym, ap, ◌∙◌, subst, inl, inr, arith}
use Rattle.std.proofs.Math.Nat.{le-min, min-le_right}
use Rattle.std.specs.Prelude.{if◌then◌else◌}
use Rattle.dsec_spec.specs.Names.{Place, same_place}
use Rattle.dsec_spec.specs.Outside.{last_count, risen, risen_by}
use Rattle.dsec_nodes.specs.Nodes.{Node}
use Rattle.dsec_node.specs.Caches.{Held, Lasting, with_node, with_nodes}
use Rattle.dsec_lookup.specs.Finding.{CacheCall, got, put, LeadsTo, LeadTo, IsPart, Stored, AreExact}

-- a count that rises is greater, until it stands at its last value
rises : (n : ℕ) → n < last_count → n < risen n
rises n h = le-min (omega arith) h

no_more : (n : ℕ) → risen n ≤ last_count
no_more n = min-le_right (n + 1) last_count

-- it doesn't fall
stays_up : (n m : ℕ) → n ≤ m → n ≤ last_count → n ≤ risen m
stays_up n m le most = le-min (omega (arith, le)) most

grows : (n k : ℕ) → n ≤ last_count → n ≤ risen_by n k
grows n zero most = omega arith
grows n (suc k) most = stays_up n (risen_by n k) (grows n k most) most

-- a count that is what it was hasn't risen
unrisen : (n k : ℕ) → n < last_count → risen_by n k ≡ n → k ≡ 0
unrisen n zero below e = refl
unrisen n (suc k) below e =
    let up : n < risen (risen_by n k) = le-min (let g = grows n k (omega (arith, below)) in omega (arith, g)) below in
    absurd (omega (arith, up, e))

-- a part that isn't shorter is all
part_shorter : (part whole : List Node) → IsPart part whole → length part ≤ length whole
part_shorter [] whole h = omega arith
part_shorter (m ∷ part) [] h = absurd h
part_shorter (m ∷ part) (n ∷ whole) (inl h) = let l = part_shorter part whole h.1 in omega (arith, l)
part_shorter (m ∷ part) (n ∷ whole) (inr h) = let l = part_shorter (m ∷ part) whole h in omega (arith, l)

part_whole : (part whole : List Node) → IsPart part whole → length whole ≤ length part → part ≡ whole
part_whole [] [] h le = refl
part_whole [] (n ∷ whole) h le = absurd (omega (arith, le))
part_whole (m ∷ part) [] h le = absurd h
part_whole (m ∷ part) (n ∷ whole) (inl h) le =
    let rest : part ≡ whole = part_whole part whole h.1 (omega (arith, le)) in
    ap (λ (x : Node). x ∷ part) h.0 ∙ ap (λ (xs : List Node). n ∷ xs) rest
part_whole (m ∷ part) (n ∷ whole) (inr h) le = let l = part_shorter (m ∷ part) whole h in absurd (omega (arith, l, le))

-- Where no call has found no memory, all that was put is held
pub stored_all : (old new : Lasting) (puts : List Node) → Stored old new puts → new.wants ≡ old.wants → old.wants < last_count
    → (p : Place) → new.held p ≡ with_nodes old.held puts p
stored_all old new puts s same below =
    let none : s.wants ≡ 0 = unrisen old.wants s.wants below (sym s.counted ∙ same) in
    let all : s.kept ≡ puts = part_whole s.kept puts s.part (omega (arith, s.others, none)) in
    subst (λ (ns : List Node). (p : Place) → new.held p ≡ with_nodes old.held ns p) all s.held

-- caches that don't tell don't do so again
nothing_told : (calls : List CacheCall) (new : Option Lasting) → LeadTo None calls new → new ≡ None
nothing_told [] new h = h
nothing_told ((got name found) ∷ calls) new (now, inl h, rest) = nothing_told calls new (subst (λ (o : Option Lasting). LeadTo o calls new) h.1 rest)
nothing_told ((got name found) ∷ calls) new (now, inr h, rest) = nothing_told calls new (subst (λ (o : Option Lasting). LeadTo o calls new) h.1 rest)
nothing_told ((put name n) ∷ calls) new (now, inl h, rest) = nothing_told calls new (subst (λ (o : Option Lasting). LeadTo o calls new) h rest)
nothing_told ((put name n) ∷ calls) new (now, inr h, rest) = nothing_told calls new (subst (λ (o : Option Lasting). LeadTo o calls new) h rest)

told_on : (calls : List CacheCall) (new : Lasting) → LeadTo None calls (Some new) → ⊥
told_on calls new h = let clash : Some new ≡ None = nothing_told calls (Some new) h in absurd cc

-- a call counts itself at most
counts_on : (old now : Lasting) (c : CacheCall) → LeadsTo (Some old) c (Some now) → (now.wants ≡ old.wants) ⊎ (now.wants ≡ risen old.wants)
counts_on old now (got name found) (inl h) = inl h.1.1
counts_on old now (got name found) (inr h) = inr h.1.1
counts_on old now (put name n) (inl h) = inl h.1
counts_on old now (put name n) (inr h) = inr h.1

-- the count of calls that find no memory doesn't fall
counts_up : (calls : List CacheCall) (old new : Lasting) → old.wants ≤ last_count → LeadTo (Some old) calls (Some new) → old.wants ≤ new.wants
counts_up [] old new most h = let e : Some new ≡ Some old = h in let same : new ≡ old = cc in subst (λ (x : Lasting). old.wants ≤ x.wants) (sym same) (omega arith)
counts_up (c ∷ calls) old new most (None, first, rest) = absurd (told_on calls new rest)
counts_up (c ∷ calls) old new most (Some now, first, rest) = elim (counts_on old now c first) [
  | inl same ↦ let up = counts_up calls now new (omega (arith, same, most)) rest in omega (arith, same, up)
  | inr more ↦
      let up = counts_up calls now new (let l = no_more old.wants in omega (arith, more, l)) rest in
      let over = stays_up old.wants old.wants (omega arith) most in
      omega (arith, more, up, over)
]

-- what is held where others are held alike
with_alike : (one other : Held) (name : Place) (n : Node) → ((p : Place) → one p ≡ other p) → (p : Place) → with_node one name n p ≡ with_node other name n p
with_alike one other name n e p = ap (λ (x : Option Node). if same_place p name then Some n else x) (e p)

exact_alike : (calls : List CacheCall) (one other left : Held) → ((p : Place) → one p ≡ other p) → AreExact one calls left → AreExact other calls left
exact_alike [] one other left e h = λ p. h p ∙ e p
exact_alike ((got name found) ∷ calls) one other left e h = (h.0 ∙ e name, exact_alike calls one other left e h.1)
exact_alike ((put name n) ∷ calls) one other left e h = exact_alike calls (with_node one name n) (with_node other name n) left (with_alike one other name n e) h

-- Where no call has found no memory, each get gave what was held then, and each put is held
pub lead_exactly : (calls : List CacheCall) (old new : Lasting) → LeadTo (Some old) calls (Some new) → new.wants ≡ old.wants → old.wants < last_count
    → AreExact old.held calls new.held
lead_exactly [] old new h same below = let e : Some new ≡ Some old = h in let is : new ≡ old = cc in λ p. ap (λ (x : Lasting). x.held p) is
lead_exactly (c ∷ calls) old new (None, first, rest) same below = absurd (told_on calls new rest)
lead_exactly (c ∷ calls) old new (Some now, first, rest) same below = by (λ e. lead_exactly calls now new rest (same ∙ sym e) (omega (arith, e, below))) c first
  where
    wanted : now.wants ≡ risen old.wants → ⊥
    wanted more =
        let up = counts_up calls now new (let l = no_more old.wants in omega (arith, more, l)) rest in
        let over = rises old.wants below in
        omega (arith, more, up, over, same)

    by : (now.wants ≡ old.wants → AreExact now.held calls new.held) → (x : CacheCall) → LeadsTo (Some old) x (Some now) → AreExact old.held (x ∷ calls) new.held
    by on (got name found) (inl h) = (h.0, exact_alike calls now.held old.held new.held h.1.0 (on h.1.1))
    by on (got name found) (inr h) = absurd (wanted h.1.1)
    by on (put name n) (inl h) = exact_alike calls now.held (with_node old.held name n) new.held h.0 (on h.1)
    by on (put name n) (inr h) = absurd (wanted h.1)
