-- The closest encloser by a record, as a function, is the one of the relation (RFC 4592 3.3.1).
use Rattle.std.proofs.Common.{◌≡◌, ℕ, ◌<◌, ◌≤◌, true, false, List, [], ◌∷◌, ◌++◌, length, length-append, take, drop, refl, sym, ap, ◌∙◌, subst, inl, inr, ◌⊎◌, arith}
use Rattle.std.specs.Prelude.{nat_lt, cond}
use Rattle.std.specs.Str.{bytes_eq}
use Rattle.std.proofs.lemmas.Bool.{cases_lt, ltb-true, ltb-false}
use Rattle.std.proofs.lemmas.List.{length-take-le, take_at, take-append-drop}
use Rattle.std.proofs.lemmas.Slice.Eq.{bytes_eq-Decides}
use Rattle.dsec_spec.specs.Names.{Place, IsAtOrBelow}
use Rattle.dsec_spec.specs.DenyingRecords.{NsecAt, owner_of, next_of, Covers}
use Rattle.dsec_spec.proofs.NameOrder.{below_not_before}
use Rattle.dsec_spec.proofs.NamesBelow.{below_itself, below_root, below_trans, below_antisymm, at_or_below, same_or_below, ancestors_comparable}
use Rattle.dsec_absence.specs.Denials.{IsAround}
use Rattle.dsec_absence.specs.Tests.{common, longer, encloser_by}

push : (k : List ℕ) (n z : Place) → IsAtOrBelow n z → IsAtOrBelow (k ∷ n) (k ∷ z)
push k n z h = record { under = h.under; is = ap (λ (x : Place). k ∷ x) h.is }

-- both names are at or below what they have in common
common_left : (m n : Place) → IsAtOrBelow m (common m n)
unfolding common
common_left [] n = below_itself []
common_left (k ∷ m) [] = below_root (k ∷ m)
common_left (k ∷ m) (l ∷ n) = elim (bytes_eq k l) as (λ b. IsAtOrBelow (k ∷ m) (cond b (k ∷ common m n) [])) [
  | true ↦ push k m (common m n) (common_left m n)
  | false ↦ below_root (k ∷ m)
]

common_right : (m n : Place) → IsAtOrBelow n (common m n)
unfolding common
common_right [] n = below_root n
common_right (k ∷ m) [] = below_itself []
common_right (k ∷ m) (l ∷ n) = elim (bytes_eq k l) as (λ b. bytes_eq k l ≡ b → IsAtOrBelow (l ∷ n) (cond b (k ∷ common m n) [])) [
  | true ↦ λ e. subst (λ (x : List ℕ). IsAtOrBelow (l ∷ n) (x ∷ common m n)) (sym ((bytes_eq-Decides k l).0 e)) (push l n (common m n) (common_right m n))
  | false ↦ λ e. below_root (l ∷ n)
] refl

-- and it is at or below each name that both are at or below
common_longest : (m n a : Place) → IsAtOrBelow m a → IsAtOrBelow n a → IsAtOrBelow (common m n) a
unfolding common
common_longest m n [] h g = below_root (common m n)
common_longest [] n (j ∷ a) h g = let e = h.is in absurd cc
common_longest (k ∷ m) [] (j ∷ a) h g = let e = g.is in absurd cc
common_longest (k ∷ m) (l ∷ n) (j ∷ a) h g =
    let e = h.is in
    let f = g.is in
    let kj : k ≡ j = cc in
    let lj : l ≡ j = cc in
    let ma : m ≡ a ++ h.under = cc in
    let na : n ≡ a ++ g.under = cc in
    let deeper : IsAtOrBelow (common m n) a = common_longest m n a (record { under = h.under; is = ma }) (record { under = g.under; is = na }) in
    rw ((bytes_eq-Decides k l).1 (kj ∙ sym lj)) (subst (λ (x : List ℕ). IsAtOrBelow (k ∷ common m n) (x ∷ a)) kj (push k (common m n) a deeper))

-- of two names above a name the longer is at or below both
no_shorter : (n a b : Place) → IsAtOrBelow n a → IsAtOrBelow n b → length a ≤ length b → IsAtOrBelow b a
no_shorter n a b h g le =
    elim (ancestors_comparable n a b h g) [
      | inl ab ↦ elim (same_or_below a b ab) [
        | inl same ↦ subst (λ (x : Place). IsAtOrBelow x a) same (below_itself a)
        | inr s ↦ absurd (let e = ap length s.is in omega (arith, le, e, length-append b (s.next ∷ s.under)))
      ]
      | inr ba ↦ at_or_below b a ba
    ]

module _ (n a b : Place) (h : IsAtOrBelow n a) (g : IsAtOrBelow n b) where
  longer_first : IsAtOrBelow (longer a b) a
  longer_first = elim (nat_lt (length a) (length b)) as (λ x. nat_lt (length a) (length b) ≡ x → IsAtOrBelow (cond x b a) a) [
    | true ↦ λ e. no_shorter n a b h g (let lt = ltb-true (length a) (length b) e in omega (arith, lt))
    | false ↦ λ e. below_itself a
  ] refl

  longer_second : IsAtOrBelow (longer a b) b
  longer_second = elim (nat_lt (length a) (length b)) as (λ x. nat_lt (length a) (length b) ≡ x → IsAtOrBelow (cond x b a) b) [
    | true ↦ λ e. below_itself b
    | false ↦ λ e. no_shorter n b a g h (ltb-false (length a) (length b) e)
  ] refl

  longer_either : (longer a b ≡ a) ⊎ (longer a b ≡ b)
  longer_either = elim (nat_lt (length a) (length b)) as (λ x. (cond x b a ≡ a) ⊎ (cond x b a ≡ b)) [ true ↦ inr refl | false ↦ inl refl ]

-- the encloser by the record, of a name in its gap that isn't above its next name
pub encloser_by_is : (r : NsecAt) (n : Place) → Covers r n → (IsAtOrBelow (next_of r) n → ⊥) → IsAround r n (encloser_by r n)
encloser_by_is r n cov out = record {
  covers = cov;
  encloser = record {
    above = elim (same_or_below n c nc) [
      | inr s ↦ s
      | inl same ↦ absurd (elim seen [
        | inl o ↦ below_not_before (owner_of r) n (subst (λ (x : Place). IsAtOrBelow (owner_of r) x) (sym same) o) cov.after
        | inr x ↦ out (subst (λ (y : Place). IsAtOrBelow (next_of r) y) (sym same) x)
      ])
    ];
    seen = seen;
    longest = λ m nm h. elim h [
      | inl o ↦ below_trans c a m (longer_first n a b na nb) (common_longest n (owner_of r) m nm o)
      | inr x ↦ below_trans c b m (longer_second n a b na nb) (common_longest n (next_of r) m nm x)
    ];
  };
}
  where
    a : Place
    a = common n (owner_of r)

    b : Place
    b = common n (next_of r)

    c : Place
    c = encloser_by r n

    na : IsAtOrBelow n a
    na = common_left n (owner_of r)

    nb : IsAtOrBelow n b
    nb = common_left n (next_of r)

    nc : IsAtOrBelow n c
    nc = elim (longer_either n a b na nb) [
      | inl e ↦ subst (λ (x : Place). IsAtOrBelow n x) (sym e) na
      | inr e ↦ subst (λ (x : Place). IsAtOrBelow n x) (sym e) nb
    ]

    seen : IsAtOrBelow (owner_of r) c ⊎ IsAtOrBelow (next_of r) c
    seen = elim (longer_either n a b na nb) [
      | inl e ↦ inl (subst (λ (x : Place). IsAtOrBelow (owner_of r) x) (sym e) (common_right n (owner_of r)))
      | inr e ↦ inr (subst (λ (x : Place). IsAtOrBelow (next_of r) x) (sym e) (common_right n (next_of r)))
    ]

-- so many of the labels next to the root are a name above
pub take_above : (k : ℕ) (n : Place) → IsAtOrBelow n (take k n)
take_above k n = record { under = drop k n; is = sym (take-append-drop k n) }

above_is_take : (n c : Place) → IsAtOrBelow n c → c ≡ take (length c) n
above_is_take n c h = sym (ap (take (length c)) h.is ∙ take_at c h.under (length c) refl)

above_shorter : (n c : Place) → IsAtOrBelow n c → length c ≤ length n
above_shorter n c h = let e = ap length h.is in omega (arith, e, length-append c h.under)

-- the longest name above n that one of two names is, or is under, is the longer of what each has in common with n
pub longest_seen : (n o x : Place) (k : ℕ) → k ≤ length n → IsAtOrBelow o (take k n) ⊎ IsAtOrBelow x (take k n)
    → ((j : ℕ) → k < j → j ≤ length n → IsAtOrBelow o (take j n) ⊎ IsAtOrBelow x (take j n) → ⊥) → take k n ≡ longer (common n o) (common n x)
longest_seen n o x k le seen none =
    below_antisymm (take k n) c
    (no_shorter n c (take k n) nc (take_above k n) (elim (cases_lt k (length c)) [
      | inl less ↦ absurd (none (length c) less (above_shorter n c nc) (subst (λ (y : Place). IsAtOrBelow o y ⊎ IsAtOrBelow x y) (above_is_take n c nc) c_seen))
      | inr more ↦ let long : length (take k n) ≡ k = length_of_take in omega (arith, more, long)
    ]))
    (elim seen [
      | inl h ↦ below_trans c a (take k n) (longer_first n a b na nb) (common_longest n o (take k n) (take_above k n) h)
      | inr h ↦ below_trans c b (take k n) (longer_second n a b na nb) (common_longest n x (take k n) (take_above k n) h)
    ])
  where
    a : Place
    a = common n o

    b : Place
    b = common n x

    c : Place
    c = longer a b

    na : IsAtOrBelow n a
    na = common_left n o

    nb : IsAtOrBelow n b
    nb = common_left n x

    nc : IsAtOrBelow n c
    nc = elim (longer_either n a b na nb) [
      | inl e ↦ subst (λ (y : Place). IsAtOrBelow n y) (sym e) na
      | inr e ↦ subst (λ (y : Place). IsAtOrBelow n y) (sym e) nb
    ]

    c_seen : IsAtOrBelow o c ⊎ IsAtOrBelow x c
    c_seen = elim (longer_either n a b na nb) [
      | inl e ↦ inl (subst (λ (y : Place). IsAtOrBelow o y) (sym e) (common_right n o))
      | inr e ↦ inr (subst (λ (y : Place). IsAtOrBelow x y) (sym e) (common_right n x))
    ]

    length_of_take : length (take k n) ≡ k
    length_of_take = length-take-le k n le
