-- Names that exist in a zone, and those that don't.
use Rattle.std.proofs.Common.{◌≡◌, ℕ, [], ◌∷◌, sym, ap, subst, inl, inr, arith, length, length-append}
use Rattle.dsec_spec.specs.Names.{Place, IsAtOrBelow, IsStrictlyBelow}
use Rattle.dsec_spec.specs.Zones.{Zone, IsZone, Owns, IsDelegation, Exists, IsClosestEncloser, IsNextCloser}
use Rattle.dsec_spec.proofs.NamesBelow.{below_itself, below_trans, at_or_below, same_or_below, not_both_below, below_antisymm, ancestors_comparable}

-- what stands exists
pub standing_exists : (z : Zone) → IsZone z → (n : Place) (t : ℕ) → Owns z n t → Exists z n
standing_exists z iz n t o = record { within = iz.within n t o; owner = n; stands = (t, o); at_or_below = below_itself n }

-- whatever exists has names above it that exist, up to the apex
pub exists_up : (z : Zone) (n m : Place) → Exists z n → IsAtOrBelow n m → IsAtOrBelow m z.apex → Exists z m
exists_up z n m e h w = record { within = w; owner = e.owner; stands = e.stands; at_or_below = below_trans e.owner n m e.at_or_below h }

-- a zone has at most one closest encloser of a name
pub one_closest : (z : Zone) (n c e : Place) → IsClosestEncloser z n c → IsClosestEncloser z n e → c ≡ e
one_closest z n c e p q = below_antisymm c e (p.longest e q.above q.found) (q.longest c p.above p.found)

pub strictly_below : (n c m : Place) → IsNextCloser n c m → IsStrictlyBelow m c
strictly_below n c m nc = record { next = nc.label; under = []; is = nc.is }

-- a name has at most one next closer name
pub one_next : (n c k m : Place) → IsNextCloser n c k → IsNextCloser n c m → k ≡ m
one_next n c k m a b =
    elim (ancestors_comparable n k m a.towards b.towards) [
      | inl km ↦ elim (same_or_below k m km) [
        | inl e ↦ e
        | inr s ↦ absurd (let e1 = ap length a.is in let e2 = ap length b.is in let e3 = ap length s.is in omega (arith, length-append c (a.label ∷ []), length-append c (b.label ∷ []), length-append m (s.next ∷ s.under)))
      ]
      | inr s ↦ absurd (let e1 = ap length a.is in let e2 = ap length b.is in let e3 = ap length s.is in omega (arith, length-append c (a.label ∷ []), length-append c (b.label ∷ []), length-append k (s.next ∷ s.under)))
    ]

-- where the next closer name is missing, the name is
pub missing_by_closer : (z : Zone) (n c m : Place) → IsNextCloser n c m → IsAtOrBelow c z.apex → (Exists z m → ⊥) → Exists z n → ⊥
missing_by_closer z n c m nc w gone e =
    gone (exists_up z n m e nc.towards (below_trans m c z.apex (at_or_below m c (strictly_below n c m nc)) w))

-- a name that exists, whose next closer name doesn't, is the closest encloser
pub closest_by_closer : (z : Zone) (n c m : Place) → IsNextCloser n c m → Exists z c → (Exists z m → ⊥) → IsClosestEncloser z n c
closest_by_closer z n c m nc found gone =
    let mc = strictly_below n c m nc in
    let nc' : IsAtOrBelow n c = below_trans n m c nc.towards (at_or_below m c mc) in
    record {
      above = elim (same_or_below n c nc') [
        | inl same ↦ absurd (not_both_below m c mc (subst (λ (x : Place). IsAtOrBelow x m) same nc.towards))
        | inr s ↦ s
      ];
      found = found;
      longest = λ k nk e.
          elim (ancestors_comparable n c k nc' (at_or_below n k nk)) [
            | inl h ↦ h
            | inr kc ↦ elim (ancestors_comparable n k m (at_or_below n k nk) nc.towards) [
              | inl km ↦ absurd (gone (exists_up z k m e km (below_trans m c z.apex (at_or_below m c mc) found.within)))
              | inr mk ↦ absurd (between c k m kc mk nc)
            ]
          ];
    }
  where
    between : (c k m : Place) → IsStrictlyBelow k c → IsStrictlyBelow m k → IsNextCloser n c m → ⊥
    between c k m kc mk nc =
        let e1 = ap length kc.is in let e2 = ap length mk.is in let e3 = ap length nc.is in
        absurd (omega (arith, length-append c (kc.next ∷ kc.under), length-append k (mk.next ∷ mk.under), length-append c (nc.label ∷ [])))

-- where a name is missing, the one that is next to the closest encloser is
pub closer_missing : (z : Zone) (n : Place) → (Exists z n → ⊥) → (c m : Place) → IsClosestEncloser z n c → IsNextCloser n c m → Exists z m → ⊥
closer_missing z n gone c m ce nc x =
    elim (same_or_below n m nc.towards) [
      | inl same ↦ gone (subst (λ (y : Place). Exists z y) (sym same) x)
      | inr below ↦ not_both_below m c (strictly_below n c m nc) (ce.longest m below x)
    ]

-- no delegation stands at or above a name that exists and is none itself
pub no_cut_over : (z : Zone) (c d : Place) → IsZone z → Exists z c → (IsDelegation z c → ⊥) → IsDelegation z d → IsAtOrBelow c d → ⊥
no_cut_over z c d iz e plain del h =
    elim (same_or_below c d h) [
      | inl same ↦ plain (subst (λ (x : Place). IsDelegation z x) (sym same) del)
      | inr s ↦ iz.nothing_below_cuts d e.owner del (strictly_below_of e.owner c d e.at_or_below s) e.stands
    ]
  where
    strictly_below_of : (a b k : Place) → IsAtOrBelow a b → IsStrictlyBelow b k → IsStrictlyBelow a k
    strictly_below_of a b k ab bk =
        elim (same_or_below a k (below_trans a b k ab (at_or_below b k bk))) [
          | inr s ↦ s
          | inl same ↦ absurd (not_both_below b k bk (subst (λ (x : Place). IsAtOrBelow x b) same ab))
        ]
