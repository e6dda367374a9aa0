-- No more hashes are made than may be: a look takes one from those that are left for each record that it is made for (RFC 5155 8.3, 10.3).
use Rattle.std.proofs.Common.{◌≡◌, ◌≤◌, ◌<◌, ℕ, suc, ◌+◌, ◌-◌, ◌==◌, Bool, true, false, cond, List, [], ◌∷◌, Option, Some, None, refl, sym, ◌∙◌, inl, inr, arith}
use Rattle.std.proofs.Math.Bool.{not}
use Rattle.std.proofs.lemmas.Bool.{eqb-true, true≢false, eq-eqb, cases_lt}
use Rattle.dsec_spec.specs.Names.{Place}
use Rattle.dsec_spec.specs.Numbers.{DNAME}
use Rattle.dsec_spec.specs.DenyingRecords.{has_hashed, opts_out}
use Rattle.dsec_nsec3.specs.Counting.{HashedSighting, ignored, stops, hashed}
use Rattle.dsec_nsec3.specs.Tests.{matches_hash, covers_hash, is_plain}
use Rattle.dsec_nsec3.specs.Walks.{Look, matched, covered, unseen, bars, halts, exhausts, look_covered, look_by, look_from}

-- how many of the groups count, and so need a hash each
unfoldable pub counting : List HashedSighting → ℕ
counting [] = 0
counting (ignored ∷ gs) = counting gs
counting (stops why ∷ gs) = counting gs
counting (hashed r ∷ gs) = suc (counting gs)

-- Of so many hashes that may be made: one at least is taken where a record decides; where none does, one for each that counts; and where none is
-- left, more than so many were needed, but for that of the signer
abbrev pub Takes : ℕ → List HashedSighting → Look → Type 0
Takes room gs (matched i left) = left < room
Takes room gs (covered i left opt_out) = left < room
Takes room gs (unseen left) = left + counting gs ≡ room
Takes room gs bars = 0 < room
Takes room gs (halts i why) = Unit {0}
Takes room gs exhausts = room ≤ counting gs

some_left : (room : ℕ) → (room == 0) ≡ false → 0 < room
some_left room e = elim (cases_lt 0 room) [
  | inl more ↦ more
  | inr none ↦ absurd (true≢false (sym (eq-eqb room 0 (omega (arith, none))) ∙ e))
]

pub look_takes : (top : Option Place) (n : Place) (i room : ℕ) (gs : List HashedSighting) → Takes room gs (look_from top n i room gs)
unfolding look_from counting
look_takes top n i room [] = omega arith
look_takes top n i room (ignored ∷ gs) = same (look_from top n (i + 1) room gs) (look_takes top n (i + 1) room gs)
  where
    same : (l : Look) → Takes room gs l → Takes room (ignored ∷ gs) l
    same (matched k left) h = h
    same (covered k left opt_out) h = h
    same (unseen left) h = h
    same bars h = h
    same (halts k why) h = h
    same exhausts h = h
look_takes top n i room (stops why ∷ gs) = tt
look_takes top n i room (hashed r ∷ gs) = by (look_takes top n (i + 1) (room - 1) gs) (room == 0) refl
  where
    covering : 0 < room → (t : Option Place) → Takes room (hashed r ∷ gs) (look_covered t i (room - 1) r)
    covering some None = omega (arith, some)
    covering some (Some s) = dname (has_hashed r DNAME) (room - 1 == 0) refl (matches_hash r s)
      where
        dname : (d z : Bool) → (room - 1 == 0) ≡ z → (m : Bool)
            → Takes room (hashed r ∷ gs) (cond (not d) (covered i (room - 1) (opts_out r)) (cond z exhausts (cond m bars (covered i (room - 1 - 1) (opts_out r)))))
        dname false z e m = omega (arith, some)
        dname true true e m = let none = eqb-true (room - 1) 0 e in omega (arith, none)
        dname true false e true = some
        dname true false e false = omega (arith, some)

    later : 0 < room → (l : Look) → Takes (room - 1) gs l → Takes room (hashed r ∷ gs) l
    later some (matched k left) h = omega (arith, h)
    later some (covered k left opt_out) h = omega (arith, h)
    later some (unseen left) h = omega (arith, h, some)
    later some bars h = some
    later some (halts k why) h = tt
    later some exhausts h = omega (arith, h, some)

    by_record : Takes (room - 1) gs (look_from top n (i + 1) (room - 1) gs) → 0 < room → (m v p : Bool) → Takes room (hashed r ∷ gs) (cond m (cond p (matched i (room - 1)) bars) (cond v (look_covered top i (room - 1) r) (look_from top n (i + 1) (room - 1) gs)))
    by_record rest some true v true = omega (arith, some)
    by_record rest some true v false = some
    by_record rest some false true p = covering some top
    by_record rest some false false p = later some (look_from top n (i + 1) (room - 1) gs) rest

    by : Takes (room - 1) gs (look_from top n (i + 1) (room - 1) gs) → (z : Bool) → (room == 0) ≡ z → Takes room (hashed r ∷ gs) (cond z exhausts (look_by top n i (room - 1) r (look_from top n (i + 1) (room - 1) gs)))
    by rest true e = let none = eqb-true room 0 e in omega (arith, none)
    by rest false e = by_record rest (some_left room e) (matches_hash r n) (covers_hash r n) (is_plain r)
