-- Answers that stay true in a cache.
use Rattle.std.proofs.Common.{◌≡◌, ◌==◌, Bool, true, List, Option, Some, None, inl, inr, sym, subst, ◌∙◌}
use Rattle.std.specs.Prelude.{IfSome}
use Rattle.std.specs.Map.{lookup}
use Rattle.std.specs.Str.{bytes_eq}
use Rattle.std.proofs.lemmas.Bool.{and_parts, eqb-true}
use Rattle.std.proofs.lemmas.Slice.Eq.{bytes_eq-Decides}
use Rattle.lru.specs.LruCache.{LruCache, promoted, put_entries}
use Rattle.lru.proofs.CallerLemmas.{Contains-lookup, Contains-promoted, Contains-put_entries, IsPut}
use Rattle.dsec_spec.specs.Accepts.{Accepts}
use Rattle.dsec_validated.specs.SigCaches.{AreTrue, IsTrueCheck, same_check}
use Rattle.dsec_validated.specs.declared.sig_cache.Check.{Check}

same_is : (a b : Check) → same_check a b ≡ true → a ≡ b
same_is a b h =
    let p = and_parts (a.flags == b.flags) _ h in
    let q = and_parts (a.protocol == b.protocol) _ p.1 in
    let r = and_parts (a.algorithm == b.algorithm) _ q.1 in
    let s = and_parts (bytes_eq a.key b.key) _ r.1 in
    let t = and_parts (bytes_eq a.message b.message) (bytes_eq a.signature b.signature) s.1 in
    let flags : a.flags ≡ b.flags = eqb-true _ _ p.0 in
    let protocols : a.protocol ≡ b.protocol = eqb-true _ _ q.0 in
    let algorithms : a.algorithm ≡ b.algorithm = eqb-true _ _ r.0 in
    let keys : a.key ≡ b.key = (bytes_eq-Decides a.key b.key).0 s.0 in
    let messages : a.message ≡ b.message = (bytes_eq-Decides a.message b.message).0 t.0 in
    let signatures : a.signature ≡ b.signature = (bytes_eq-Decides a.signature b.signature).0 t.1 in
    λ i. record { flags = flags i; protocol = protocols i; algorithm = algorithms i; key = keys i; message = messages i; signature = signatures i }

-- an answer that is found is the verifier's
pub found_true : (accepts : Accepts) (entries : List (Check × Bool)) (check : Check) (found : Option Bool) → AreTrue accepts entries → found ≡ lookup (same_check check) entries
    → IfSome found (λ answer. IsTrueCheck accepts (check, answer))
found_true accepts entries check None all e = tt
found_true accepts entries check (Some answer) all e =
    let f = Contains-lookup (same_check check) entries answer (sym e) in
    subst (λ k. IsTrueCheck accepts (k, answer)) (sym (same_is check f.0 f.2)) (all (f.0, answer) f.1)

-- all stay so where one was used last
pub still_true : (accepts : Accepts) (entries : List (Check × Bool)) (test : Check → Bool) → AreTrue accepts entries → AreTrue accepts (promoted test entries)
still_true accepts entries test all = λ e h. all e (Contains-promoted test entries e h)

-- and where one more is
pub more_true : (accepts : Accepts) (cache : LruCache Check Bool) (check : Check) (answer : Bool) → AreTrue accepts cache.entries → IsTrueCheck accepts (check, answer)
    → AreTrue accepts (put_entries same_check cache check answer)
more_true accepts cache check answer all one = λ e h. elim (Contains-put_entries same_check cache check answer e h) [
  | inl was ↦ all e was
  | inr put ↦ stored e put
] where
  is_put : (e : Check × Bool) → e.1 ≡ answer → e.0 ≡ check → IsTrueCheck accepts e
  is_put e same key = subst (λ (k : Check). e.1 ≡ accepts k.flags k.protocol k.algorithm k.key k.message k.signature) (sym key) (same ∙ one)

  stored : (e : Check × Bool) → IsPut same_check cache check answer e → IsTrueCheck accepts e
  stored e put = elim put.1 [
    | inl key ↦ is_put e put.0 key
    | inr was ↦ is_put e put.0 (sym (same_is check e.0 was.2))
  ]
