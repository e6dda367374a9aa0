-- Hashes that stay true in a cache.
use Rattle.std.proofs.Common.{◌≡◌, ℕ, ◌==◌, Bool, true, List, Option, Some, None, inl, inr, sym, subst, ◌∙◌}
use Rattle.std.specs.Prelude.{IfSome}
use Rattle.std.specs.Map.{lookup}
use Rattle.std.specs.Str.{bytes_eq}
use Rattle.std.proofs.lemmas.Bool.{and_parts, eqb-true}
use Rattle.std.proofs.lemmas.Slice.Eq.{bytes_eq-Decides}
use Rattle.lru.specs.LruCache.{LruCache, promoted, put_entries}
use Rattle.lru.proofs.CallerLemmas.{Contains-lookup, Contains-promoted, Contains-put_entries, IsPut}
use Rattle.dsec_spec.specs.Digests.{iterated_hash}
use Rattle.dsec_validated.specs.Nsec3Caches.{AreTrueHashes, IsTrueHash, same_input}
use Rattle.dsec_validated.specs.declared.nsec3_cache.HashInput.{HashInput}

same_is : (a b : HashInput) → same_input a b ≡ true → a ≡ b
same_is a b h =
    let p = and_parts (bytes_eq a.octets b.octets) _ h in
    let q = and_parts (bytes_eq a.salt b.salt) (a.iterations == b.iterations) p.1 in
    let octets : a.octets ≡ b.octets = (bytes_eq-Decides a.octets b.octets).0 p.0 in
    let salts : a.salt ≡ b.salt = (bytes_eq-Decides a.salt b.salt).0 q.0 in
    let iterations : a.iterations ≡ b.iterations = eqb-true _ _ q.1 in
    λ i. record { octets = octets i; salt = salts i; iterations = iterations i }

-- a hash that is found is the true one
pub found_true : (entries : List (HashInput × List ℕ)) (input : HashInput) (found : Option (List ℕ)) → AreTrueHashes entries → found ≡ lookup (same_input input) entries
    → IfSome found (λ hash. IsTrueHash (input, hash))
found_true entries input None all e = tt
found_true entries input (Some hash) all e =
    let f = Contains-lookup (same_input input) entries hash (sym e) in
    subst (λ k. IsTrueHash (k, hash)) (sym (same_is input f.0 f.2)) (all (f.0, hash) f.1)

-- all stay so where one was used last
pub still_true : (entries : List (HashInput × List ℕ)) (test : HashInput → Bool) → AreTrueHashes entries → AreTrueHashes (promoted test entries)
still_true entries test all = λ e h. all e (Contains-promoted test entries e h)

-- and where one more is
pub more_true : (cache : LruCache HashInput (List ℕ)) (input : HashInput) (hash : List ℕ) → AreTrueHashes cache.entries → IsTrueHash (input, hash)
    → AreTrueHashes (put_entries same_input cache input hash)
more_true cache input hash all one = λ e h. elim (Contains-put_entries same_input cache input hash e h) [
  | inl was ↦ all e was
  | inr put ↦ stored e put
] where
  is_put : (e : HashInput × List ℕ) → e.1 ≡ hash → e.0 ≡ input → IsTrueHash e
  is_put e same key = subst (λ (k : HashInput). e.1 ≡ iterated_hash k.salt k.octets k.iterations) (sym key) (same ∙ one)

  stored : (e : HashInput × List ℕ) → IsPut same_input cache input hash e → IsTrueHash e
  stored e put = elim put.1 [
    | inl key ↦ is_put e put.0 key
    | inr was ↦ is_put e put.0 (sym (same_is input e.0 was.2))
  ]
